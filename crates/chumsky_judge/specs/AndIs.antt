-- Two parts that both have to be there, and a part that is only looked at.
use Rattle.std.specs.Prelude.{◌≡◌, ℕ, false, Option, Some, None, [], ◌⊎◌, option_to_list}
use Rattle.chumsky_input.specs.Outcome.{Event, Meaning, Beginning, Outcome, Yes}
use Rattle.chumsky_input.specs.Primary.{primary}
use Rattle.chumsky_input.specs.Run.{KeepsPast}
use Rattle.chumsky_parser.specs.Chained.{Chained, Asked}
use Rattle.chumsky_parser.specs.Choice.{OrElse}
use Rattle.chumsky_parser.specs.Failure.{SaysNo}
use Rattle.chumsky_judge.specs.Judged.{OrClash, OfYes, Judged, NoAsOne}

module _ {Tok Cx St Er V : Type 0} where
  -- yes, standing at this place
  abbrev pub GivenAt : Option V → ℕ → Meaning Tok Cx St Er V
  GivenAt v place b o = o ≡ record { verdict = Yes v; end = place; state = b.state; events = []; emitted = [] }

module _ {Tok Cx St Er V W : Type 0} where
  -- another part runs without its value from a place behind; where it says yes, the run stands where it stood before, and
  -- where it says no, where that part left it
  abbrev pub LooksFrom : ℕ → Meaning Tok Cx St Er W → Option V → Meaning Tok Cx St Er V
  LooksFrom place other v b o = Chained (Asked false other) (λ _. GivenAt v b.start) (record b { start = place }) o

module _ {Tok Cx St Mk Er V W : Type 0} (mark : St → Mk) (back : St → Mk → St) (safe : Type 0) where
  -- the part, whose no is gone back from; and then the other, from the same start
  pub record MeansAndIs (part : Meaning Tok Cx St Er V) (other : Meaning Tok Cx St Er W) (b : Beginning Tok Cx St) (o : Outcome V Er St) : Type 0 where
    pub run : Chained (OrElse mark back safe part SaysNo) (LooksFrom b.start other) b o

module _ {Tok Cx St Er V : Type 0} (merged : Er → Er → Er) where
  -- a yes at the start, with this event at most
  abbrev pub at_start : Beginning Tok Cx St → Option V → Outcome V Er St → Option (Event Er) → Outcome V Er St
  at_start b v p e = record { verdict = Yes v; end = b.start; state = p.state; events = option_to_list e; emitted = p.emitted }

  -- after a yes the run stands at the start again; the state and the emitted errors stay, and of the part's events, which
  -- count as one, none that lies past the start
  abbrev pub Rewinds : OfYes Tok Cx St Er V V
  Rewinds b v p o =
      (KeepsPast b.start (primary merged p.events) × OrClash (at_start b v p None) o)
      ⊎ ((KeepsPast b.start (primary merged p.events) → ⊥) × OrClash (at_start b v p (primary merged p.events)) o)

  pub record MeansRewind (part : Meaning Tok Cx St Er V) (b : Beginning Tok Cx St) (o : Outcome V Er St) : Type 0 where
    pub run : Judged part Rewinds (NoAsOne merged) b o
