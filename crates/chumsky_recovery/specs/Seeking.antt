-- Skipping, until something is found.
-- Main words: Seeks, MeansSkipUntil, MeansSkipThenRetry. Read first: Turns.antt; Choice.antt of the parser.
use Rattle.std.specs.Prelude.{◌≡◌, Bool, true, false, nat_eq, Option, Some, None, [], ◌⊎◌}
use Rattle.chumsky_input.specs.declared.stop.Stop.TheVariants.{NoProgress}
use Rattle.chumsky_input.specs.Outcome.{Meaning, Beginning, Outcome, Verdict, Yes, No, Halt, Clash}
use Rattle.chumsky_parser.specs.Chained.{Chained, Given, Asked, retold}
use Rattle.chumsky_parser.specs.Choice.{OrElse}
use Rattle.chumsky_parser.specs.Failure.{Refuses, SaysNo, Stops, IsWanted}
use Rattle.chumsky_recovery.specs.Turns.{Turn, Again, Last, AllTurns}

module _ {Tok Cx St Er X : Type 0} where
  -- another turn, or the refusal of one that ended where it began
  abbrev pub GoesOnIf : Bool → Meaning Tok Cx St Er (Turn X)
  GoesOnIf true = Stops NoProgress
  GoesOnIf false = Given (Some Again)

  -- what is skipped, without its value, which must take something; and then another turn
  pub record SkipsOn {W : Type 0} (skip : Meaning Tok Cx St Er W) (b : Beginning Tok Cx St) (o : Outcome (Turn X) Er St) : Type 0 where
    pub run : Chained (Asked false skip) (λ _ c. GoesOnIf (nat_eq c.start b.start) c) b o

module _ {Tok Cx St Mk Er V W X : Type 0} (mark : St → Mk) (back : St → Mk → St) (safe : Type 0) where
  -- what is looked for, without its value, and the turn was the last; or where it says no, gone back, what is skipped
  pub record Seeks (until : Meaning Tok Cx St Er V) (skip : Meaning Tok Cx St Er W) (b : Beginning Tok Cx St) (o : Outcome (Turn X) Er St) : Type 0 where
    pub run : OrElse mark back safe (Chained (Asked false until) (λ _. Given (Some (Last None)))) (SkipsOn skip) b o

module _ {Tok Cx St Er V : Type 0} where
  -- yes, with some such value where one is wanted, and nothing done
  pub record FallsBack (gives : V → Type 0) (b : Beginning Tok Cx St) (o : Outcome V Er St) : Type 0 where
    pub value : Option V
    pub gave : IsWanted gives b.wanted value
    pub given : Given value b o

module _ {Tok Cx St Mk Er U W V : Type 0} (mark : St → Mk) (back : St → Mk → St) (safe : Type 0) where
  -- turns of skipping until what is looked for is found, and then some value of the fallback
  pub record MeansSkipUntil (until : Meaning Tok Cx St Er U) (skip : Meaning Tok Cx St Er W) (gives : V → Type 0) (b : Beginning Tok Cx St) (o : Outcome V Er St) : Type 0 where
    pub run : Chained (AllTurns {V = Unit {0}} (Seeks mark back safe until skip)) (λ _. FallsBack gives) b o

module _ {St Er V : Type 0} where
  -- after a yes the events are of no matter; any other verdict stands with them
  abbrev pub Forgets : Verdict V Er → Outcome V Er St → Outcome V Er St → Type 0
  Forgets (Yes v) p o = o ≡ record p { events = [] }
  Forgets No p o = o ≡ p
  Forgets (Halt s) p o = o ≡ p
  Forgets (Clash e) p o = o ≡ p

module _ {Tok Cx St Er V : Type 0} where
  -- a part whose events are forgotten where it succeeds
  pub record Unheard (part : Meaning Tok Cx St Er V) (b : Beginning Tok Cx St) (o : Outcome V Er St) : Type 0 where
    pub heard : Outcome V Er St
    pub meant : part b heard
    pub forgets : Forgets heard.verdict heard o

module _ {Tok Cx St Mk Er V : Type 0} (mark : St → Mk) (back : St → Mk → St) (safe : Type 0) where
  -- gone back from what was tried, of which nothing is left, for another turn; or memory is wanting to go back
  abbrev pub GoesOn : Outcome V Er St → Meaning Tok Cx St Er (Turn V)
  GoesOn p b o =
      Refuses (safe → ⊥) p.state o
      ⊎ (o ≡ record { verdict = Yes (Some Again); end = b.start; state = back p.state (mark b.state); events = []; emitted = [] })

  -- a yes beside which nothing was emitted is the last turn's; after another, and after a no, there is another turn
  abbrev pub IfQuiet : Verdict V Er → Outcome V Er St → Meaning Tok Cx St Er (Turn V)
  IfQuiet (Yes v) p b o = ((p.emitted ≡ []) × (o ≡ retold (Yes (Some (Last v))) p)) ⊎ ((p.emitted ≡ [] → ⊥) × GoesOn p b o)
  IfQuiet No p b o = GoesOn p b o
  IfQuiet (Halt s) p b o = o ≡ retold (Halt s) p
  IfQuiet (Clash e) p b o = o ≡ retold (Clash e) p

  -- the part is tried once more; or memory is wanting for a mark before it
  pub record Retries (part : Meaning Tok Cx St Er V) (b : Beginning Tok Cx St) (o : Outcome (Turn V) Er St) : Type 0 where
    pub cases : Refuses (safe → ⊥) b.state o ⊎ ((p : Outcome V Er St) × part b p × IfQuiet p.verdict p b o)

  -- where what is looked for was found, no; else the part is tried once more
  abbrev pub AfterSeek : Meaning Tok Cx St Er V → Option (Turn V) → Meaning Tok Cx St Er (Turn V)
  AfterSeek part (Some (Last _)) = SaysNo
  AfterSeek part (Some Again) = Retries part
  AfterSeek part None = λ b o. ⊥

  -- one turn: looking and skipping, of which the events are forgotten, and then the part once more
  pub record RetryTurn {U W : Type 0} (until : Meaning Tok Cx St Er U) (skip : Meaning Tok Cx St Er W)
      (part : Meaning Tok Cx St Er V) (b : Beginning Tok Cx St) (o : Outcome (Turn V) Er St) : Type 0 where
    pub run : Chained (Unheard (Seeks {X = V} mark back safe until skip)) (AfterSeek part) b o

  -- such turns, until the part succeeds
  abbrev pub MeansSkipThenRetry : {U W : Type 0} → Meaning Tok Cx St Er U → Meaning Tok Cx St Er W → Meaning Tok Cx St Er V → Meaning Tok Cx St Er V
  MeansSkipThenRetry until skip part = AllTurns (RetryTurn until skip part)
