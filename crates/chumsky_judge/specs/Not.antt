-- A part that must not be there.
use Rattle.std.specs.Prelude.{◌≡◌, false, Option, [], ◌∷◌, ◌⊎◌}
use Rattle.chumsky_input.specs.declared.error.Error as error_trait
use Rattle.chumsky_input.specs.declared.inspector.Inspector as inspector_trait
use Rattle.chumsky_input.specs.declared.input.Input as input_trait
use Rattle.chumsky_input.specs.Outcome.{Meaning, Beginning, Outcome, Yes, No}
use Rattle.chumsky_parser.specs.Chained.{Asked}
use Rattle.chumsky_parser.specs.Choice.{ByMark}
use Rattle.chumsky_parser.specs.Failure.{Refuses, wanting}
use Rattle.chumsky_judge.specs.Judged.{OrLacks, OfYes, OfNo, Judged, something_else}

module _ {I Tok Sp Cu Er St Mk Cx V : Type 0} (source : input_trait.Ghosts I Cu Tok Sp) (errors : error_trait.Ghosts Er I Tok Sp) (states : inspector_trait.Ghosts St I Mk Tok Sp) where
  -- a yes of the part is gone back from, and is a failure at the start, spanning what the part took
  abbrev pub Denies : states.Marked → OfYes Tok Cx states.Seen errors.Seen V (Unit {0})
  Denies mark b v p o =
      Refuses (states.takes_no_memory → ⊥) p.state o
      ⊎ OrLacks errors.takes_no_memory
      (record { verdict = No; end = b.start; state = states.back p.state mark; events = something_else source errors b.tokens b.start p.end ∷ []; emitted = [] })
      o

  -- a no of the part is gone back from, and is a yes
  abbrev pub Allows : states.Marked → OfNo Tok Cx states.Seen errors.Seen V (Unit {0})
  Allows mark b p o = Refuses (states.takes_no_memory → ⊥) p.state o ⊎ (o ≡ record { verdict = Yes (wanting b.wanted tt); end = b.start; state = states.back p.state mark; events = []; emitted = [] })

  -- the part runs without its value; its events and its emitted errors are dropped
  pub record MeansNot (part : Meaning Tok Cx states.Seen errors.Seen V) (b : Beginning Tok Cx states.Seen) (o : Outcome (Unit {0}) errors.Seen states.Seen) : Type 0 where
    pub cases : ByMark states.mark states.takes_no_memory (λ m. Judged (Asked false part) (Denies m) (Allows m)) b o
