-- A part that may be absent.
use Rattle.std.specs.Prelude.{◌≡◌, Option, Some, None, option_map, ⊤}
use Rattle.chumsky_input.specs.Outcome.{Meaning, Beginning, Outcome, No}
use Rattle.chumsky_parser.specs.Chained.{Chained, Given}
use Rattle.chumsky_parser.specs.Choice.{OrElse}
use Rattle.chumsky_parser.specs.Ignoring.{Gives}

module _ {Tok Cx St Mk Er V : Type 0} (mark : St → Mk) (back : St → Mk → St) (safe : Type 0) where
  -- some value of the part, and where it says no, gone back, none
  abbrev pub OrNone : Meaning Tok Cx St Er V → Meaning Tok Cx St Er (Option V)
  OrNone part = OrElse mark back safe (Chained part (λ v. Given (option_map Some v))) (Gives None)

-- both none, or some that are the same
abbrev pub SameOption : {V : Type 0} → (V → V → Type 0) → Option V → Option V → Type 0
SameOption same (Some v) (Some w) = same v w
SameOption same (Some v) None = ⊥
SameOption same None (Some w) = ⊥
SameOption same None None = ⊤

-- no outcome is a no
abbrev pub NeverSaysNo : {Tok Cx St Er V : Type 0} → Meaning Tok Cx St Er V → Type 0
NeverSaysNo {Tok} {Cx} {St} {Er} {V} m = (b : Beginning Tok Cx St) (o : Outcome V Er St) → m b o → o.verdict ≡ No → ⊥
