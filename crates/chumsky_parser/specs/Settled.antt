-- What is reported of a run.
use Rattle.std.specs.Prelude.{◌≡◌, ℕ, Option, Some, None, List, [], ◌∷◌, ◌++◌, ◌⊎◌, Result, Ok, Err}
use Rattle.chumsky_input.specs.Layout.{Layout}
use Rattle.chumsky_input.specs.declared.stop.Stop.{Stop}
use Rattle.chumsky_input.specs.declared.stop.Stop.TheVariants.{Memory}
use Rattle.chumsky_input.specs.declared.stop.Fault.{Fault}
use Rattle.chumsky_input.specs.declared.stop.Fault.TheVariants as fault
use Rattle.chumsky_input.specs.Held.{Held}
use Rattle.chumsky_input.specs.Wanted.{Wanted}
use Rattle.chumsky_input.specs.Outcome.{Outcome, Verdict, Yes, No, Halt, Clash, HasEventAt}
use Rattle.chumsky_input.specs.Primary.{primary}
use Rattle.chumsky_input.specs.Run.{final_error, with_last}

-- what is reported of a call: a failure adds its last error
module _ {Tok Sp Er V : Type 0} (expectation : List (Wanted Tok) → Option Tok → Sp → Er) (span : Layout Tok → ℕ → ℕ → Sp) where
  abbrev pub SettlesAs : {Cx St : Type 0} → Result V Fault → Held Tok Cx St Er → Held Tok Cx St Er → Result (Option V) Stop → Type 0
  SettlesAs (Ok v) old new result = (result ≡ Ok (Some v)) × (new ≡ old)
  SettlesAs (Err fault.Fail) old new result = ((result ≡ Ok None) × (new ≡ with_last expectation span old)) ⊎ ((result ≡ Err Memory) × (new.state ≡ old.state))
  SettlesAs (Err (fault.Stop s)) old new result = (result ≡ Err s) × (new ≡ old)

  -- the errors that an answer reports
  abbrev pub reported : {St : Type 0} → Verdict V Er → Layout Tok → Outcome V Er St → (Er → Er → Er) → List Er
  reported (Yes v) ts o merged = o.emitted
  reported No ts o merged = o.emitted ++ final_error expectation span (primary merged o.events) ts o.end ∷ []
  reported (Halt s) ts o merged = []
  reported (Clash e) ts o merged = []

module _ {V Er St : Type 0} (safe : Type 0) where
  abbrev pub RefusesBy : Verdict V Er → Outcome V Er St → Stop → Type 0
  RefusesBy (Yes v) o s = ⊥
  RefusesBy No o s = s ≡ Memory
  RefusesBy (Halt z) o s = s ≡ z
  RefusesBy (Clash e) o s = (s ≡ Memory) × (safe → ⊥) × HasEventAt e.place o.events
