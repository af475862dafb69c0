-- What is folded for its value.
use Rattle.std.proofs.Common.{◌≡◌, ℕ, Bool, Some, Ok}
use Rattle.chumsky_input.specs.Extra.{shown_from}
use Rattle.chumsky_input.specs.Held.{Held}
use Rattle.chumsky_input.specs.Run.{Ran}
use Rattle.chumsky_parser.specs.Showing.{GivesShown, GivenShown}
use Rattle.chumsky_parser.proofs.ShowingLemmas.{ran-shown}
use Rattle.chumsky_pratt.specs.declared.operands.Operands.{Operands}
use Rattle.chumsky_pratt.specs.declared.operands.Operands.TheVariants.{After, Before, Around}
use Rattle.chumsky_pratt.specs.Expression.{all_there}
use Rattle.chumsky_pratt.specs.Showing.{operands_by}

module _ {Tok Cx St Er F V : Type 0} {merged : Er → Er → Er} {safe : Type 0}
    {gives : GivesShown Tok Cx St (F × Operands V) V} {wanted : Bool} {z : V} {mid new : Held Tok Cx St Er} (f : F)
    (from : ℕ) where
  pub folded_for_value : (x : Operands V) → new ≡ record mid { state = new.state }
      → gives (f, x) (shown_from from mid) z new.state
      → Ran merged safe (GivenShown gives from (all_there (Some f) (operands_by (λ v. Some v) x))) wanted mid new (Ok (Some z))
  folded_for_value (After a) m k = ran-shown from m k
  folded_for_value (Before a) m k = ran-shown from m k
  folded_for_value (Around a b) m k = ran-shown from m k
