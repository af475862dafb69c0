-- What a mapper that asks for memory leaves.
use Rattle.std.proofs.Common.{◌≡◌, Bool, Option, Some, Result, Ok, Err, refl, subst, inl, inr}
use Rattle.std.specs.declared.alloc.AllocError.{AllocError}
use Rattle.chumsky_input.specs.declared.stop.Fault.{Fault}
use Rattle.chumsky_input.specs.declared.stop.Fault.TheVariants as fault
use Rattle.chumsky_input.specs.declared.stop.Stop.TheVariants.{Memory}
use Rattle.chumsky_input.specs.Held.{Held}
use Rattle.chumsky_input.specs.Run.{Ran}
use Rattle.chumsky_parser.proofs.ChainedLemmas.{ran-weaker}
use Rattle.chumsky_parser.proofs.FailureLemmas.{ran-halts}
use Rattle.chumsky_combinator.proofs.MappedLemmas.{ran-given_by}
use Rattle.chumsky_combinator.specs.Mapped.{GivenBy}
use Rattle.chumsky_combinator.specs.MappedIn.{GivesOk, GivenIn}

module _ {Tok Cx St Er V W : Type 0} {merged : Er → Er → Er} {safe : Type 0} {answers : V → Result W AllocError → Type 0} {wanted : Bool} {old : Held Tok Cx St Er}
    {v : V} {r : Result W AllocError} (h : answers v r) where
  pub ran-given_in : {w : W} → r ≡ Ok w → Ran merged safe (GivenIn answers (Some v)) wanted old old (Ok (Some w))
  ran-given_in e = ran-weaker merged safe (GivenBy (GivesOk answers) (Some v)) (GivenIn answers (Some v)) wanted old old _ (λ o m. record { cases = inr m }) (ran-given_by (subst (answers v) e h))

  -- out of memory for the value
  pub ran-lacks_in : {e : AllocError} {y : Result (Option W) Fault} → r ≡ Err e → y ≡ Err (fault.Stop Memory) → Ran merged safe (GivenIn answers (Some v)) wanted old old y
  ran-lacks_in {e} d n =
      rw n
      (ran-halts merged safe (GivenIn answers (Some v)) wanted old old (record { tokens = refl; context = refl }) refl (λ o k s. record { cases = inl ((e, subst (answers v) d h), k, s) }))
