-- What a copy of a part's value leaves.
use Rattle.std.proofs.Common.{Some, Ok, Err, true}
use Rattle.chumsky_input.specs.declared.stop.Fault.TheVariants as fault
use Rattle.chumsky_input.specs.declared.stop.Stop.TheVariants.{Memory}
use Rattle.chumsky_input.specs.Held.{Held}
use Rattle.chumsky_input.specs.Run.{Ran}
use Rattle.chumsky_parser.specs.Copied.{GivesCopy}
use Rattle.chumsky_parser.proofs.ChainedLemmas.{ran-weaker}
use Rattle.chumsky_parser.proofs.IgnoringLemmas.{ran-copied, ran-lacks_copy}
use Rattle.exact.specs.Owned.{OwnCopy}

module _ {Tok Cx St Er V W : Type 0} {merged : Er → Er → Er} {safe : Type 0} {copies : V → W → Type 0} {old : Held Tok Cx St Er} where
  pub ran-own : {v : V} {w : W} → copies v w → Ran merged safe (OwnCopy copies (Some v)) true old old (Ok (Some w))
  ran-own {v} {w} h = ran-weaker merged safe (GivesCopy (copies v) ⊥) (OwnCopy copies (Some v)) true old old (Ok (Some w)) (λ o m. record { by_value = m }) (ran-copied h)

  -- out of memory for the copy
  pub ran-lacks_own : {v : V} → Ran merged safe (OwnCopy copies (Some v)) true old old (Err (fault.Stop Memory))
  ran-lacks_own {v} = ran-weaker merged safe (GivesCopy (copies v) ⊥) (OwnCopy copies (Some v)) true old old (Err (fault.Stop Memory)) (λ o m. record { by_value = m }) (ran-lacks_copy (λ x. x))
