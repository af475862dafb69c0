-- What parts that run without their values leave.
use Rattle.std.proofs.Common.{Bool, true, false, Some, None, refl, Result, Ok, Err, inl, inr}
use Rattle.chumsky_input.specs.declared.stop.Fault.{Fault}
use Rattle.chumsky_input.specs.declared.stop.Fault.TheVariants as fault
use Rattle.chumsky_input.specs.declared.stop.Stop.TheVariants.{Memory}
use Rattle.chumsky_input.specs.Held.{Held}
use Rattle.chumsky_input.specs.Outcome.{Meaning}
use Rattle.chumsky_input.specs.Run.{Ran, with_value, without_value}
use Rattle.chumsky_parser.specs.Failure.{wanting}
use Rattle.chumsky_parser.specs.Ignoring.{Gives, IgnoringFirst}
use Rattle.chumsky_parser.specs.Copied.{GivesCopy}
use Rattle.chumsky_parser.proofs.ChainedLemmas.{failed, chained, ran-asked}
use Rattle.chumsky_parser.proofs.FailureLemmas.{ran-yes, ran-halts}

module _ {Tok Cx St Er V : Type 0} {merged : Er → Er → Er} {safe : Type 0} {wanted : Bool} {old : Held Tok Cx St Er} where
  pub ran-gives : {v : V} → Ran merged safe (Gives v) wanted old old (Ok (wanting wanted v))
  ran-gives {v} = ran-yes merged safe (Gives v) wanted old (wanting wanted v) old.place old.state (record { given = refl })

module _ {Tok Cx St Er V : Type 0} {merged : Er → Er → Er} {safe : Type 0} {copies : V → Type 0} {quiet : Type 0} {old : Held Tok Cx St Er} where
  pub ran-copied : {v : V} → copies v → Ran merged safe (GivesCopy copies quiet) true old old (Ok (Some v))
  ran-copied {v} i = ran-yes merged safe (GivesCopy copies quiet) true old (Some v) old.place old.state (record { cases = inr (record { value = Some v; is_value = i; given = refl }) })

  pub ran-uncopied : Ran merged safe (GivesCopy copies quiet) false old old (Ok None)
  ran-uncopied = ran-yes merged safe (GivesCopy copies quiet) false old None old.place old.state (record { cases = inr (record { value = None; is_value = tt; given = refl }) })

  -- out of memory for the copy
  pub ran-lacks_copy : (quiet → ⊥) → Ran merged safe (GivesCopy copies quiet) true old old (Err (fault.Stop Memory))
  ran-lacks_copy may = ran-halts merged safe (GivesCopy copies quiet) true old old (record { tokens = refl; context = refl }) refl (λ o v s. record { cases = inl ((refl, may), v, s) })

module _ {Tok Cx St Er V W : Type 0} {merged : Er → Er → Er} {safe : Type 0} {part : Meaning Tok Cx St Er V} {old new : Held Tok Cx St Er} where
  -- a part without its value, and then what does nothing more
  pub replaced_check : {given : Meaning Tok Cx St Er W} (x : Result (Unit {0}) Fault)
      → Ran merged safe part false old new (without_value x) → Ran merged safe given false new new (Ok None) → Ran merged safe (IgnoringFirst part given) false old new (without_value x)
  replaced_check (Ok u) r s = chained (ran-asked r) refl s
  replaced_check (Err f) r s = failed (ran-asked r) refl refl

module _ {Tok Cx St Er V : Type 0} {merged : Er → Er → Er} {safe : Type 0} {part : Meaning Tok Cx St Er V} {old new : Held Tok Cx St Er} where
  -- a part without its value, whose answer is handed on as the value
  pub ignored_emit : (x : Result (Unit {0}) Fault)
      → Ran merged safe part false old new (without_value x) → Ran merged safe (IgnoringFirst part (Gives tt)) true old new (with_value x)
  ignored_emit (Ok u) r = chained (ran-asked r) refl ran-gives
  ignored_emit (Err f) r = failed (ran-asked r) refl refl
