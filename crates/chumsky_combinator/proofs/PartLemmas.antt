-- What a run of a parser is as a run of a part.
use Rattle.std.proofs.Common.{◌≡◌, Bool, false, Option, Some, None, Result, Ok, is_some}
use Rattle.chumsky_input.specs.declared.stop.Fault.{Fault}
use Rattle.chumsky_input.specs.Held.{Held}
use Rattle.chumsky_input.specs.Run.{Ran}
use Rattle.chumsky_input.specs.Outcome.{Meaning, EndsAfterStart}
use Rattle.chumsky_combinator.specs.Part.{Onward}

module _ {Tok Cx St Er V : Type 0} (meaning : Meaning Tok Cx St Er V) where
  ran-onward : {merged : Er → Er → Er} {safe : Type 0} → EndsAfterStart meaning → {wanted : Bool} {old new : Held Tok Cx St Er} {result : Result (Option V) Fault}
      → Ran merged safe meaning wanted old new result → Ran merged safe (Onward meaning) wanted old new result
  ran-onward h r = record { outcome = r.outcome; meant = record { means = r.meant; ends = h _ _ r.meant }; answered = r.answered; state = r.state; left = r.left; same = r.same }

  -- the same, where what is wanted is known by another name
  pub ran-as_wanted : {wanted w : Bool} → wanted ≡ w → {merged : Er → Er → Er} {safe : Type 0} → EndsAfterStart meaning → {old new : Held Tok Cx St Er} {result : Result (Option V) Fault}
      → Ran merged safe meaning w old new result → Ran merged safe (Onward meaning) wanted old new result
  ran-as_wanted e h r = rw e (ran-onward h r)

  -- what is not wanted isn't there
  pub ran-none : {merged : Er → Er → Er} {safe : Type 0} {wanted : Bool} {old new : Held Tok Cx St Er} (value : Option V) → is_some value ≡ false
      → Ran merged safe meaning wanted old new (Ok value) → Ran merged safe meaning wanted old new (Ok None)
  ran-none None e r = r
  ran-none (Some v) e r = absurd (cc e)
