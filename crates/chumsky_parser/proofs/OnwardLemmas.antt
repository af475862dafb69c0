-- That no answer stands before it began.
use Rattle.std.proofs.Common.{◌≡◌, ◌≤◌, Bool, Option, Some, None, Result, Ok, Err, IfOk, refl, arith}
use Rattle.chumsky_input.specs.declared.stop.Fault.{Fault}
use Rattle.chumsky_input.specs.Held.{Held}
use Rattle.chumsky_input.specs.Outcome.{Meaning, Outcome, Verdict, Yes, No, Halt, Clash, EndsAfterStart}
use Rattle.chumsky_input.specs.Run.{Ran, LeavesBy, begin, answer}
use Rattle.chumsky_parser.specs.Items.{Next, with_item}

module _ {Tok Cx St Er V : Type 0} (merged : Er → Er → Er) (safe : Type 0) (meaning : Meaning Tok Cx St Er V) (h : EndsAfterStart meaning) (wanted : Bool) (old new : Held Tok Cx St Er) where
  yes-onward : (v : Verdict V Er) (o : Outcome V Er St) (x : Option V) → o.verdict ≡ v → meaning (begin wanted old) o → Ok x ≡ answer v → LeavesBy merged safe v o old new → old.place ≤ new.place
  yes-onward (Yes y) o x d m a l = let on : old.place ≤ o.end = h (begin wanted old) o m (rw d tt) in omega (arith, on, l.end)
  yes-onward No o x d m a l = let no : ⊥ = cc in absurd no
  yes-onward (Halt s) o x d m a l = let no : ⊥ = cc in absurd no
  yes-onward (Clash e) o x d m a l = let no : ⊥ = cc in absurd no

  -- a yes stands no earlier than it began
  pub ran-onward : (x : Option V) → Ran merged safe meaning wanted old new (Ok x) → old.place ≤ new.place
  ran-onward x r = yes-onward r.outcome.verdict r.outcome x refl r.meant r.answered r.left

module _ {Tok Cx St Er S V : Type 0} {merged : Er → Er → Er} {safe : Type 0} (step : Meaning Tok Cx St Er (Next S V)) (h : EndsAfterStart step) {old new : Held Tok Cx St Er} {wanted : Bool} where
  -- nor does a next item, or the end
  pub item-onward : (s : S) (r : Result (Option V) Fault) → Ran merged safe step wanted old new (with_item s r) → IfOk r (λ _. old.place ≤ new.place)
  item-onward s (Ok (Some v)) k = ran-onward merged safe step h wanted old new _ k
  item-onward s (Ok None) k = ran-onward merged safe step h wanted old new _ k
  item-onward s (Err f) k = tt

module _ {Tok Cx St Er V : Type 0} {merged : Er → Er → Er} {safe : Type 0} {meaning : Meaning Tok Cx St Er V} {wanted : Bool} {old new : Held Tok Cx St Er} where
  -- the same with what was found of a call
  pub onward : EndsAfterStart meaning → {v : Option V} {x : Result (Option V) Fault} → Ran merged safe meaning wanted old new x → x ≡ Ok v → old.place ≤ new.place
  onward h {v} k e = ran-onward merged safe meaning h wanted old new v (rw e at k)
