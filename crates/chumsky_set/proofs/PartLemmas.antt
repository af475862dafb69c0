-- What the turns of a part leave.
use Rattle.std.proofs.Common.{◌≡◌, ℕ, ◌<◌, ◌≤◌, Bool, true, false, Option, Some, None, refl, Result, Ok, Err, inl, inr, is_some, arith}
use Rattle.chumsky_input.specs.declared.stop.Fault.{Fault}
use Rattle.chumsky_input.specs.declared.stop.Fault.TheVariants as fault
use Rattle.chumsky_input.specs.Outcome.{Meaning}
use Rattle.chumsky_input.specs.Held.{Held}
use Rattle.chumsky_input.specs.Run.{Ran}
use Rattle.chumsky_parser.specs.Chained.{Given, Chained}
use Rattle.chumsky_parser.proofs.ChainedLemmas.{ran-weaker, ran-given, chained, failed}
use Rattle.chumsky_parser.specs.Failure.{SaysNo}
use Rattle.chumsky_parser.proofs.FailureLemmas.{ran-no}
use Rattle.chumsky_set.specs.AnyOrder.{Slot, still, Past, Moving, Offered}
use Rattle.chumsky_set.specs.Passes.{shown_by, slot_of, taken_then, Lessens}

module _ {R V : Type 0} (shown : R → Option V) where
  pub shown_ok : {r : R} {x : Result R Fault} → x ≡ Ok r → shown_by shown x ≡ Ok (shown r)
  shown_ok e = rw e refl

  pub shown_err : {f : Fault} {x : Result R Fault} → x ≡ Err f → shown_by shown x ≡ Err f
  shown_err e = rw e refl

pub taken_ok : {T : Type 0} (t : T) {x : Result Bool Fault} {b : Bool} → x ≡ Ok b → taken_then t x ≡ Ok (Some t)
taken_ok t e = rw e refl

pub taken_err : {T : Type 0} (t : T) {x : Result Bool Fault} {f : Fault} → x ≡ Err f → taken_then t x ≡ Err f
taken_err t e = rw e refl

module _ {Tok Cx St Er V : Type 0} {merged : Er → Er → Er} {safe : Type 0} {wanted : Bool} {new : Held Tok Cx St Er} where
  ran_stayed : {place : ℕ} {v : Option V} → new.place ≤ place → Ran merged safe (Past place v) wanted new new (Err fault.Fail)
  ran_stayed {place} {v} l = ran-weaker merged safe SaysNo (Past place v) wanted new new (Err fault.Fail) (λ o k. inr (l, k)) ran-no

  ran_past : {place : ℕ} {v : Option V} → place < new.place → Ran merged safe (Past place v) wanted new new (Ok (Some (Some v)))
  ran_past {place} {v} l = ran-weaker merged safe (Given (Some (Some v))) (Past place v) wanted new new (Ok (Some (Some v))) (λ o k. inl (l, k)) ran-given

module _ {Tok Cx St Er V : Type 0} {merged : Er → Er → Er} {safe : Type 0} {part : Meaning Tok Cx St Er V} {wanted : Bool} {old new : Held Tok Cx St Er} where
  moving : {r : Result (Option (Slot V)) Fault} → Ran merged safe (Chained part (Past old.place)) wanted old new r → Ran merged safe (Moving part) wanted old new r
  moving {r} h = ran-weaker merged safe (Chained part (Past old.place)) (Moving part) wanted old new r (λ o k. record { run = k }) h

  -- a part that said yes and has moved, one that has not, and one that did not say yes
  pub moved : {x : Result (Option V) Fault} {v : Option V} → Ran merged safe part wanted old new x → x ≡ Ok v
      → old.place < new.place → Ran merged safe (Moving part) wanted old new (Ok (Some (Some v)))
  moved h e l = moving (chained h e (ran_past l))

  pub stayed : {x : Result (Option V) Fault} {v : Option V} → Ran merged safe part wanted old new x → x ≡ Ok v → new.place ≤ old.place → Ran merged safe (Moving part) wanted old new (Err fault.Fail)
  stayed h e l = moving (chained h e (ran_stayed l))

  pub unmoved : {x : Result (Option V) Fault} {y : Result (Option (Slot V)) Fault} {f : Fault}
      → Ran merged safe part wanted old new x → x ≡ Err f → y ≡ Err f → Ran merged safe (Moving part) wanted old new y
  unmoved h e d = moving (failed h e d)

module _ {R V : Type 0} (shown : R → Option V) where
  pub lessened : (s t : Option R) → is_some s ≡ false → Lessens (still (slot_of shown s)) (still (slot_of shown t)) (is_some t)
  lessened (Some v) t e = cc
  lessened None (Some v) e = omega arith
  lessened None None e = refl

module _ {Tok Cx St Mk Er R V : Type 0} {merged : Er → Er → Er} {safe : Type 0} (mark : St → Mk) (back : St → Mk → St)
    (quiet : Type 0) (part : Meaning Tok Cx St Er V) {wanted : Bool} {old : Held Tok Cx St Er} where
  -- a part that is taken has no turn
  pub taken_before : (shown : R → Option V) (s : Option R) → is_some s ≡ true → Ran merged safe (Offered mark back quiet part (slot_of shown s)) wanted old old (Ok (Some (slot_of shown s)))
  taken_before shown (Some r) e = ran-given
  taken_before shown None e = cc

module _ {Tok Cx St Mk Er R V : Type 0} {merged : Er → Er → Er} {safe : Type 0} {mark : St → Mk} {back : St → Mk → St}
    {quiet : Type 0} {part : Meaning Tok Cx St Er V} {wanted : Bool} {old new : Held Tok Cx St Er} where
  -- the turn of one that is not, and one that was refused
  pub turned : {r : Result (Option (Slot V)) Fault} (shown : R → Option V) (s : Option R) → is_some s ≡ false → Ran merged safe (Offered mark back quiet part None) wanted old new r
      → Ran merged safe (Offered mark back quiet part (slot_of shown s)) wanted old new r
  turned shown (Some v) e h = cc
  turned shown None e h = h

  pub turn_failed : {x y : Result (Option (Slot V)) Fault} {f : Fault} (shown : R → Option V) (s : Option R)
      → is_some s ≡ false → Ran merged safe (Offered mark back quiet part None) wanted old new x → x ≡ Err f
      → y ≡ Err f
      → Ran merged safe (Offered mark back quiet part (slot_of shown s)) wanted old new y
  turn_failed {x} {y} {f} shown s e h a b = rw b (turned shown s e (rw a at h))
