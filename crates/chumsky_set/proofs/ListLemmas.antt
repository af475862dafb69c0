-- What a set of a list of parsers leaves.
use Rattle.std.proofs.Math.ListN.{get_or}
use Rattle.std.proofs.Common.{arith, ◌≡◌, ℕ, suc, ◌<◌, Bool, true, false, Option, Some, None, List, [], ◌∷◌, refl, ap, Result, Ok, Err, inl, inr, map, length, replicate}
use Rattle.chumsky_input.specs.declared.stop.Fault.{Fault}
use Rattle.chumsky_input.specs.declared.stop.Fault.TheVariants as fault
use Rattle.chumsky_input.specs.declared.stop.Stop.TheVariants.{Memory}
use Rattle.chumsky_input.specs.Outcome.{Meaning}
use Rattle.chumsky_input.specs.Held.{Held}
use Rattle.chumsky_input.specs.Run.{Ran, with_value, without_value}
use Rattle.chumsky_parser.specs.Chained.{Chained, Given, Asked}
use Rattle.chumsky_parser.proofs.ChainedLemmas.{ran-given, ran-weaker, ran-asked, chained, failed, last_check}
use Rattle.chumsky_parser.proofs.FailureLemmas.{ran-halts}
use Rattle.chumsky_set.specs.AnyOrder.{Slot, each_part, AnyOrder}
use Rattle.chumsky_set.specs.Lists.{FormedAs, ForItsValue, SetEach, only}
use Rattle.chumsky_set.specs.Passes.{shown_by, slot_of}

pub map_no_slots : {X R V : Type 0} (shown : R → Option V) (xs : List X) → map (slot_of shown) (replicate (length xs) None) ≡ map (λ _. None) xs
map_no_slots shown [] = refl
map_no_slots shown (x ∷ xs) = ap (λ zs. None ∷ zs) (map_no_slots shown xs)

module _ {X Tok Cx St Mk Er V W : Type 0} {merged : Er → Er → Er} {safe : Type 0} {mark : St → Mk}
    {back : St → Mk → St} {quiet : Type 0} {meaning : X → Meaning Tok Cx St Er V} {items : W → List V}
    {parts : List X} {wanted : Bool} {old : Held Tok Cx St Er} where
  -- out of memory for the slots
  pub ran_no_slots : {r : Result (Option W) Fault} → (length parts ≡ 0 → ⊥) → r ≡ Err (fault.Stop Memory) → Ran merged safe (SetEach mark back quiet meaning items parts) wanted old old r
  ran_no_slots {r} n e =
      rw e (ran-halts merged safe (SetEach mark back quiet meaning items parts) wanted old old (record { tokens = refl; context = refl }) refl (λ o v s. record { cases = inl (n, v, s) }))

module _ {X Tok Cx St Mk Er V W : Type 0} {merged : Er → Er → Er} {safe : Type 0} {mark : St → Mk}
    {back : St → Mk → St} {quiet : Type 0} {meaning : X → Meaning Tok Cx St Er V} {items : W → List V}
    {parts : List X} {wanted : Bool} {old new : Held Tok Cx St Er} where
  with_slots : {r : Result (Option W) Fault}
      → Ran merged safe
      (Chained (AnyOrder (each_part mark back quiet meaning parts) (map (λ _. None) parts)) (FormedAs items))
      wanted old new r
      → Ran merged safe (SetEach mark back quiet meaning items parts) wanted old new r
  with_slots {r} h =
      ran-weaker merged safe
      (Chained (AnyOrder (each_part mark back quiet meaning parts) (map (λ _. None) parts)) (FormedAs items))
      (SetEach mark back quiet meaning items parts) wanted old new r (λ o k. record { cases = inr k }) h

module _ {Tok Cx St Er V W : Type 0} {merged : Er → Er → Er} {safe : Type 0} {part : Meaning Tok Cx St Er (List V)} (items : W → List V) {old new : Held Tok Cx St Er} where
  -- values, and then something that has them
  pub ran_formed : (x : Result W Fault) → Ran merged safe part true old new (shown_by (λ w. Some (items w)) x) → Ran merged safe (Chained part (FormedAs items)) true old new (with_value x)
  ran_formed (Ok w) h = chained h refl (ran-weaker merged safe (Given (Some w)) (FormedAs items (Some (items w))) true new new (Ok (Some w)) (λ o k. (w, refl, k)) ran-given)
  ran_formed (Err f) h = failed h refl refl

module _ {X Tok Cx St Mk Er V W : Type 0} {merged : Er → Er → Er} {safe : Type 0} {mark : St → Mk}
    {back : St → Mk → St} {quiet : Type 0} {meaning : X → Meaning Tok Cx St Er V} (items : W → List V)
    {parts : List X} {slots : List (Slot V)} {old new : Held Tok Cx St Er} where
  -- the parts in any order, of slots with nothing yet, for their values and without
  pub ran_values : (x : Result W Fault) → slots ≡ map (λ _. None) parts → Ran merged safe (AnyOrder (each_part mark back quiet meaning parts) slots) true old new (shown_by (λ w. Some (items w)) x)
      → Ran merged safe (SetEach mark back quiet meaning items parts) true old new (with_value x)
  ran_values x e h = with_slots (ran_formed items x (rw e at h))

  pub ran_checks : (x : Result (Unit {0}) Fault) → slots ≡ map (λ _. None) parts → Ran merged safe (AnyOrder (each_part mark back quiet meaning parts) slots) false old new (shown_by (λ _. None) x)
      → Ran merged safe (SetEach mark back quiet meaning items parts) false old new (without_value x)
  ran_checks (Ok u) e h = with_slots (chained (rw e at h) refl ran-given)
  ran_checks (Err f) e h = with_slots (failed (rw e at h) refl refl)

module _ {X R V : Type 0} (shown : R → Option V) where
  -- slots with nothing yet
  pub fresh_slots : (xs : List X) (ss : List (Option R)) → length ss ≡ length xs → ((i : ℕ) (d : Option R) → i < length ss → get_or ss i d ≡ None) → map (slot_of shown) ss ≡ map (λ _. None) xs
  fresh_slots [] [] e h = refl
  fresh_slots [] (s ∷ ss) e h = absurd (omega (arith, e))
  fresh_slots (x ∷ xs) [] e h = absurd (omega (arith, e))
  fresh_slots (x ∷ xs) (s ∷ ss) e h =
      let none : s ≡ None = h 0 s (omega arith) in
      let rest = fresh_slots xs ss (omega (arith, e)) (λ i d l. h (suc i) d (omega (arith, l))) in
      rw none (ap (λ zs. None ∷ zs) rest)

module _ {Tok Cx St Er V W : Type 0} {merged : Er → Er → Er} {safe : Type 0} {part : Meaning Tok Cx St Er (List V)} {items : W → List V} {old new : Held Tok Cx St Er} where
  -- and the same without the values
  pub ran_unformed : (x : Result (Unit {0}) Fault) → Ran merged safe part false old new (without_value x) → Ran merged safe (Chained part (FormedAs items)) false old new (without_value x)
  ran_unformed x h = last_check x h (λ b o k. k)

module _ {Tok Cx St Er V : Type 0} {merged : Er → Er → Er} {safe : Type 0} {part : Meaning Tok Cx St Er V} {wanted : Bool} {old new : Held Tok Cx St Er} where
  -- a part for its value, which is handed out where it is wanted
  for_its_value : {r : Result (Option V) Fault} → Ran merged safe (Chained (Asked true part) (λ v. Given (only wanted v))) wanted old new r → Ran merged safe (ForItsValue part) wanted old new r
  for_its_value {r} h = ran-weaker merged safe (Chained (Asked true part) (λ v. Given (only wanted v))) (ForItsValue part) wanted old new r (λ o k. k) h

  pub gave_value : {x : Result (Option V) Fault} {v : Option V} → Ran merged safe part true old new x → x ≡ Ok v → Ran merged safe (ForItsValue part) wanted old new (Ok (only wanted v))
  gave_value h e = for_its_value (chained (ran-asked h) e ran-given)

  pub gave_none : {x y : Result (Option V) Fault} {f : Fault} → Ran merged safe part true old new x → x ≡ Err f → y ≡ Err f → Ran merged safe (ForItsValue part) wanted old new y
  gave_none h e d = for_its_value (failed (ran-asked h) e d)
