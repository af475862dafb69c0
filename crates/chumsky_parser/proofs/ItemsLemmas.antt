-- What is left of all steps of an iteration.
use Rattle.std.proofs.Common.{◌≡◌, ℕ, zero, suc, ◌+◌, ◌-◌, ◌^◌, Bool, true, Option, Some, None, refl, arith, Result, Ok, Err}
use Rattle.chumsky_input.specs.declared.stop.Fault.{Fault}
use Rattle.chumsky_input.specs.declared.stop.Fault.TheVariants as fault
use Rattle.chumsky_input.specs.declared.stop.Stop.TheVariants.{CountTooLarge}
use Rattle.chumsky_input.specs.Held.{Held}
use Rattle.chumsky_input.specs.Outcome.{Meaning}
use Rattle.chumsky_input.specs.Run.{Ran, begin}
use Rattle.chumsky_parser.specs.Chained.{Chained, Asked}
use Rattle.chumsky_parser.specs.Failure.{wanting}
use Rattle.chumsky_parser.proofs.ChainedLemmas.{ran-weaker, ran-asked, chained, failed}
use Rattle.chumsky_parser.specs.Items.{Next, More, End, with_item, without_item, AllItems, FromMade, Items}
use Rattle.chumsky_parser.specs.Steps.{AllSteps, listed}
use Rattle.chumsky_parser.proofs.FailureLemmas.{ran-stops}

module _ {Tok Cx St Er S V A W : Type 0} (merged : Er → Er → Er) (safe : Type 0)
    (step : S → Meaning Tok Cx St Er (Next S V)) (more : Option A → Option V → Meaning Tok Cx St Er A)
    (ended : Option A → Meaning Tok Cx St Er W) (begins : Meaning Tok Cx St Er S) (first : A) (wanted : Bool) where
  -- whatever the steps do from now, with what was made of so many items, all of them do from the start
  pub record StepsFrom (count : ℕ) (a : Option A) (s : S) (old now : Held Tok Cx St Er) : Type 0 where
    pub room : ℕ
    pub left : room + count + 1 ≡ 2 ^ 64
    pub on : (new : Held Tok Cx St Er) (r : Result (Option W) Fault)
        → Ran merged safe (AllSteps step more ended room a s) wanted now new r
        → Ran merged safe (Items step more ended begins first) wanted old new r

module _ {Tok Cx St Er S V A W : Type 0} {merged : Er → Er → Er} {safe : Type 0}
    {step : S → Meaning Tok Cx St Er (Next S V)} {more : Option A → Option V → Meaning Tok Cx St Er A}
    {ended : Option A → Meaning Tok Cx St Er W} {begins : Meaning Tok Cx St Er S} {first : A} {wanted : Bool}
    {old : Held Tok Cx St Er} where
  items : {new : Held Tok Cx St Er} {r : Result (Option W) Fault} (room : ℕ) → room + 1 ≡ 2 ^ 64
      → Ran merged safe (Chained (Asked true begins) (FromMade step more ended room (wanting wanted first))) wanted old new r
      → Ran merged safe (Items step more ended begins first) wanted old new r
  items {new} {r} room full h =
      ran-weaker merged safe (Chained (Asked true begins) (FromMade step more ended room (wanting wanted first)))
      (Items step more ended begins first) wanted old new r (λ o m. record { room = room; full = full; run = m })
      h

  -- no iteration was made
  pub items-unmade : {new : Held Tok Cx St Er} {x : Result (Option S) Fault} {f : Fault} {y : Result (Option W) Fault}
      → Ran merged safe begins true old new x → x ≡ Err f → y ≡ Err f
      → Ran merged safe (Items step more ended begins first) wanted old new y
  items-unmade h e d = items (2 ^ 64 - 1) (omega arith) (failed (ran-asked h) e d)

  made_with : (room : ℕ) → room + 1 ≡ 2 ^ 64 → {now : Held Tok Cx St Er} {x : Result (Option S) Fault} {s : S}
      → Ran merged safe begins true old now x → x ≡ Ok (Some s)
      → StepsFrom merged safe step more ended begins first wanted 0 (wanting wanted first) s old now
  made_with room full {now} {x} {s} h e =
      record {
        room = room;
        left = omega (arith, full);
        on =
            λ new r k. items room full
            (chained (ran-asked h) e
            (ran-weaker merged safe (AllSteps step more ended room (wanting wanted first) s)
            (AllItems step more ended room (wanting wanted first) s) wanted now new r
            (listed step more ended room (wanting wanted first) s (begin wanted now)) k));
      }

  -- one was made
  pub items-made : {now : Held Tok Cx St Er} {x : Result (Option S) Fault} {s : S}
      → Ran merged safe begins true old now x → x ≡ Ok (Some s)
      → StepsFrom merged safe step more ended begins first wanted 0 (wanting wanted first) s old now
  items-made h e = made_with (2 ^ 64 - 1) (omega arith) h e

  module _ {count : ℕ} {a : Option A} {s : S} {now mid : Held Tok Cx St Er} {x : Result (Option (Next S V)) Fault}
      (so : StepsFrom merged safe step more ended begins first wanted count a s old now)
      (h : Ran merged safe (step s) wanted now mid x) where
    failed_at : (room : ℕ) {f : Fault} → x ≡ Err f → Ran merged safe (AllSteps step more ended room a s) wanted now mid (Err f)
    failed_at zero e = failed h e refl
    failed_at (suc room) e = failed h e refl

    -- a step that failed
    pub steps-failed : {f : Fault} {y : Result (Option W) Fault} → x ≡ Err f → y ≡ Err f → Ran merged safe (Items step more ended begins first) wanted old mid y
    steps-failed {f} e d = rw d (so.on mid (Err f) (failed_at so.room e))

    ended_at : (room : ℕ) {new : Held Tok Cx St Er} {r : Result (Option W) Fault} → x ≡ Ok (Some End)
        → Ran merged safe (ended a) wanted mid new r
        → Ran merged safe (AllSteps step more ended room a s) wanted now new r
    ended_at zero e k = chained h e k
    ended_at (suc room) e k = chained h e k

    -- the end
    pub steps-ended : {new : Held Tok Cx St Er} {r : Result (Option W) Fault} → x ≡ Ok (Some End)
        → Ran merged safe (ended a) wanted mid new r
        → Ran merged safe (Items step more ended begins first) wanted old new r
    steps-ended {new} {r} e k = so.on new r (ended_at so.room e k)

    module _ {v : Option V} {t : S} (e : x ≡ Ok (Some (More v t))) where
      full_at : (room : ℕ) → room + count + 1 ≡ 2 ^ 64 → count + 1 ≡ 2 ^ 64 → Ran merged safe (AllSteps step more ended room a s) wanted now mid (Err (fault.Stop CountTooLarge))
      full_at zero left full = chained h e (ran-stops CountTooLarge)
      full_at (suc room) left full = absurd (omega (arith, left, full))

      -- one item too many
      pub steps-full : count + 1 ≡ 2 ^ 64 → Ran merged safe (Items step more ended begins first) wanted old mid (Err (fault.Stop CountTooLarge))
      steps-full full = so.on mid _ (full_at so.room so.left full)

      refused_at : (room : ℕ) → room + count + 1 ≡ 2 ^ 64 → (count + 1 ≡ 2 ^ 64 → ⊥)
          → {new : Held Tok Cx St Er} {f : Fault} → Ran merged safe (more a v) wanted mid new (Err f)
          → Ran merged safe (AllSteps step more ended room a s) wanted now new (Err f)
      refused_at zero left below k = absurd (below (omega (arith, left)))
      refused_at (suc room) left below k = chained h e (failed k refl refl)

      -- an item of which nothing could be made
      pub steps-refused : {new : Held Tok Cx St Er} {f : Fault} → (count + 1 ≡ 2 ^ 64 → ⊥)
          → Ran merged safe (more a v) wanted mid new (Err f)
          → Ran merged safe (Items step more ended begins first) wanted old new (Err f)
      steps-refused {new} {f} below k = so.on new (Err f) (refused_at so.room so.left below k)

      more_at : (room : ℕ) → room + count + 1 ≡ 2 ^ 64 → (count + 1 ≡ 2 ^ 64 → ⊥) → {next : Held Tok Cx St Er} {c : Option A} → Ran merged safe (more a v) wanted mid next (Ok c)
          →
          ((new : Held Tok Cx St Er) (r : Result (Option W) Fault)
          → Ran merged safe (AllSteps step more ended room a s) wanted now new r
          → Ran merged safe (Items step more ended begins first) wanted old new r)
          → StepsFrom merged safe step more ended begins first wanted (count + 1) c t old next
      more_at zero left below k on = absurd (below (omega (arith, left)))
      more_at (suc room) left below k on = record { room = room; left = omega (arith, left); on = λ new r l. on new r (chained h e (chained k refl l)) }

      -- an item of which more was made
      pub steps-more : {next : Held Tok Cx St Er} {c : Option A} → (count + 1 ≡ 2 ^ 64 → ⊥)
          → Ran merged safe (more a v) wanted mid next (Ok c)
          → StepsFrom merged safe step more ended begins first wanted (count + 1) c t old next
      steps-more below k = more_at so.room so.left below k so.on

-- what a step answered, as proofs cite it
module _ {S V : Type 0} (s : S) where
  pub emit_item : {v : V} {o : Option V} {x : Result (Option V) Fault} → x ≡ Ok o → o ≡ Some v → with_item s x ≡ Ok (Some (More (Some v) s))
  emit_item e d = rw (e, d) refl

  pub emit_end : {o : Option V} {x : Result (Option V) Fault} → x ≡ Ok o → o ≡ None → with_item s x ≡ Ok (Some End)
  emit_end e d = rw (e, d) refl

  pub emit_fault : {f : Fault} {x : Result (Option V) Fault} → x ≡ Err f → with_item s x ≡ Err f
  emit_fault e = rw e refl

  pub check_item : {u : Unit {0}} {o : Option (Unit {0})} {x : Result (Option (Unit {0})) Fault} → x ≡ Ok o → o ≡ Some u → without_item {V = V} s x ≡ Ok (Some (More None s))
  check_item e d = rw (e, d) refl

  pub check_end : {o : Option (Unit {0})} {x : Result (Option (Unit {0})) Fault} → x ≡ Ok o → o ≡ None → without_item {V = V} s x ≡ Ok (Some End)
  check_end e d = rw (e, d) refl

  pub check_fault : {f : Fault} {x : Result (Option (Unit {0})) Fault} → x ≡ Err f → without_item {V = V} s x ≡ Err f
  check_fault e = rw e refl
