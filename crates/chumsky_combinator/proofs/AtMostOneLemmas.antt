-- What a step of a part that may be absent leaves.
use Rattle.std.proofs.Common.{◌≡◌, Bool, true, false, Option, Some, sym, subst, refl, Result, Ok, Err}
use Rattle.chumsky_input.specs.declared.stop.Fault.{Fault}
use Rattle.chumsky_input.specs.declared.stop.Fault.TheVariants as fault
use Rattle.chumsky_input.specs.declared.stop.Stop.TheVariants.{Memory}
use Rattle.chumsky_input.specs.Held.{Held, Marks}
use Rattle.chumsky_input.specs.Outcome.{Meaning}
use Rattle.chumsky_input.specs.Run.{Ran, begin, marked_here, gone_back}
use Rattle.chumsky_parser.specs.Items.{Next, More, End, with_item, without_item}
use Rattle.chumsky_parser.proofs.ChainedLemmas.{ran-weaker, ran-given, chained, failed}
use Rattle.chumsky_parser.proofs.ChoiceLemmas.{ran-first, ran-second, ran-unmarked, ran-unrestored}
use Rattle.chumsky_combinator.specs.AtMostOne.{OnceTried, AtMostOne}

module _ {Tok Cx St Mk Er V : Type 0} {merged : Er → Er → Er} {safe : Type 0} (mark : St → Mk) (back : St → Mk → St)
    (quiet : Type 0) {part : Meaning Tok Cx St Er V} {tried wanted : Bool} {old : Held Tok Cx St Er} where
  stepped : {new : Held Tok Cx St Er} {r : Result (Option (Next Bool V)) Fault} (t : Bool) → tried ≡ t
      → Ran merged safe (OnceTried mark back quiet part t) wanted old new r
      → Ran merged safe (AtMostOne mark back quiet part tried) wanted old new r
  stepped {new} {r} t e h =
      ran-weaker merged safe (OnceTried mark back quiet part t) (AtMostOne mark back quiet part tried) wanted old new r
      (λ o m. record { step = subst (λ z. OnceTried mark back quiet part z (begin wanted old) o) (sym e) m }) h

  -- the part was tried before
  pub one-tried : tried ≡ true → Ran merged safe (AtMostOne mark back quiet part tried) wanted old old (Ok (Some End))
  one-tried e = stepped true e ran-given

  module _ (e : tried ≡ false) where
    -- the refusal of a mark
    pub one-unmarked : {y : Result (Option (Next Bool V)) Fault} → (quiet → ⊥) → y ≡ Err (fault.Stop Memory) → Ran merged safe (AtMostOne mark back quiet part tried) wanted old old y
    one-unmarked may d = rw d (stepped false e (ran-unmarked merged safe mark back quiet _ _ wanted old old refl may))

    module _ {mid : Held Tok Cx St Er} {x : Result (Option V) Fault} (h : Ran merged safe part wanted old mid x) where
      -- the part says yes, it stops, and it says no, which is gone back from or not
      pub one-given : {v : Option V} → x ≡ Ok v → Ran merged safe (AtMostOne mark back quiet part tried) wanted old mid (Ok (Some (More v true)))
      one-given d = stepped false e (ran-first merged safe mark back quiet _ _ wanted old mid _ (chained h d ran-given) (λ z. cc))

      pub one-stopped : {f : Fault} {y : Result (Option (Next Bool V)) Fault} → x ≡ Err f → (f ≡ fault.Fail → ⊥) → y ≡ Err f → Ran merged safe (AtMostOne mark back quiet part tried) wanted old mid y
      one-stopped d n z = rw z (stepped false e (ran-first merged safe mark back quiet _ _ wanted old mid _ (failed h d refl) (λ q. n (cc q))))

      pub one-unrestored : {new : Held Tok Cx St Er} {y : Result (Option (Next Bool V)) Fault} → x ≡ Err fault.Fail
          → new ≡ mid → (quiet → ⊥) → y ≡ Err (fault.Stop Memory)
          → Ran merged safe (AtMostOne mark back quiet part tried) wanted old new y
      one-unrestored {new} d p may z = rw z (stepped false e (ran-unrestored merged safe mark back quiet _ _ wanted old mid new (failed h d refl) p may))

      pub one-absent : {m : Marks Tok Mk} {new : Held Tok Cx St Er} → x ≡ Err fault.Fail → m ≡ marked_here mark old
          → new ≡ gone_back back mid m
          → Ran merged safe (AtMostOne mark back quiet part tried) wanted old new (Ok (Some End))
      one-absent {m} {new} d p q = stepped false e (ran-second merged safe mark back quiet _ _ wanted old m mid new new _ (failed h d refl) p q ran-given)

module _ {V : Type 0} (s : Bool) where
  pub item_err : {f : Fault} {x : Result (Option V) Fault} → x ≡ Err f → with_item s x ≡ Err f
  item_err e = rw e refl

  pub no_item_err : {f : Fault} {x : Result (Option (Unit {0})) Fault} → x ≡ Err f → without_item {V = V} s x ≡ Err f
  no_item_err e = rw e refl
