-- What is left of the items of an output.
use Rattle.std.proofs.Common.{◌≡◌, Bool, true, false, Option, Some, None, refl, Result, Ok, Err, inl, inr}
use Rattle.chumsky_input.specs.declared.stop.Fault.{Fault}
use Rattle.chumsky_input.specs.Held.{Held}
use Rattle.chumsky_input.specs.Outcome.{Meaning}
use Rattle.chumsky_input.specs.Run.{Ran}
use Rattle.chumsky_parser.specs.Chained.{Given}
use Rattle.chumsky_parser.specs.Failure.{wanting}
use Rattle.chumsky_parser.specs.Items.{Next, More, End, with_item}
use Rattle.chumsky_parser.proofs.ChainedLemmas.{failed, chained, ran-weaker, ran-given, ran-asked}
use Rattle.chumsky_flatten.specs.IntoItems.{Offers, MakesItem, IteratorOf, NextOf, GivesNext}

module _ {Tok Cx St Er O J : Type 0} {merged : Er → Er → Er} {safe : Type 0} (makes : O → J → Type 0) {wanted : Bool} {now : Held Tok Cx St Er} where
  -- an iterator was made
  pub ran-iterator : {o : O} {j : J} → makes o j → Ran merged safe (IteratorOf makes (Some o)) wanted now now (Ok (Some j))
  ran-iterator {o} {j} h = ran-weaker merged safe (Given (Some j)) (IteratorOf makes (Some o)) wanted now now (Ok (Some j)) (λ q m. (j, h, m)) ran-given

module _ {Tok Cx St Er S A : Type 0} {merged : Er → Er → Er} {safe : Type 0} {new : Held Tok Cx St Er} (s : S) where
  offered : (wanted : Bool) (x : A) → Ran merged safe (Offers (Some x) s) wanted new new (Ok (Some (More (wanting wanted x) s)))
  offered wanted x = ran-weaker merged safe (Given (Some (More (wanting wanted x) s))) (Offers (Some x) s) wanted new new (Ok (Some (More (wanting wanted x) s))) (λ q m. m) ran-given

  module _ {step : Meaning Tok Cx St Er (Next S A)} {old : Held Tok Cx St Er} where
    -- an item that was made, handed on
    pub makes-emit : (r : Result (Option A) Fault) → Ran merged safe step true old new (with_item s r) → Ran merged safe (MakesItem step) true old new (with_item s r)
    makes-emit (Ok (Some x)) h = chained (ran-asked h) refl (offered true x)
    makes-emit (Ok None) h = chained (ran-asked h) refl ran-given
    makes-emit (Err f) h = failed (ran-asked h) refl refl

    -- one that was made and let go, the end, and a fault
    pub makes-passed : {x : A} {r : Result (Option A) Fault} {o : Option A} → r ≡ Ok o → o ≡ Some x
        → Ran merged safe step true old new (with_item s r)
        → Ran merged safe (MakesItem step) false old new (Ok (Some (More None s)))
    makes-passed {x} e d h = chained {a = Some (More (Some x) s)} (ran-asked h) (rw (e, d) refl) (offered false x)

    pub makes-ended : {r : Result (Option A) Fault} {o : Option A} → r ≡ Ok o → o ≡ None
        → Ran merged safe step true old new (with_item s r)
        → Ran merged safe (MakesItem step) false old new (Ok (Some End))
    makes-ended e d h = chained {a = Some End} (ran-asked h) (rw (e, d) refl) ran-given

    pub makes-failed : {f : Fault} {r : Result (Option A) Fault} {y : Result (Option (Next S A)) Fault} → r ≡ Err f
        → y ≡ Err f → Ran merged safe step true old new (with_item s r)
        → Ran merged safe (MakesItem step) false old new y
    makes-failed e z h = failed (ran-asked h) (rw e refl) z

module _ {Tok Cx St Er J A : Type 0} {merged : Er → Er → Er} {safe : Type 0} (nexts : J → Option A → J → Type 0) {j : J} {old : Held Tok Cx St Er} where
  stepped : {wanted : Bool} {r : Result (Option (Next J A)) Fault} → Ran merged safe (MakesItem (NextOf nexts j)) wanted old old r → Ran merged safe (GivesNext nexts j) wanted old old r
  stepped {wanted} {r} h = ran-weaker merged safe (MakesItem (NextOf nexts j)) (GivesNext nexts j) wanted old old r (λ o m. record { step = m }) h

  next_given : (k : J) (r : Option A) → nexts j r k → Ran merged safe (NextOf nexts j) true old old (with_item k (Ok r))
  next_given k (Some x) h = ran-weaker merged safe (Given (Some (More (Some x) k))) (NextOf nexts j) true old old (Ok (Some (More (Some x) k))) (λ q m. inl (x, k, h, m)) ran-given
  next_given k None h = ran-weaker merged safe (Given (Some End)) (NextOf nexts j) true old old (Ok (Some End)) (λ q m. inr (k, h, m)) ran-given

  pub next-emit : (k : J) (r : Option A) → nexts j r k → Ran merged safe (GivesNext nexts j) true old old (with_item k (Ok r))
  next-emit k r h = stepped (makes-emit k (Ok r) (next_given k r h))

  pub next-passed : (k : J) {x : A} {r : Option A} → r ≡ Some x → nexts j r k → Ran merged safe (GivesNext nexts j) false old old (Ok (Some (More None k)))
  next-passed k {x} {r} e h = stepped (makes-passed k refl e (next_given k r h))

  pub next-ended : (k : J) {r : Option A} → r ≡ None → nexts j r k → Ran merged safe (GivesNext nexts j) false old old (Ok (Some End))
  next-ended k {r} e h = stepped (makes-ended k refl e (next_given k r h))
