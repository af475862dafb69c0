-- Passing over empty collections, step by step: what it says by recursion is what their list says.
use Rattle.std.proofs.Common.{◌≡◌, ◌∙◌, ℕ, zero, suc, ◌≤◌, Option, Some, None, List, [], ◌∷◌, length, refl, sym, ap, subst, arith, inl, inr}
use Rattle.chumsky_input.specs.declared.stop.Stop.TheVariants.{CountTooLarge}
use Rattle.chumsky_input.specs.Outcome.{Meaning, Beginning, Outcome, Verdict, Yes, No, Halt, Clash}
use Rattle.chumsky_parser.specs.Chained.{Chained, Given, Follows, from, after}
use Rattle.chumsky_parser.specs.Failure.{Stops}
use Rattle.chumsky_parser.specs.Items.{Next, More, End, AfterStep, Item, next_after, room_after, after_all, past, past_all, Linked}
use Rattle.chumsky_flatten.specs.Collections.{CollectionHas}
use Rattle.chumsky_flatten.specs.Flattening.{PassesOver, FirstElse, Uncounted, Inside, ClosesAt, FirstWithin}

module _ {Tok Cx St Mk Er S O J A : Type 0} (mark : St → Mk) (back : St → Mk → St) (safe : Type 0)
    (makes : O → J → Type 0) (nexts : J → Option A → J → Type 0) (gives : S → Meaning Tok Cx St Er (Next S O)) where
  -- a step inside, and then the first item of its collection; where it is empty, the same again
  abbrev pub FirstSteps : ℕ → S → Meaning Tok Cx St Er (Next (S × Option J) A)
  FirstSteps zero s = Chained (Inside mark back safe gives s) (AfterStep (FirstElse makes nexts (Stops CountTooLarge)) (Given (Some End)))
  FirstSteps (suc room) s = Chained (Inside mark back safe gives s) (AfterStep (λ v t. FirstElse makes nexts (FirstSteps room t) v t) (Given (Some End)))

  -- what the making of nothing leaves
  abbrev over : Beginning Tok Cx St → Outcome (Unit {0}) Er St
  over b = record { verdict = Yes (Some tt); end = b.start; state = b.state; events = []; emitted = [] }

  closed : (room : ℕ) (s : S) (b : Beginning Tok Cx St) (o : Outcome (Next (S × Option J) A) Er St)
      → ClosesAt mark back safe makes nexts gives room s b o → FirstWithin mark back safe makes nexts gives room s b o
  closed room s b o m = record { passed = []; fit = omega arith; linked = tt; last = o; closes = m; whole = refl }

  joined : (room : ℕ) (s t : S) (b : Beginning Tok Cx St) (o : Outcome (Next (S × Option J) A) Er St) (c : O)
      (p : Outcome (Next S O) Er St) (q : Outcome (Next (S × Option J) A) Er St)
      → Inside mark back safe gives s b p → p.verdict ≡ Yes (Some (More (Some c) t)) → CollectionHas makes nexts c []
      → FirstWithin mark back safe makes nexts gives room t (from b p) q → o ≡ after p q → FirstWithin mark back safe makes nexts gives (suc room) s b o
  joined room s t b o c p q m e h l z =
      record {
        passed = (record { value = Some c; next = t; made = Some tt; step = p; making = over (from b p) }) ∷ l.passed;
        fit = omega (arith, l.fit);
        linked = (record { steps = m; gives = e; makes = (h, refl); goes_on = refl }, l.linked);
        last = l.last;
        closes = l.closes;
        whole = z ∙ ap (after p) l.whole;
      }

  module _ (room : ℕ) (s : S) (b : Beginning Tok Cx St) (o : Outcome (Next (S × Option J) A) Er St) (p : Outcome (Next S O) Er St) (m : Inside mark back safe gives s b p) where
    closes_here : (w : Verdict (Next S O) Er) → p.verdict ≡ w
        → Follows w (AfterStep (FirstElse makes nexts (Uncounted (suc room))) (Given (Some End))) b p o
        → FirstWithin mark back safe makes nexts gives (suc room) s b o
    closes_here w e f =
        closed (suc room) s b o
        (record { first = p; meant = m; follows = subst (λ y. Follows y (AfterStep (FirstElse makes nexts (Uncounted (suc room))) (Given (Some End))) b p o) (sym e) f })

    module _ (rest : (t : S) (d : Beginning Tok Cx St) (q : Outcome (Next (S × Option J) A) Er St) → FirstSteps room t d q → FirstWithin mark back safe makes nexts gives room t d q) where
      by_collection : (v : Option O) (t : S) (q : Outcome (Next (S × Option J) A) Er St)
          → p.verdict ≡ Yes (Some (More v t)) → FirstElse makes nexts (FirstSteps room t) v t (from b p) q
          → o ≡ after p q → FirstWithin mark back safe makes nexts gives (suc room) s b o
      by_collection (Some c) t q e (inl h) z = closes_here (Yes (Some (More (Some c) t))) e (q, inl h, z)
      by_collection (Some c) t q e (inr h) z = joined room s t b o c p q m e h.0 (rest t (from b p) q h.1) z
      by_collection None t q e h z = absurd h

      by_step : (w : Verdict (Next S O) Er) → p.verdict ≡ w
          → Follows w (AfterStep (λ v t. FirstElse makes nexts (FirstSteps room t) v t) (Given (Some End))) b p o
          → FirstWithin mark back safe makes nexts gives (suc room) s b o
      by_step (Yes (Some (More v t))) e f = by_collection v t f.0 e f.1 f.2
      by_step (Yes (Some End)) e f = closes_here (Yes (Some End)) e f
      by_step (Yes None) e f = absurd f.1
      by_step No e f = closes_here No e f
      by_step (Halt h) e f = closes_here (Halt h) e f
      by_step (Clash x) e f = closes_here (Clash x) e f

  -- whatever the steps do, the list of the empty collections says
  pub first-listed : (room : ℕ) (s : S) (b : Beginning Tok Cx St) (o : Outcome (Next (S × Option J) A) Er St) → FirstSteps room s b o → FirstWithin mark back safe makes nexts gives room s b o
  first-listed zero s b o m = closed zero s b o m
  first-listed (suc room) s b o m = by_step room s b o m.first m.meant (first-listed room) m.first.verdict refl m.follows

  closing_collection : (room : ℕ) (v : Option O) (t : S) (b : Beginning Tok Cx St) (q : Outcome (Next (S × Option J) A) Er St)
      → FirstElse makes nexts (Uncounted (suc room)) v t b q → FirstElse makes nexts (FirstSteps room t) v t b q
  closing_collection room (Some c) t b q (inl h) = inl h
  closing_collection room (Some c) t b q (inr h) = absurd h.1
  closing_collection room None t b q h = absurd h

  closing_steps : (room : ℕ) (b : Beginning Tok Cx St) (p : Outcome (Next S O) Er St) (o : Outcome (Next (S × Option J) A) Er St) (w : Verdict (Next S O) Er)
      → Follows w (AfterStep (FirstElse makes nexts (Uncounted (suc room))) (Given (Some End))) b p o
      → Follows w (AfterStep (λ v t. FirstElse makes nexts (FirstSteps room t) v t) (Given (Some End))) b p o
  closing_steps room b p o (Yes (Some (More v t))) f = (f.0, closing_collection room v t (from b p) f.0 f.1, f.2)
  closing_steps room b p o (Yes (Some End)) f = f
  closing_steps room b p o (Yes None) f = f
  closing_steps room b p o No f = f
  closing_steps room b p o (Halt h) f = f
  closing_steps room b p o (Clash x) f = f

  -- an empty collection is passed over, and then the rest
  over_list : (room : ℕ) (a : Option (Unit {0})) (s : S) (b : Beginning Tok Cx St)
      (o : Outcome (Next (S × Option J) A) Er St) (p : Outcome (Next S O) Er St) (v : Option O) (t : S)
      (r : Outcome (Unit {0}) Er St) (q : Outcome (Next (S × Option J) A) Er St)
      → Inside mark back safe gives s b p → p.verdict ≡ Yes (Some (More v t))
      → PassesOver makes nexts a v (from b p) r → FirstSteps room t (from (from b p) r) q → o ≡ after p (after r q) → FirstSteps (suc room) s b o
  over_list room a s b o p (Some c) t r q m e h k z =
      let rest : FirstSteps room t (from b p) q = subst (λ y. FirstSteps room t (from (from b p) y) q) h.1 k in
      let whole : o ≡ after p q = subst (λ y. o ≡ after p (after y q)) h.1 z in
      record { first = p; meant = m; follows = subst (λ w. Follows w (AfterStep (λ u y. FirstElse makes nexts (FirstSteps room y) u y) (Given (Some End))) b p o) (sym e) (q, inr (h.0, rest), whole) }
  over_list room a s b o p None t r q m e h k z = absurd h

  of_list : (passed : List (Item Er St S O (Unit {0}))) (room : ℕ) (a : Option (Unit {0})) (s : S)
      (b : Beginning Tok Cx St) (o last : Outcome (Next (S × Option J) A) Er St)
      → length passed ≤ room → Linked (Inside mark back safe gives) (PassesOver makes nexts) a s b passed
      → ClosesAt mark back safe makes nexts gives (room_after passed room) (next_after s passed) (past_all b passed) last → o ≡ after_all passed last → FirstSteps room s b o
  of_list [] zero a s b o last fit l m e = subst (FirstSteps zero s b) (sym e) m
  of_list [] (suc room) a s b o last fit l m e =
      subst (FirstSteps (suc room) s b) (sym e)
      (record { first = m.first; meant = m.meant; follows = closing_steps room b m.first last m.first.verdict m.follows })
  of_list (x ∷ xs) zero a s b o last fit l m e = absurd (omega (arith, fit))
  of_list (x ∷ xs) (suc room) a s b o last fit l m e =
      let i = l.0 in
      over_list room a s b o x.step x.value x.next x.making (after_all xs last) i.steps i.gives i.makes
      (of_list xs room x.made x.next (past b x) (after_all xs last) last (omega (arith, fit)) l.1 m refl) e

  -- and the other way round
  pub first-unlisted : (room : ℕ) (s : S) (b : Beginning Tok Cx St) (o : Outcome (Next (S × Option J) A) Er St) → FirstWithin mark back safe makes nexts gives room s b o → FirstSteps room s b o
  first-unlisted room s b o m = of_list m.passed room (Some tt) s b o m.last m.fit m.linked m.closes m.whole
