-- A run over items, step by step: what it says by recursion is what the list of its items says.
use Rattle.std.proofs.Common.{◌≡◌, ◌∙◌, ℕ, zero, suc, ◌≤◌, Option, Some, None, List, [], ◌∷◌, length, refl, sym, ap, subst, arith}
use Rattle.chumsky_input.specs.declared.stop.Stop.TheVariants.{CountTooLarge}
use Rattle.chumsky_input.specs.Outcome.{Meaning, Beginning, Outcome, Verdict, Yes, No, Halt, Clash}
use Rattle.chumsky_parser.specs.Chained.{Chained, Follows, from, after}
use Rattle.chumsky_parser.specs.Failure.{Stops}
use Rattle.chumsky_parser.specs.Items.{Next, More, End, AfterStep, Item, next_after, made_of, room_after, after_all, past, past_all, IsItem, Linked, Unmade, Closes, AllItems}

module _ {Tok Cx St Er S V A W : Type 0} (step : S → Meaning Tok Cx St Er (Next S V)) (more : Option A → Option V → Meaning Tok Cx St Er A) (ended : Option A → Meaning Tok Cx St Er W) where
  -- all steps, with what was made of the items so far
  abbrev pub AllSteps : ℕ → Option A → S → Meaning Tok Cx St Er W
  AllSteps zero a s = Chained (step s) (AfterStep (λ _ _. Stops CountTooLarge) (ended a))
  AllSteps (suc room) a s = Chained (step s) (AfterStep (λ v t. Chained (more a v) (λ c. AllSteps room c t)) (ended a))

  -- the run closes at once
  closed : (room : ℕ) (a : Option A) (s : S) (b : Beginning Tok Cx St) (o : Outcome W Er St) → Closes step more ended room a s b o → AllItems step more ended room a s b o
  closed room a s b o m = record { items = []; fit = omega arith; linked = tt; last = o; closes = m; whole = refl }

  -- an item, and then the rest
  joined : (room : ℕ) (a : Option A) (s : S) (b : Beginning Tok Cx St) (o : Outcome W Er St) (x : Item Er St S V A) (q : Outcome W Er St)
      → IsItem step more a s b x → o ≡ after x.step (after x.making q)
      → AllItems step more ended room x.made x.next (past b x) q → AllItems step more ended (suc room) a s b o
  joined room a s b o x q i e l =
      record {
        items = x ∷ l.items;
        fit = omega (arith, l.fit);
        linked = (i, l.linked);
        last = l.last;
        closes = l.closes;
        whole = e ∙ ap (λ z. after x.step (after x.making z)) l.whole;
      }

  module _ (room : ℕ) (a : Option A) (s : S) (b : Beginning Tok Cx St) (o : Outcome W Er St) (p : Outcome (Next S V) Er St) (m : step s b p) where
    -- nothing is made of an item
    not_made : (v : Option V) (t : S) (q : Outcome W Er St) (r : Outcome A Er St) (w : Verdict A Er)
        → p.verdict ≡ Yes (Some (More v t)) → more a v (from b p) r → r.verdict ≡ w
        → Follows w (λ _ _ _. ⊥) (from b p) r q → o ≡ after p q → AllItems step more ended (suc room) a s b o
    not_made v t q r w e n d f z =
        let making : Chained (more a v) (λ _ _ _. ⊥) (from b p) q = record { first = r; meant = n; follows = subst (λ y. Follows y (λ _ _ _. ⊥) (from b p) r q) (sym d) f } in
        closed (suc room) a s b o (record { first = p; meant = m; follows = subst (λ y. Follows y (AfterStep (λ u _. Unmade (suc room) (more a u)) (ended a)) b p o) (sym e) (q, making, z) })

    module _ (rest : (c : Option A) (t : S) (d : Beginning Tok Cx St) (q : Outcome W Er St) → AllSteps room c t d q → AllItems step more ended room c t d q) where
      by_making : (v : Option V) (t : S) (q : Outcome W Er St) (r : Outcome A Er St) (w : Verdict A Er)
          → p.verdict ≡ Yes (Some (More v t)) → more a v (from b p) r → r.verdict ≡ w
          → Follows w (λ c. AllSteps room c t) (from b p) r q → o ≡ after p q
          → AllItems step more ended (suc room) a s b o
      by_making v t q r (Yes c) e n d f z =
          joined room a s b o (record { value = v; next = t; made = c; step = p; making = r }) f.0
          (record { steps = m; gives = e; makes = n; goes_on = d }) (z ∙ ap (after p) f.2)
          (rest c t (from (from b p) r) f.0 f.1)
      by_making v t q r No e n d f z = not_made v t q r No e n d f z
      by_making v t q r (Halt h) e n d f z = not_made v t q r (Halt h) e n d f z
      by_making v t q r (Clash x) e n d f z = not_made v t q r (Clash x) e n d f z

      stops_here : (w : Verdict (Next S V) Er) → p.verdict ≡ w → Follows w (AfterStep (λ u _. Unmade (suc room) (more a u)) (ended a)) b p o → AllItems step more ended (suc room) a s b o
      stops_here w e f = closed (suc room) a s b o (record { first = p; meant = m; follows = subst (λ y. Follows y (AfterStep (λ u _. Unmade (suc room) (more a u)) (ended a)) b p o) (sym e) f })

      by_step : (w : Verdict (Next S V) Er) → p.verdict ≡ w → Follows w (AfterStep (λ v t. Chained (more a v) (λ c. AllSteps room c t)) (ended a)) b p o → AllItems step more ended (suc room) a s b o
      by_step (Yes (Some (More v t))) e f = by_making v t f.0 f.1.first f.1.first.verdict e f.1.meant refl f.1.follows f.2
      by_step (Yes (Some End)) e f = stops_here (Yes (Some End)) e f
      by_step (Yes None) e f = absurd f.1
      by_step No e f = stops_here No e f
      by_step (Halt h) e f = stops_here (Halt h) e f
      by_step (Clash x) e f = stops_here (Clash x) e f

  -- whatever all steps do, the list of their items says
  pub listed : (room : ℕ) (a : Option A) (s : S) (b : Beginning Tok Cx St) (o : Outcome W Er St) → AllSteps room a s b o → AllItems step more ended room a s b o
  listed zero a s b o m = closed zero a s b o m
  listed (suc room) a s b o m = by_step room a s b o m.first m.meant (listed room) m.first.verdict refl m.follows

  unmade_steps : (room : ℕ) (a : Option A) (t : S) (v : Option V) (b : Beginning Tok Cx St) (r : Outcome A Er St)
      (q : Outcome W Er St) (w : Verdict A Er)
      → Follows w (λ _ _ _. ⊥) b r q → Follows w (λ c. AllSteps room c t) b r q
  unmade_steps room a t v b r q (Yes c) f = absurd f.1
  unmade_steps room a t v b r q No f = f
  unmade_steps room a t v b r q (Halt h) f = f
  unmade_steps room a t v b r q (Clash x) f = f

  closing_steps : (room : ℕ) (a : Option A) (b : Beginning Tok Cx St) (p : Outcome (Next S V) Er St) (o : Outcome W Er St) (w : Verdict (Next S V) Er)
      → Follows w (AfterStep (λ u _. Unmade (suc room) (more a u)) (ended a)) b p o → Follows w (AfterStep (λ v t. Chained (more a v) (λ c. AllSteps room c t)) (ended a)) b p o
  closing_steps room a b p o (Yes (Some (More v t))) f =
      let r = f.1 in
      (f.0, record { first = r.first; meant = r.meant; follows = unmade_steps room a t v (from b p) r.first f.0 r.first.verdict r.follows }, f.2)
  closing_steps room a b p o (Yes (Some End)) f = f
  closing_steps room a b p o (Yes None) f = f
  closing_steps room a b p o No f = f
  closing_steps room a b p o (Halt h) f = f
  closing_steps room a b p o (Clash x) f = f

  of_list : (items : List (Item Er St S V A)) (room : ℕ) (a : Option A) (s : S) (b : Beginning Tok Cx St) (o last : Outcome W Er St) → length items ≤ room → Linked step more a s b items
      → Closes step more ended (room_after items room) (made_of a items) (next_after s items) (past_all b items) last → o ≡ after_all items last → AllSteps room a s b o
  of_list [] zero a s b o last fit l m e = subst (AllSteps zero a s b) (sym e) m
  of_list [] (suc room) a s b o last fit l m e =
      subst (AllSteps (suc room) a s b) (sym e)
      (record { first = m.first; meant = m.meant; follows = closing_steps room a b m.first last m.first.verdict m.follows })
  of_list (x ∷ xs) zero a s b o last fit l m e = absurd (omega (arith, fit))
  of_list (x ∷ xs) (suc room) a s b o last fit l m e =
      let i = l.0 in
      let rest : AllSteps room x.made x.next (past b x) (after_all xs last) = of_list xs room x.made x.next (past b x) (after_all xs last) last (omega (arith, fit)) l.1 m refl in
      let making : Chained (more a x.value) (λ c. AllSteps room c x.next) (from b x.step) (after x.making (after_all xs last)) =
      record {
        first = x.making;
        meant = i.makes;
        follows =
            subst
            (λ w. Follows w (λ c. AllSteps room c x.next) (from b x.step) x.making (after x.making (after_all xs last)))
            (sym i.goes_on) (after_all xs last, rest, refl);
      }
      in
      record {
        first = x.step;
        meant = i.steps;
        follows =
            subst
            (λ w. Follows w (AfterStep (λ v t. Chained (more a v) (λ c. AllSteps room c t)) (ended a)) b x.step o)
            (sym i.gives) (after x.making (after_all xs last), making, e);
      }

  -- and the other way round
  pub unlisted : (room : ℕ) (a : Option A) (s : S) (b : Beginning Tok Cx St) (o : Outcome W Er St) → AllItems step more ended room a s b o → AllSteps room a s b o
  unlisted room a s b o m = of_list m.items room a s b o m.last m.fit m.linked m.closes m.whole
