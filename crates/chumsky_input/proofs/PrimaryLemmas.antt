-- The left merge of the furthest events, of one list after another.
use Rattle.std.proofs.Common.{◌≡◌, ℕ, ◌<◌, Option, Some, None, List, [], ◌∷◌, ◌++◌, refl, sym, ◌∙◌, ap, subst, arith, inl, inr, option_to_list}
use Rattle.std.specs.Prelude.{max, fold, eqb, ◌≢◌}
use Rattle.std.proofs.lemmas.Bool.Decides.{eqb_tells}
use Rattle.std.proofs.lemmas.List.Elements.{filter-append}
use Rattle.std.proofs.lemmas.List.Sums.{fold-append}
use Rattle.chumsky_input.specs.Outcome.{Event}
use Rattle.chumsky_input.specs.Outcome.{HasEventAt}
use Rattle.chumsky_input.specs.Primary.{furthest, events_at, merged_left, primary}

module _ {Er : Type 0} where
  pub furthest-append : (xs ys : List (Event Er)) → furthest (xs ++ ys) ≡ max (furthest xs) (furthest ys)
  furthest-append [] ys = omega arith
  furthest-append (x ∷ xs) ys = omega (arith, furthest-append xs ys)

  pub events_at-append : (p : ℕ) (xs ys : List (Event Er)) → events_at p (xs ++ ys) ≡ events_at p xs ++ events_at p ys
  events_at-append p xs ys = filter-append (λ e. eqb e.place p) xs ys

  pub events_at-same : (p : ℕ) (x : Event Er) (xs : List (Event Er)) → x.place ≡ p → events_at p (x ∷ xs) ≡ x ∷ events_at p xs
  events_at-same p x xs e = elim (eqb_tells x.place p) [ inl t ↦ rw t.0 | inr f ↦ absurd (f.1 e) ]

  pub events_at-other : (p : ℕ) (x : Event Er) (xs : List (Event Er)) → x.place ≢ p → events_at p (x ∷ xs) ≡ events_at p xs
  events_at-other p x xs n = elim (eqb_tells x.place p) [ inl t ↦ absurd (n t.1) | inr f ↦ rw f.0 ]

  pub events_at-above : (p : ℕ) (xs : List (Event Er)) → furthest xs < p → events_at p xs ≡ []
  events_at-above p [] h = refl
  events_at-above p (x ∷ xs) h = events_at-other p x xs (λ e. omega arith) ∙ events_at-above p xs (omega arith)

  -- there is a first event at the greatest place
  pub furthest_first : (x : Event Er) (xs : List (Event Er)) → (e : Event Er) × (es : List (Event Er)) × (events_at (furthest (x ∷ xs)) (x ∷ xs) ≡ e ∷ es) × (e.place ≡ furthest (x ∷ xs))
  furthest_first x [] = (x, [], events_at-same (max x.place 0) x [] (omega arith), omega arith)
  furthest_first x (y ∷ ys) =
      elim (eqb_tells x.place (furthest (x ∷ y ∷ ys))) [
        | inl t ↦ (x, _, events_at-same (furthest (x ∷ y ∷ ys)) x (y ∷ ys) t.1, t.1)
        | inr f ↦
            let further : furthest (x ∷ y ∷ ys) ≡ furthest (y ∷ ys) = omega (arith, f.1) in
            let h = furthest_first y ys in
            (h.0, h.1, events_at-other (furthest (x ∷ y ∷ ys)) x (y ∷ ys) f.1 ∙ ap (λ p. events_at p (y ∷ ys)) further ∙ h.2, h.3 ∙ sym further)
      ]

module _ {Er : Type 0} (merged : Er → Er → Er) where
  -- the events of a first part count as the one that is kept of them
  pub primary-append : (xs ys : List (Event Er)) → primary merged (option_to_list (primary merged xs) ++ ys) ≡ primary merged (xs ++ ys)
  unfolding primary
  primary-append [] ys = refl
  primary-append (x ∷ xs) ys =
      let first = furthest_first x xs in
      let e = first.0 in
      let es = first.1 in
      let k : Event Er = record { place = e.place; error = fold (λ a z. merged a z.error) e.error es } in
      let top = max (furthest (x ∷ xs)) (furthest ys) in
      let whole : furthest ((x ∷ xs) ++ ys) ≡ top = furthest-append (x ∷ xs) ys in
      let kept : primary merged (x ∷ xs) ≡ Some k = ap (merged_left merged) first.2 in
      let kept_top : furthest (k ∷ ys) ≡ top = ap (λ p. max p (furthest ys)) first.3 in
      let left : primary merged (option_to_list (primary merged (x ∷ xs)) ++ ys) ≡ merged_left merged (events_at top (k ∷ ys)) =
      ap (λ o. primary merged (option_to_list o ++ ys)) kept
      ∙ ap (λ p. merged_left merged (events_at p (k ∷ ys))) kept_top in
      let right : primary merged ((x ∷ xs) ++ ys) ≡ merged_left merged (events_at top (x ∷ xs) ++ events_at top ys) =
      ap (λ p. merged_left merged (events_at p ((x ∷ xs) ++ ys))) whole
      ∙ ap (merged_left merged) (events_at-append top (x ∷ xs) ys) in
      let middle : merged_left merged (events_at top (k ∷ ys)) ≡ merged_left merged (events_at top (x ∷ xs) ++ events_at top ys) =
      elim (eqb_tells (furthest (x ∷ xs)) top) [
        | inl t ↦
            let at_top : events_at top (x ∷ xs) ≡ e ∷ es = ap (λ p. events_at p (x ∷ xs)) (sym t.1) ∙ first.2 in
            ap (merged_left merged) (events_at-same top k ys (first.3 ∙ t.1))
            ∙ ap (λ a. Some (record { place = e.place; error = a })) (sym (fold-append (λ a z. merged a z.error) e.error es (events_at top ys)))
            ∙ ap (λ zs. merged_left merged (zs ++ events_at top ys)) (sym at_top)
        | inr f ↦
            ap (merged_left merged) (events_at-other top k ys (λ q. f.1 (sym first.3 ∙ q)))
            ∙ ap (λ zs. merged_left merged (zs ++ events_at top ys)) (sym (events_at-above top (x ∷ xs) (omega (arith, f.1))))
      ] in
      left ∙ middle ∙ sym right

  -- what is kept is at the place of an event
  pub primary-place : (xs : List (Event Er)) (k : Event Er) → primary merged xs ≡ Some k → k.place ≡ furthest xs
  unfolding primary
  primary-place [] k h = cc
  primary-place (x ∷ xs) k h =
      let first = furthest_first x xs in
      let k' : Event Er = record { place = first.0.place; error = fold (λ a z. merged a z.error) first.0.error first.1 } in
      let kept : Some k' ≡ Some k = sym (ap (merged_left merged) first.2) ∙ h in
      let same : k' ≡ k = cc in
      sym (ap (λ (z : Event Er). z.place) same) ∙ first.3

  pub has_event_at-left : (p : ℕ) (xs ys : List (Event Er)) → HasEventAt p xs → HasEventAt p (xs ++ ys)
  has_event_at-left p [] ys h = absurd h
  has_event_at-left p (x ∷ xs) ys (inl h) = inl h
  has_event_at-left p (x ∷ xs) ys (inr h) = inr (has_event_at-left p xs ys h)

  pub has_event_at-right : (p : ℕ) (xs ys : List (Event Er)) → HasEventAt p ys → HasEventAt p (xs ++ ys)
  has_event_at-right p [] ys h = h
  has_event_at-right p (x ∷ xs) ys h = inr (has_event_at-right p xs ys h)

  pub has_event_at-furthest : (x : Event Er) (xs : List (Event Er)) → HasEventAt (furthest (x ∷ xs)) (x ∷ xs)
  has_event_at-furthest x [] = inl (omega arith)
  has_event_at-furthest x (y ∷ ys) =
      elim (eqb_tells x.place (furthest (x ∷ y ∷ ys))) [
        | inl t ↦ inl t.1
        | inr f ↦
            let further : furthest (y ∷ ys) ≡ furthest (x ∷ y ∷ ys) = omega (arith, f.1) in
            inr (subst (λ p. HasEventAt p (y ∷ ys)) further (has_event_at-furthest y ys))
      ]

  -- where the one that is kept of a first part is at a place, an event of that part is
  pub has_event_at-kept : (p : ℕ) (xs ys : List (Event Er)) → HasEventAt p (option_to_list (primary merged xs) ++ ys) → HasEventAt p (xs ++ ys)
  unfolding primary
  has_event_at-kept p [] ys h = h
  has_event_at-kept p (x ∷ xs) ys h =
      let first = furthest_first x xs in
      let k : Event Er = record { place = first.0.place; error = fold (λ a z. merged a z.error) first.0.error first.1 } in
      let kept : primary merged (x ∷ xs) ≡ Some k = ap (merged_left merged) first.2 in
      let h2 : HasEventAt p (k ∷ ys) = subst (λ o. HasEventAt p (option_to_list o ++ ys)) kept h in
      elim h2 [
        | inl e ↦ has_event_at-left p (x ∷ xs) ys (subst (λ q. HasEventAt q (x ∷ xs)) (sym first.3 ∙ e) (has_event_at-furthest x xs))
        | inr r ↦ has_event_at-right p (x ∷ xs) ys r
      ]

  pub primary-one : (e : Event Er) → primary merged (e ∷ []) ≡ Some e
  unfolding primary
  primary-one e = ap (merged_left merged) (events_at-same (max e.place 0) e [] (omega arith))

  pub primary-further : (k e : Event Er) → k.place < e.place → primary merged (k ∷ e ∷ []) ≡ Some e
  unfolding primary
  primary-further k e h =
      let top = max k.place (max e.place 0) in
      ap (merged_left merged) (events_at-other top k (e ∷ []) (λ q. omega arith) ∙ events_at-same top e [] (omega arith))

  pub primary-nearer : (k e : Event Er) → e.place < k.place → primary merged (k ∷ e ∷ []) ≡ Some k
  unfolding primary
  primary-nearer k e h =
      let top = max k.place (max e.place 0) in
      ap (merged_left merged) (events_at-same top k (e ∷ []) (omega arith) ∙ ap (λ es. k ∷ es) (events_at-other top e [] (λ q. omega arith)))

  pub primary-here : (k e : Event Er) → k.place ≡ e.place → primary merged (k ∷ e ∷ []) ≡ Some (record { place = e.place; error = merged k.error e.error })
  unfolding primary
  primary-here k e h =
      let top = max k.place (max e.place 0) in
      ap (merged_left merged) (events_at-same top k (e ∷ []) (omega arith) ∙ ap (λ es. k ∷ es) (events_at-same top e [] (omega arith)))
      ∙ ap (λ p. Some (record { place = p; error = merged k.error e.error })) h

  -- the kept error, after one more event
  pub kept-none : (o : Option (Event Er)) (e : Event Er) → o ≡ None → Some e ≡ primary merged (option_to_list o ++ e ∷ [])
  kept-none o e h = sym (ap (λ q. primary merged (option_to_list q ++ e ∷ [])) h ∙ primary-one e)

  pub kept-further : (o : Option (Event Er)) (k e : Event Er) → o ≡ Some k → k.place < e.place → Some e ≡ primary merged (option_to_list o ++ e ∷ [])
  kept-further o k e h n = sym (ap (λ q. primary merged (option_to_list q ++ e ∷ [])) h ∙ primary-further k e n)

  pub kept-nearer : (o : Option (Event Er)) (k e : Event Er) → o ≡ Some k → e.place < k.place → Some k ≡ primary merged (option_to_list o ++ e ∷ [])
  kept-nearer o k e h n = sym (ap (λ q. primary merged (option_to_list q ++ e ∷ [])) h ∙ primary-nearer k e n)

  pub kept-here : (o : Option (Event Er)) (k e : Event Er) (m : Er) → o ≡ Some k → k.place ≡ e.place
      → m ≡ merged k.error e.error
      → Some (record { place = e.place; error = m }) ≡ primary merged (option_to_list o ++ e ∷ [])
  kept-here o k e m h n q = ap (λ a. Some (record { place = e.place; error = a })) q ∙ sym (ap (λ q. primary merged (option_to_list q ++ e ∷ [])) h ∙ primary-here k e n)

  pub kept-same : (o : Option (Event Er)) → o ≡ primary merged (option_to_list o ++ [])
  unfolding primary
  kept-same None = refl
  kept-same (Some e) = sym (primary-one e)
