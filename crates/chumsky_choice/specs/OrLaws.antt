-- Choice among three, and two choices between two.
use Rattle.std.proofs.Common.{◌≡◌, [], ◌∷◌, ◌++◌, ◌⊎◌, ap, ◌∙◌, refl, sym, subst, inl, inr, append_assoc}
use Rattle.chumsky_input.specs.declared.stop.Stop.TheVariants.{Memory}
use Rattle.chumsky_input.specs.Outcome.{Meaning, Beginning, Outcome, Verdict, Yes, No, Halt, Clash}
use Rattle.chumsky_parser.specs.Choice.{GoneOn, ElseFrom, AttemptFrom, FirstFrom, FirstOf, OrElse}
use Rattle.chumsky_parser.specs.ChoiceLaws.{first_from-attempts, first_from-only, attempts-first_from}
use Rattle.chumsky_combinator.specs.Compared.{MeansNoMore}

module _ {Tok Cx St Er V : Type 0} where
  -- each outcome of the one is one of the other, refusals for memory aside
  abbrev pub MeansNoMoreButMemory : Meaning Tok Cx St Er V → Meaning Tok Cx St Er V → Type 0
  MeansNoMoreButMemory m n = (b : Beginning Tok Cx St) (o : Outcome V Er St) → (o.verdict ≡ Halt Memory → ⊥) → m b o → n b o

module _ {V Er : Type 0} where
  is_no : (v : Verdict V Er) → (v ≡ No) ⊎ (v ≡ No → ⊥)
  is_no (Yes v) = inr (λ e. cc)
  is_no No = inl refl
  is_no (Halt s) = inr (λ e. cc)
  is_no (Clash x) = inr (λ e. cc)

module _ {V Er St : Type 0} where
  same_verdict : (o p : Outcome V Er St) → o ≡ p → o.verdict ≡ p.verdict
  same_verdict o p e = ap (λ (x : Outcome V Er St). x.verdict) e

module _ {Tok Cx St Mk Er V : Type 0} (back : St → Mk → St) (safe : Type 0) (mark : Mk) where
  module _ (second : Meaning Tok Cx St Er V) (b : Beginning Tok Cx St) (p o : Outcome V Er St) where
    over : (v : Verdict V Er) → (v ≡ No → ⊥) → ElseFrom back safe mark v second b p o → o ≡ p
    over (Yes v) n e = e
    over No n e = absurd (n refl)
    over (Halt s) n e = e
    over (Clash x) n e = e

    kept : (v : Verdict V Er) → (v ≡ No → ⊥) → o ≡ p → ElseFrom back safe mark v second b p o
    kept (Yes v) n e = e
    kept No n e = absurd (n refl)
    kept (Halt s) n e = e
    kept (Clash x) n e = e

    gone : p.verdict ≡ No → ElseFrom back safe mark p.verdict second b p o → GoneOn back safe mark p second b o
    gone e h = subst (λ v. ElseFrom back safe mark v second b p o) e h

    left : p.verdict ≡ No → GoneOn back safe mark p second b o → ElseFrom back safe mark p.verdict second b p o
    left e h = subst (λ v. ElseFrom back safe mark v second b p o) (sym e) h

  -- another second, with the outcomes of the one
  attempt_weaker : (first m n : Meaning Tok Cx St Er V) → MeansNoMore m n → MeansNoMore (AttemptFrom back safe mark first m) (AttemptFrom back safe mark first n)
  attempt_weaker first m n w b o h =
      elim (is_no h.attempt.verdict) [
        | inl e
            ↦ record {
              attempt = h.attempt;
              meant = h.meant;
              then_else =
                  left n b h.attempt o e
                  (elim (gone m b h.attempt o e h.then_else) [ inl r ↦ inl r | inr t ↦ inr (t.0, w _ t.0 t.1, t.2) ]);
            }
        | inr e ↦ record { attempt = h.attempt; meant = h.meant; then_else = kept n b h.attempt o h.attempt.verdict e (over m b h.attempt o h.attempt.verdict e h.then_else) }
      ]

  module _ (first second third : Meaning Tok Cx St Er V) (b : Beginning Tok Cx St) (o : Outcome V Er St) where
    -- the first two stand, and the third is not tried
    early : AttemptFrom back safe mark first second b o → (o.verdict ≡ No → ⊥) → AttemptFrom back safe mark (AttemptFrom back safe mark first second) third b o
    early h n = record { attempt = o; meant = h; then_else = kept third b o o o.verdict n refl }

    -- the first says no, and so does the second
    late : (p s q : Outcome V Er St) → first b p → p.verdict ≡ No → second (record b { state = back p.state mark }) s → s.verdict ≡ No
        → GoneOn back safe mark s third (record b { state = back p.state mark }) q
        → o ≡ record q { events = p.events ++ q.events }
        → AttemptFrom back safe mark (AttemptFrom back safe mark first second) third b o
    late p s q h e k f g l =
        let i : Outcome V Er St = record s { events = p.events ++ s.events } in
        record {
          attempt = i;
          meant = record { attempt = p; meant = h; then_else = left second b p i e (inr (s, k, refl)) };
          then_else = left third b i o f (elim g [
            | inl r ↦ inl (r.0, same_verdict o _ l ∙ r.1, ap (λ (x : Outcome V Er St). x.state) l ∙ r.2)
            | inr t ↦ inr (
              t.0,
              t.1,
              l ∙ ap (λ (x : Outcome V Er St). record x { events = p.events ++ x.events }) t.2 ∙ ap (λ z. record t.0 { events = z }) (sym (append_assoc p.events s.events t.0.events)),
            )
          ]);
        }

    attempts-left : AttemptFrom back safe mark first (AttemptFrom back safe mark second third) b o → AttemptFrom back safe mark (AttemptFrom back safe mark first second) third b o
    attempts-left h =
        let p = h.attempt in
        elim (is_no p.verdict) [
          | inr n ↦
              let e : o ≡ p = over (AttemptFrom back safe mark second third) b p o p.verdict n h.then_else in
              early (record { attempt = p; meant = h.meant; then_else = kept second b p o p.verdict n e }) (λ z. n (sym (same_verdict o p e) ∙ z))
          | inl e ↦ elim (gone (AttemptFrom back safe mark second third) b p o e h.then_else) [
            | inl r ↦ early (record { attempt = p; meant = h.meant; then_else = left second b p o e (inl r) }) (λ z. (let no : ⊥ = cc (r.1, z) in absurd no))
            | inr t ↦ elim (is_no t.1.attempt.verdict) [
              | inr n ↦
                  let f : t.0 ≡ t.1.attempt = over third (record b { state = back p.state mark }) t.1.attempt t.0 t.1.attempt.verdict n t.1.then_else in
                  early (record { attempt = p; meant = h.meant; then_else = left second b p o e (inr (t.0, subst (second (record b { state = back p.state mark })) (sym f) t.1.meant, t.2)) })
                  (λ z. n (sym (same_verdict o _ t.2 ∙ same_verdict t.0 t.1.attempt f) ∙ z))
              | inl f ↦ late p t.1.attempt t.0 h.meant e t.1.meant f (gone third (record b { state = back p.state mark }) t.1.attempt t.0 f t.1.then_else) t.2
            ]
          ]
        ]

    -- what the third gave, after two that say no
    third_stands : (p q i : Outcome V Er St) → first b p → p.verdict ≡ No → second (record b { state = back p.state mark }) q → i ≡ record q { events = p.events ++ q.events } → i.verdict ≡ No
        → (o.verdict ≡ Halt Memory → ⊥) → GoneOn back safe mark i third b o → AttemptFrom back safe mark first (AttemptFrom back safe mark second third) b o
    third_stands p q i h e k l f n g =
        elim g [
          | inl r ↦ absurd (n r.1)
          | inr t ↦
              let at : third (record b { state = back q.state mark }) t.0 = subst (λ (x : Outcome V Er St). third (record b { state = back x.state mark }) t.0) l t.1 in
              let both : Outcome V Er St = record t.0 { events = q.events ++ t.0.events } in
              let joined : o ≡ record both { events = p.events ++ both.events } =
              t.2 ∙ ap (λ (x : Outcome V Er St). record t.0 { events = x.events ++ t.0.events }) l ∙ ap (λ z. record t.0 { events = z }) (append_assoc p.events q.events t.0.events) in
              let second_no : q.verdict ≡ No = sym (same_verdict i _ l) ∙ f in
              record {
                attempt = p;
                meant = h;
                then_else = left (AttemptFrom back safe mark second third) b p o e
                    (inr (both, record { attempt = q; meant = k; then_else = left third (record b { state = back p.state mark }) q both second_no (inr (t.0, at, refl)) }, joined));
              }
        ]

    attempts-right : (o.verdict ≡ Halt Memory → ⊥)
        → AttemptFrom back safe mark (AttemptFrom back safe mark first second) third b o
        → AttemptFrom back safe mark first (AttemptFrom back safe mark second third) b o
    attempts-right n h =
        let i = h.attempt in
        let p = h.meant.attempt in
        elim (is_no p.verdict) [
          | inr m ↦
              let e : i ≡ p = over second b p i p.verdict m h.meant.then_else in
              let f : o ≡ i = over third b i o i.verdict (λ z. m (sym (same_verdict i p e) ∙ z)) h.then_else in
              record { attempt = p; meant = h.meant.meant; then_else = kept (AttemptFrom back safe mark second third) b p o p.verdict m (f ∙ e) }
          | inl e ↦ elim (gone second b p i e h.meant.then_else) [
            | inl r ↦
                let f : o ≡ i = over third b i o i.verdict (λ z. (let no : ⊥ = cc (r.1, z) in absurd no)) h.then_else in
                absurd (n (same_verdict o i f ∙ r.1))
            | inr t ↦ elim (is_no i.verdict) [
              | inl f ↦ third_stands p t.0 i h.meant.meant e t.1 t.2 f n (gone third b i o f h.then_else)
              | inr m ↦
                  let f : o ≡ i = over third b i o i.verdict m h.then_else in
                  record {
                    attempt = p;
                    meant = h.meant.meant;
                    then_else = left (AttemptFrom back safe mark second third) b p o e
                        (inr (
                          t.0,
                          record {
                            attempt = t.0;
                            meant = t.1;
                            then_else =
                                kept third (record b { state = back p.state mark }) t.0 t.0 t.0.verdict
                                (λ z. m (same_verdict i _ t.2 ∙ z)) refl;
                          },
                          f ∙ t.2,
                        ));
                  }
            ]
          ]
        ]

  module _ (first second third : Meaning Tok Cx St Er V) where
    from-attempts : MeansNoMore (FirstFrom back safe mark first (second ∷ third ∷ [])) (AttemptFrom back safe mark first (AttemptFrom back safe mark second third))
    from-attempts b o h =
        attempt_weaker first (FirstFrom back safe mark second (third ∷ [])) (AttemptFrom back safe mark second third)
        (λ c q k. attempt_weaker second (FirstFrom back safe mark third []) third (first_from-only back safe mark third) c q (first_from-attempts back safe mark second third [] c q k))
        b o (first_from-attempts back safe mark first second (third ∷ []) b o h)

    attempts-from : MeansNoMore (AttemptFrom back safe mark first (AttemptFrom back safe mark second third)) (FirstFrom back safe mark first (second ∷ third ∷ []))
    attempts-from b o h =
        attempts-first_from back safe mark first second (third ∷ []) b o
        (attempt_weaker first (AttemptFrom back safe mark second third) (FirstFrom back safe mark second (third ∷ []))
        (λ c q k. attempts-first_from back safe mark second third [] c q (attempt_weaker second third (FirstFrom back safe mark third []) (λ d r l. record { k = 0; stands = (l, λ z. refl) }) c q k))
        b o h)

module _ {Tok Cx St Mk Er V : Type 0} (mark : St → Mk) (back : St → Mk → St) (safe : Type 0) (first second third : Meaning Tok Cx St Er V) where
  pub choice-in-or : MeansNoMore (FirstOf mark back safe first (second ∷ third ∷ [])) (OrElse mark back safe (OrElse mark back safe first second) third)
  choice-in-or b o m =
      elim m.cases [
        | inl r ↦ record { cases = inl r }
        | inr t ↦
            let l = attempts-left back safe (mark b.state) first second third b o (from-attempts back safe (mark b.state) first second third b o t) in
            record { cases = inr (record { attempt = l.attempt; meant = record { cases = inr l.meant }; then_else = l.then_else }) }
      ]

  refused : (v : Verdict V Er) (b : Beginning Tok Cx St) (p o : Outcome V Er St) → v ≡ Halt Memory → ElseFrom back safe (mark b.state) v third b p o → o ≡ p
  refused v b p o e h = over back safe (mark b.state) third b p o v (λ z. (let no : ⊥ = cc (e, z) in absurd no)) h

  pub or-in-choice : MeansNoMoreButMemory (OrElse mark back safe (OrElse mark back safe first second) third) (FirstOf mark back safe first (second ∷ third ∷ []))
  or-in-choice b o n m =
      elim m.cases [
        | inl r ↦ absurd (n r.1)
        | inr t ↦ elim t.meant.cases [
          | inl r ↦ absurd (n (same_verdict o t.attempt (refused t.attempt.verdict b t.attempt o r.1 t.then_else) ∙ r.1))
          | inr u
              ↦ record {
                cases = inr
                    (attempts-from back safe (mark b.state) first second third b o
                    (attempts-right back safe (mark b.state) first second third b o n
                    (record { attempt = t.attempt; meant = u; then_else = t.then_else })));
              }
        ]
      ]
