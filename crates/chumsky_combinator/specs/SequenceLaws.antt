-- What compares two sequences.
use Rattle.std.proofs.Common.{◌≡◌, ℕ, false, Option, Some, None, List, [], option_map, refl, sym, ◌∙◌, ap, subst, append_assoc}
use Rattle.std.proofs.lemmas.List.{append-nil}
use Rattle.chumsky_input.specs.Outcome.{Event, Meaning, Beginning, Outcome, Verdict, Yes, No, Halt, Clash, SameValue, IsAnswer, Agreeing}
use Rattle.chumsky_parser.specs.Chained.{from, after, retold, both, Follows, Chained, Given, Asked, Sequence}
use Rattle.chumsky_parser.specs.Ignoring.{IgnoringFirst}
use Rattle.chumsky_parser.specs.Laws.{chained-agrees, given-agrees}
use Rattle.chumsky_combinator.specs.Compared.{put_through, shown_as, ShownAs, AgreesAs, regroup, ungroup}

module _ {Tok Cx St Er V W : Type 0} (v : Option V) (next : Option V → Meaning Tok Cx St Er W) where
  -- what is given at once, and then what follows it
  given-then : (b : Beginning Tok Cx St) (o : Outcome W Er St) → Chained (Given v) next b o → next v b o
  given-then b o m =
      let f : Follows {Er = Er} (Yes v) next b (record { verdict = Yes v; end = b.start; state = b.state; events = []; emitted = [] }) o =
      subst (λ (p : Outcome V Er St). Follows p.verdict next b p o) m.meant m.follows in
      subst (next v b) (sym f.2) f.1

  then-given : (b : Beginning Tok Cx St) (o : Outcome W Er St) → next v b o → Chained (Given v) next b o
  then-given b o m = record { first = record { verdict = Yes v; end = b.start; state = b.state; events = []; emitted = [] }; meant = refl; follows = (o, m, refl) }

module _ {Tok Cx St Er V : Type 0} (part : Meaning Tok Cx St Er V) where
  kept_as_given : (b : Beginning Tok Cx St) (v : Verdict V Er) (end : ℕ) (state : St) (events : List (Event Er)) (emitted : List Er)
      → let o : Outcome V Er St = record { verdict = v; end = end; state = state; events = events; emitted = emitted } in
      Follows v Given b o o
  kept_as_given b (Yes v) end state events emitted = (record { verdict = Yes v; end = end; state = state; events = []; emitted = [] }, refl, rw (append-nil events, append-nil emitted) refl)
  kept_as_given b No end state events emitted = refl
  kept_as_given b (Halt s) end state events emitted = refl
  kept_as_given b (Clash e) end state events emitted = refl

  -- a part is itself and then its value given
  part-given : (b : Beginning Tok Cx St) (o : Outcome V Er St) → part b o → Chained part Given b o
  part-given b o m = record { first = o; meant = m; follows = kept_as_given b o.verdict o.end o.state o.events o.emitted }

module _ {Tok Cx St Er V W X : Type 0} (f : W → X) (part : Meaning Tok Cx St Er V) (next : Option V → Meaning Tok Cx St Er W) (other : Option V → Meaning Tok Cx St Er X) where
  chained_shown : ((v : Option V) → ShownAs f (next v) (other v))
      → (b : Beginning Tok Cx St) (o : Outcome W Er St) (v : Verdict V Er) (p : Outcome V Er St)
      → Follows v next b p o → Follows v other b p (shown_as f o)
  chained_shown h b o (Yes v) p m = (shown_as f m.0, h v (from b p) m.0 m.1, ap (shown_as f) m.2)
  chained_shown h b o No p m = ap (shown_as f) m
  chained_shown h b o (Halt s) p m = ap (shown_as f) m
  chained_shown h b o (Clash e) p m = ap (shown_as f) m

  -- what follows may be shown by what follows in the other
  chained-shown : ((v : Option V) → ShownAs f (next v) (other v)) → ShownAs f (Chained part next) (Chained part other)
  chained-shown h b o m = record { first = m.first; meant = m.meant; follows = chained_shown h b o m.first.verdict m.first m.follows }

module _ {Tok Cx St Er V W X : Type 0} (last : Option W → Meaning Tok Cx St Er X) where
  joined : (p : Outcome V Er St) (q : Outcome W Er St) (r : Outcome X Er St) → after (after p q) r ≡ after p (after q r)
  joined p q r = cc (append_assoc p.events q.events r.events, append_assoc p.emitted q.emitted r.emitted)

  inwards : (b : Beginning Tok Cx St) (p : Outcome V Er St) (q : Outcome W Er St) (o : Outcome X Er St) (w : Verdict W Er)
      → Follows w last b (after p q) o → (r : Outcome X Er St) × Follows w last (from b p) q r × (o ≡ after p r)
  inwards b p q o (Yes w) m = (after q m.0, (m.0, m.1, refl), m.2 ∙ joined p q m.0)
  inwards b p q o No m = (retold No q, refl, m)
  inwards b p q o (Halt s) m = (retold (Halt s) q, refl, m)
  inwards b p q o (Clash e) m = (retold (Clash e) q, refl, m)

  outwards : (b : Beginning Tok Cx St) (p : Outcome V Er St) (q : Outcome W Er St) (r : Outcome X Er St) (w : Verdict W Er) → Follows w last (from b p) q r → Follows w last b (after p q) (after p r)
  outwards b p q r (Yes w) m = (m.0, m.1, ap (after p) m.2 ∙ sym (joined p q m.0))
  outwards b p q r No m = ap (after p) m
  outwards b p q r (Halt s) m = ap (after p) m
  outwards b p q r (Clash e) m = ap (after p) m

module _ {Tok Cx St Er V W X : Type 0} (part : Meaning Tok Cx St Er V) (next : Option V → Meaning Tok Cx St Er W) (last : Option W → Meaning Tok Cx St Er X) where
  to_right : (b : Beginning Tok Cx St) (o : Outcome X Er St) (v : Verdict V Er) (p : Outcome V Er St) (q : Outcome W Er St)
      → Follows v next b p q → Follows q.verdict last b q o → Follows v (λ v. Chained (next v) last) b p o
  to_right b o (Yes v) p q f k =
      let t = inwards last b p f.0 o f.0.verdict (subst (λ (z : Outcome W Er St). Follows z.verdict last b z o) f.2 k) in
      (t.0, record { first = f.0; meant = f.1; follows = t.1 }, t.2)
  to_right b o No p q f k = subst (λ (z : Outcome W Er St). Follows z.verdict last b z o) f k
  to_right b o (Halt s) p q f k = subst (λ (z : Outcome W Er St). Follows z.verdict last b z o) f k
  to_right b o (Clash e) p q f k = subst (λ (z : Outcome W Er St). Follows z.verdict last b z o) f k

  -- parts grouped from the left are parts grouped from the right
  grouped-right : (b : Beginning Tok Cx St) (o : Outcome X Er St) → Chained (Chained part next) last b o → Chained part (λ v. Chained (next v) last) b o
  grouped-right b o m = record { first = m.meant.first; meant = m.meant.meant; follows = to_right b o m.meant.first.verdict m.meant.first m.first m.meant.follows m.follows }

  to_left : (b : Beginning Tok Cx St) (o : Outcome X Er St) (v : Verdict V Er) (end : ℕ) (state : St) (events : List (Event Er)) (emitted : List Er)
      → let p : Outcome V Er St = record { verdict = v; end = end; state = state; events = events; emitted = emitted } in
      part b p → Follows v (λ v. Chained (next v) last) b p o → Chained (Chained part next) last b o
  to_left b o (Yes v) end state events emitted m f =
      let p : Outcome V Er St = record { verdict = Yes v; end = end; state = state; events = events; emitted = emitted } in
      let k = f.1 in
      record {
        first = after p k.first;
        meant = record { first = p; meant = m; follows = (k.first, k.meant, refl) };
        follows =
            subst (Follows k.first.verdict last b (after p k.first)) (sym f.2)
            (outwards last b p k.first f.0 k.first.verdict k.follows);
      }
  to_left b o No end state events emitted m f =
      record {
        first = retold No o;
        meant =
            record {
              first = record { verdict = No; end = end; state = state; events = events; emitted = emitted };
              meant = m;
              follows = rw f refl;
            };
        follows = rw f refl;
      }
  to_left b o (Halt s) end state events emitted m f =
      record {
        first = retold (Halt s) o;
        meant =
            record {
              first = record { verdict = Halt s; end = end; state = state; events = events; emitted = emitted };
              meant = m;
              follows = rw f refl;
            };
        follows = rw f refl;
      }
  to_left b o (Clash e) end state events emitted m f =
      record {
        first = retold (Clash e) o;
        meant =
            record {
              first = record { verdict = Clash e; end = end; state = state; events = events; emitted = emitted };
              meant = m;
              follows = rw f refl;
            };
        follows = rw f refl;
      }

  -- and the other way round
  grouped-left : (b : Beginning Tok Cx St) (o : Outcome X Er St) → Chained part (λ v. Chained (next v) last) b o → Chained (Chained part next) last b o
  grouped-left b o m = to_left b o m.first.verdict m.first.end m.first.state m.first.events m.first.emitted m.meant m.follows

module _ {U V W : Type 0} where
  regroup-both : (u : Option U) (v : Option V) (w : Option W) → option_map regroup (both (both u v) w) ≡ both u (both v w)
  regroup-both (Some u) (Some v) (Some w) = refl
  regroup-both (Some u) (Some v) None = refl
  regroup-both (Some u) None w = refl
  regroup-both None v w = refl

  ungroup-both : (u : Option U) (v : Option V) (w : Option W) → option_map ungroup (both u (both v w)) ≡ both (both u v) w
  ungroup-both (Some u) (Some v) (Some w) = refl
  ungroup-both (Some u) (Some v) None = refl
  ungroup-both (Some u) None w = refl
  ungroup-both None v w = refl

module _ {Tok Cx St Er V W : Type 0} (f : V → W) (v : Option V) (w : Option W) where
  given-shown : option_map f v ≡ w → ShownAs {Tok = Tok} {Cx = Cx} {St = St} {Er = Er} f (Given v) (Given w)
  given-shown e b o m = rw (m, e) refl

module _ {Tok Cx St Er U V W : Type 0} (first : Meaning Tok Cx St Er U) (second : Meaning Tok Cx St Er V) (third : Meaning Tok Cx St Er W) where
  -- a sequence of three, grouped from the left, is one grouped from the right
  pub sequence-regrouped : ShownAs regroup (Sequence (Sequence first second) third) (Sequence first (Sequence second third))
  sequence-regrouped b o m =
      chained-shown regroup first _ _
      (λ u c p h. grouped-left second _ _ c _
      (chained-shown regroup second _ _
      (λ v d q k. grouped-left third _ _ d _
      (chained-shown regroup third _ _
      (λ w e r l. then-given (both v w) (λ y. Given (both u y)) e _ (given-shown regroup _ _ (regroup-both u v w) e r l))
      d q (given-then (both u v) (λ x. Chained third (λ w. Given (both x w))) d q k)))
      c p (grouped-right second _ _ c p h)))
      b o (grouped-right first _ _ b o m)

  -- and the other way round
  pub sequence-ungrouped : ShownAs ungroup (Sequence first (Sequence second third)) (Sequence (Sequence first second) third)
  sequence-ungrouped b o m =
      grouped-left first _ _ b _
      (chained-shown ungroup first _ _
      (λ u c p h. grouped-left second _ _ c _
      (chained-shown ungroup second _ _
      (λ v d q k. then-given (both u v) (λ x. Chained third (λ w. Given (both x w))) d _
      (chained-shown ungroup third _ _
      (λ w e r l. given-shown ungroup _ _ (ungroup-both u v w) e r (given-then (both v w) (λ y. Given (both u y)) e r l))
      d q (grouped-right third _ _ d q k)))
      c p (grouped-right second _ _ c p h)))
      b o m)

module _ {V W : Type 0} (f : V → W) where
  still-answers : {Er : Type 0} (v : Verdict V Er) → IsAnswer v → IsAnswer (put_through f v)
  still-answers (Yes v) a = a
  still-answers No a = a
  still-answers (Halt s) a = a
  still-answers (Clash e) a = a

module _ {V W : Type 0} (same : W → W → Type 0) where
  second-same : (v : Option V) (w w' : Option W) → SameValue same w w' → SameValue same (option_map (λ (p : V × W). p.1) (both v w)) w'
  second-same (Some v) (Some w) w' s = s
  second-same (Some v) None w' s = tt
  second-same None w w' s = tt

module _ {Tok Cx St Er V W : Type 0} (first : Meaning Tok Cx St Er V) (second : Meaning Tok Cx St Er W) (sv : V → V → Type 0) (sw : W → W → Type 0) where
  -- a sequence, its value being the second part's, agrees with its second part after the first without its value
  pub sequence-second_agrees : Agreeing sv first first → Agreeing sw second second → AgreesAs (λ (p : V × W). p.1) sw (Sequence first second) (IgnoringFirst first second)
  sequence-second_agrees f s b c o q alike m n a z =
      let shown =
      chained-shown (λ (p : V × W). p.1) first _ _
      (λ v d p h. chained-shown (λ (p : V × W). p.1) second _ _
      (λ w e r k. given-shown (λ (p : V × W). p.1) (both v w) (option_map (λ (p : V × W). p.1) (both v w)) refl e r k)
      d p h)
      b o m in
      chained-agrees first (Asked false first) (λ v. Chained second (λ w. Given (option_map (λ (p : V × W). p.1) (both v w)))) (λ _. second) sv sw
      (λ b c o q alike m n. f b (record c { wanted = false }) o q (record { tokens = alike.tokens; start = alike.start; context = alike.context; state = alike.state }) m n.run)
      (λ v v' e b c o q alike m n. chained-agrees second second _ Given sw sw s
      (λ w w' d. given-agrees sw (option_map (λ (p : V × W). p.1) (both v w)) w' (second-same sw v w w' d)) b c o
      q alike m (part-given second c q n))
      b c (shown_as (λ (p : V × W). p.1) o) q alike shown n (still-answers (λ (p : V × W). p.1) o.verdict a) z
