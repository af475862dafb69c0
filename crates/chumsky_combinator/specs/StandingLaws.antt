-- That two answers of an ordered choice are the same by the alternative that stands.
use Rattle.std.proofs.Common.{◌≡◌, ℕ, zero, suc, List, [], ◌∷◌, refl, sym, ap, subst, arith, inl, inr}
use Rattle.chumsky_input.specs.Outcome.{Meaning, Beginning, Outcome, Verdict, Yes, No, Halt, Clash, SameAnswer, Alike, Agree, Agreeing, IsAnswer}
use Rattle.chumsky_parser.specs.Choice.{ElseFrom, AttemptFrom, Stands, FirstFrom, OneOrFirst, FirstOf, OrElse}
use Rattle.chumsky_parser.specs.ChoiceLaws.{AllAgree, none-agree, and-agrees, attempts-first_from}
use Rattle.chumsky_combinator.specs.Standing.{same_of, BothStand, SameByStanding}

module _ {V Er : Type 0} (s : V → V → Type 0) where
  -- an answer that is no no is not the same as a no, nor is a no the same as it
  no_is_no : (v : Verdict V Er) → IsAnswer v → SameAnswer s v No → v ≡ No
  no_is_no (Yes v) a h = absurd h
  no_is_no No a h = refl
  no_is_no (Halt z) a h = absurd a
  no_is_no (Clash z) a h = absurd a

  no_is_no_too : (v : Verdict V Er) → IsAnswer v → SameAnswer s No v → v ≡ No
  no_is_no_too (Yes v) a h = absurd h
  no_is_no_too No a h = refl
  no_is_no_too (Halt z) a h = absurd a
  no_is_no_too (Clash z) a h = absurd a

module _ {Tok Cx St Mk Er V : Type 0} (back : St → Mk → St) (safe : Type 0) (mark : Mk) where
  -- the same, by one mark
  record StandBoth (s : V → V → Type 0) (ss : List (V → V → Type 0)) (first : Meaning Tok Cx St Er V)
      (others : List (Meaning Tok Cx St Er V)) (b c : Beginning Tok Cx St) (o q : Outcome V Er St) : Type 0 where
    k : ℕ
    stands : Stands back safe mark k first others b o
    other_stands : Stands back safe mark k first others c q
    same : SameAnswer (same_of k s ss) o.verdict q.verdict

  stand_both : (s : V → V → Type 0) (ss : List (V → V → Type 0)) (first : Meaning Tok Cx St Er V) (others : List (Meaning Tok Cx St Er V)) → AllAgree (s ∷ ss) (first ∷ others)
      → (b c : Beginning Tok Cx St) (o q : Outcome V Er St) → Alike b c → (k l : ℕ)
      → Stands back safe mark k first others b o → Stands back safe mark l first others c q → IsAnswer o.verdict
      → IsAnswer q.verdict → StandBoth s ss first others b c o q
  stand_both s ss first others h b c o q alike zero zero m n a z = record { k = 0; stands = m; other_stands = n; same = (h.each.0 b c o q alike m.0 n.0 a z).answer }
  stand_both s ss first [] h b c o q alike zero (suc l) m n a z = absurd n
  stand_both s ss first [] h b c o q alike (suc k) l m n a z = absurd m
  stand_both s ss first (next ∷ others) h b c o q alike zero (suc l) m n a z =
      let e : SameAnswer s o.verdict n.0.verdict = (h.each.0 b c o n.0 alike m.0 n.1 a (rw n.2 tt)).answer in
      let no : o.verdict ≡ No = no_is_no s o.verdict a (subst (SameAnswer s o.verdict) n.2 e) in
      absurd (omega (arith, m.1 no))
  stand_both s ss first (next ∷ others) h b c o q alike (suc k) zero m n a z =
      let e : SameAnswer s m.0.verdict q.verdict = (h.each.0 b c m.0 q alike m.1 n.0 (rw m.2 tt) z).answer in
      let no : q.verdict ≡ No = no_is_no_too s q.verdict z (subst (λ v. SameAnswer s v q.verdict) m.2 e) in
      absurd (omega (arith, n.1 no))
  stand_both s [] first (next ∷ others) h b c o q alike (suc k) (suc l) m n a z = absurd h.each.1
  stand_both s (t ∷ ts) first (next ∷ others) h b c o q alike (suc k) (suc l) m n a z =
      elim m.3 [
        | inl r ↦ absurd (subst IsAnswer r.1 a)
        | inr u ↦ elim n.3 [
          | inl r ↦ absurd (subst IsAnswer r.1 z)
          | inr w ↦
              let g : Agree s m.0 n.0 = h.each.0 b c m.0 n.0 alike m.1 n.1 (rw m.2 tt) (rw n.2 tt) in
              let gone : Alike (record b { state = back m.0.state mark }) (record c { state = back n.0.state mark }) =
              record { tokens = alike.tokens; start = alike.start; context = alike.context; state = ap (λ x. back x mark) g.state }
              in
              let ov : o.verdict ≡ u.0.verdict = ap (λ (x : Outcome V Er St). x.verdict) u.2 in
              let qv : q.verdict ≡ w.0.verdict = ap (λ (x : Outcome V Er St). x.verdict) w.2 in
              let both : StandBoth t ts next others (record b { state = back m.0.state mark })
              (record c { state = back n.0.state mark }) u.0 w.0 =
              stand_both t ts next others (record { each = h.each.1 }) (record b { state = back m.0.state mark })
              (record c { state = back n.0.state mark }) u.0 w.0 gone k l u.1 w.1 (subst IsAnswer ov a)
              (subst IsAnswer qv z) in
              record {
                k = suc both.k;
                stands = (m.0, m.1, m.2, inr (u.0, both.stands, u.2));
                other_stands = (n.0, n.1, n.2, inr (w.0, both.other_stands, w.2));
                same = rw (ov, qv) both.same;
              }
        ]
      ]

module _ {Tok Cx St Mk Er V : Type 0} (mark : St → Mk) (back : St → Mk → St) (safe : Type 0) where
  from_firsts : (s : V → V → Type 0) (ss : List (V → V → Type 0)) (first : Meaning Tok Cx St Er V) (others : List (Meaning Tok Cx St Er V)) → AllAgree (s ∷ ss) (first ∷ others)
      → (b c : Beginning Tok Cx St) (o q : Outcome V Er St) → Alike b c
      → FirstFrom back safe (mark b.state) first others b o → FirstFrom back safe (mark c.state) first others c q
      → IsAnswer o.verdict → IsAnswer q.verdict → BothStand mark back safe s ss first others b c o q
  from_firsts s ss first others h b c o q alike m n a z =
      let e : mark c.state ≡ mark b.state = ap mark (sym alike.state) in
      let both : StandBoth back safe (mark b.state) s ss first others b c o q =
      stand_both back safe (mark b.state) s ss first others h b c o q alike m.k n.k m.stands
      (subst (λ x. Stands back safe x n.k first others c q) e n.stands) a z in
      record { k = both.k; stands = both.stands; other_stands = subst (λ x. Stands back safe x both.k first others c q) (sym e) both.other_stands; same = both.same }

  one_or_first-both : (s : V → V → Type 0) (ss : List (V → V → Type 0)) (first : Meaning Tok Cx St Er V) (others : List (Meaning Tok Cx St Er V)) → AllAgree (s ∷ ss) (first ∷ others)
      → SameByStanding mark back safe (OneOrFirst mark back safe first others) s ss first others
  one_or_first-both s ss first [] h b c o q alike m n a z = record { k = 0; stands = (m, λ _. refl); other_stands = (n, λ _. refl); same = (h.each.0 b c o q alike m n a z).answer }
  one_or_first-both s ss first (next ∷ others) h b c o q alike m n a z =
      elim m [
        | inl r ↦ absurd (subst IsAnswer r.1 a)
        | inr f ↦ elim n [
          | inl r ↦ absurd (subst IsAnswer r.1 z)
          | inr g ↦ from_firsts s ss first (next ∷ others) h b c o q alike f g a z
        ]
      ]

  pub first_of-both : (s : V → V → Type 0) (ss : List (V → V → Type 0)) (first : Meaning Tok Cx St Er V) (others : List (Meaning Tok Cx St Er V)) → AllAgree (s ∷ ss) (first ∷ others)
      → SameByStanding mark back safe (FirstOf mark back safe first others) s ss first others
  first_of-both s ss first others h b c o q alike m n a z = one_or_first-both s ss first others h b c o q alike m.cases n.cases a z

  -- the second of two stands by itself
  second : (m : Mk) (next : Meaning Tok Cx St Er V) (v : Verdict V Er) (b : Beginning Tok Cx St) (p o : Outcome V Er St)
      → ElseFrom back safe m v next b p o → ElseFrom back safe m v (FirstFrom back safe m next []) b p o
  second m next (Yes v) b p o e = e
  second m next No b p o (inl r) = inl r
  second m next No b p o (inr t) = inr (t.0, record { k = 0; stands = (t.1, λ _. refl) }, t.2)
  second m next (Halt s) b p o e = e
  second m next (Clash x) b p o e = e

  attempted : (m : Mk) (first next : Meaning Tok Cx St Er V) (b : Beginning Tok Cx St) (o : Outcome V Er St) → AttemptFrom back safe m first next b o → FirstFrom back safe m first (next ∷ []) b o
  attempted m first next b o t =
      attempts-first_from back safe m first next [] b o
      (record { attempt = t.attempt; meant = t.meant; then_else = second m next t.attempt.verdict b t.attempt o t.then_else })

  pub or_else-both : (s t : V → V → Type 0) (first next : Meaning Tok Cx St Er V) → Agreeing s first first
      → Agreeing t next next
      → SameByStanding mark back safe (OrElse mark back safe first next) s (t ∷ []) first (next ∷ [])
  or_else-both s t first next hf hs b c o q alike m n a z =
      elim m.cases [
        | inl r ↦ absurd (subst IsAnswer r.1 a)
        | inr f ↦ elim n.cases [
          | inl r ↦ absurd (subst IsAnswer r.1 z)
          | inr g ↦ from_firsts s (t ∷ []) first (next ∷ []) (and-agrees hf (and-agrees hs none-agree)) b c o q alike
              (attempted (mark b.state) first next b o f) (attempted (mark c.state) first next c q g) a z
        ]
      ]
