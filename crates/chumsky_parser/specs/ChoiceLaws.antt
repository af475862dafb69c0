-- The laws of ordered choice.
use Rattle.std.proofs.Common.{◌≡◌, ℕ, zero, suc, ◌≤◌, List, [], ◌∷◌, ◌++◌, map, Option, Some, None, refl, sym, ap, subst, arith, inl, inr}
use Rattle.std.specs.Prelude.{⊤}
use Rattle.std.specs.List.{All}
use Rattle.chumsky_input.specs.Outcome.{Meaning, Beginning, Outcome, Verdict, Yes, No, Halt, Clash, SameValue, SameAnswer, Alike, Agree, EndsAfterStart, Agreeing, IsAnswer}
use Rattle.chumsky_parser.specs.Choice.{ElseFrom, AttemptFrom, Stands, FirstFrom, OneOrFirst, FirstOf, OrElse, SameEither, SameByOne}

module _ {V : Type 0} (s t : V → V → Type 0) (h : (v w : V) → s v w → t v w) where
  value-weaker : (v w : Option V) → SameValue s v w → SameValue t v w
  value-weaker (Some v) (Some w) e = h v w e
  value-weaker (Some v) None e = tt
  value-weaker None w e = tt

  pub answer-weaker : {Er : Type 0} (v w : Verdict V Er) → SameAnswer s v w → SameAnswer t v w
  answer-weaker (Yes v) (Yes w) e = value-weaker v w e
  answer-weaker (Yes v) No e = e
  answer-weaker (Yes v) (Halt z) e = tt
  answer-weaker (Yes v) (Clash z) e = tt
  answer-weaker No (Yes w) e = e
  answer-weaker No No e = tt
  answer-weaker No (Halt z) e = tt
  answer-weaker No (Clash z) e = tt
  answer-weaker (Halt z) w e = tt
  answer-weaker (Clash z) w e = tt

  pub agree-weaker : {Er St : Type 0} (o q : Outcome V Er St) → Agree s o q → Agree t o q
  agree-weaker o q g = record { answer = answer-weaker o.verdict q.verdict g.answer; end = g.end; state = g.state; events = g.events; emitted = g.emitted }

module _ {Tok Cx St Mk Er V : Type 0} (back : St → Mk → St) (safe : Type 0) (mark : Mk) (first second : Meaning Tok Cx St Er V) where
  else_ends : EndsAfterStart first → EndsAfterStart second
      → (v : Verdict V Er) (b : Beginning Tok Cx St) (p o : Outcome V Er St) → first b p
      → ElseFrom back safe mark v second b p o → IsAnswer o.verdict → b.start ≤ o.end
  else_ends hf hs (Yes v) b p o m e a = hf b o (subst (first b) (sym e) m) a
  else_ends hf hs No b p o m (inl r) a = absurd (subst IsAnswer r.1 a)
  else_ends hf hs No b p o m (inr k) a =
      let verdict : o.verdict ≡ k.0.verdict = ap (λ (x : Outcome V Er St). x.verdict) k.2 in
      let end : o.end ≡ k.0.end = ap (λ (x : Outcome V Er St). x.end) k.2 in
      let after : b.start ≤ k.0.end = hs (record b { state = back p.state mark }) k.0 k.1 (subst IsAnswer verdict a) in
      omega arith
  else_ends hf hs (Halt s) b p o m e a = hf b o (subst (first b) (sym e) m) a
  else_ends hf hs (Clash x) b p o m e a = hf b o (subst (first b) (sym e) m) a

  pub attempt-ends : EndsAfterStart first → EndsAfterStart second → EndsAfterStart (AttemptFrom back safe mark first second)
  attempt-ends hf hs b o t a = else_ends hf hs t.attempt.verdict b t.attempt o t.meant t.then_else a

module _ {Tok Cx St Mk Er V : Type 0} (back : St → Mk → St) (safe : Type 0) (mark : Mk) (first second : Meaning Tok Cx St Er V) (sf ss : V → V → Type 0) where
  -- an attempt that is not a no stands as it is
  else_agree : Agreeing sf first first → Agreeing ss second second → (b c : Beginning Tok Cx St) (o q p r : Outcome V Er St) → Alike b c → first b p → first c r
      → (v w : Verdict V Er) → p.verdict ≡ v → r.verdict ≡ w → ElseFrom back safe mark v second b p o
      → ElseFrom back safe mark w second c r q → IsAnswer o.verdict → IsAnswer q.verdict
      → Agree (SameEither sf ss) o q
  else_agree hf hs b c o q p r alike m n (Yes v) (Yes w) pv rw' e d a z = rw (e, d) (agree-weaker sf (SameEither sf ss) (λ v w z. inl z) p r (hf b c p r alike m n (rw pv tt) (rw rw' tt)))
  else_agree hf hs b c o q p r alike m n (Yes v) No pv rw' e d a z =
      let h : SameAnswer sf p.verdict r.verdict = (hf b c p r alike m n (rw pv tt) (rw rw' tt)).answer in absurd (rw (pv, rw') at h)
  else_agree hf hs b c o q p r alike m n (Yes v) (Halt s) pv rw' e d a z =
      let h : IsAnswer r.verdict = subst (λ (x : Outcome V Er St). IsAnswer x.verdict) d z in absurd (rw rw' at h)
  else_agree hf hs b c o q p r alike m n (Yes v) (Clash s) pv rw' e d a z =
      let h : IsAnswer r.verdict = subst (λ (x : Outcome V Er St). IsAnswer x.verdict) d z in absurd (rw rw' at h)
  else_agree hf hs b c o q p r alike m n No (Yes w) pv rw' e d a z =
      let h : SameAnswer sf p.verdict r.verdict = (hf b c p r alike m n (rw pv tt) (rw rw' tt)).answer in absurd (rw (pv, rw') at h)
  else_agree hf hs b c o q p r alike m n No No pv rw' (inl x) d a z = absurd (subst IsAnswer x.1 a)
  else_agree hf hs b c o q p r alike m n No No pv rw' (inr k) (inl x) a z = absurd (subst IsAnswer x.1 z)
  else_agree hf hs b c o q p r alike m n No No pv rw' (inr k) (inr l) a z =
      let h : Agree sf p r = hf b c p r alike m n (rw pv tt) (rw rw' tt) in
      let gone : Alike (record b { state = back p.state mark }) (record c { state = back r.state mark }) =
      record { tokens = alike.tokens; start = alike.start; context = alike.context; state = ap (λ s. back s mark) h.state }
      in
      let t : Agree ss k.0 l.0 =
      hs (record b { state = back p.state mark }) (record c { state = back r.state mark }) k.0 l.0 gone k.1 l.1
      (subst (λ (x : Outcome V Er St). IsAnswer x.verdict) k.2 a)
      (subst (λ (x : Outcome V Er St). IsAnswer x.verdict) l.2 z) in
      let joined : Agree (SameEither sf ss) (record k.0 { events = p.events ++ k.0.events })
      (record l.0 { events = r.events ++ l.0.events }) =
      record {
        answer = answer-weaker ss (SameEither sf ss) (λ v w z. inr z) k.0.verdict l.0.verdict t.answer;
        end = t.end;
        state = t.state;
        events = cc (h.events, t.events);
        emitted = t.emitted;
      }
      in
      rw (k.2, l.2) joined
  else_agree hf hs b c o q p r alike m n No (Halt s) pv rw' e d a z =
      let h : IsAnswer r.verdict = subst (λ (x : Outcome V Er St). IsAnswer x.verdict) d z in absurd (rw rw' at h)
  else_agree hf hs b c o q p r alike m n No (Clash s) pv rw' e d a z =
      let h : IsAnswer r.verdict = subst (λ (x : Outcome V Er St). IsAnswer x.verdict) d z in absurd (rw rw' at h)
  else_agree hf hs b c o q p r alike m n (Halt s) w pv rw' e d a z =
      let h : IsAnswer p.verdict = subst (λ (x : Outcome V Er St). IsAnswer x.verdict) e a in absurd (rw pv at h)
  else_agree hf hs b c o q p r alike m n (Clash s) w pv rw' e d a z =
      let h : IsAnswer p.verdict = subst (λ (x : Outcome V Er St). IsAnswer x.verdict) e a in absurd (rw pv at h)

  pub attempt-agrees : Agreeing sf first first → Agreeing ss second second → Agreeing (SameEither sf ss) (AttemptFrom back safe mark first second) (AttemptFrom back safe mark first second)
  attempt-agrees hf hs b c o q alike t u a z = else_agree hf hs b c o q t.attempt u.attempt alike t.meant u.meant t.attempt.verdict u.attempt.verdict refl refl t.then_else u.then_else a z

module _ {Tok Cx St Mk Er V : Type 0} (mark : St → Mk) (back : St → Mk → St) (safe : Type 0) (first second : Meaning Tok Cx St Er V) where
  pub or_else-ends : EndsAfterStart first → EndsAfterStart second → EndsAfterStart (OrElse mark back safe first second)
  or_else-ends hf hs b o m a = elim m.cases [ inl r ↦ absurd (subst IsAnswer r.1 a) | inr t ↦ attempt-ends back safe (mark b.state) first second hf hs b o t a ]

  pub or_else-agrees : (sf ss : V → V → Type 0) → Agreeing sf first first → Agreeing ss second second
      → Agreeing (SameEither sf ss) (OrElse mark back safe first second) (OrElse mark back safe first second)
  or_else-agrees sf ss hf hs b c o q alike m n a z =
      elim m.cases [
        | inl r ↦ absurd (subst IsAnswer r.1 a)
        | inr t ↦ elim n.cases [
          | inl r ↦ absurd (subst IsAnswer r.1 z)
          | inr u ↦ attempt-agrees back safe (mark b.state) first second sf ss hf hs b c o q alike t (subst (λ s. AttemptFrom back safe (mark s) first second c q) (sym alike.state) u) a z
        ]
      ]

module _ {Tok Cx St Er V : Type 0} where
  abbrev EachEnds : List (Meaning Tok Cx St Er V) → Type 0
  EachEnds [] = ⊤
  EachEnds (m ∷ ms) = EndsAfterStart m × EachEnds ms

  abbrev EachAgrees : List (V → V → Type 0) → List (Meaning Tok Cx St Er V) → Type 0
  EachAgrees [] [] = ⊤
  EachAgrees [] (m ∷ ms) = ⊥
  EachAgrees (s ∷ ss) [] = ⊥
  EachAgrees (s ∷ ss) (m ∷ ms) = Agreeing s m m × EachAgrees ss ms

  -- the laws, of each of a list of alternatives
  pub record AllEnd (ms : List (Meaning Tok Cx St Er V)) : Type 0 where
    pub each : EachEnds ms

  pub record AllAgree (ss : List (V → V → Type 0)) (ms : List (Meaning Tok Cx St Er V)) : Type 0 where
    pub each : EachAgrees ss ms

  pub none-end : AllEnd []
  none-end = record { each = tt }

  pub and-ends : {m : Meaning Tok Cx St Er V} {ms : List (Meaning Tok Cx St Er V)} → EndsAfterStart m → AllEnd ms → AllEnd (m ∷ ms)
  and-ends h hs = record { each = (h, hs.each) }

  pub none-agree : AllAgree [] []
  none-agree = record { each = tt }

  pub and-agrees : {s : V → V → Type 0} {ss : List (V → V → Type 0)} {m : Meaning Tok Cx St Er V} {ms : List (Meaning Tok Cx St Er V)} → Agreeing s m m → AllAgree ss ms → AllAgree (s ∷ ss) (m ∷ ms)
  and-agrees h hs = record { each = (h, hs.each) }

  module _ {X : Type 0} (meaning : X → Meaning Tok Cx St Er V) where
    pub each-ends : ((x : X) → EndsAfterStart (meaning x)) → (xs : List X) → AllEnd (map meaning xs)
    each-ends h [] = none-end
    each-ends h (x ∷ xs) = and-ends (h x) (each-ends h xs)

    pub each-agrees : (steady : X → Type 0) (same : X → V → V → Type 0)
        → ((x : X) → steady x → Agreeing (same x) (meaning x) (meaning x)) → (xs : List X) → All steady xs
        → AllAgree (map same xs) (map meaning xs)
    each-agrees steady same h [] s = none-agree
    each-agrees steady same h (x ∷ xs) s = and-agrees (h x (s 0 x (omega arith))) (each-agrees steady same h xs (λ k d l. s (suc k) d (omega (arith, l))))

module _ {Tok Cx St Mk Er V : Type 0} (back : St → Mk → St) (safe : Type 0) (mark : Mk) where
  -- what is no no stands
  stays : (second : Meaning Tok Cx St Er V) (b : Beginning Tok Cx St) (o : Outcome V Er St) (v : Verdict V Er) → (v ≡ No → ⊥) → ElseFrom back safe mark v second b o o
  stays second b o (Yes v) n = refl
  stays second b o No n = absurd (n refl)
  stays second b o (Halt s) n = refl
  stays second b o (Clash e) n = refl

  module _ (first next : Meaning Tok Cx St Er V) (others : List (Meaning Tok Cx St Er V)) (b : Beginning Tok Cx St) where
    attempted : (k : ℕ) (o : Outcome V Er St) → Stands back safe mark k first (next ∷ others) b o → AttemptFrom back safe mark first (FirstFrom back safe mark next others) b o
    attempted zero o h = record { attempt = o; meant = h.0; then_else = stays (FirstFrom back safe mark next others) b o o.verdict (λ z. absurd (omega (arith, h.1 z))) }
    attempted (suc k) o h =
        record {
          attempt = h.0;
          meant = h.1;
          then_else =
              subst (λ v. ElseFrom back safe mark v (FirstFrom back safe mark next others) b h.0 o) (sym h.2)
              (elim h.3 [ inl r ↦ inl r | inr t ↦ inr (t.0, record { k = k; stands = t.1 }, t.2) ]);
        }

    standing : (p o : Outcome V Er St) (v : Verdict V Er) → p.verdict ≡ v → first b p
        → ElseFrom back safe mark v (FirstFrom back safe mark next others) b p o
        → FirstFrom back safe mark first (next ∷ others) b o
    standing p o (Yes v) pv h e = record { k = 0; stands = (subst (first b) (sym e) h, λ z. (let no : ⊥ = cc in absurd no)) }
    standing p o No pv h (inl r) = record { k = 1; stands = (p, h, pv, inl r) }
    standing p o No pv h (inr t) = record { k = suc t.1.k; stands = (p, h, pv, inr (t.0, t.1.stands, t.2)) }
    standing p o (Halt s) pv h e = record { k = 0; stands = (subst (first b) (sym e) h, λ z. (let no : ⊥ = cc in absurd no)) }
    standing p o (Clash x) pv h e = record { k = 0; stands = (subst (first b) (sym e) h, λ z. (let no : ⊥ = cc in absurd no)) }

    -- the first of a list is attempted before the others
    pub first_from-attempts : (o : Outcome V Er St) → FirstFrom back safe mark first (next ∷ others) b o → AttemptFrom back safe mark first (FirstFrom back safe mark next others) b o
    first_from-attempts o h = attempted h.k o h.stands

    pub attempts-first_from : (o : Outcome V Er St) → AttemptFrom back safe mark first (FirstFrom back safe mark next others) b o → FirstFrom back safe mark first (next ∷ others) b o
    attempts-first_from o h = standing h.attempt o h.attempt.verdict refl h.meant h.then_else

  only : (first : Meaning Tok Cx St Er V) (b : Beginning Tok Cx St) (o : Outcome V Er St) (k : ℕ) → Stands back safe mark k first [] b o → first b o
  only first b o zero h = h.0
  only first b o (suc k) h = absurd h

  -- one alternative by itself stands
  pub first_from-only : (first : Meaning Tok Cx St Er V) (b : Beginning Tok Cx St) (o : Outcome V Er St) → FirstFrom back safe mark first [] b o → first b o
  first_from-only first b o h = only first b o h.k h.stands

  first_from-ends : (first : Meaning Tok Cx St Er V) (others : List (Meaning Tok Cx St Er V)) → EndsAfterStart first → EachEnds others → EndsAfterStart (FirstFrom back safe mark first others)
  first_from-ends first [] h hs b o m a = h b o (first_from-only first b o m) a
  first_from-ends first (next ∷ others) h hs b o m a =
      attempt-ends back safe mark first (FirstFrom back safe mark next others) h
      (first_from-ends next others hs.0 hs.1) b o (first_from-attempts first next others b o m) a

  first_from-agrees : (s : V → V → Type 0) (ss : List (V → V → Type 0)) (first : Meaning Tok Cx St Er V) (others : List (Meaning Tok Cx St Er V)) → Agreeing s first first → EachAgrees ss others
      → Agreeing (SameByOne s ss) (FirstFrom back safe mark first others) (FirstFrom back safe mark first others)
  first_from-agrees s [] first [] h hs b c o q alike m n a z = h b c o q alike (first_from-only first b o m) (first_from-only first c q n) a z
  first_from-agrees s [] first (next ∷ others) h hs b c o q alike m n a z = absurd hs
  first_from-agrees s (t ∷ ts) first [] h hs b c o q alike m n a z = absurd hs
  first_from-agrees s (t ∷ ts) first (next ∷ others) h hs b c o q alike m n a z =
      attempt-agrees back safe mark first (FirstFrom back safe mark next others) s (SameByOne t ts) h
      (first_from-agrees t ts next others hs.0 hs.1) b c o q alike (first_from-attempts first next others b o m)
      (first_from-attempts first next others c q n) a z

module _ {Tok Cx St Mk Er V : Type 0} (mark : St → Mk) (back : St → Mk → St) (safe : Type 0) where
  one_or_first-ends : (first : Meaning Tok Cx St Er V) (others : List (Meaning Tok Cx St Er V)) → AllEnd (first ∷ others) → EndsAfterStart (OneOrFirst mark back safe first others)
  one_or_first-ends first [] h = h.each.0
  one_or_first-ends first (next ∷ others) h =
      λ b o m a. elim m [
        | inl r ↦ absurd (subst IsAnswer r.1 a)
        | inr t ↦ first_from-ends back safe (mark b.state) first (next ∷ others) h.each.0 h.each.1 b o t a
      ]

  pub first_of-ends : (first : Meaning Tok Cx St Er V) (others : List (Meaning Tok Cx St Er V)) → AllEnd (first ∷ others) → EndsAfterStart (FirstOf mark back safe first others)
  first_of-ends first others h b o m a = one_or_first-ends first others h b o m.cases a

  one_or_first-agrees : (s : V → V → Type 0) (ss : List (V → V → Type 0)) (first : Meaning Tok Cx St Er V) (others : List (Meaning Tok Cx St Er V)) → AllAgree (s ∷ ss) (first ∷ others)
      → Agreeing (SameByOne s ss) (OneOrFirst mark back safe first others) (OneOrFirst mark back safe first others)
  one_or_first-agrees s [] first [] h = h.each.0
  one_or_first-agrees s [] first (next ∷ others) h = absurd h.each.1
  one_or_first-agrees s (t ∷ ts) first [] h = absurd h.each.1
  one_or_first-agrees s (t ∷ ts) first (next ∷ others) h = λ b c o q alike m n a z.
      elim m [
        | inl r ↦ absurd (subst IsAnswer r.1 a)
        | inr f ↦ elim n [
          | inl r ↦ absurd (subst IsAnswer r.1 z)
          | inr g ↦ first_from-agrees back safe (mark b.state) s (t ∷ ts) first (next ∷ others) h.each.0 h.each.1 b c
              o q alike f (subst (λ x. FirstFrom back safe (mark x) first (next ∷ others) c q) (sym alike.state) g) a
              z
        ]
      ]

  pub first_of-agrees : (s : V → V → Type 0) (ss : List (V → V → Type 0)) (first : Meaning Tok Cx St Er V) (others : List (Meaning Tok Cx St Er V)) → AllAgree (s ∷ ss) (first ∷ others)
      → Agreeing (SameByOne s ss) (FirstOf mark back safe first others) (FirstOf mark back safe first others)
  first_of-agrees s ss first others h b c o q alike m n a z = one_or_first-agrees s ss first others h b c o q alike m.cases n.cases a z
