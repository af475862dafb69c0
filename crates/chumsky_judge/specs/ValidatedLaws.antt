-- The laws of a part whose value a validator looks at.
use Rattle.std.proofs.Common.{◌≡◌, ℕ, ◌≤◌, true, Option, Some, None, List, refl, sym, ap, subst, arith, inl, inr}
use Rattle.chumsky_input.specs.Extra.{Shown}
use Rattle.chumsky_input.specs.Outcome.{Meaning, Beginning, Outcome, IsAnswer, SameValue, Alike, Agree, EndsAfterStart, Agreeing}
use Rattle.chumsky_parser.specs.Chained.{Chained, Asked}
use Rattle.chumsky_parser.specs.Laws.{chained-ends, chained-agrees, asked-ends, asked-agrees}
use Rattle.chumsky_judge.specs.VettedLaws.{wanting-alike}
use Rattle.chumsky_judge.specs.Validated.{Emits, EmitsAll, Validated, MeansValidate, EmitsAlike, SameValidated}

module _ {Tok Cx St Er V W : Type 0} (emits : Emits Tok Cx St Er V W) (part : Meaning Tok Cx St Er V) where
  emits_all-ends : (r : Option (List Er)) (w : W) (s : St) (b : Beginning Tok Cx St) (o : Outcome W Er St) → EmitsAll r w s b o → IsAnswer o.verdict → b.start ≤ o.end
  emits_all-ends r w s b o (inl h) a = let e = ap (λ (x : Outcome W Er St). x.end) h.2 in omega arith
  emits_all-ends r w s b o (inr h) a = absurd (subst IsAnswer h.1 a)

  each-ends : (from : ℕ) (v : Option V) → EndsAfterStart (Validated emits from v)
  each-ends from (Some v) b o m a = emits_all-ends m.2 m.0 m.1 b o m.4 a
  each-ends from None b o m a = absurd m

  pub validated-ends : EndsAfterStart part → EndsAfterStart (MeansValidate emits part)
  validated-ends h b o m a = chained-ends (Asked true part) (Validated emits b.start) (asked-ends true part h) (each-ends b.start) b o m.run a

  module _ (sv : V → V → Type 0) where
    given_alike : EmitsAlike emits sv
        → (v v' : V) (x : Shown Tok Cx St) (b c : Beginning Tok Cx St) (o q : Outcome W Er St) → sv v v' → Alike b c
        → (w w' : W) (s s' : St) (r r' : Option (List Er)) → emits v x w s r → emits v' x w' s' r'
        → EmitsAll r w s b o → EmitsAll r' w' s' c q → IsAnswer o.verdict → IsAnswer q.verdict → Agree (SameValidated emits sv) o q
    given_alike u v v' x b c o q e alike w w' s s' r r' m n (inl h) (inl k) a z =
        let first : emits v x w s (Some h.0) = subst (λ i. emits v x w s i) h.1 m in
        let second : emits v' x w' s' (Some k.0) = subst (λ i. emits v' x w' s' i) k.1 n in
        let both = u v v' x w w' s s' h.0 k.0 e first second in
        let same : SameValidated emits sv w w' =
        record {
          first = v;
          second = v';
          shown = x;
          state = s;
          other_state = s';
          errors = h.0;
          other_errors = k.0;
          alike = e;
          from_first = first;
          from_second = second;
        }
        in
        rw (h.2, k.2) (record { answer = wanting-alike (SameValidated emits sv) b.wanted c.wanted w w' same; end = alike.start; state = both.1; events = refl; emitted = both.0 })
    given_alike u v v' x b c o q e alike w w' s s' r r' m n (inl h) (inr k) a z = absurd (subst IsAnswer k.1 z)
    given_alike u v v' x b c o q e alike w w' s s' r r' m n (inr h) k a z = absurd (subst IsAnswer h.1 a)

    each-agrees : EmitsAlike emits sv → (from : ℕ) (v w : Option V) → SameValue sv v w → Agreeing (SameValidated emits sv) (Validated emits from v) (Validated emits from w)
    each-agrees u from (Some v) (Some v') e b c o q alike m n a z =
        let x : Shown Tok Cx St = record { tokens = b.tokens; from = from; to = b.start; context = b.context; state = b.state } in
        let y : Shown Tok Cx St = record { tokens = c.tokens; from = from; to = c.start; context = c.context; state = c.state } in
        let there : y ≡ x = cc (alike.tokens, alike.start, alike.context, alike.state) in
        given_alike u v v' x b c o q e alike m.0 n.0 m.1 n.1 m.2 n.2 m.3 (subst (λ i. emits v' i n.0 n.1 n.2) there n.3) m.4 n.4 a z
    each-agrees u from (Some v) None e b c o q alike m n a z = absurd n
    each-agrees u from None w e b c o q alike m n a z = absurd m

    pub validated-agrees : Agreeing sv part part → EmitsAlike emits sv → Agreeing (SameValidated emits sv) (MeansValidate emits part) (MeansValidate emits part)
    validated-agrees h u b c o q alike m n a z =
        let n2 : Chained (Asked true part) (Validated emits b.start) c q = subst (λ x. Chained (Asked true part) (Validated emits x) c q) (sym alike.start) n.run in
        chained-agrees (Asked true part) (Asked true part) (Validated emits b.start) (Validated emits b.start) sv
        (SameValidated emits sv) (asked-agrees true part sv h) (each-agrees u b.start) b c o q alike m.run n2 a z
