-- The laws of a token that a closure picks.
use Rattle.std.proofs.Common.{◌≡◌, ◌≤◌, ◌+◌, Bool, true, false, Option, Some, None, [], refl, ap, subst, arith, inl, inr}
use Rattle.chumsky_input.specs.declared.error.Error as error_trait
use Rattle.chumsky_input.specs.declared.inspector.Inspector as inspector_trait
use Rattle.chumsky_input.specs.declared.input.Input as input_trait
use Rattle.chumsky_input.specs.Extra.{Shown}
use Rattle.chumsky_input.specs.Outcome.{Beginning, Outcome, Yes, IsAnswer, SameValue, Alike, Agree, EndsAfterStart, Agreeing}
use Rattle.chumsky_parser.specs.Failure.{wanting}
use Rattle.chumsky_parser.specs.FailureLaws.{misses-agree, misses-ends}
use Rattle.chumsky_primitive.specs.Select.{Picks, PicksAlike, SamePicked, MeansAnswer, MeansSelect, MeansSelectAt, over}

wanting-both : {V : Type 0} (same : V → V → Type 0) (b c : Bool) (v w : V) → same v w → SameValue same (wanting b v) (wanting c w)
wanting-both same true true v w s = s
wanting-both same true false v w s = tt
wanting-both same false c v w s = tt

module _ {I Tok Sp Cu Er St Mk Cx V : Type 0} (source : input_trait.Ghosts I Cu Tok Sp) (safe : Tok → Type 0)
    (errors : error_trait.Ghosts Er I Tok Sp) (states : inspector_trait.Ghosts St I Mk Tok Sp)
    (picks : Picks Tok Cx states.Seen V) where
  answer_ends : (t : Tok) (r : Option V) (s : states.Seen) (b : Beginning Tok Cx states.Seen) (o : Outcome V errors.Seen states.Seen)
      → MeansAnswer source safe errors states t r s b o → IsAnswer o.verdict → b.start ≤ o.end
  answer_ends t (Some v) s b o m a = omega (arith, ap (λ (x : Outcome V errors.Seen states.Seen). x.end) m)
  answer_ends t None s b o (inl x) a = absurd (subst IsAnswer x.1 a)
  answer_ends t None s b o (inr m) a = misses-ends (λ x y. x ≡ y) (omega arith) m a

  select_ends : (t : Option Tok) (b : Beginning Tok Cx states.Seen) (o : Outcome V errors.Seen states.Seen) → MeansSelectAt source safe errors states picks t b o → IsAnswer o.verdict → b.start ≤ o.end
  select_ends (Some t) b o (inl r) a = absurd (subst IsAnswer r.1 a)
  select_ends (Some t) b o (inr m) a = answer_ends t m.answer m.state b o m.outcome a
  select_ends None b o m a = misses-ends (λ x y. x ≡ y) (omega arith) m a

  pub select-ends : EndsAfterStart (MeansSelect source safe errors states picks)
  select-ends b o m a = elim m.by_token [ inl r ↦ absurd (subst IsAnswer r.1 a) | inr h ↦ select_ends _ b o h a ]

  answer_agree : (t : Tok) (r r' : Option V) (s s' : states.Seen) (x : Shown Tok Cx states.Seen) → PicksAlike picks
      → picks t x r s → picks t x r' s'
      → (b c : Beginning Tok Cx states.Seen) (o q : Outcome V errors.Seen states.Seen) → Alike b c
      → MeansAnswer source safe errors states t r s b o → MeansAnswer source safe errors states t r' s' c q → IsAnswer o.verdict → IsAnswer q.verdict → Agree (SamePicked picks) o q
  answer_agree t (Some v) (Some w) s s' x h p p' b c o q alike m n a z =
      let e : Outcome V errors.Seen states.Seen = record { verdict = Yes (wanting b.wanted v); end = b.start + 1; state = s; events = []; emitted = [] } in
      let f : Outcome V errors.Seen states.Seen = record { verdict = Yes (wanting c.wanted w); end = c.start + 1; state = s'; events = []; emitted = [] } in
      let both : SamePicked picks v w = record { token = t; shown = x; state = s; other_state = s'; first = p; second = p' } in
      let ef : Agree (SamePicked picks) e f =
      record {
        answer = wanting-both (SamePicked picks) b.wanted c.wanted v w both;
        end = ap (λ k. k + 1) alike.start;
        state = (h t x (Some v) (Some w) s s' p p').1;
        events = refl;
        emitted = refl;
      }
      in
      rw (m, n) ef
  answer_agree t (Some v) None s s' x h p p' b c o q alike m n a z = let e = (h t x (Some v) None s s' p p').0 in let no : ⊥ = cc in absurd no
  answer_agree t None (Some w) s s' x h p p' b c o q alike m n a z = let e = (h t x None (Some w) s s' p p').0 in let no : ⊥ = cc in absurd no
  answer_agree t None None s s' x h p p' b c o q alike (inl r) n a z = absurd (subst IsAnswer r.1 a)
  answer_agree t None None s s' x h p p' b c o q alike (inr m) (inl r) a z = absurd (subst IsAnswer r.1 z)
  answer_agree t None None s s' x h p p' b c o q alike (inr m) (inr n) a z =
      let e = (h t x None None s s' p p').1 in
      misses-agree (SamePicked picks) (cc (alike.tokens, alike.start)) alike.start (cc (e, alike.state)) m n a z

  select_agree : (t : Option Tok) (b c : Beginning Tok Cx states.Seen) (o q : Outcome V errors.Seen states.Seen)
      → PicksAlike picks → Alike b c → MeansSelectAt source safe errors states picks t b o
      → MeansSelectAt source safe errors states picks t c q → IsAnswer o.verdict → IsAnswer q.verdict
      → Agree (SamePicked picks) o q
  select_agree (Some t) b c o q h alike (inl r) n a z = absurd (subst IsAnswer r.1 a)
  select_agree (Some t) b c o q h alike (inr m) (inl r) a z = absurd (subst IsAnswer r.1 z)
  select_agree (Some t) b c o q h alike (inr m) (inr n) a z =
      let there : over states.after t c ≡ over states.after t b = cc (alike.tokens, alike.start, alike.context, alike.state) in
      answer_agree t m.answer n.answer m.state n.state _ h m.picked (subst (λ x. picks t x n.answer n.state) there n.picked) b c o q alike m.outcome n.outcome a z
  select_agree None b c o q h alike m n a z = misses-agree (SamePicked picks) (cc (alike.tokens, alike.start)) alike.start alike.state m n a z

  pub select-agrees : PicksAlike picks → Agreeing (SamePicked picks) (MeansSelect source safe errors states picks) (MeansSelect source safe errors states picks)
  select-agrees h b c o q alike m n a z =
      elim m.by_token [
        | inl r ↦ absurd (subst IsAnswer r.1 a)
        | inr k ↦ elim n.by_token [
          | inl r ↦ absurd (subst IsAnswer r.1 z)
          | inr l ↦ select_agree _ b c o q h alike k (rw (alike.tokens, alike.start) l) a z
        ]
      ]
