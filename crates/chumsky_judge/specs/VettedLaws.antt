-- The laws of a part whose value is judged.
use Rattle.std.proofs.Common.{◌≡◌, ℕ, ◌≤◌, Bool, true, false, Option, Some, None, Result, Ok, Err, refl, sym, ap, ◌∙◌, subst, arith, inl, inr, option_to_list}
use Rattle.chumsky_input.specs.declared.error.Error as error_trait
use Rattle.chumsky_input.specs.declared.input.Input as input_trait
use Rattle.chumsky_input.specs.Outcome.{Event, Meaning, Beginning, Outcome, Yes, IsAnswer, SameValue, Alike, Agree, EndsAfterStart, Agreeing}
use Rattle.chumsky_input.specs.Primary.{primary}
use Rattle.chumsky_parser.specs.Chained.{Asked}
use Rattle.chumsky_parser.specs.Laws.{asked-ends, asked-agrees}
use Rattle.chumsky_parser.specs.Failure.{wanting}
use Rattle.chumsky_judge.specs.Judged.{NoAsOne, something_else}
use Rattle.chumsky_judge.specs.JudgedLaws.{or_clash-whole, or_lacks-whole, judged-ends, judged-agrees, no_as_one-ends, no_as_one-agrees}
use Rattle.chumsky_judge.specs.Vetted.{Vets, OnRuling, Vetting, Vetted, SameRuling, VetsAlike, ByTest, TestsAlike, tested}

-- where both are wanted, the same values
pub wanting-alike : {W : Type 0} (same : W → W → Type 0) (b c : Bool) (w x : W) → same w x → SameValue same (wanting b w) (wanting c x)
wanting-alike same true true w x s = s
wanting-alike same true false w x s = tt
wanting-alike same false c w x s = tt

module _ {Tok Cx St Er V W : Type 0} (merged : Er → Er → Er) (free : Type 0) where
  rules-end : (r : Result W Er) (s : St) (b : Beginning Tok Cx St) (p : Outcome V Er St) (o : Outcome W Er St) → b.start ≤ p.end → OnRuling merged free r s b p o → IsAnswer o.verdict → b.start ≤ o.end
  rules-end (Ok w) s b p o l h a = let e = ap (λ (x : Outcome W Er St). x.end) (or_clash-whole h a) in omega arith
  rules-end (Err d) s b p o l h a = let e = ap (λ (x : Outcome W Er St). x.end) (or_lacks-whole h a) in omega arith

  module _ (vets : Vets Tok Cx St Er V W) (part : Meaning Tok Cx St Er V) where
    vetting-ends : (b : Beginning Tok Cx St) (v : Option V) (p : Outcome V Er St) (o : Outcome W Er St) → b.start ≤ p.end → Vetting merged free vets b v p o → IsAnswer o.verdict → b.start ≤ o.end
    vetting-ends b (Some v) p o l h a = rules-end h.0 h.1 b p o l h.3 a
    vetting-ends b None p o l h a = absurd h

    pub vetted-ends : EndsAfterStart part → EndsAfterStart (Vetted merged free vets part)
    vetted-ends h b o m a = judged-ends (Asked true part) _ _ (asked-ends true part h) vetting-ends (no_as_one-ends merged) b o m.run a

    module _ (sv : V → V → Type 0) (sw : W → W → Type 0) where
      rules-agree : (r r' : Result W Er) (s s' : St) (b c : Beginning Tok Cx St) (p p' : Outcome V Er St) (o q : Outcome W Er St)
          → Alike b c → SameRuling sw r r' → s ≡ s' → Agree sv p p' → OnRuling merged free r s b p o
          → OnRuling merged free r' s' c p' q → IsAnswer o.verdict → IsAnswer q.verdict → Agree sw o q
      rules-agree (Ok w) (Ok x) s s' b c p p' o q alike e t g h k a z =
          rw (or_clash-whole h a, or_clash-whole k z)
          (record { answer = wanting-alike sw b.wanted c.wanted w x e; end = g.end; state = t; events = ap (λ es. option_to_list (primary merged es)) g.events; emitted = g.emitted })
      rules-agree (Ok w) (Err d) s s' b c p p' o q alike e t g h k a z = absurd e
      rules-agree (Err d) (Ok x) s s' b c p p' o q alike e t g h k a z = absurd e
      rules-agree (Err d) (Err d') s s' b c p p' o q alike e t g h k a z =
          rw (or_lacks-whole h a, or_lacks-whole k z) (record { answer = tt; end = g.end; state = t; events = cc (alike.start, e); emitted = g.emitted })

      vetting-agrees : VetsAlike sv sw vets
          → (b c : Beginning Tok Cx St) (v v' : Option V) (p p' : Outcome V Er St) (o q : Outcome W Er St) → Alike b c
          → SameValue sv v v' → Agree sv p p' → Vetting merged free vets b v p o → Vetting merged free vets c v' p' q
          → IsAnswer o.verdict → IsAnswer q.verdict → Agree sw o q
      vetting-agrees u b c (Some v) (Some v') p p' o q alike e g h k a z =
          let k2 : vets c p.end p.state v' k.0 k.1 = rw (g.end, g.state) k.2 in
          let s = u b c p.end p.state h.1 k.1 v v' h.0 k.0 alike e h.2 k2 in
          rules-agree h.0 k.0 h.1 k.1 b c p p' o q alike s.0 s.1 g h.3 k.3 a z
      vetting-agrees u b c (Some v) None p p' o q alike e g h k a z = absurd k
      vetting-agrees u b c None v' p p' o q alike e g h k a z = absurd h

      pub vetted-agrees : Agreeing sv part part → VetsAlike sv sw vets → Agreeing sw (Vetted merged free vets part) (Vetted merged free vets part)
      vetted-agrees h u b c o q alike m n a z =
          judged-agrees (Asked true part) _ _ sv sw (asked-agrees true part sv h) (vetting-agrees u) (no_as_one-agrees merged sv sw) b c o q alike m.run n.run a z

module _ {I Tok Sp Cu Er St Cx V : Type 0} (source : input_trait.Ghosts I Cu Tok Sp) (errors : error_trait.Ghosts Er I Tok Sp) (same : V → V → Type 0) (tests : V → Bool → Type 0) where
  tested-same : (x : Bool) (b c : Beginning Tok Cx St) (end : ℕ) (v v' : V) → Alike b c → same v v' → SameRuling same (tested source errors tests x b end v) (tested source errors tests x c end v')
  tested-same true b c end v v' alike e = e
  tested-same false b c end v v' alike e = cc (alike.tokens, alike.start)

  -- a test that answers alike is a judge that does
  pub tests-alike : TestsAlike same tests → VetsAlike same same (ByTest {St = St} {Cx = Cx} source errors tests)
  tests-alike u b c end s t t' v v' r r' alike e m n =
      let x : m.passes ≡ n.passes = u v v' m.passes n.passes e m.says n.says in
      let k : r' ≡ tested source errors tests m.passes c end v' = n.answer ∙ ap (λ z. tested source errors tests z c end v') (sym x) in
      (rw (m.answer, k) (tested-same m.passes b c end v v' alike e), m.keeps ∙ sym n.keeps)
