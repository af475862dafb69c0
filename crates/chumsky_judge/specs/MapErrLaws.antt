-- The laws of a part whose failures are mapped.
use Rattle.std.proofs.Common.{◌≡◌, ℕ, ◌≤◌, List, Option, Some, None, refl, sym, ap, ◌∙◌, subst, arith, inl, inr, option_to_list}
use Rattle.chumsky_input.specs.Layout.{Layout}
use Rattle.chumsky_input.specs.Outcome.{Event, Meaning, Beginning, Outcome, Yes, No, IsAnswer, SameValue, Alike, Agree, EndsAfterStart, Agreeing}
use Rattle.chumsky_input.specs.Primary.{primary}
use Rattle.chumsky_parser.specs.Chained.{retold}
use Rattle.chumsky_judge.specs.Judged.{as_one}
use Rattle.chumsky_judge.specs.JudgedLaws.{or_clash-whole, judged-ends, judged-agrees}
use Rattle.chumsky_judge.specs.MapErr.{ErrMaps, Alone, YesAsOne, MappedAs, NoMapped, MeansMapErr, MapsOnce, MapsOnceFrom, MapsOnceShown}
use Rattle.chumsky_judge.specs.TriedWith.{shown_of}

-- a mapper that is handed the error alone leaves the state
pub alone-once : {Tok Cx St Er : Type 0} {maps : Er → Er → Type 0} → MapsOnce maps → MapsOnceShown {Tok = Tok} {Cx = Cx} {St = St} (Alone maps)
alone-once u x e r r' s t m n = (u e r r' m.0 n.0, m.1 ∙ sym n.1)

-- so does one that is handed the span and the state answer alike, which is shown no more
pub spanned-once : {Tok Cx St Er Sp : Type 0} (span : Layout Tok → ℕ → ℕ → Sp) {maps : Sp → St → Er → Er → St → Type 0}
    → ((p : Sp) → MapsOnceFrom (maps p))
    → MapsOnceShown {Tok = Tok} {Cx = Cx} (λ x. maps (span x.tokens x.from x.to) x.state)
spanned-once span u x e r r' s t m n = u (span x.tokens x.from x.to) x.state e r r' s t m n

-- a success whose failures count as one
module _ {Tok Cx St Er V : Type 0} (merged : Er → Er → Er) where
  pub yes_as_one-ends : (b : Beginning Tok Cx St) (v : Option V) (p o : Outcome V Er St) → b.start ≤ p.end → YesAsOne {Tok = Tok} {Cx = Cx} merged b v p o → IsAnswer o.verdict → b.start ≤ o.end
  yes_as_one-ends b v p o l h a = let e = ap (λ (x : Outcome V Er St). x.end) (or_clash-whole h a) in omega arith

  pub yes_as_one-agrees : (s : V → V → Type 0) (b c : Beginning Tok Cx St) (v w : Option V) (p r o q : Outcome V Er St)
      → Alike b c → SameValue s v w → Agree s p r → YesAsOne merged b v p o → YesAsOne merged c w r q
      → IsAnswer o.verdict → IsAnswer q.verdict → Agree s o q
  yes_as_one-agrees s b c v w p r o q alike e g h k a z =
      rw (or_clash-whole h a, or_clash-whole k z) (record { answer = e; end = g.end; state = g.state; events = ap (λ es. option_to_list (primary merged es)) g.events; emitted = g.emitted })

module _ {Tok Cx St Er V : Type 0} (merged : Er → Er → Er) (maps : ErrMaps Tok Cx St Er) (part : Meaning Tok Cx St Er V) where
  mapped-ends : (k : Option (Event Er)) (b : Beginning Tok Cx St) (p o : Outcome V Er St) → b.start ≤ p.end → MappedAs merged maps k b p o → IsAnswer o.verdict → b.start ≤ o.end
  mapped-ends None b p o l h a = let e = ap (λ (x : Outcome V Er St). x.end) h in omega arith
  mapped-ends (Some k) b p o l h a = let e = ap (λ (x : Outcome V Er St). x.end) (or_clash-whole h.3 a) in omega arith

  pub map_err-ends : EndsAfterStart part → EndsAfterStart (MeansMapErr merged maps part)
  map_err-ends h b o m a = judged-ends part _ _ h (yes_as_one-ends merged) (λ b p o l j x. mapped-ends (primary merged p.events) b p o l j x) b o m.run a

  module _ (sv : V → V → Type 0) (once : MapsOnceShown maps) where
    mapped-agree : (k : Option (Event Er)) (b c : Beginning Tok Cx St) (p p' o q : Outcome V Er St) → Alike b c
        → Agree sv p p' → MappedAs merged maps k b p o → MappedAs merged maps k c p' q → IsAnswer o.verdict
        → IsAnswer q.verdict → Agree sv o q
    mapped-agree None b c p p' o q alike g h k a z =
        let told : Agree sv (retold No (as_one merged p)) (retold No (as_one merged p')) =
        record {
          answer = tt;
          end = g.end;
          state = g.state;
          events = ap (λ es. option_to_list (primary merged es)) g.events;
          emitted = g.emitted;
        }
        in
        rw (h, k) told
    mapped-agree (Some e) b c p p' o q alike g h k a z =
        let there : shown_of c p'.end p'.state ≡ shown_of b p.end p.state = cc (alike.tokens, alike.start, alike.context, g.end, g.state) in
        let both = once (shown_of b p.end p.state) e.error h.0 k.0 h.1 k.1 h.2 (subst (λ x. maps x e.error k.0 k.1) there k.2) in
        let same : h.0 ≡ k.0 = both.0 in
        rw (or_clash-whole h.3 a, or_clash-whole k.3 z) (record { answer = tt; end = g.end; state = both.1; events = cc same; emitted = g.emitted })

    pub map_err-agrees : Agreeing sv part part → Agreeing sv (MeansMapErr merged maps part) (MeansMapErr merged maps part)
    map_err-agrees h b c o q alike m n a z =
        judged-agrees part _ _ sv sv h (yes_as_one-agrees merged sv)
        (λ b c p p' o q alike g j k a z. mapped-agree (primary merged p.events) b c p p' o q alike g j (subst (λ es. MappedAs merged maps (primary merged es) c p' q) (sym g.events) k) a z)
        b c o q alike m.run n.run a z
