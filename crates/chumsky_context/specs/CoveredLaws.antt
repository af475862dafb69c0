-- The laws of slices and spans of what a part took.
use Rattle.std.proofs.Common.{◌≡◌, ℕ, false, Option, Some, None, option_map, List, refl, subst}
use Rattle.chumsky_input.specs.Layout.{Layout}
use Rattle.chumsky_input.specs.Outcome.{Meaning, SameValue, EndsAfterStart, Agreeing}
use Rattle.chumsky_parser.specs.Chained.{Given, Asked}
use Rattle.chumsky_parser.specs.FailureLaws.{wanted-same}
use Rattle.chumsky_parser.specs.Laws.{chained-ends, chained-agrees, given-ends, given-agrees, asked-ends, asked-agrees}
use Rattle.chumsky_context.specs.Covered.{Cover, Covers, AddsSpan, WithSpan, SameSpanned}

module _ {Tok Cx St Er V W : Type 0} (is : Layout Tok → ℕ → ℕ → W → Type 0) (part : Meaning Tok Cx St Er V) where
  pub covers-ends : EndsAfterStart part → EndsAfterStart (Covers is part)
  covers-ends h b o m a = chained-ends (Asked false part) (λ _. Cover is b.start) (asked-ends false part h) (λ _ c p n z. given-ends n.copies.value c p n.copies.given z) b o m.run a

  module _ (sv : V → V → Type 0) (same : W → W → Type 0) (one : (ts : Layout Tok) (i j : ℕ) (v w : W) → is ts i j v → is ts i j w → same v w) where
    cover-agrees : (i j : ℕ) → i ≡ j → Agreeing same (Cover {Cx = Cx} {St = St} {Er = Er} is i) (Cover is j)
    cover-agrees i j e b c o q alike m n a z =
        let there : is b.tokens i b.start ≡ is c.tokens j c.start = cc (alike.tokens, alike.start, e) in
        let x = m.copies in
        let y = n.copies in
        given-agrees same x.value y.value
        (wanted-same (is b.tokens i b.start) same (λ v w. one b.tokens i b.start v w) b.wanted c.wanted x.value y.value x.is_value (rw there y.is_value)) b c o q alike x.given y.given a z

    pub covers-agree : Agreeing sv part part → Agreeing same (Covers is part) (Covers is part)
    covers-agree h b c o q alike m n a z =
        chained-agrees (Asked false part) (Asked false part) (λ _. Cover is b.start) (λ _. Cover is c.start) sv same
        (asked-agrees false part sv h) (λ _ _ _. cover-agrees b.start c.start alike.start) b c o q alike m.run
        n.run a z

module _ {Tok Cx St Er V W : Type 0} (with_span : Layout Tok → ℕ → ℕ → V → W) (part : Meaning Tok Cx St Er V) where
  pub with_span-ends : EndsAfterStart part → EndsAfterStart (WithSpan with_span part)
  with_span-ends h b o m a = chained-ends part (AddsSpan with_span b.start) h (λ v c p n z. given-ends (option_map (with_span c.tokens b.start c.start) v) c p n.given z) b o m.run a

  module _ (sv : V → V → Type 0) where
    spanned-same : (ts : Layout Tok) (i j : ℕ) (v w : Option V) → SameValue sv v w → SameValue (SameSpanned with_span sv) (option_map (with_span ts i j) v) (option_map (with_span ts i j) w)
    spanned-same ts i j (Some v) (Some w) e = record { first = v; second = w; tokens = ts; from = i; to = j; are = e; is_first = refl; is_second = refl }
    spanned-same ts i j (Some v) None e = tt
    spanned-same ts i j None w e = tt

    adds_span-agrees : (i j : ℕ) → i ≡ j → (v w : Option V) → SameValue sv v w → Agreeing (SameSpanned with_span sv) (AddsSpan {Cx = Cx} {St = St} {Er = Er} with_span i v) (AddsSpan with_span j w)
    adds_span-agrees i j e v w s b c o q alike m n a z =
        let there : with_span c.tokens j c.start ≡ with_span b.tokens i b.start = cc (alike.tokens, alike.start, e) in
        given-agrees (SameSpanned with_span sv) (option_map (with_span b.tokens i b.start) v)
        (option_map (with_span b.tokens i b.start) w) (spanned-same b.tokens i b.start v w s) b c o q alike
        m.given (subst (λ f. Given (option_map f w) c q) there n.given) a z

    pub with_span-agree : Agreeing sv part part → Agreeing (SameSpanned with_span sv) (WithSpan with_span part) (WithSpan with_span part)
    with_span-agree h b c o q alike m n a z =
        chained-agrees part part (AddsSpan with_span b.start) (AddsSpan with_span c.start) sv
        (SameSpanned with_span sv) h (λ v w s. adds_span-agrees b.start c.start alike.start v w s) b c o q alike
        m.run n.run a z
