-- What a mapper makes of a value and its span, through the parts of `try_map_in`: with its span, in memory, and handed on.
use Rattle.std.proofs.Common.{◌≡◌, ℕ, Result, Ok, sym, subst}
use Rattle.chumsky_input.specs.declared.span.Spanned.{Spanned}
use Rattle.chumsky_input.specs.Layout.{Layout}
use Rattle.chumsky_combinator.specs.Mapped.{SameMapped}
use Rattle.chumsky_context.specs.Covered.{SameSpanned}
use Rattle.chumsky_judge.specs.Tried.{TriesAlike, SameTryMapped}

module _ {Tok V W Sp Er S : Type 0} (between : Layout Tok → ℕ → ℕ → Sp) (same : V → V → Type 0) (seen : Er → S) (made : V → Sp → Result W Er → Type 0) where
  abbrev with_span : Layout Tok → ℕ → ℕ → V → Spanned V Sp
  with_span ts i j v = record { inner = v; span = between ts i j }

  -- what is made of a value with its span
  abbrev Made : Spanned V Sp → Result W Er → Type 0
  Made v r = made v.inner v.span r

  -- answers to values that are the same with one span, as the parts have them
  abbrev SameMade : Result W Er → Result W Er → Type 0
  SameMade = SameMapped (SameSpanned with_span same) Made

  -- the answer that was made
  abbrev Handed : Result W Er → Sp → Result W Er → Type 0
  Handed v span r = r ≡ v

  module _ (r t : Result W Er) (m : SameMade r t) where
    abbrev span_of : Sp
    span_of = between m.alike.tokens m.alike.from m.alike.to

    first_made : made m.alike.first span_of r
    first_made = subst (λ v. Made v r) m.alike.is_first m.from_first

    second_made : made m.alike.second span_of t
    second_made = subst (λ v. Made v t) m.alike.is_second m.from_second

  pub handed_on-alike : TriesAlike same seen made → TriesAlike SameMade seen Handed
  handed_on-alike h v w span x y m p q =
      rw (p, q) (h m.alike.first m.alike.second (span_of v w m) v w m.alike.are (first_made v w m) (second_made v w m))

  pub handed_on-same : (x y : W) → SameTryMapped SameMade seen Handed x y → SameTryMapped same seen made x y
  handed_on-same x y m =
      let v : Result W Er = m.first in
      let w : Result W Er = m.second in
      record {
        first = m.alike.alike.first;
        second = m.alike.alike.second;
        span = span_of v w m.alike;
        alike = m.alike.alike.are;
        from_first = subst (λ r. made m.alike.alike.first (span_of v w m.alike) r) (sym m.from_first) (first_made v w m.alike);
        from_second = subst (λ r. made m.alike.alike.second (span_of v w m.alike) r) (sym m.from_second) (second_made v w m.alike);
      }
