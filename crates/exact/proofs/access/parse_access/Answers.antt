use Rattle.std.proofs.Common.{ℕ, List, [], ◌∷◌, refl, rules, inl, inr}
use Rattle.std.specs.Prelude.{codes}
use Rattle.std.specs.Str.{chars}
use Rattle.chumsky_exact.specs.Chosen.{Lists}
use Rattle.chumsky_exact.specs.Sets.{answers-by_tables}
use Rattle.exact.specs.declared.access.Purpose.{Purpose}
use Rattle.exact.specs.declared.access.Purpose.TheVariants.{Read, Write}
use Rattle.exact.specs.declared.access.Content.{Content}
use Rattle.exact.specs.declared.access.Content.TheVariants.{Text, Bytes}
use Rattle.exact.specs.Access.{purpose_text, content_text}
use Rattle.exact.proofs.access.parse_access.Goals as goal

abbrev purposes : List (List ℕ × Purpose)
purposes = (codes "r", Read) ∷ (codes "w", Write) ∷ []

abbrev contents : List (List ℕ × Content)
contents = (codes "t", Text) ∷ (codes "b", Bytes) ∷ []

pub returns : goal.returns
unfolding chars
returns c =
    let p = c.or-purpose.ensures in
    let t = c.or-content.ensures in
    let parts = rw (c.set.ensures, p.first, p.second, t.first, t.second) at (c.parse.ensures.3.reads refl) in
    let letters = rw (c.to.ensures.parser, c.to-2.ensures.parser, c.to-3.ensures.parser, c.to-4.ensures.parser) at parts in
    let valued = rw (c.to.ensures.value, c.to-2.ensures.value, c.to-3.ensures.value, c.to-4.ensures.value) at letters in
    let a = rw (c.just.ensures, c.just-2.ensures, c.just-3.ensures, c.just-4.ensures) at valued in
    let both = answers-by_tables purpose_text content_text a purposes contents refl (λ v s. s) refl (search rules) (search rules) (search rules)
    (λ v. elim v as (λ purpose. Lists purposes purpose) [ Read ↦ inl refl | Write ↦ inr (inl refl) ])
    (λ v. elim v as (λ content. Lists contents content) [ Text ↦ inl refl | Bytes ↦ inr (inl refl) ]) in
    record { exact = both.0; answered = both.1 (search rules) (search rules) }
