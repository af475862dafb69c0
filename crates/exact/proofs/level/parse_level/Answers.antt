use Rattle.std.proofs.Common.{ℕ, List, [], ◌∷◌, refl, rules}
use Rattle.std.specs.Prelude.{codes}
use Rattle.std.specs.Str.{chars}
use Rattle.chumsky_exact.specs.Chosen.{Lists, answers-by_table}
use Rattle.exact.specs.declared.level.Level.{Level}
use Rattle.exact.specs.declared.level.Level.TheVariants.{Error, Warn, Info, Debug}
use Rattle.exact.specs.Level.{level_text}
use Rattle.exact.proofs.level.parse_level.Goals as goal

abbrev words : List (List ℕ × Level)
words = (codes "error", Error) ∷ (codes "warn", Warn) ∷ (codes "info", Info) ∷ (codes "debug", Debug) ∷ []

pub returns : goal.returns
unfolding chars
returns c =
    let a = c.parse.ensures.3.reads refl in
    let both = answers-by_table level_text a (codes "level=") words _ (_ ∷ _ ∷ _ ∷ _ ∷ []) refl (λ v s. s) refl
    (rw (c.ignore_then.ensures.first, c.ignore_then.ensures.second, c.choice-level.ensures, c.to.ensures.parser, c.to-2.ensures.parser, c.to-3.ensures.parser, c.to-4.ensures.parser)
    (rw (c.to.ensures.value, c.to-2.ensures.value, c.to-3.ensures.value, c.to-4.ensures.value, c.just.ensures, c.just-2.ensures, c.just-3.ensures, c.just-4.ensures, c.just-5.ensures) refl))
    (search rules) (search rules) (λ v. elim v as (λ level. Lists words level) [ Error ↦ search rules | Warn ↦ search rules | Info ↦ search rules | Debug ↦ search rules ]) in
    record { exact = both.0; answered = both.1 (search rules) (search rules) }
