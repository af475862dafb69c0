use Rattle.std.proofs.Common.{ℕ, List, [], ◌∷◌, refl, rules}
use Rattle.std.specs.Prelude.{codes}
use Rattle.std.specs.Str.{chars}
use Rattle.chumsky_exact.specs.Chosen.{Lists, after_nothing, answers-by_table}
use Rattle.exact.specs.declared.method.Method.{Method}
use Rattle.exact.specs.declared.method.Method.TheVariants.{Get, Head, Post, Put, Delete, Connect, Options, Trace}
use Rattle.exact.specs.Method.{method_text}
use Rattle.exact.proofs.method.parse_method.Goals as goal

abbrev words : List (List ℕ × Method)
words = (codes "GET", Get) ∷ (codes "HEAD", Head) ∷ (codes "POST", Post) ∷ (codes "PUT", Put) ∷
    (codes "DELETE", Delete) ∷ (codes "CONNECT", Connect) ∷ (codes "OPTIONS", Options) ∷ (codes "TRACE", Trace) ∷ []

pub returns : goal.returns
unfolding chars
returns c =
    let a = c.parse.ensures.3.reads refl in
    let both = answers-by_table method_text a [] words [] (_ ∷ _ ∷ _ ∷ _ ∷ _ ∷ _ ∷ _ ∷ _ ∷ []) refl (λ v s. after_nothing s) refl
    (rw c.choice-method.ensures
    (rw (c.to.ensures.parser, c.to-2.ensures.parser, c.to-3.ensures.parser, c.to-4.ensures.parser, c.to-5.ensures.parser, c.to-6.ensures.parser, c.to-7.ensures.parser, c.to-8.ensures.parser)
    (rw (c.to.ensures.value, c.to-2.ensures.value, c.to-3.ensures.value, c.to-4.ensures.value, c.to-5.ensures.value, c.to-6.ensures.value, c.to-7.ensures.value, c.to-8.ensures.value)
    (rw (c.just.ensures, c.just-2.ensures, c.just-3.ensures, c.just-4.ensures, c.just-5.ensures, c.just-6.ensures, c.just-7.ensures, c.just-8.ensures) refl))))
    (search rules) (search rules) (λ v. elim v as (λ method. Lists words method) [
      | Get ↦ search rules
      | Head ↦ search rules
      | Post ↦ search rules
      | Put ↦ search rules
      | Delete ↦ search rules
      | Connect ↦ search rules
      | Options ↦ search rules
      | Trace ↦ search rules
    ]) in
    record { exact = both.0; answered = both.1 (search rules) (search rules) }
