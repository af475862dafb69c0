-- What is made of words, and of what is quoted.
use Rattle.std.proofs.Common.{◌≡◌, ◌≢◌, ℕ, cond, Bool, true, false, Option, Some, None, List, [], ◌∷◌, ◌++◌, length, refl, sym, ◌∙◌, ap, subst, arith, rules}
use Rattle.std.specs.Box.{box_value}
use Rattle.std.specs.Char.{is_ascii_digit}
use Rattle.std.specs.List.{list_all}
use Rattle.std.specs.Prelude.{◌==◌}
use Rattle.std.specs.Borrow.{Bor}
use Rattle.std.specs.Option.{MatchOption}
use Rattle.std.specs.declared.alloc.Global.{Global}
use Rattle.std.specs.declared.boxed.Box.{Box}
use Rattle.std.proofs.Math.Utf8.{encode, encodes}
use Rattle.std.specs.Str.{IsUtf8, chars}
use Rattle.std.proofs.lemmas.Bool.Decides.{nat_tests}
use Rattle.std.proofs.lemmas.Str.{chars-nil, encodes-chars, chars_past_char}
use Rattle.s_expression.specs.declared.expression.Expression.{Expression, the_lemmas}
use Rattle.s_expression.specs.declared.expression.Expression as expression
use Rattle.s_expression.specs.Lisp.{quoted, form_of, are_digits, is_integer, QuotesLast}

-- digits, where there are any
pub digits-none : (bs : List ℕ) (empty : Bool) → empty ≡ (length bs == 0) → empty ≡ true → false ≡ are_digits (chars bs)
digits-none [] empty e t = let n = chars-nil in rw n refl
digits-none (b ∷ bs) empty e t = let z : (length (b ∷ bs) == 0) ≡ true = sym e ∙ t in absurd (grind (arith, nat_tests))

pub digits-all : (bs : List ℕ) (empty r : Bool) → IsUtf8 bs → empty ≡ (length bs == 0) → empty ≡ false → r ≡ list_all is_ascii_digit (chars bs) → r ≡ are_digits (chars bs)
digits-all bs empty r u e f h = by_chars (chars bs) refl h
  where
    by_chars : (cs : List ℕ) → chars bs ≡ cs → r ≡ list_all is_ascii_digit cs → r ≡ are_digits cs
    by_chars (c ∷ cs) d h = h
    by_chars [] d h =
        let n : bs ≡ [] = sym (encodes-chars bs u) ∙ ap encodes d in
        let z : (length bs == 0) ≡ true = ap (λ y. length y == 0) n in
        absurd (cc (e, f, z))

-- an integer after a minus, and one without
module _ (bs : List ℕ) (r : Option (Bor (List ℕ))) (h : MatchOption r ((rest : List ℕ) → bs ≢ 45 ∷ rest) (λ x. bs ≡ 45 ∷ x.now)) (u : IsUtf8 bs) where
  pub integer-some : (x : Bor (List ℕ)) → r ≡ Some x → are_digits (chars x.now) ≡ is_integer (chars bs)
  unfolding encode
  integer-some x e =
      let d : bs ≡ 45 ∷ x.now = rw e at h in
      let c : chars bs ≡ 45 ∷ chars x.now = chars_past_char bs x.now 45 u d in
      rw c refl

  pub integer-none : r ≡ None → are_digits (chars bs) ≡ is_integer (chars bs)
  unfolding encode
  integer-none e = by_chars (chars bs) refl
    where
      by_chars : (cs : List ℕ) → chars bs ≡ cs → are_digits cs ≡ is_integer cs
      by_chars [] d = refl
      by_chars (c ∷ cs) d = by_minus (c == 45) refl
        where
          by_minus : (m : Bool) → (c == 45) ≡ m → are_digits (c ∷ cs) ≡ cond m (are_digits cs) (are_digits (c ∷ cs))
          by_minus false q = refl
          by_minus true q =
              let k : c ≡ 45 = grind (arith, nat_tests) in
              let n : (rest : List ℕ) → bs ≢ 45 ∷ rest = rw e at h in
              absurd (n (encodes cs) (sym (encodes-chars bs u) ∙ ap encodes d ∙ ap (λ y. encodes (y ∷ cs)) k))
