-- What is so of each word of an expression, with each of its values, from what is so of those of its leaves and calls.
-- Main words: Apart, Keeps, one_rule. Main laws: each-apart, each-call. Read first: RuleLanguage.antt, BuiltLeaves.antt.
use Rattle.std.proofs.Common.{ℕ, zero, suc, Some, None, List, [], ◌∷◌, ◌++◌, sym, subst, inl, inr}
use Rattle.chumsky_parser.specs.ItemsLanguage.{ItemsLanguage, ListFrom}
use Rattle.chumsky_parser.specs.Language.{Language}
use Rattle.chumsky_items.specs.RepeatedLanguage.{repeated_language}
use Rattle.chumsky_items.specs.SeparatedLanguage.{separated_language}
use Rattle.chumsky_recursive.specs.Means.{bounds_of}
use Rattle.chumsky_grammars.specs.BuiltLeaves.{BuiltLeaf, built, Each, LeafApart, leaf-apart}
use Rattle.chumsky_grammars.specs.Expression.{Expression, Leaf, Call, Then, Or, Map, Optional, Repeated, Separated}
use Rattle.chumsky_grammars.specs.RuleLanguage.{Makes, expression_language, rule_language}

-- items with these values, one after another, and the end of the list
abbrev pub IsListOf : {Tok S V : Type 0} → ItemsLanguage Tok S V → List Tok → List V → Type 0
IsListOf items w vs = ListFrom items.stands_for items.last 0 vs w

module _ {V : Type 0} (makes : Makes ℕ V) (leaves : List (BuiltLeaf V)) where
  module _ (call : ℕ → Language ℕ V) (So : ℕ → List ℕ → V → Type 0) where
    abbrev of : Expression → Language ℕ V
    of = expression_language makes (built leaves) call

    -- P of each word of an expression, with each of its values: the word is put together of those of its parts, the value is made of
    -- theirs, and those of calls are so, as is said of each rule
    abbrev pub Apart : Expression → (List ℕ → V → Type 0) → Type 0
    Apart (Leaf n) P = LeafApart leaves n P
    Apart (Call r) P = (w : List ℕ) (v : V) → So r w v → P w v
    Apart (Then e f n) P = Apart e (λ u x. Apart f (λ w y. (v : V) → makes.pair n (x, y) v → P (u ++ w) v))
    Apart (Or e f) P = Apart e P × Apart f P
    Apart (Map e f) P = Apart e (λ w x. (v : V) → makes.map f x v → P w v)
    Apart (Optional e) P = ((v : V) → makes.option None v → P [] v) × Apart e (λ w x. (v : V) → makes.option (Some x) v → P w v)
    Apart (Repeated e least most) P = (w : List ℕ) (vs : List V) → IsListOf (repeated_language (of e) least most) w vs → (v : V) → makes.list vs v → P w v
    Apart (Separated e f config) P = (w : List ℕ) (vs : List V) → IsListOf (separated_language (of f) (of e) (bounds_of config)) w vs → (v : V) → makes.list vs v → P w v
    Apart e P = Each (of e) P

    -- so it is enough to show it of them
    pub each-apart : ((r : ℕ) → Each (call r) (So r)) → (e : Expression) (P : List ℕ → V → Type 0) → Apart e P → Each (of e) P
    each-apart d (Leaf n) P h w v s = leaf-apart leaves n P h w v s
    each-apart d (Call r) P h w v s = h w v (d r w v s)
    each-apart d (Then e f n) P h w v s =
        let j = s.1 in
        let first = each-apart d e (λ u x. Apart f (λ w y. (v : V) → makes.pair n (x, y) v → P (u ++ w) v)) h j.first s.0.0 j.is_first in
        subst (λ z. P z v) (sym j.all) (each-apart d f (λ w y. (v : V) → makes.pair n (s.0.0, y) v → P (j.first ++ w) v) first j.second s.0.1 j.is_second v s.2)
    each-apart d (Or e f) P h w v (inl s) = each-apart d e P h.0 w v s
    each-apart d (Or e f) P h w v (inr s) = each-apart d f P h.1 w v s
    each-apart d (Map e f) P h w v s = each-apart d e (λ w x. (v : V) → makes.map f x v → P w v) h w s.0 s.1 v s.2
    each-apart d (Optional e) P h w v (None, i, m) = subst (λ z. P z v) (sym i) (h.0 v m)
    each-apart d (Optional e) P h w v (Some x, i, m) = each-apart d e (λ w x. (v : V) → makes.option (Some x) v → P w v) h.1 w x i v m
    each-apart d (Repeated e least most) P h w v s = h w s.1.items s.1.is v (subst (λ z. makes.list z v) s.1.held s.2)
    each-apart d (Separated e f config) P h w v s = h w s.1.items s.1.is v (subst (λ z. makes.list z v) s.1.held s.2)
    each-apart d e P h w v s = h w v s

  -- of one rule, the first: P of the words of its calls
  abbrev pub OfRule : (ℕ → Language ℕ V) → (List ℕ → V → Type 0) → ℕ → List ℕ → V → Type 0
  OfRule call P zero w v = P w v
  OfRule call P (suc r) w v = (call (suc r)).stands_for w v

  -- each word of its body is of P, where each of its calls is
  abbrev pub Keeps : Expression → (List ℕ → V → Type 0) → Type 1
  Keeps e P = (call : ℕ → Language ℕ V) → Each (call 0) P → Apart call (OfRule call P) e P

  -- the language of its calls, where so many more may be open
  abbrev pub one_rule : Expression → ℕ → Language ℕ V
  one_rule e n = rule_language makes (built leaves) (e ∷ []) n 0

  -- so each word of a call is of P, however many may be open
  pub each-call : (e : Expression) (P : List ℕ → V → Type 0) → Keeps e P → (n : ℕ) → Each (one_rule e n) P
  each-call e P h zero w v s = absurd s
  each-call e P h (suc n) w v s =
      let call = rule_language makes (built leaves) (e ∷ []) n in
      each-apart call (OfRule call P) (by_number call (each-call e P h n)) e P (h call (each-call e P h n)) w v s
    where
      by_number : (call : ℕ → Language ℕ V) → Each (call 0) P → (r : ℕ) → Each (call r) (OfRule call P r)
      by_number call d zero w v s = d w v s
      by_number call d (suc r) w v s = s
