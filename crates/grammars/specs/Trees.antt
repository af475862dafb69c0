-- Digits in lists within one another, and how they are written.
-- Main words: IsTree, tree_expression.
use Rattle.std.specs.Prelude.{◌≡◌, ℕ, true, false, nat_eq, List, [], ◌∷◌, ◌++◌, None, codes}
use Rattle.std.specs.declared.alloc.Global.{Global}
use Rattle.std.specs.declared.vec.Vec.{Vec}
use Rattle.chumsky_primitive.specs.OneOf.{among}
use Rattle.chumsky_rules.specs.declared.kinds.SepCfg.{SepCfg}
use Rattle.chumsky_grammars.specs.Expression.{Expression, Leaf, Call, Then, Or, Separated}
use Rattle.grammars.specs.declared.trees.Tree.{Tree}
use Rattle.grammars.specs.declared.trees.Tree as tree
use Rattle.grammars.specs.declared.trees.Tree.TheVariants as variant

mutual
  -- a text is a tree: a digit, or brackets with nothing or with trees between them
  pub data IsTree : List ℕ → Tree → Type 0 where
    digit : (c : ℕ) → among nat_eq (codes "0123456789") c ≡ true → IsTree (c ∷ []) (tree.Digit c)
    empty : (ts : Vec Tree Global) → ts.items ≡ [] → IsTree (91 ∷ 93 ∷ []) (tree.List ts)
    list : {w : List ℕ} (ts : Vec Tree Global) → AreTexts w ts.items → IsTree (91 ∷ (w ++ (93 ∷ []))) (tree.List ts)

  -- one or more trees, with a comma between each two
  pub data AreTexts : List ℕ → List Tree → Type 0 where
    one : {w : List ℕ} {t : Tree} → IsTree w t → AreTexts w (t ∷ [])
    more : {w ws : List ℕ} {t : Tree} {ts : List Tree} → IsTree w t → AreTexts ws ts → AreTexts (w ++ (44 ∷ ws)) (t ∷ ts)

-- a list stands before what follows it, and a bracket does not
abbrev pub kept : Tree → Tree → Tree
kept (variant.Digit c) other = other
kept (variant.List' shape row) other = variant.List' shape row

-- the list of these
abbrev pub HoldsItems : List Tree → Tree → Type 0
HoldsItems items v = (ts : Vec Tree Global) × (ts.items ≡ items) × (v ≡ tree.List ts)

abbrev pub plain : SepCfg
plain = record { at_least = 0; at_most = None; allow_leading = false; allow_trailing = false }

-- digit / "[" (T ("," T)*)? "]"
abbrev pub tree_expression : Expression
tree_expression = Or (Leaf 0) (Then (Leaf 1) (Then (Separated (Call 0) (Leaf 2) plain) (Leaf 3) 0) 0)
