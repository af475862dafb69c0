-- Numbers in lists within one another: how they are written, and the language of the function that reads them.
-- Main words: IsTree, IsText, levels, trees. Laws: TreesLaws.antt. Read first: Number.antt.
use Rattle.std.specs.Prelude.{ℕ, zero, suc, max, ◌||◌, nat_eq, true, Bool, Option, List, [], ◌∷◌, ◌++◌, codes}
use Rattle.std.specs.Char.{is_digit}
use Rattle.std.specs.Str.{encode_utf8_all}
use Rattle.std.specs.declared.alloc.Global.{Global}
use Rattle.std.specs.declared.vec.Vec.{Vec}
use Rattle.chumsky_parser.specs.Words.{StopsAt}
use Rattle.chumsky_text.specs.Decimals.{unsigned_of}
use Rattle.chumsky_descent.specs.Calls.{Intended}
use Rattle.exact.specs.declared.trees.Tree.{Tree, fold-Tree}
use Rattle.exact.specs.declared.trees.Tree.TheOpen.{Tree-F}
use Rattle.exact.specs.declared.trees.Tree as tree
use Rattle.exact.specs.Number.{IsNumber}

mutual
  -- a text is a tree: a number, or trees between brackets
  pub data IsTree : List ℕ → Tree → Type 0 where
    is_number : {w : List ℕ} (n : ℕ) → IsNumber w n → IsTree w (tree.Number n)
    is_list : {w : List ℕ} (ts : Vec Tree Global) → AreTrees w ts.items → IsTree (codes "[" ++ (w ++ codes "]")) (tree.List ts)

  -- trees, with a comma between each two
  pub data AreTrees : List ℕ → List Tree → Type 0 where
    no_tree : AreTrees [] []
    one_tree : {w : List ℕ} {t : Tree} → IsTree w t → AreTrees w (t ∷ [])
    more_trees : {w ws : List ℕ} {t u : Tree} {ts : List Tree} → IsTree w t → AreTrees ws (u ∷ ts) → AreTrees (w ++ (codes "," ++ ws)) (t ∷ u ∷ ts)

mutual
  -- the same of the text alone, in which a list may have more trees than a `Vec` holds
  pub data IsText : List ℕ → Type 0 where
    number_text : {w : List ℕ} (n : ℕ) → IsNumber w n → IsText w
    list_text : {w : List ℕ} (n : ℕ) → AreTexts w n → IsText (codes "[" ++ (w ++ codes "]"))

  -- so many of them, with a comma between each two
  pub data AreTexts : List ℕ → ℕ → Type 0 where
    no_text : AreTexts [] zero
    one_text : {w : List ℕ} → IsText w → AreTexts w (suc zero)
    more_texts : {w ws : List ℕ} {n : ℕ} → IsText w → AreTexts ws (suc n) → AreTexts (w ++ (codes "," ++ ws)) (suc (suc n))

-- the greatest of some numbers
abbrev pub most : List ℕ → ℕ
most [] = 0
most (n ∷ ns) = max n (most ns)

-- one level, in which each tree inside is already counted
abbrev pub levels_step : Tree-F ℕ → ℕ
levels_step (Tree-F.Number n) = 0
levels_step (Tree-F.List v) = suc (most v.items)

-- how many lists stand within one another at most: none in a number, one in `[]` and in `[1,[]]` two
abbrev pub levels : Tree → ℕ
levels = fold-Tree ℕ levels_step

-- a tree begins with a digit or a bracket
abbrev pub begins_tree : ℕ → Bool
begins_tree c = is_digit c 10 || nat_eq 91 c

-- these are the words of the function, where no digit follows
abbrev pub trees : Intended ℕ Tree
trees = record { word = IsText; stands_for = IsTree; follow = StopsAt (λ c. is_digit c 10); fails = StopsAt begins_tree; moves = true }

-- the number that digits write
abbrev pub number_of : List ℕ → Option ℕ
number_of w = unsigned_of 32 (encode_utf8_all w)
