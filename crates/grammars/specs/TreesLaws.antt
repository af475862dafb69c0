-- The rule takes just the texts of trees.
-- Main words: leaves, trees. Main laws: sound, complete. Read first: Trees.antt, EachWord.antt, SeparatedLaws.antt and ExactlyLaws.antt of chumsky_grammars.
use Rattle.std.proofs.Common.{◌≡◌, ℕ, suc, ◌<◌, List, [], ◌∷◌, ◌++◌, None, length, map, refl, arith, append_assoc}
use Rattle.std.proofs.lemmas.List.{length-append}
use Rattle.std.specs.Prelude.{⊤, codes}
use Rattle.std.specs.declared.alloc.Global.{Global}
use Rattle.std.specs.declared.vec.Vec.{Vec}
use Rattle.chumsky_parser.specs.Language.{Language}
use Rattle.chumsky_grammars.specs.BuiltLeaves.{BuiltLeaf, one_of_by, built, one_of-is}
use Rattle.chumsky_grammars.specs.EachWord.{Keeps, one_rule}
use Rattle.chumsky_grammars.specs.RuleLanguage.{Makes}
use Rattle.chumsky_grammars.specs.SeparatedLaws.{Takes, AreTaken, list-each, list-taken}
use Rattle.chumsky_grammars.specs.SeparatedLaws.AreTaken.{last_item, more_items}
use Rattle.grammars.specs.declared.trees.Tree.{Tree}
use Rattle.grammars.specs.declared.trees.Tree as tree
use Rattle.grammars.specs.Trees.{IsTree, AreTexts, HoldsItems, kept, tree_expression}
use Rattle.grammars.specs.Trees.IsTree.{digit, empty, list}
use Rattle.grammars.specs.Trees.AreTexts.{one, more}

-- the leaves
abbrev pub leaves : List (BuiltLeaf Tree)
leaves = map (λ set. one_of_by set (λ c. tree.Digit c)) (codes "0123456789" ∷ codes "[" ∷ codes "," ∷ codes "]" ∷ [])

-- of two parts a list is kept, and a list holds its items
abbrev pub trees : Makes ℕ Tree
trees = record { pair = λ _ p v. v ≡ kept p.0 p.1; map = λ f v w. ⊤; option = λ o v. ⊤; unit = λ v. ⊤; list = HoldsItems; picks = None }

-- a list of these, in brackets, is a tree
abbrev Bracketed : List ℕ → List Tree → Type 0
Bracketed w items = (ts : Vec Tree Global) → ts.items ≡ items → IsTree (91 ∷ (w ++ (93 ∷ []))) (tree.List ts)

-- each word is a tree, if those of calls are
pub sound : Keeps trees leaves tree_expression IsTree
sound call deeper = (
  digit,
  λ w items l u h closed p v q.
      rw (q, p, h.2) (list-each {Q = Bracketed} deeper (λ s. one_of-is 44) (λ w t i. one i) (λ w ws t u us i a. more i a) empty (λ w us a ts e. list {w = w} ts (rw e a)) w items l h.0 h.1),
)

-- the language of a call, where so many may be open
abbrev calls : ℕ → Language ℕ Tree
calls = one_rule trees leaves tree_expression

mutual
  -- what is a tree is taken
  pub complete : {w : List ℕ} {t : Tree} → IsTree w t → (n : ℕ) → length w < n → Takes (calls n).ends w
  complete (digit c d) (suc n) l rest = rw d refl
  complete (empty ts e) (suc (suc n)) l rest = refl
  complete (list {w} ts a) (suc (suc n)) l rest =
      rw (append_assoc, list-taken (calls (suc n)).ends (built leaves 2).ends 93 rest refl refl (all_taken {w = w} a (suc n) (omega (arith, length-append {A = ℕ})))) refl
  complete {w} i n l rest = absurd (omega (arith, l))

  -- and so are trees with a comma between each two
  all_taken : {w : List ℕ} {ts : List Tree} → AreTexts w ts → (n : ℕ) → length w < n → AreTaken (calls n).ends (built leaves 2).ends w
  all_taken (one {w} i) n l = last_item w (complete {w = w} i n l)
  all_taken (more {w} {ws} i a) n l =
      more_items w (44 ∷ []) (complete {w = w} i n (omega (arith, length-append {A = ℕ}))) (omega arith) (λ rest. refl) (all_taken {w = ws} a n (omega (arith, length-append {A = ℕ})))
