-- The function that reads numbers in lists accepts just these.
-- Main word: grammar. Main laws: trees-intended, tree-text. Read first: Trees.antt, Lists.antt of chumsky_exact.
use Rattle.std.proofs.Common.{◌≡◌, ℕ, suc, nat_eq, List, [], ◌∷◌, length, refl, sym, subst, inl, inr}
use Rattle.std.specs.Prelude.{codes}
use Rattle.std.specs.Char.{is_digit}
use Rattle.chumsky_parser.specs.Ending.{DoesNotEnd}
use Rattle.chumsky_parser.specs.Language.{Language}
use Rattle.chumsky_parser.specs.Words.{StopsAt}
use Rattle.chumsky_primitive.specs.PrimitiveLanguage.{Equals}
use Rattle.chumsky_primitive.specs.Literals.{equals-same, same-equals}
use Rattle.chumsky_descent.specs.CallLanguage.{call_language, IsIntended, call-is_intended}
use Rattle.chumsky_descent.specs.Exactly.{grammar_of}
use Rattle.chumsky_exact.specs.Lists.{Items, last_item, more_items, IsList, listed-by, none-list, items-list, bracketed-once, bracketed-below}
use Rattle.chumsky_exact.specs.Numerals.{int-unsigned, picked-unsigned, unsigned-int, no_digit-stops}
use Rattle.chumsky_exact.specs.Parts.{within, between}
use Rattle.chumsky_exact.specs.TableLaws.{both_false}
use Rattle.exact.specs.declared.trees.Tree.{Tree}
use Rattle.exact.specs.declared.trees.Tree as tree
use Rattle.exact.specs.Trees.{IsTree, is_number, is_list, AreTrees, no_tree, one_tree, more_trees, IsText, number_text, list_text, AreTexts, no_text, one_text, more_texts, begins_tree, trees}
use Rattle.exact.specs.contracts.trees.OfTreeBodyRefStrTreeEmptyText.TheImpl.{ghosts, no_dict}
use denote.Builtin.{unit}

-- the language of the function's body, of that of a call in it
abbrev pub grammar : Language ℕ Tree → Language ℕ Tree
grammar = grammar_of (λ call. (ghosts unit call no_dict).body tt)

-- the text of a tree is one
mutual
  pub tree-text : {w : List ℕ} {t : Tree} → IsTree w t → IsText w
  tree-text (is_number n i) = number_text n i
  tree-text (is_list ts a) = list_text (length ts.items) (trees-texts a)

  pub trees-texts : {w : List ℕ} {ts : List Tree} → AreTrees w ts → AreTexts w (length ts)
  trees-texts no_tree = no_text
  trees-texts (one_tree i) = one_text (tree-text i)
  trees-texts (more_trees i a) = more_texts (tree-text i) (trees-texts a)

-- a text of them is a word of a list
module _ (P : List ℕ → Type 0) (is : (w : List ℕ) → IsText w → P w) where
  some_items : {w : List ℕ} {n : ℕ} → AreTexts w (suc n) → Items (Equals nat_eq (codes ",")) P w
  some_items (one_text {w} i) = last_item (is w i)
  some_items (more_texts {w} i a) = more_items {s = codes ","} (is w i) (same-equals (codes ",")) (some_items a)

  texts-list : {w : List ℕ} {n : ℕ} → AreTexts w n → IsList (Equals nat_eq (codes ",")) P 0 w
  texts-list no_text = none-list (Equals nat_eq (codes ",")) P
  texts-list (one_text i) = items-list (Equals nat_eq (codes ",")) P (some_items (one_text i))
  texts-list (more_texts i a) = items-list (Equals nat_eq (codes ",")) P (some_items (more_texts i a))

module _ (call : Language ℕ Tree) (depth : ℕ) (i : IsIntended trees call depth) where
  only : (w : List ℕ) → (grammar call).word w → IsText w
  only w j = elim j [
    | inl n ↦ let k = picked-unsigned 32 w n in number_text k.0 k.1
    | inr l ↦ within IsText (codes "[") (codes "]") l (λ u k. list_text (length k.items) (listed-by (codes ",") (λ v z. call.word v) (λ v vs. AreTexts v (length vs)) no_text
        (λ v z h. one_text (i.only v h)) (λ v vs z y zs h a. more_texts (i.only v h) a) k.items u k.are))
  ]

  given : (w : List ℕ) (t : Tree) → (grammar call).stands_for w t → IsTree w t
  given w t j = elim j [
    | inl m ↦ subst (IsTree w) (sym m.2) (is_number m.0 (int-unsigned 32 w m.0 m.1))
    | inr m ↦ subst (IsTree w) (sym m.2) (within (λ z. IsTree z (tree.List m.0)) (codes "[") (codes "]") m.1 (λ u k. is_list m.0 (subst (AreTrees u) (sym k.held)
        (listed-by (codes ",") call.stands_for AreTrees no_tree (λ v z h. one_tree (i.given v z h)) (λ v vs z y zs h a. more_trees (i.given v z h) a) k.items u k.is))))
  ]

  each : (w : List ℕ) → IsText w → (grammar call).word w
  each w (number_text n m) = inl (unsigned-int 32 w n m)
  each _ (list_text {w} n a) = inr (between (codes "[") (codes "]") w (texts-list call.word i.each a))

  fails : (ts : List ℕ) → StopsAt begins_tree ts → DoesNotEnd ((grammar call).ends ts)
  fails [] s = tt
  fails (c ∷ cs) s = let p = both_false (is_digit c 10) (nat_eq 91 c) s in rw (p.0, p.1) tt

  -- neither a comma nor a bracket that closes is a digit, or begins a tree; and no number begins with a bracket
  kept : IsIntended trees (grammar call) (suc depth)
  kept = record {
    said = rw (i.said, i.moves refl) refl;
    moves = λ e. refl;
    only = only;
    given = given;
    each = each;
    follows = λ rest s. (λ t. no_digit-stops t rest s, tt);
    fails = fails;
    unambiguous = (
      tt,
      bracketed-once call (codes "[") (codes ",") (codes "]") i.unambiguous (λ rest. i.follows (44 ∷ rest) refl) (λ rest. i.follows (93 ∷ rest) refl) (λ rest. tt) (λ rest. i.fails (93 ∷ rest) refl),
      λ w rest j f. let e : w ≡ 91 ∷ j.second = cc (j.all, equals-same (91 ∷ []) j.first j.is_first) in rw e tt,
    );
    refused = bracketed-below call.refused_from depth i.refused;
  }

-- the function has the language that is intended
pub trees-intended : (depth : ℕ) → IsIntended trees (call_language trees grammar depth) depth
trees-intended = call-is_intended trees grammar kept
