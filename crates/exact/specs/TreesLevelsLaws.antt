-- A tree of fewer levels than calls may be open is taken, whatever follows it that may: it is not refused.
-- Main word: IsShallow. Main law: refused-deep. Read first: TreesLaws.antt, Taken.antt of chumsky_exact.
use Rattle.std.proofs.Common.{◌≡◌, ℕ, suc, ◌≤◌, ◌<◌, cond, nat_eq, false, None, List, [], ◌∷◌, ◌++◌, length, map, refl, ap, arith, rules}
use Rattle.std.specs.Prelude.{codes}
use Rattle.std.specs.Borrow.{Bor}
use Rattle.std.specs.Char.{is_digit}
use Rattle.std.specs.declared.alloc.Global.{Global}
use Rattle.std.specs.declared.vec.Vec.{Vec}
use Rattle.chumsky_parser.specs.Ending.{Ender, At, Nowhere, Refused, or_else}
use Rattle.chumsky_parser.specs.ItemsLanguage.{list_ends}
use Rattle.chumsky_parser.specs.Language.{Language}
use Rattle.chumsky_parser.specs.Words.{StopsAt, then_ends}
use Rattle.chumsky_primitive.specs.Literals.{same-equals}
use Rattle.chumsky_primitive.specs.PrimitiveLanguage.{Equals}
use Rattle.chumsky_items.specs.ListWords.{separated_next}
use Rattle.chumsky_judge.specs.Picked.{picked_language}
use Rattle.chumsky_text.specs.Decimals.{TextSlice, IsInt}
use Rattle.chumsky_text.specs.TextLanguage.{word_language}
use Rattle.chumsky_descent.specs.CallLanguage.{call_language}
use Rattle.chumsky_descent.specs.Lawful.{decimal-lawful}
use Rattle.chumsky_exact.specs.Deep.{IsDeep}
use Rattle.chumsky_exact.specs.Lists.{Items, last_item, more_items, IsList, none-list, items-list}
use Rattle.chumsky_exact.specs.Numerals.{unsigned-int, no_digit-stops}
use Rattle.chumsky_exact.specs.Parts.{between}
use Rattle.chumsky_exact.specs.TableLaws.{both_false}
use Rattle.exact.specs.Trees.{IsTree, is_number, is_list, AreTrees, no_tree, one_tree, more_trees, most, levels, begins_tree, trees, number_of}
use Rattle.exact.specs.TreesLaws.{grammar}
use Rattle.chumsky_exact.specs.Taken.{AlwaysTakes, IsKnown, source, errors, states, lawful-known, ends_of, left_below, right_below, bracketed-always, HasFewerLevels, deep-by_body}
use Rattle.exact.specs.declared.trees.Tree.{Tree, the_lemmas}
use Rattle.exact.specs.declared.trees.Tree as tree

levels-list : (ts : Vec Tree Global) → levels (tree.List ts) ≡ suc (most (map levels ts.items))
levels-list ts = search (rules, the_lemmas)

-- a text is some tree of fewer levels
abbrev IsShallow : ℕ → List ℕ → Type 0
IsShallow = HasFewerLevels IsTree levels

-- numbers
abbrev numbers : Language ℕ ℕ
numbers = picked_language number_of (word_language {V = Bor (List ℕ)} (TextSlice (λ s. s.now)) (λ t. is_digit t 10) (λ t c. cond (nat_eq t 48) false (is_digit c 10)))

numbers-known : IsKnown numbers
numbers-known = lawful-known (decimal-lawful {source = source} {errors = errors} {states = states} 32 {what = []} {rest_what = λ t. []}) refl tt refl

-- no tree is empty
tree_size : {w : List ℕ} {t : Tree} → IsTree w t → 0 < length w
tree_size (is_number {w} n i) = by_number w (unsigned-int 32 w n i).0
  where
    by_number : (w : List ℕ) → IsInt w → 0 < length w
    by_number [] i = absurd i
    by_number (c ∷ cs) i = omega arith
tree_size (is_list ts a) = omega arith

-- trees of fewer levels are a word of a list of such
module _ (depth : ℕ) where
  some_shallow : {w : List ℕ} {t : Tree} {ts : List Tree} → AreTrees w (t ∷ ts) → most (map levels (t ∷ ts)) < depth → Items (Equals nat_eq (codes ",")) (IsShallow depth) w
  some_shallow {t = t} {ts = ts} (one_tree i) l = last_item (t, i, left_below (levels t) (most (map levels ts)) depth l)
  some_shallow {t = t} {ts = ts} (more_trees i a) l =
      more_items {s = codes ","} (t, i, left_below (levels t) (most (map levels ts)) depth l) (same-equals (codes ",")) (some_shallow a (right_below (levels t) (most (map levels ts)) depth l))

  trees-shallow : {w : List ℕ} {ts : List Tree} → AreTrees w ts → most (map levels ts) < depth → IsList (Equals nat_eq (codes ",")) (IsShallow depth) 0 w
  trees-shallow no_tree l = none-list (Equals nat_eq (codes ",")) (IsShallow depth)
  trees-shallow (one_tree i) l = items-list (Equals nat_eq (codes ",")) (IsShallow depth) (some_shallow (one_tree i) l)
  trees-shallow (more_trees i a) l = items-list (Equals nat_eq (codes ",")) (IsShallow depth) (some_shallow (more_trees i a) l)

module _ (call : Language ℕ Tree) where
  -- trees with a comma between each two, and those in brackets
  abbrev items : Ender ℕ
  items = list_ends (separated_next call.ends (ends_of 44) false false 0 None)

  abbrev lists : Ender ℕ
  lists = then_ends (ends_of 91) (then_ends items (ends_of 93))

  abbrev body : Ender ℕ
  body ts = or_else (numbers.ends ts) (lists ts)

  body-fails : (ts : List ℕ) → StopsAt begins_tree ts → body ts ≡ Nowhere
  body-fails [] s = refl
  body-fails (c ∷ cs) s = let p = both_false (is_digit c 10) (nat_eq 91 c) s in rw (p.0, p.1) refl

  module _ (depth : ℕ) (taken : AlwaysTakes call.ends (IsShallow depth) (StopsAt (λ c. is_digit c 10))) (fails : 0 < depth → (ts : List ℕ) → StopsAt begins_tree ts → call.ends ts ≡ Nowhere) where
    body-taken : {w : List ℕ} {t : Tree} (rest : List ℕ) → IsTree w t → levels t < suc depth → StopsAt (λ c. is_digit c 10) rest → body (w ++ rest) ≡ At rest
    body-taken rest (is_number {w} n i) l s = ap (λ x. or_else x (lists (w ++ rest))) (numbers-known.each w rest (unsigned-int 32 w n i) (λ t. no_digit-stops t rest s))
    body-taken rest (is_list {w} ts a) l s =
        let e : levels (tree.List ts) ≡ suc (most (map levels ts.items)) = levels-list ts in
        let m : most (map levels ts.items) < depth = omega (arith, l, e) in
        bracketed-always call.ends (IsShallow depth) (StopsAt (λ c. is_digit c 10)) (λ v j. tree_size j.1) taken 91 44 93 refl (λ _. refl) (λ _. refl) (λ r. fails (omega (arith, m)) (93 ∷ r) refl)
        (codes "[" ++ (w ++ codes "]")) rest (between (codes "[") (codes "]") w (trees-shallow depth a m)) tt

-- so a text that is refused, and is no shorter than the limit, is deep
pub refused-deep : (limit : ℕ) (text : List ℕ) → (call_language trees grammar limit).ends text ≡ Refused → limit ≤ length text → IsDeep IsTree levels limit text
refused-deep = deep-by_body IsTree levels (StopsAt (λ c. is_digit c 10)) (StopsAt begins_tree) trees grammar body-fails
    (λ call depth taken fails w rest i s. body-taken call depth taken fails rest i.1 i.2 s) tt
