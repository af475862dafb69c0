-- Leaves over texts, by how they are built, and what is so of each word of one, with each of its values.
-- Main words: BuiltLeaf, built, Each, LeafApart. Main law: leaf-apart. Read first: Leaves.antt.
use Rattle.std.proofs.Common.{◌≡◌, ℕ, zero, suc, nat_eq, true, List, [], ◌∷◌, map, ◌∙◌, ap, arith}
use Rattle.std.proofs.lemmas.Bool.Decides.{nat_tests}
use Rattle.std.specs.Prelude.{⊤}
use Rattle.chumsky_parser.specs.Language.{Language}
use Rattle.chumsky_parser.specs.Words.{IsOne}
use Rattle.chumsky_primitive.specs.Literals.{equals-same}
use Rattle.chumsky_primitive.specs.OneOf.{among}
use Rattle.chumsky_primitive.specs.PrimitiveLanguage.{one_language, literal_language}
use Rattle.chumsky_combinator.specs.MappedLanguage.{map_language, to_language}
use Rattle.chumsky_grammars.specs.Leaves.{leaves_of}

pub data BuiltLeaf (V : Type 0) : Type 1 where
  -- `just(c).to(v)`, of a value of which a copy takes no memory
  just_to : ℕ → V → BuiltLeaf V
  -- `one_of(set).map_by(..)`, by what the mapper makes of a character
  one_of_by : List ℕ → (ℕ → V) → BuiltLeaf V
  -- any other
  with_language : Language ℕ V → BuiltLeaf V

abbrev pub leaf_language : {V : Type 0} → BuiltLeaf V → Language ℕ V
leaf_language (just_to c value) = to_language (λ v. v ≡ value) ⊤ (literal_language nat_eq (c ∷ []) (λ v. v ≡ c) ⊤)
leaf_language (one_of_by set make) = map_language (λ c v. v ≡ make c) (one_language (among nat_eq set) (λ c v. v ≡ c) ((c : ℕ) → ⊤))
leaf_language (with_language l) = l

-- the language of the leaf of a number
abbrev pub built : {V : Type 0} → List (BuiltLeaf V) → ℕ → Language ℕ V
built leaves = leaves_of (map leaf_language leaves)

-- P of each word, with each value that it stands for
abbrev pub Each : {Tok V : Type 0} → Language Tok V → (List Tok → V → Type 0) → Type 0
Each {Tok} {V} l P = (w : List Tok) (v : V) → l.stands_for w v → P w v

-- of a set of one character that is the word
pub one_of-is : {P : ℕ → Type 0} {w : List ℕ} (c : ℕ) → IsOne (among nat_eq (c ∷ [])) P w → w ≡ c ∷ []
one_of-is c i = let e = same c i.token i.passes in i.all ∙ ap (λ t. t ∷ []) e
  where
    same : (c t : ℕ) → among nat_eq (c ∷ []) t ≡ true → t ≡ c
    same c t e = grind (arith, nat_tests)

module _ {V : Type 0} where
  -- P of the words of a leaf, with their values
  abbrev pub BuiltApart : BuiltLeaf V → (List ℕ → V → Type 0) → Type 0
  BuiltApart (just_to c value) P = P (c ∷ []) value
  BuiltApart (one_of_by (c ∷ []) make) P = P (c ∷ []) (make c)
  BuiltApart (one_of_by set make) P = (c : ℕ) → among nat_eq set c ≡ true → P (c ∷ []) (make c)
  BuiltApart (with_language l) P = Each l P

  -- and of the leaf of a number; past the list there is no word
  abbrev pub LeafApart : List (BuiltLeaf V) → ℕ → (List ℕ → V → Type 0) → Type 0
  LeafApart [] n P = ⊤
  LeafApart (l ∷ ls) zero P = BuiltApart l P
  LeafApart (l ∷ ls) (suc n) P = LeafApart ls n P

  built-apart : (l : BuiltLeaf V) (P : List ℕ → V → Type 0) → BuiltApart l P → Each (leaf_language l) P
  built-apart (just_to c value) P p w v s = rw (equals-same (c ∷ []) w s.0, s.1) p
  built-apart (one_of_by (c ∷ []) make) P p w v s =
      let a = one_of-is c s.1 in
      let e : v ≡ make c = (let t = s.1.all in let i = s.1.is in let x = s.2 in cc (a, t, i, x)) in
      rw (a, e) p
  built-apart (one_of_by [] make) P p w v s = absurd (cc (s.1.passes))
  built-apart (one_of_by (c ∷ d ∷ ds) make) P p w v s = let e : v ≡ make s.1.token = s.2 ∙ ap make s.1.is in rw (s.1.all, e) (p s.1.token s.1.passes)
  built-apart (with_language l) P p w v s = p w v s

  pub leaf-apart : (leaves : List (BuiltLeaf V)) (n : ℕ) (P : List ℕ → V → Type 0) → LeafApart leaves n P → Each (built leaves n) P
  leaf-apart [] n P p w v s = absurd s
  leaf-apart (l ∷ ls) zero P p w v s = built-apart l P p w v s
  leaf-apart (l ∷ ls) (suc n) P p w v s = leaf-apart ls n P p w v s
