-- A choice of parsers that take a word each accepts just the words of their table.
-- Main laws: word-spelled, choice-of_table. Read first: Table.antt.
use Rattle.std.proofs.Common.{◌≡◌, ℕ, Bool, true, false, cond, nat_eq, ◌&&◌, ◌||◌, None, List, [], ◌∷◌, ◌++◌, refl, subst, sym, inl, inr}
use Rattle.std.specs.Prelude.{map}
use Rattle.chumsky_parser.specs.Ending.{Ending, At, Nowhere, Refused, or_else, DoesNotEnd}
use Rattle.chumsky_parser.specs.Language.{Language}
use Rattle.chumsky_primitive.specs.Literals.{equals-same, same-equals}
use Rattle.chumsky_primitive.specs.PrimitiveLanguage.{literal_ends, literal_language}
use Rattle.chumsky_combinator.specs.MappedLanguage.{to_language}
use Rattle.chumsky_choice.specs.ChoiceLanguages.{among_language, one_of_language}
use Rattle.chumsky_exact.specs.Table.{Names, differ, differs_from_each, apart, BeginsNone, Spelled, IsOfTable}

pub both_true : (a b : Bool) → (a && b) ≡ true → (a ≡ true) × (b ≡ true)
both_true true b e = (refl, e)
both_true false b e = absurd (cc e)

pub both_false : (a b : Bool) → (a || b) ≡ false → (a ≡ false) × (b ≡ false)
both_false true b e = absurd (cc e)
both_false false b e = (refl, e)

neither : {T : Type 0} (a b : Ending T) → DoesNotEnd a → DoesNotEnd b → DoesNotEnd (or_else a b)
neither (At x) b m n = absurd m
neither Nowhere b m n = n
neither Refused b m n = tt

-- `just(word).to(value)`
pub word-spelled : {V S : Type 0} (word : List ℕ) (value : V) (copies : S → Type 0) (safe free : Type 0) → Spelled (to_language (λ v. v ≡ value) safe (literal_language nat_eq word copies free)) word value
word-spelled word value copies safe free = record {
  said = refl;
  word_is = same-equals word;
  is_word = λ w e. equals-same word w e;
  is_value = λ w v s. (equals-same word w s.0, s.1);
  fails = λ ts e. rw e tt;
  unambiguous = tt;
  follows = λ rest. tt;
  decided = refl;
}

-- a word is not found where one begins that differs from it
pub differ-fails : (w u rest : List ℕ) → differ w u ≡ true → literal_ends nat_eq w (u ++ rest) ≡ Nowhere
differ-fails [] u rest e = absurd (cc e)
differ-fails (c ∷ cs) [] rest e = absurd (cc e)
differ-fails (c ∷ cs) (d ∷ ds) rest e = by_first (λ g. differ-fails cs ds rest g) (nat_eq c d) refl e
  where
    by_first : (differ cs ds ≡ true → literal_ends nat_eq cs (ds ++ rest) ≡ Nowhere) → (b : Bool) → nat_eq c d ≡ b → cond b (differ cs ds) true ≡ true → literal_ends nat_eq (c ∷ cs) ((d ∷ ds) ++ rest) ≡ Nowhere
    by_first later true q e = let r : literal_ends nat_eq cs (ds ++ rest) ≡ Nowhere = later e in rw (q, r) refl
    by_first later false q e = rw q refl

module _ {X V : Type 0} (language : X → Language ℕ V) (word : X → List ℕ) (value : X → V) (spelled : (x : X) → Spelled (language x) (word x) (value x)) where
  abbrev entry : X → List ℕ × V
  entry x = (word x, value x)

  one-said : (x : X) (xs : List X) → (one_of_language language x xs).said ≡ true
  one-said x [] = (spelled x).said
  one-said x (y ∷ ys) = let a = (spelled x).said in let b = one-said y ys in rw (a, b) refl

  choice-said : (xs : List X) → (among_language language xs).said ≡ true
  choice-said [] = refl
  choice-said (x ∷ xs) = one-said x xs

  one-decided : (x : X) (xs : List X) → (one_of_language language x xs).refused_from ≡ None
  one-decided x [] = (spelled x).decided
  one-decided x (y ∷ ys) = let a = (spelled x).decided in let b = one-decided y ys in rw (a, b) refl

  choice-decided : (xs : List X) → (among_language language xs).refused_from ≡ None
  choice-decided [] = refl
  choice-decided (x ∷ xs) = one-decided x xs

  -- what a word stands for is its value in the table
  one-names : (x : X) (xs : List X) (w : List ℕ) (v : V) → (one_of_language language x xs).stands_for w v → Names (map entry (x ∷ xs)) w v
  one-names x [] w v s = inl ((spelled x).is_value w v s)
  one-names x (y ∷ ys) w v (inl s) = inl ((spelled x).is_value w v s)
  one-names x (y ∷ ys) w v (inr s) = inr (one-names y ys w v s)

  choice-names : (xs : List X) (w : List ℕ) (v : V) → (among_language language xs).stands_for w v → Names (map entry xs) w v
  choice-names [] w v s = s
  choice-names (x ∷ xs) w v s = one-names x xs w v s

  -- and a word of the table is a word
  names-one : (x : X) (xs : List X) (w : List ℕ) (v : V) → Names (map entry (x ∷ xs)) w v → (one_of_language language x xs).word w
  names-one x [] w v (inl e) = subst (language x).word (sym e.0) (spelled x).word_is
  names-one x [] w v (inr e) = absurd e
  names-one x (y ∷ ys) w v (inl e) = inl (subst (language x).word (sym e.0) (spelled x).word_is)
  names-one x (y ∷ ys) w v (inr e) = inr (names-one y ys w v e)

  names-choice : (xs : List X) (w : List ℕ) (v : V) → Names (map entry xs) w v → (among_language language xs).word w
  names-choice [] w v s = s
  names-choice (x ∷ xs) w v s = names-one x xs w v s

  -- where each two words differ, none is taken for another
  one-fails : (x y : X) (ys : List X) → differs_from_each (word x) (map entry (y ∷ ys)) ≡ true → (w rest : List ℕ) → (one_of_language language y ys).word w → DoesNotEnd ((language x).ends (w ++ rest))
  one-fails x y [] e w rest h =
      let d = both_true (differ (word x) (word y)) true e in
      let s : w ≡ word y = (spelled y).is_word w h in
      rw s ((spelled x).fails (word y ++ rest) (differ-fails (word x) (word y) rest d.0))
  one-fails x y (z ∷ zs) e w rest (inl h) =
      let d = both_true (differ (word x) (word y)) (differs_from_each (word x) (map entry (z ∷ zs))) e in
      let s : w ≡ word y = (spelled y).is_word w h in
      rw s ((spelled x).fails (word y ++ rest) (differ-fails (word x) (word y) rest d.0))
  one-fails x y (z ∷ zs) e w rest (inr h) = one-fails x z zs (both_true (differ (word x) (word y)) (differs_from_each (word x) (map entry (z ∷ zs))) e).1 w rest h

  one-unambiguous : (x : X) (xs : List X) → apart (map entry (x ∷ xs)) ≡ true → (one_of_language language x xs).unambiguous
  one-unambiguous x [] e = (spelled x).unambiguous
  one-unambiguous x (y ∷ ys) e =
      let d = both_true (differs_from_each (word x) (map entry (y ∷ ys))) (apart (map entry (y ∷ ys))) e in
      ((spelled x).unambiguous, one-unambiguous y ys d.1, λ w rest h f. one-fails x y ys d.0 w rest h)

  choice-unambiguous : (xs : List X) → apart (map entry xs) ≡ true → (among_language language xs).unambiguous
  choice-unambiguous [] e = tt
  choice-unambiguous (x ∷ xs) e = one-unambiguous x xs e

  one-follows : (x : X) (xs : List X) (rest : List ℕ) → (one_of_language language x xs).follow rest
  one-follows x [] rest = (spelled x).follows rest
  one-follows x (y ∷ ys) rest = ((spelled x).follows rest, one-follows y ys rest)

  choice-follows : (xs : List X) (rest : List ℕ) → (among_language language xs).follow rest
  choice-follows [] rest = tt
  choice-follows (x ∷ xs) rest = one-follows x xs rest

  one-fails_on : (x : X) (xs : List X) (ts : List ℕ) → BeginsNone (map entry (x ∷ xs)) ts → DoesNotEnd ((one_of_language language x xs).ends ts)
  one-fails_on x [] ts b = (spelled x).fails ts b.0
  one-fails_on x (y ∷ ys) ts b = neither ((language x).ends ts) ((one_of_language language y ys).ends ts) ((spelled x).fails ts b.0) (one-fails_on y ys ts b.1)

  choice-fails : (xs : List X) (ts : List ℕ) → BeginsNone (map entry xs) ts → DoesNotEnd ((among_language language xs).ends ts)
  choice-fails [] ts b = tt
  choice-fails (x ∷ xs) ts b = one-fails_on x xs ts b

-- a choice among the parsers of a list is of the table of their words, where each two differ
pub choice-of_table : {X V : Type 0} (xs : List X) (table : List (List ℕ × V)) {language : X → Language ℕ V} (word : X → List ℕ) (value : X → V) → ((x : X) → Spelled (language x) (word x) (value x))
    → map (λ x. (word x, value x)) xs ≡ table → apart table ≡ true → IsOfTable (among_language language xs) table
choice-of_table xs table {language} word value spelled e d = record {
  said = choice-said language word value spelled xs;
  names = λ w v s. subst (λ t. Names t w v) e (choice-names language word value spelled xs w v s);
  each = λ w v n. names-choice language word value spelled xs w v (subst (λ t. Names t w v) (sym e) n);
  fails = λ ts b. choice-fails language word value spelled xs ts (subst (λ t. BeginsNone t ts) (sym e) b);
  unambiguous = choice-unambiguous language word value spelled xs (subst (λ t. apart t ≡ true) (sym e) d);
  follows = choice-follows language word value spelled xs;
  decided = choice-decided language word value spelled xs;
}
