-- Tables of words, each with a value; and choices of parsers, of which each takes one of the words.
-- Main words: Names, apart, Spelled, IsOfTable. Laws: TableLaws.antt. Read first: ChoiceLanguages.antt of chumsky_choice.
use Rattle.std.specs.Prelude.{◌≡◌, ℕ, Bool, true, false, cond, nat_eq, ◌&&◌, None, List, [], ◌∷◌, ◌⊎◌, ⊤}
use Rattle.chumsky_parser.specs.Ending.{Nowhere, DoesNotEnd}
use Rattle.chumsky_parser.specs.Language.{Language}
use Rattle.chumsky_primitive.specs.PrimitiveLanguage.{literal_ends}

-- the table has this word with this value
abbrev pub Names : {V : Type 0} → List (List ℕ × V) → List ℕ → V → Type 0
Names [] w v = ⊥
Names (entry ∷ others) w v = ((w ≡ entry.0) × (v ≡ entry.1)) ⊎ Names others w v

-- two words have two different characters at some place, so that neither begins with the other
abbrev pub differ : List ℕ → List ℕ → Bool
differ [] w = false
differ (c ∷ cs) [] = false
differ (c ∷ cs) (d ∷ ds) = cond (nat_eq c d) (differ cs ds) true

abbrev pub differs_from_each : {V : Type 0} → List ℕ → List (List ℕ × V) → Bool
differs_from_each w [] = true
differs_from_each w (entry ∷ others) = differ w entry.0 && differs_from_each w others

-- each two words of a table differ so
abbrev pub apart : {V : Type 0} → List (List ℕ × V) → Bool
apart [] = true
apart (entry ∷ others) = differs_from_each entry.0 others && apart others

-- no word of the table is at the front of these tokens
abbrev pub BeginsNone : {V : Type 0} → List (List ℕ × V) → List ℕ → Type 0
BeginsNone [] ts = ⊤
BeginsNone (entry ∷ others) ts = (literal_ends nat_eq entry.0 ts ≡ Nowhere) × BeginsNone others ts

-- a language has one word, with one value
pub record Spelled {V : Type 0} (l : Language ℕ V) (word : List ℕ) (value : V) : Type 0 where
  pub said : l.said ≡ true
  pub word_is : l.word word
  pub is_word : (w : List ℕ) → l.word w → w ≡ word
  pub is_value : (w : List ℕ) (v : V) → l.stands_for w v → (w ≡ word) × (v ≡ value)
  pub fails : (ts : List ℕ) → literal_ends nat_eq word ts ≡ Nowhere → DoesNotEnd (l.ends ts)
  pub unambiguous : l.unambiguous
  pub follows : (rest : List ℕ) → l.follow rest
  pub decided : l.refused_from ≡ None

-- a language has just the words of a table, each with its value, and none is cut short, whatever follows
pub record IsOfTable {V : Type 0} (l : Language ℕ V) (table : List (List ℕ × V)) : Type 0 where
  pub said : l.said ≡ true
  pub names : (w : List ℕ) (v : V) → l.stands_for w v → Names table w v
  pub each : (w : List ℕ) (v : V) → Names table w v → l.word w
  pub fails : (ts : List ℕ) → BeginsNone table ts → DoesNotEnd (l.ends ts)
  pub unambiguous : l.unambiguous
  pub follows : (rest : List ℕ) → l.follow rest
  pub decided : l.refused_from ≡ None
