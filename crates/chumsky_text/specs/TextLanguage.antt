-- The languages of parsers of text: of runs, words, keywords, ends of lines, and of what is padded.
-- Main words: run_language, word_language, keyword_language, newline_language, padded_language. Laws: TextLanguageLaws.antt. Read first: Leading.antt, and Language.antt, Words.antt, Slices.antt of chumsky_parser.
use Rattle.std.specs.Prelude.{◌≡◌, ℕ, Bool, true, false, cond, None, List, [], ◌∷◌, length, drop, ⊤}
use Rattle.chumsky_input.specs.Layout.{Layout}
use Rattle.chumsky_parser.specs.Ending.{At, Nowhere, Ender}
use Rattle.chumsky_parser.specs.Language.{Language}
use Rattle.chumsky_parser.specs.SequenceLanguage.{between_language}
use Rattle.chumsky_parser.specs.Slices.{IsSliceOf}
use Rattle.chumsky_parser.specs.Words.{AllPass, StopsAt}
use Rattle.chumsky_text.specs.Leading.{leading}

-- past this many tokens
abbrev pub past_ends : {Tok : Type 0} → List Tok → Ender Tok
past_ends front ts = At (drop (length front) ts)

module _ {Tok : Type 0} (test : Tok → Bool) where
  -- past the longest run of tokens that pass
  abbrev pub run_ends : Ender Tok
  run_ends ts = past_ends (leading test ts) ts

  -- one token at the front that passes, or none
  abbrev pub one_leading : List Tok → List Tok
  one_leading [] = []
  one_leading (t ∷ ts) = cond (test t) (t ∷ []) []

-- the first passes
abbrev pub has_begun : {Tok : Type 0} → (Tok → Bool) → List Tok → Bool
has_begun begins [] = false
has_begun begins (t ∷ ts) = begins t

module _ {Tok : Type 0} (goes_on : Tok → Tok → Bool) where
  -- a first token, and the longest run of those that may follow it
  abbrev pub word_front : List Tok → List Tok
  word_front [] = []
  word_front (t ∷ ts) = t ∷ leading (goes_on t) ts

  -- a first token, and one more that may follow it, if there is one
  abbrev pub line_end_front : List Tok → List Tok
  line_end_front [] = []
  line_end_front (t ∷ ts) = t ∷ one_leading (goes_on t) ts

  -- nothing goes on with what is left
  abbrev pub StopsAll : List Tok → Type 0
  StopsAll rest = (t : Tok) → StopsAt (goes_on t) rest

-- past this front, if it is one of those, and its first token passes
abbrev pub begun_ends : {Tok : Type 0} → (Tok → Bool) → (List Tok → List Tok) → (List Tok → Bool) → Ender Tok
begun_ends begins front spells ts = cond (has_begun begins ts) (cond (spells (front ts)) (past_ends (front ts) ts) Nowhere) Nowhere

module _ {Tok : Type 0} (begins : Tok → Bool) (goes_on : Tok → Tok → Bool) where
  -- a first token that passes, and then those that may follow it
  abbrev pub IsWord : List Tok → Type 0
  IsWord [] = ⊥
  IsWord (t ∷ ts) = (begins t ≡ true) × AllPass (goes_on t) ts

  -- a first token that passes, alone or with one that may follow it
  abbrev pub IsLineEnd : List Tok → Type 0
  IsLineEnd [] = ⊥
  IsLineEnd (t ∷ []) = begins t ≡ true
  IsLineEnd (t ∷ u ∷ []) = (begins t ≡ true) × (goes_on t u ≡ true)
  IsLineEnd (t ∷ u ∷ s ∷ ts) = ⊥

-- the language of a front of the text, with its slice
abbrev pub front_language : {Tok V : Type 0} → (Layout Tok → ℕ → ℕ → V → Type 0) → Ender Tok → (List Tok → List Tok) → (List Tok → Type 0) → (List Tok → Type 0) → Bool → Language Tok V
front_language is ends front word follow moves = record {
  said = true;
  ends = ends;
  value = λ ts. IsSliceOf is (front ts);
  word = word;
  stands_for = λ w v. word w × IsSliceOf is w v;
  follow = follow;
  unambiguous = ⊤;
  refused_from = None;
  moves = moves;
  takes_no_memory = ⊤;
}

module _ {Tok V : Type 0} (is : Layout Tok → ℕ → ℕ → V → Type 0) where
  -- tokens that pass, be it none, and then one that doesn't
  abbrev pub run_language : (Tok → Bool) → Language Tok V
  run_language test = front_language is (run_ends test) (leading test) (AllPass test) (StopsAt test) false

  -- a word, as `int`, `digits` and `ident` take it
  abbrev pub word_language : (Tok → Bool) → (Tok → Tok → Bool) → Language Tok V
  word_language begins goes_on = front_language is (begun_ends begins (word_front goes_on) (λ w. true)) (word_front goes_on) (IsWord begins goes_on) (StopsAll goes_on) true

  -- a word that is spelled so
  abbrev pub keyword_language : (List Tok → Bool) → (Tok → Bool) → (Tok → Tok → Bool) → Language Tok V
  keyword_language spells begins goes_on =
      front_language is (begun_ends begins (word_front goes_on) spells) (word_front goes_on)
      (λ w. IsWord begins goes_on w × (spells w ≡ true)) (StopsAll goes_on) true

  -- one end of a line
  abbrev pub newline_language : (Tok → Bool) → (Tok → Tok → Bool) → Language Tok V
  newline_language begins goes_on = front_language is (begun_ends begins (line_end_front goes_on) (λ w. true)) (line_end_front goes_on) (IsLineEnd begins goes_on) (StopsAll goes_on) true

-- a run that is skipped
abbrev pub skip_language : {Tok : Type 0} → (Tok → Bool) → Language Tok (Unit {0})
skip_language test = record {
  said = true;
  ends = run_ends test;
  value = λ ts v. ⊤;
  word = AllPass test;
  stands_for = λ w v. AllPass test w;
  follow = StopsAt test;
  unambiguous = ⊤;
  refused_from = None;
  moves = false;
  takes_no_memory = ⊤;
}

-- a word of the part between two runs
abbrev pub padded_language : {Tok V : Type 0} → (Tok → Bool) → Language Tok V → Language Tok V
padded_language test F = between_language (skip_language test) F (skip_language test)
