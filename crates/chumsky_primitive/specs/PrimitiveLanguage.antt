-- The languages of primitives: of a token, of a fixed sequence, and of nothing.
-- Main words: one_language, literal_language, nothing_language, some_token. Laws: PrimitiveLanguageLaws.antt. Read first: Language.antt, Words.antt.
use Rattle.std.specs.Prelude.{◌≡◌, Bool, true, false, cond, None, List, [], ◌∷◌, ⊤}
use Rattle.chumsky_parser.specs.Ending.{At, Nowhere, Ender}
use Rattle.chumsky_parser.specs.Language.{Language, unsaid}
use Rattle.chumsky_parser.specs.Words.{IsOne}
use Rattle.chumsky_primitive.specs.Just.{has_members}

-- a token that passes a test
abbrev pub one_ends : {Tok : Type 0} → (Tok → Bool) → Ender Tok
one_ends test [] = Nowhere
one_ends test (t ∷ ts) = cond (test t) (At ts) Nowhere

-- P of the first token
abbrev pub OfFirst : {Tok : Type 0} → (Tok → Type 0) → List Tok → Type 0
OfFirst P [] = ⊥
OfFirst P (t ∷ ts) = P t

-- one token that passes, with a value that is of it
abbrev pub one_language : {Tok V : Type 0} → (Tok → Bool) → (Tok → V → Type 0) → Type 0 → Language Tok V
one_language test IsOf free = record {
  said = true;
  ends = one_ends test;
  value = λ ts v. OfFirst (λ t. IsOf t v) ts;
  word = IsOne test (λ t. ⊤);
  stands_for = λ w v. IsOne test (λ t. IsOf t v) w;
  follow = λ rest. ⊤;
  unambiguous = ⊤;
  refused_from = None;
  moves = true;
  takes_no_memory = free;
}

-- tokens that equal these members, in turn
abbrev pub literal_ends : {Tok : Type 0} → (Tok → Tok → Bool) → List Tok → Ender Tok
literal_ends equal [] ts = At ts
literal_ends equal (m ∷ ms) [] = Nowhere
literal_ends equal (m ∷ ms) (t ∷ ts) = cond (equal m t) (literal_ends equal ms ts) Nowhere

-- a word whose tokens equal these members, each its own
abbrev pub Equals : {Tok : Type 0} → (Tok → Tok → Bool) → List Tok → List Tok → Type 0
Equals equal [] [] = ⊤
Equals equal [] (t ∷ ts) = ⊥
Equals equal (m ∷ ms) [] = ⊥
Equals equal (m ∷ ms) (t ∷ ts) = (equal m t ≡ true) × Equals equal ms ts

-- these members, with a copy of their sequence
abbrev pub literal_language : {Tok V : Type 0} → (Tok → Tok → Bool) → List Tok → (V → Type 0) → Type 0 → Language Tok V
literal_language equal members copies free = record {
  said = true;
  ends = literal_ends equal members;
  value = λ ts. copies;
  word = Equals equal members;
  stands_for = λ w v. Equals equal members w × copies v;
  follow = λ rest. ⊤;
  unambiguous = ⊤;
  refused_from = None;
  moves = has_members members;
  takes_no_memory = free;
}

-- no token
abbrev pub nothing_language : {Tok : Type 0} → Language Tok (Unit {0})
nothing_language = record {
  said = true;
  ends = λ ts. At ts;
  value = λ ts v. ⊤;
  word = λ w. w ≡ [];
  stands_for = λ w v. w ≡ [];
  follow = λ rest. ⊤;
  unambiguous = ⊤;
  refused_from = None;
  moves = false;
  takes_no_memory = ⊤;
}

-- nothing is said but that a token is taken
abbrev pub some_token : {Tok V : Type 0} → Type 0 → Language Tok V
some_token free = record unsaid { moves = true; takes_no_memory = free }
