-- Words of parts one after another, of single tokens, and of runs of them; and what may follow.
-- Main words: Joined, IsOne, AllPass, StopsAt. Laws: WordsLaws.antt. Read first: Language.antt.
use Rattle.std.specs.Prelude.{◌≡◌, ◌-◌, Bool, true, false, List, [], ◌∷◌, ◌++◌, length, take, ⊤}
use Rattle.chumsky_parser.specs.Ending.{Ending, At, Nowhere, Refused, Ender, and_then, or_else}

-- one after another
abbrev pub then_ends : {Tok : Type 0} → Ender Tok → Ender Tok → Ender Tok
then_ends f g ts = and_then g (f ts)

-- the first of two that doesn't fail
abbrev pub either_ends : {Tok : Type 0} → Ender Tok → Ender Tok → Ender Tok
either_ends f g ts = or_else (f ts) (g ts)

-- P of the value where the first ends, and Q of it where the first fails
abbrev pub ElseValue : {Tok : Type 0} → Ending (List Tok) → Type 0 → Type 0 → Type 0
ElseValue (At rest) P Q = P
ElseValue Nowhere P Q = Q
ElseValue Refused P Q = ⊥

-- a word with P, and a word with Q
pub record Joined {Tok : Type 0} (P Q : List Tok → Type 0) (w : List Tok) : Type 0 where
  pub first : List Tok
  pub second : List Tok
  pub all : w ≡ first ++ second
  pub is_first : P first
  pub is_second : Q second

-- a token that passes, alone
pub record IsOne {Tok : Type 0} (test : Tok → Bool) (P : Tok → Type 0) (w : List Tok) : Type 0 where
  pub token : Tok
  pub all : w ≡ token ∷ []
  pub passes : test token ≡ true
  pub is : P token

-- each passes
abbrev pub AllPass : {Tok : Type 0} → (Tok → Bool) → List Tok → Type 0
AllPass test [] = ⊤
AllPass test (t ∷ ts) = (test t ≡ true) × AllPass test ts

-- the first, if there is one, doesn't pass
abbrev pub StopsAt : {Tok : Type 0} → (Tok → Bool) → List Tok → Type 0
StopsAt test [] = ⊤
StopsAt test (t ∷ ts) = test t ≡ false

-- the tokens before the rest
abbrev pub taken_of : {Tok : Type 0} → List Tok → List Tok → List Tok
taken_of ts rest = take (length ts - length rest) ts
