-- The language of a parser: which words it accepts, for which values they stand, and what may follow them.
-- Main words: Language, Accepts. Read first: Ending.antt, Progress.antt, Memory.antt.
use Rattle.std.specs.Prelude.{◌≡◌, ◌<◌, ℕ, zero, suc, min, Bool, true, false, Option, Some, None, List, ◌++◌, length, ⊤}
use Rattle.chumsky_input.specs.Outcome.{Meaning}
use Rattle.chumsky_parser.specs.Ending.{Ending, At, Refused, Ender, Reads, EndsOrRefused}
use Rattle.chumsky_parser.specs.Progress.{Moves}
use Rattle.chumsky_parser.specs.Memory.{NeverOutOfMemory}

-- a word with P, and then the rest
pub record Begins {Tok : Type 0} (P : List Tok → Type 0) (ts rest : List Tok) : Type 0 where
  pub word : List Tok
  pub all : ts ≡ word ++ rest
  pub is : P word

-- where this ends, it took a word with P
pub record TakesOnly {Tok : Type 0} (f : Ender Tok) (P : List Tok → Type 0) : Type 0 where
  pub taken : (ts rest : List Tok) → f ts ≡ At rest → Begins P ts rest

-- and its value is one of that word
pub record GivesOnly {Tok V : Type 0} (f : Ender Tok) (value of : List Tok → V → Type 0) : Type 0 where
  pub given : (ts rest : List Tok) (v : V) → f ts ≡ At rest → value ts v → Begins (λ w. of w v) ts rest

-- each word with P is taken, where what follows fits, unless it is refused
pub record TakesEach {Tok : Type 0} (f : Ender Tok) (P fits : List Tok → Type 0) : Type 0 where
  pub each : (w rest : List Tok) → P w → fits rest → EndsOrRefused (f (w ++ rest)) rest

-- a token is taken wherever it ends
abbrev pub EndsFurther : {Tok : Type 0} → Ender Tok → Type 0
EndsFurther {Tok} f = (ts rest : List Tok) → f ts ≡ At rest → length rest < length ts

-- of each text it is known whether this ends
abbrev pub NeverRefused : {Tok : Type 0} → Ender Tok → Type 0
NeverRefused {Tok} f = (ts : List Tok) → f ts ≡ Refused → ⊥

-- fewer than so many, if there is such a number
abbrev pub IsBelow : Option ℕ → ℕ → Type 0
IsBelow None k = ⊤
IsBelow (Some n) k = k < n

-- of each text of fewer tokens than so many it is known
abbrev pub NeverRefusedBelow : {Tok : Type 0} → Option ℕ → Ender Tok → Type 0
NeverRefusedBelow {Tok} n f = (ts : List Tok) → IsBelow n (length ts) → f ts ≡ Refused → ⊥

-- the smaller of two such numbers
abbrev pub sooner : Option ℕ → Option ℕ → Option ℕ
sooner None n = n
sooner (Some m) None = Some m
sooner (Some m) (Some n) = Some (min m n)

-- one more, after what takes a token
abbrev pub later : Option ℕ → Bool → Option ℕ
later None moves = None
later (Some n) true = Some (suc n)
later (Some n) false = Some n

-- what is said of a parser
pub record Language (Tok V : Type 0) : Type 1 where
  -- that its language is said, which the next seven words are
  pub said : Bool
  -- where it ends, and which values it may give, of the tokens that are left
  pub ends : Ender Tok
  pub value : List Tok → V → Type 0
  -- the words that it accepts, and the values that a word stands for
  pub word : List Tok → Type 0
  pub stands_for : List Tok → V → Type 0
  -- what may follow a word
  pub follow : List Tok → Type 0
  -- that no word is cut short, or taken for another: by what follows it, or by an alternative that comes first
  pub unambiguous : Type 0
  -- how many tokens a text has at least that is refused for something else than memory, as by a function that calls itself too
  -- deep; none, where no text is
  pub refused_from : Option ℕ
  -- that it takes a token wherever it succeeds
  pub moves : Bool
  -- what has to take no memory, besides errors and states
  pub takes_no_memory : Type 0

module _ {Tok Cx St Er V : Type 0} (m : Meaning Tok Cx St Er V) (l : Language Tok V) where
  -- a meaning is as its language says
  pub record Described : Type 0 where
    pub reads : Reads m l.ends l.value
    pub only : TakesOnly l.ends l.word
    pub given : GivesOnly l.ends l.value l.stands_for
    pub each : l.unambiguous → TakesEach l.ends l.word l.follow
    pub decided : NeverRefusedBelow l.refused_from l.ends
    pub further : l.moves ≡ true → EndsFurther l.ends

  -- what is said of a parser holds, where errors and states take no memory if this does
  pub record Accepts (spare : Type 0) : Type 0 where
    pub described : l.said ≡ true → Described
    pub moving : l.moves ≡ true → Moves m
    pub sparing : spare → l.takes_no_memory → NeverOutOfMemory m

-- nothing is said
abbrev pub unsaid : {Tok V : Type 0} → Language Tok V
unsaid =
    record {
      said = false;
      ends = λ _. Refused;
      value = λ _ _. ⊤;
      word = λ _. ⊤;
      stands_for = λ _ _. ⊤;
      follow = λ _. ⊥;
      unambiguous = ⊥;
      refused_from = Some zero;
      moves = false;
      takes_no_memory = ⊥;
    }

pub of_unsaid : {Tok Cx St Er V : Type 0} {m : Meaning Tok Cx St Er V} {spare : Type 0} → Accepts m unsaid spare
of_unsaid = record { described = λ s. absurd (cc s); moving = λ s. absurd (cc s); sparing = λ _ x. absurd x }
