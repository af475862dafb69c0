-- The language of a parser of items: where a step of it ends, with an item or without one; which words its items have, and the
-- end of the list.
-- Main words: ItemsLanguage, AcceptsItems. Laws: ItemsEndings.antt. Read first: Ending.antt, Language.antt, Items.antt.
use Rattle.std.specs.Prelude.{◌≡◌, ℕ, zero, suc, ◌+◌, ◌^◌, ◌<◌, Bool, true, false, Option, Some, List, [], ◌∷◌, ◌++◌, length, drop, ⊤}
use Rattle.chumsky_input.specs.Outcome.{Meaning, Beginning}
use Rattle.chumsky_parser.specs.Items.{Next, More, End, ItemsEnd}
use Rattle.chumsky_parser.specs.Ending.{Ending, At, Nowhere, Refused, Within, IfValue, Here, Reads, EndsOrRefused}
use Rattle.chumsky_parser.specs.Language.{Begins, IsBelow}
use Rattle.chumsky_parser.specs.Words.{Joined}
use Rattle.chumsky_parser.specs.Memory.{ItemsNeverOutOfMemory}
use Rattle.chumsky_parser.specs.Progress.{ItemsMove}

-- where a step ends: one more item ends here, or the list does
pub data Stepped (Tok : Type 0) : Type 0 where
  One : List Tok → Stepped Tok
  Over : List Tok → Stepped Tok

-- where it ends, whether with an item or without
abbrev pub place_of : {Tok : Type 0} → Stepped Tok → List Tok
place_of (One rest) = rest
place_of (Over rest) = rest

abbrev pub place : {Tok : Type 0} → Ending (Stepped Tok) → Ending (List Tok)
place (At s) = At (place_of s)
place Nowhere = Nowhere
place Refused = Refused

-- an item with P and an iteration with Q, where one more item is said; and else the end
abbrev pub IsStepped : {Tok S V : Type 0} → (V → Type 0) → (S → Type 0) → Ending (Stepped Tok) → Next S V → Type 0
IsStepped P Q (At (One rest)) (More v s) = IfValue P v × Q s
IsStepped P Q (At (One rest)) End = ⊥
IsStepped P Q (At (Over rest)) (More v s) = ⊥
IsStepped P Q (At (Over rest)) End = ⊤
IsStepped P Q Nowhere next = ⊥
IsStepped P Q Refused next = ⊥

module _ {Tok V : Type 0} (word : ℕ → List Tok → V → Type 0) (last : ℕ → List Tok → Type 0) where
  -- the words of items with these values one after another, after k others, and of the end
  abbrev pub ListFrom : ℕ → List V → List Tok → Type 0
  ListFrom k [] w = last k w
  ListFrom k (v ∷ vs) w = Joined (λ u. word k u v) (λ u. ListFrom (suc k) vs u) w

-- what comes after a step: of one more item, of the end, or nothing
abbrev pub stepped_on : {Tok : Type 0} → (List Tok → Ending (List Tok)) → Ending (Stepped Tok) → Ending (List Tok)
stepped_on more (At (One rest)) = more rest
stepped_on more (At (Over rest)) = At rest
stepped_on more Nowhere = Nowhere
stepped_on more Refused = Refused

-- where a list ends that has given k items, if it gives no more than so many
abbrev pub list_until : {Tok : Type 0} → (ℕ → List Tok → Ending (Stepped Tok)) → ℕ → ℕ → List Tok → Ending (List Tok)
list_until next zero k ts = stepped_on (λ rest. Refused) (next k ts)
list_until next (suc n) k ts = stepped_on (list_until next n (suc k)) (next k ts)

-- where a list ends: each item takes a token
abbrev pub list_ends : {Tok : Type 0} → (ℕ → List Tok → Ending (Stepped Tok)) → List Tok → Ending (List Tok)
list_ends next ts = list_until next (length ts) 0 ts

-- P of where an item ends, where this is one
abbrev pub OfOne : {Tok : Type 0} → Ending (Stepped Tok) → (List Tok → Type 0) → Type 0
OfOne (At (One rest)) P = P rest
OfOne (At (Over rest)) P = ⊥
OfOne Nowhere P = ⊥
OfOne Refused P = ⊥

abbrev pub IsOver : {Tok : Type 0} → Ending (Stepped Tok) → Type 0
IsOver (At (One rest)) = ⊥
IsOver (At (Over rest)) = ⊤
IsOver Nowhere = ⊥
IsOver Refused = ⊥

module _ {Tok V : Type 0} (next : ℕ → List Tok → Ending (Stepped Tok)) (value : ℕ → List Tok → V → Type 0) where
  -- these items, and no more, may be given one after another, after k others, of the tokens that are left
  abbrev pub GivesFrom : ℕ → List V → List Tok → Type 0
  GivesFrom k [] ts = IsOver (next k ts)
  GivesFrom k (v ∷ vs) ts = OfOne (next k ts) (λ rest. value k ts v × GivesFrom (suc k) vs rest)

-- words of some items after k others, and of the end
pub record IsListFrom {Tok : Type 0} (word last : ℕ → List Tok → Type 0) (k : ℕ) (w : List Tok) : Type 0 where
  pub items : List (List Tok)
  pub are : ListFrom (λ j u (v : List Tok). word j u) last k items w

-- and of what may follow them
pub record GoesOn {Tok : Type 0} (word last : ℕ → List Tok → Type 0) (follow : List Tok → Type 0) (k : ℕ) (ts : List Tok) : Type 0 where
  pub words : List Tok
  pub rest : List Tok
  pub all : ts ≡ words ++ rest
  pub is : IsListFrom word last k words
  pub fits : follow rest

-- what is said of a parser of items; each of the middle words is of the step after so many items
pub record ItemsLanguage (Tok S V : Type 0) : Type 1 where
  -- that its language is said, which the next words are
  pub said : Bool
  -- that an iteration has given so many items
  pub has_given : S → ℕ → Type 0
  -- where a step ends, and which items it may give, of the tokens that are left
  pub next : ℕ → List Tok → Ending (Stepped Tok)
  pub value : ℕ → List Tok → V → Type 0
  -- the words that it accepts for an item, and the items that a word stands for; and the words before the end of the list
  pub word : ℕ → List Tok → Type 0
  pub stands_for : ℕ → List Tok → V → Type 0
  pub last : ℕ → List Tok → Type 0
  -- what may follow the list
  pub follow : List Tok → Type 0
  -- that no word is cut short, or taken for another
  pub unambiguous : Type 0
  -- how many tokens a text has at least that is refused for something else than memory
  pub refused_from : Option ℕ
  -- that there is an item wherever the list succeeds, so that it takes a token
  pub moves : Bool
  -- what has to take no memory, besides errors and states
  pub takes_no_memory : Type 0

module _ {Tok Cx St Er S V : Type 0} (begins : Meaning Tok Cx St Er S) (gives : S → Meaning Tok Cx St Er (Next S V)) (l : ItemsLanguage Tok S V) where
  -- each outcome of a step after k items, where as many more can be counted as tokens are left
  abbrev pub StepReads : ℕ → S → Beginning Tok Cx St → Type 0
  StepReads k s b =
      let ts : List Tok = drop b.start b.tokens.list in
      k + length ts < 2 ^ 64 → Here (IsStepped (l.value k ts) (λ t. l.has_given t (suc k)) (l.next k ts)) (gives s) (place (l.next k ts)) b

  -- an iteration and its steps are as the language says
  pub record ItemsDescribed : Type 0 where
    pub start : Reads begins (λ ts. At ts) (λ ts s. l.has_given s 0)
    pub step : (k : ℕ) (s : S) → l.has_given s k → (b : Beginning Tok Cx St) → Within b → StepReads k s b
    -- an item takes a token
    pub further : (k : ℕ) (ts rest : List Tok) → l.next k ts ≡ At (One rest) → length rest < length ts
    -- with a word of an item, or of the end
    pub one : (k : ℕ) (ts rest : List Tok) → l.next k ts ≡ At (One rest) → Begins (l.word k) ts rest
    pub given : (k : ℕ) (ts rest : List Tok) (v : V) → l.next k ts ≡ At (One rest) → l.value k ts v → Begins (λ w. l.stands_for k w v) ts rest
    pub over : (k : ℕ) (ts rest : List Tok) → l.next k ts ≡ At (Over rest) → Begins (l.last k) ts rest
    -- each such word is taken, where what follows fits, unless it is refused
    pub each : l.unambiguous → (k : ℕ) (w rest : List Tok) → l.word k w → GoesOn l.word l.last l.follow (suc k) rest → EndsOrRefused (l.next k (w ++ rest)) (One rest)
    pub ends : l.unambiguous → (k : ℕ) (w rest : List Tok) → l.last k w → l.follow rest → EndsOrRefused (l.next k (w ++ rest)) (Over rest)
    pub decided : (k : ℕ) (ts : List Tok) → IsBelow l.refused_from (length ts) → l.next k ts ≡ Refused → ⊥
    pub never_empty : l.moves ≡ true → (ts rest : List Tok) → l.next 0 ts ≡ At (Over rest) → ⊥

  -- what is said of a parser of items holds, where errors and states take no memory if this does
  pub record AcceptsItems (spare : Type 0) : Type 0 where
    pub described : l.said ≡ true → ItemsDescribed
    pub moving : l.moves ≡ true → ItemsEnd begins gives × ItemsMove begins gives
    pub sparing : spare → l.takes_no_memory → ItemsNeverOutOfMemory begins gives

-- nothing is said
abbrev pub unsaid_items : {Tok S V : Type 0} → ItemsLanguage Tok S V
unsaid_items =
    record {
      said = false;
      has_given = λ _ _. ⊤;
      next = λ _ _. Refused;
      value = λ _ _ _. ⊤;
      word = λ _ _. ⊤;
      stands_for = λ _ _ _. ⊤;
      last = λ _ _. ⊤;
      follow = λ _. ⊥;
      unambiguous = ⊥;
      refused_from = Some zero;
      moves = false;
      takes_no_memory = ⊥;
    }

pub of_unsaid_items : {Tok Cx St Er S V : Type 0} {begins : Meaning Tok Cx St Er S} {gives : S → Meaning Tok Cx St Er (Next S V)} {spare : Type 0} → AcceptsItems begins gives unsaid_items spare
of_unsaid_items = record { described = λ s. absurd (cc s); moving = λ s. absurd (cc s); sparing = λ _ x. absurd x }
