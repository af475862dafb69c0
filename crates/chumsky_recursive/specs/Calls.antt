-- What the value functions of a grammar may answer, and which of them take no memory.
-- Main words: TakesNoMemory, GivesOrNone.
use Rattle.std.specs.Prelude.{◌≡◌, ℕ, List, [], Option, Some, None, ⊤}

-- of which value functions it is said that they are never refused for memory: of each mapper by its number
pub record TakesNoMemory : Type 1 where
  pub pair : ℕ → Type 0
  pub option : Type 0
  pub unit : Type 0
  pub map : ℕ → Type 0
  pub list : Type 0
  pub try_map : ℕ → Type 0

-- it is said of none
abbrev pub of_none : TakesNoMemory
of_none = record { pair = λ _. ⊥; option = ⊥; unit = ⊥; map = λ _. ⊥; list = ⊥; try_map = λ _. ⊥ }

-- it is said of all
abbrev pub of_all : TakesNoMemory
of_all = record { pair = λ _. ⊤; option = ⊤; unit = ⊤; map = λ _. ⊤; list = ⊤; try_map = λ _. ⊤ }

module _ {V W : Type 0} (safe : Type 0) (gives : V → W → Type 0) where
  -- of a value comes one that is given; or none, out of memory, unless that is safe
  abbrev pub GivesOrNone : V → Option W → Type 0
  GivesOrNone v (Some w) = gives v w
  GivesOrNone v None = safe → ⊥

module _ {V W : Type 0} (safe : Type 0) (lists : List V → W → Type 0) where
  -- so of a list, whose values are kept until they are all there: where there are some, that may take memory too
  abbrev pub ListsOrNone : List V → Option W → Type 0
  ListsOrNone vs (Some w) = lists vs w
  ListsOrNone vs None = safe × (vs ≡ []) → ⊥
