-- A copy of a value that a parser has.
use Rattle.std.specs.Prelude.{◌≡◌, true, Option, ◌⊎◌}
use Rattle.chumsky_input.specs.Outcome.{Beginning, Outcome}
use Rattle.chumsky_parser.specs.Chained.{Given}
use Rattle.chumsky_parser.specs.Failure.{IsWanted, Refuses}

module _ {Tok Cx St Er V : Type 0} (copies : V → Type 0) where
  -- yes, with a copy where a value is wanted, and nothing done
  pub record Copies (b : Beginning Tok Cx St) (o : Outcome V Er St) : Type 0 where
    pub value : Option V
    pub is_value : IsWanted copies b.wanted value
    pub given : Given value b o

module _ {Tok Cx St Er V : Type 0} (copies : V → Type 0) (safe : Type 0) where
  -- the same, or out of memory for the copy
  pub record GivesCopy (b : Beginning Tok Cx St) (o : Outcome V Er St) : Type 0 where
    pub cases : Refuses ((b.wanted ≡ true) × (safe → ⊥)) b.state o ⊎ Copies copies b o

-- both are copies
abbrev pub BothCopies : {V : Type 0} → (V → Type 0) → V → V → Type 0
BothCopies copies v w = copies v × copies w
