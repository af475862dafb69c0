-- The parts of a list in turn.
use Rattle.std.specs.Prelude.{Option, Some, None, List, [], ◌∷◌, ⊤}
use Rattle.arrayvec.specs.ArrayVec.{ArrayVec}
use Rattle.chumsky_input.specs.Outcome.{Meaning}
use Rattle.chumsky_parser.specs.Chained.{Chained, Given}
use Rattle.chumsky_parser.specs.Failure.{wanting}

module _ {V : Type 0} where
  -- an item before those of a vector, where all are there
  abbrev pub item_before : Option V → Option (ArrayVec V) → Option (ArrayVec V)
  item_before (Some v) (Some vs) = Some (record { items = v ∷ vs.items })
  item_before (Some v) None = None
  item_before None vs = None

  -- as many items, each by the sameness at its place
  abbrev pub SameEach : List (V → V → Type 0) → List V → List V → Type 0
  SameEach [] [] [] = ⊤
  SameEach [] [] (w ∷ ws) = ⊥
  SameEach [] (v ∷ vs) ws = ⊥
  SameEach (s ∷ ss) [] ws = ⊥
  SameEach (s ∷ ss) (v ∷ vs) [] = ⊥
  SameEach (s ∷ ss) (v ∷ vs) (w ∷ ws) = s v w × SameEach ss vs ws

  -- two vectors of as many, each by the sameness at its place
  abbrev pub SameVectors : List (V → V → Type 0) → ArrayVec V → ArrayVec V → Type 0
  SameVectors ss v w = SameEach ss v.items w.items

module _ {Tok Cx St Er V : Type 0} where
  -- yes, with no items
  abbrev pub NoPart : Meaning Tok Cx St Er (ArrayVec V)
  NoPart b o = Given (wanting b.wanted (record { items = [] })) b o

  -- the first, and then the others, each beginning where the former ended: their values in order
  abbrev pub InTurn : List (Meaning Tok Cx St Er V) → Meaning Tok Cx St Er (ArrayVec V)
  InTurn [] = NoPart
  InTurn (m ∷ ms) = Chained m (λ v. Chained (InTurn ms) (λ vs. Given (item_before v vs)))
