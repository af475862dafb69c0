-- Sets of a list of parsers.
use Rattle.std.specs.contracts.option.Option as option
use Rattle.std.specs.Prelude.{◌≡◌, ℕ, ◌<◌, Bool, true, false, Option, Some, None, List, [], ◌∷◌, ◌⊎◌, ⊤, length, map}
use Rattle.std.specs.Borrow.{RattleType, Array}
use Rattle.chumsky_input.specs.Outcome.{Meaning, Beginning, Outcome}
use Rattle.chumsky_parser.specs.Chained.{Chained, Given, Asked}
use Rattle.chumsky_parser.specs.Failure.{Refuses}
use Rattle.chumsky_set.specs.AnyOrder.{Slot, Row, Turns, Missing, all_still, each_part, Rounds, AnyOrder}

-- two lists that are the same part by part
abbrev pub Each : {X Y : Type 0} → (X → Y → Y → Type 0) → List X → List Y → List Y → Type 0
Each same [] [] [] = ⊤
Each same [] [] (z ∷ zs) = ⊥
Each same [] (y ∷ ys) zs = ⊥
Each same (x ∷ xs) [] zs = ⊥
Each same (x ∷ xs) (y ∷ ys) [] = ⊥
Each same (x ∷ xs) (y ∷ ys) (z ∷ zs) = same x y z × Each same xs ys zs

module _ {Tok Cx St Er V W : Type 0} (items : W → List V) where
  -- something that has these values
  abbrev pub FormedAs : Option (List V) → Meaning Tok Cx St Er W
  FormedAs (Some vs) b o = (w : W) × (items w ≡ vs) × Given (Some w) b o
  FormedAs None b o = Given None b o

module _ {X Tok Cx St Mk Er V W : Type 0} (mark : St → Mk) (back : St → Mk → St) (safe : Type 0) (meaning : X → Meaning Tok Cx St Er V) (items : W → List V) where
  -- out of memory for the slots, or the parts in any order, of which none is taken, and then their values
  pub record SetEach (parts : List X) (b : Beginning Tok Cx St) (o : Outcome W Er St) : Type 0 where
    pub cases : Refuses (length parts ≡ 0 → ⊥) b.state o ⊎ Chained (AnyOrder (each_part mark back safe meaning parts) (map (λ _. None) parts)) (FormedAs items) b o

  -- every outcome of a meaning is out of memory for the slots, or the parts in any order, in so many rounds at most, the
  -- one that takes none among them
  abbrev pub WithinEach : List X → ℕ → Meaning Tok Cx St Er W → Type 0
  WithinEach parts n m = (b : Beginning Tok Cx St) (o : Outcome W Er St) → m b o
      → Refuses (length parts ≡ 0 → ⊥) b.state o
      ⊎ (rounds : List (List (Slot V))) × (length rounds < n)
      × Chained (Rounds (each_part mark back safe meaning parts) rounds (map (λ _. None) parts)) (FormedAs items) b o

-- the type of so many slots for values of a type
abbrev pub slots_row : RattleType → ℕ → RattleType
slots_row R n = Array (option.the_row R) n

-- the value, where one is wanted
abbrev pub only : {V : Type 0} → Bool → Option V → Option V
only true v = v
only false v = None

module _ {Tok Cx St Er V : Type 0} where
  -- a part, run for its value whatever is wanted, which is given where it is wanted
  abbrev pub ForItsValue : Meaning Tok Cx St Er V → Meaning Tok Cx St Er V
  ForItsValue part b o = Chained (Asked true part) (λ v. Given (only b.wanted v)) b o

module _ {X Tok Cx St Mk Er V : Type 0} (mark : St → Mk) (back : St → Mk → St) (safe : Type 0) (meaning : X → Meaning Tok Cx St Er V) where
  -- a row of parts of one kind, run for their values whatever is wanted; the values take no memory
  abbrev pub each_stored : List X → Row Tok Cx St Er (List (Slot V)) (List V)
  each_stored parts =
      record {
        pass = λ t. Asked true ((each_part mark back safe meaning parts).pass t);
        last = λ t. ForItsValue (Turns (λ x. Missing (meaning x)) parts t (Some []));
        left = λ t. all_still t;
      }

module _ {X Tok Cx St Mk Er V W : Type 0} (mark : St → Mk) (back : St → Mk → St) (safe : Type 0) (meaning : X → Meaning Tok Cx St Er V) (items : W → List V) where
  -- the parts in any order, of which none is taken, for their values, and then their values where they are wanted
  abbrev pub SetStored : List X → Meaning Tok Cx St Er W
  SetStored parts = Chained (AnyOrder (each_stored mark back safe meaning parts) (map (λ _. None) parts)) (FormedAs items)
