-- The items of a collection.
use Rattle.std.specs.Prelude.{◌≡◌, Option, Some, None, List, length, ⊤}
use Rattle.std.specs.Iterator.{Yields, Drains}

-- whatever iterator is made of a collection may be asked for an item
abbrev pub MayIterate : {O J : Type 0} → (O → J → Type 0) → (J → Type 0) → Type 0
MayIterate {O} {J} makes can_next = (o : O) (j : J) → makes o j → can_next j

module _ {O J A : Type 0} (makes : O → J → Type 0) (nexts : J → Option A → J → Type 0) where
  -- a collection has these items: an iterator that is made of it gives them, in order, and then ends
  abbrev pub CollectionHas : O → List A → Type 0
  CollectionHas o xs = (j : J) × makes o j × Drains nexts j xs

  -- this iterator was made of the collection, and has given these items
  abbrev pub IsPast : O → List A → J → Type 0
  IsPast o xs j = (first : J) × makes o first × Yields nexts first xs j

  module _ (same : O → O → Type 0) where
    -- iterators that have given as many items of collections that are the same
    pub record SameRest (i j : J) : Type 0 where
      pub first : O
      pub second : O
      pub are : same first second
      pub first_given : List A
      pub second_given : List A
      pub as_many : length first_given ≡ length second_given
      pub past_first : IsPast first first_given i
      pub past_second : IsPast second second_given j

    -- two items that such iterators give next
    pub record SameItem (x y : A) : Type 0 where
      pub first : J
      pub second : J
      pub rests : SameRest first second
      pub first_left : J
      pub second_left : J
      pub of_first : nexts first (Some x) first_left
      pub of_second : nexts second (Some y) second_left

-- one each, or none each
abbrev pub BothOrNeither : {A : Type 0} → Option A → Option A → Type 0
BothOrNeither (Some x) (Some y) = ⊤
BothOrNeither (Some x) None = ⊥
BothOrNeither None (Some y) = ⊥
BothOrNeither None None = ⊤

-- collections that are the same have as many items: after as many, one more each, or the end of each
abbrev pub AsMany : {O J A : Type 0} → (O → J → Type 0) → (J → Option A → J → Type 0) → (O → O → Type 0) → Type 0
AsMany {O} {J} {A} makes nexts same = (i j k l : J) (a b : Option A) → SameRest makes nexts same i j → nexts i a k → nexts j b l → BothOrNeither a b
