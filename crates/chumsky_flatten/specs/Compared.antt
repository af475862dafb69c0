-- What the laws say of items out of collections.
use Rattle.std.specs.Prelude.{◌≡◌, ◌^◌, ◌<◌, true, Option, Some, List, [], ◌∷◌, ◌++◌, length}
use Rattle.chumsky_input.specs.Outcome.{Meaning, Beginning, Outcome, Yes}
use Rattle.chumsky_parser.specs.Chained.{retold}
use Rattle.chumsky_flatten.specs.Collections.{CollectionHas}

module _ {O J A : Type 0} (makes : O → J → Type 0) (nexts : J → Option A → J → Type 0) where
  -- what these collections have, one after another
  abbrev pub HaveItems : List O → List A → Type 0
  HaveItems [] xs = xs ≡ []
  HaveItems (o ∷ os) xs = (ys : List A) × (zs : List A) × CollectionHas makes nexts o ys × HaveItems os zs × (xs ≡ ys ++ zs)

  module _ {Tok Cx St Er C D : Type 0} where
    -- where a value is wanted: each yes of the whole holds the items of a list of collections; and these are what is
    -- collected when it succeeds in the same way, unless there are more of them than can be counted. And the other way
    -- round, the items of whatever is collected are a yes of the whole, unless there are more of them than can be counted
    pub record FlattensCollected (outer : List O → C → Type 0) (holds : List A → D → Type 0) (collects : Meaning Tok Cx St Er C) (whole : Meaning Tok Cx St Er D) : Type 0 where
      pub apart : (b : Beginning Tok Cx St) (o : Outcome D Er St) (d : D) → b.wanted ≡ true → whole b o → o.verdict ≡ Yes (Some d)
          → (os : List O) × (xs : List A) × HaveItems os xs × holds xs d × (length os < 2 ^ 64 → (c : C) → outer os c → collects b (retold (Yes (Some c)) o))
      pub together : (b : Beginning Tok Cx St) (o : Outcome C Er St) (c : C) (os : List O) (xs : List A) (d : D)
          → b.wanted ≡ true → collects b o → o.verdict ≡ Yes (Some c) → outer os c → HaveItems os xs → holds xs d
          → length xs < 2 ^ 64
          → whole b (retold (Yes (Some d)) o)

  module _ {Tok Cx St Er D : Type 0} where
    -- where a value is wanted: each yes of the whole holds the items of an output that the part gives in the same way
    pub record GivesItemsOf (holds : List A → D → Type 0) (part : Meaning Tok Cx St Er O) (whole : Meaning Tok Cx St Er D) : Type 0 where
      pub apart : (b : Beginning Tok Cx St) (o : Outcome D Er St) (d : D) → b.wanted ≡ true → whole b o → o.verdict ≡ Yes (Some d)
          → (c : O) × (xs : List A) × CollectionHas makes nexts c xs × holds xs d × part b (retold (Yes (Some c)) o)
