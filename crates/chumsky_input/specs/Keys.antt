-- Keys of patterns, by which one of many is found.
-- Main words: pattern_key, IsKey, HasKeys.
use Rattle.std.specs.Prelude.{◌≡◌, ℕ, ◌+◌, ⊤, Bool, true, List, Option, Some, None, IfSome, IsSomeAnd, IsSome}
use Rattle.std.specs.List.{AllByRecursion, list_any}
use Rattle.std.specs.Ordering.{nat_cmp}
use Rattle.std.specs.BTreeMap.{BTreeMap, get, Updates}
use Rattle.chumsky_input.specs.Same.{IsBucket}
use Rattle.chumsky_input.specs.Rich.{pattern_same}
use Rattle.chumsky_input.specs.declared.rich.RichPattern.{RichPattern}
use Rattle.chumsky_input.specs.declared.rich.RichPattern.TheVariants.{Token, Any, SomethingElse, EndOfInput, Label}
use Rattle.chumsky_input.specs.declared.many.Standing.{Standing}
use Rattle.chumsky_input.specs.declared.many.Standing.TheVariants.{New, There, KeyThere, Unknown}

-- the key of a pattern: that of its token's bucket, or one for each other kind
abbrev pub pattern_key : {T : Type 0} → (T → ℕ) → RichPattern T → ℕ
pattern_key bucket (Token t) = bucket t + 4
pattern_key bucket Any = 0
pattern_key bucket SomethingElse = 1
pattern_key bucket EndOfInput = 2
pattern_key bucket (Label text) = 3

module _ {T : Type 0} (eq : T → T → Bool) (bucket : T → ℕ) where
  -- n is the key of p, and of each pattern that is equal to p
  abbrev pub IsKey : RichPattern T → ℕ → Type 0
  IsKey p n = IsBucket (pattern_same eq) (pattern_key bucket) p n

module _ {T : Type 0} (bucket : T → ℕ) where
  -- the map has the key of each of the patterns
  abbrev pub AreKeyed : BTreeMap ℕ ℕ → List (RichPattern T) → Type 0
  AreKeyed places ps = AllByRecursion (λ p. IsSome (get nat_cmp places (pattern_key bucket p))) ps

  -- so the map, if there is one
  abbrev pub HasKeys : Option (BTreeMap ℕ ℕ) → List (RichPattern T) → Type 0
  HasKeys places ps = IfSome places (λ m. AreKeyed m ps)

module _ {T : Type 0} (eq : T → T → Bool) (bucket : T → ℕ) (ps : List (RichPattern T)) (places : Option (BTreeMap ℕ ℕ)) (p : RichPattern T) where
  -- how p stands to ps, by the map
  abbrev pub StandsSo : Standing → Type 0
  StandsSo (New key) = IsKey eq bucket p key × IsSomeAnd places (λ m. get nat_cmp m key ≡ None)
  StandsSo There = list_any (λ x. pattern_same eq x p) ps ≡ true
  StandsSo KeyThere = IfSome places (λ m. IsSome (get nat_cmp m (pattern_key bucket p)))
  StandsSo Unknown = ⊤

-- the map, if there is one, with a place under a key
abbrev pub PutInto : Option (BTreeMap ℕ ℕ) → Option (BTreeMap ℕ ℕ) → ℕ → ℕ → Type 0
PutInto (Some m) (Some n) key place = Updates nat_cmp m n key (Some place)
PutInto (Some m) None key place = ⊥
PutInto None new key place = new ≡ None
