-- What is kept of an error after one more failure.
-- Main words: KeepsEvent.
use Rattle.std.specs.Prelude.{◌≡◌, ◌⊎◌, ◌++◌, [], ◌∷◌, Option, None, Result, MatchResult, option_map, option_to_list}
use Rattle.chumsky_input.specs.declared.input_ref.Located.{Located}
use Rattle.chumsky_input.specs.Outcome.{Event, HasEventAt}
use Rattle.chumsky_input.specs.Primary.{primary}

-- what counts of the error that is kept, and of its place
abbrev pub kept_event : {E S : Type 0} → (E → S) → Option (Located E) → Option (Event S)
kept_event seen kept = option_map (λ l. record { place = l.place; error = seen l.error }) kept

module _ {Er : Type 0} where
  -- nothing has changed; or what was kept at the place of an event is lost
  abbrev pub KeepsOrLoses : Event Er → Option (Event Er) → Option (Event Er) → Type 0
  KeepsOrLoses e old new = (new ≡ old) ⊎ (HasEventAt e.place (option_to_list old) × (new ≡ None))

module _ {Er : Type 0} (merged : Er → Er → Er) (safe : Type 0) where
  -- one more event is kept; or there is no memory for its error
  abbrev pub KeepsEvent : {V A : Type 0} → Event Er → Option (Event Er) → Option (Event Er) → Result V A → Type 0
  KeepsEvent e old new result = MatchResult result (λ _. new ≡ primary merged (option_to_list old ++ e ∷ [])) (λ _. (safe → ⊥) × KeepsOrLoses e old new)
