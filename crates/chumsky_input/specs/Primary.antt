-- The left merge of the furthest events.
use Rattle.std.specs.Prelude.{ℕ, max, eqb, Option, Some, None, List, [], ◌∷◌, filter, fold}
use Rattle.chumsky_input.specs.Outcome.{Event}

module _ {Er : Type 0} where
  -- the greatest place
  abbrev pub furthest : List (Event Er) → ℕ
  furthest [] = 0
  furthest (e ∷ es) = max e.place (furthest es)

  abbrev pub events_at : ℕ → List (Event Er) → List (Event Er)
  events_at p es = filter (λ e. eqb e.place p) es

module _ {Er : Type 0} (merged : Er → Er → Er) where
  -- merged from the left, in order
  abbrev pub merged_left : List (Event Er) → Option (Event Er)
  merged_left [] = None
  merged_left (e ∷ es) = Some (record { place = e.place; error = fold (λ a x. merged a x.error) e.error es })

  unfoldable pub primary : List (Event Er) → Option (Event Er)
  primary es = merged_left (events_at (furthest es) es)
