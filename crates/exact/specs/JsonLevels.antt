-- How many levels a value of JSON has.
-- Main word: levels. Laws: JsonLevelsLaws.antt. Read first: JsonForms.antt.
use Rattle.std.specs.Prelude.{ℕ, suc, max}
use Rattle.exact.specs.JsonForms.{Form, null, truth, number, string, array, object, Forms, no_forms, form, Members, no_members, member}

abbrev mutual
  -- how many arrays and objects stand within one another at most: none in a number, one in `[]` and in `[1, {}]` two
  pub levels : Form → ℕ
  levels null = 0
  levels (truth b) = 0
  levels (number cs) = 0
  levels (string cs) = 0
  levels (array fs) = suc (levels_each fs)
  levels (object ms) = suc (levels_in ms)

  -- the most of some values, and of those of some members
  pub levels_each : Forms → ℕ
  levels_each no_forms = 0
  levels_each (form f fs) = max (levels f) (levels_each fs)

  pub levels_in : Members → ℕ
  levels_in no_members = 0
  levels_in (member cs f ms) = max (levels f) (levels_in ms)
