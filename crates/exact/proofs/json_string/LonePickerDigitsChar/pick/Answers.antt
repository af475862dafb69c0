use Rattle.std.proofs.Common.{◌∙◌, ap}
use Rattle.exact.specs.JsonPicks.{lone}
use Rattle.exact.proofs.JsonPickLemmas.{lone-from}
use Rattle.exact.proofs.json_string.LonePickerDigitsChar.pick.Goals as goal

pub returns-in-Some : goal.returns-in-Some
returns-in-Some c = lone-from c.from_u32.result c.in-Some.unit c.in-Some.ensures.bound c.from_u32.ensures.value c.from_u32.ensures.cases ∙ ap lone c.in-Some.ensures.value
