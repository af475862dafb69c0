use Rattle.std.proofs.Common.{◌∙◌}
use Rattle.chumsky_text.specs.Decimals.{parsed-is}
use Rattle.chumsky_text.proofs.decimal.DecimalOfU64PickerRefStrU64.pick.Goals as goal

pub returns : goal.returns
returns c = c.ok.ensures.value ∙ parsed-is 64 c.args.digits.now c.parse.result c.parse.ensures.value.0
