use Rattle.std.proofs.Common.{◌∙◌}
use Rattle.chumsky_exact.specs.Builders.{ignore_then_is, map_by_is, just_is}
use Rattle.exact.proofs.timestamp.signed.Goals as goal

pub returns : goal.returns
returns c = map_by_is (c.map_by.ensures.parser ∙ ignore_then_is (c.ignore_then.ensures.first ∙ just_is c.just.ensures) c.ignore_then.ensures.second) c.map_by.ensures.mapper
