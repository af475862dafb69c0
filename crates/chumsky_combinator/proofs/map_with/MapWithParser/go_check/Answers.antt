use Rattle.chumsky_combinator.proofs.MappedWithLemmas.{mapped_with-check}
use Rattle.chumsky_combinator.proofs.map_with.MapWithParser.go_check.Goals as goal

pub returns-clause-ran : goal.returns-clause-ran
returns-clause-ran g c = mapped_with-check _ c.go_check.ensures.ran
