use Rattle.chumsky_parser.proofs.IgnoringLemmas.{ignored_emit}
use Rattle.chumsky_flatten.proofs.into_iter.IntoIterParserUnit.go_emit.Goals as goal

pub returns-clause-ran : goal.returns-clause-ran
returns-clause-ran g c = ignored_emit _ c.go_check.ensures.ran
