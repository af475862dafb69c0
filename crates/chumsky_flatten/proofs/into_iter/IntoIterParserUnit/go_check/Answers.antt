use Rattle.chumsky_parser.proofs.IgnoringLemmas.{replaced_check, ran-gives}
use Rattle.chumsky_flatten.proofs.into_iter.IntoIterParserUnit.go_check.Goals as goal

pub returns-clause-ran : goal.returns-clause-ran
returns-clause-ran g c = replaced_check _ c.go_check.ensures.ran ran-gives
