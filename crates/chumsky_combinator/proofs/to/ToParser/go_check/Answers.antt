use Rattle.chumsky_parser.proofs.IgnoringLemmas.{replaced_check, ran-uncopied}
use Rattle.chumsky_combinator.proofs.to.ToParser.go_check.Goals as goal

pub returns-clause-ran : goal.returns-clause-ran
returns-clause-ran g c = replaced_check _ c.go_check.ensures.ran ran-uncopied
