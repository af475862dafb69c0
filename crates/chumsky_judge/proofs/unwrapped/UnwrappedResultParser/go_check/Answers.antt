use Rattle.chumsky_parser.proofs.ChainedLemmas.{last_check}
use Rattle.chumsky_judge.proofs.unwrapped.UnwrappedResultParser.go_check.Goals as goal

pub returns-clause-ran : goal.returns-clause-ran
returns-clause-ran g c = last_check _ c.go_check.ensures.ran (λ b o h. record { by_value = h })
