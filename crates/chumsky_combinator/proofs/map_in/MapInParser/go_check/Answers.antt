use Rattle.std.proofs.Common.{inr}
use Rattle.chumsky_parser.proofs.ChainedLemmas.{last_check}
use Rattle.chumsky_combinator.proofs.map_in.MapInParser.go_check.Goals as goal

pub returns-clause-ran : goal.returns-clause-ran
returns-clause-ran g c = last_check _ c.go_check.ensures.ran (λ b o h. record { cases = inr (record { by_value = h }) })
