use Rattle.chumsky_parser.proofs.ChainedLemmas.{last_check}
use Rattle.exact.proofs.one_or_more.OneOrMoreParserRefStrVecEmptyText.go_check.Goals as goal

pub returns-clause-ran : goal.returns-clause-ran
returns-clause-ran g c =
    let q = c.first_and_rest.ensures in
    let ran = rw (q.first, q.separator, q.item, q.at_least, q.at_most) at c.go_check.ensures.ran in
    last_check _ ran (λ b o h. record { by_value = h })
