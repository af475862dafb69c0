use Rattle.chumsky_parser.proofs.ChainedLemmas.{last_check}
use Rattle.chumsky_group.proofs.NextLemmas.{checked-after}
use Rattle.chumsky_group.proofs.tuples.GroupTuple8ParserTuple8.go_check.Goals as goal

pub returns-clause-ran : goal.returns-clause-ran
returns-clause-ran g c =
    last_check _
    (checked-after _ _
    (checked-after _ _
    (checked-after _ _
    (checked-after _ _
    (checked-after _ _ (checked-after _ _ (checked-after _ _ c.go_check-one.ensures.ran c.check_after-two.ensures.ran) c.check_after-three.ensures.ran) c.check_after-four.ensures.ran)
    c.check_after-five.ensures.ran)
    c.check_after-six.ensures.ran)
    c.check_after-seven.ensures.ran)
    c.check_after.ensures.ran)
    (λ b o h. h)
