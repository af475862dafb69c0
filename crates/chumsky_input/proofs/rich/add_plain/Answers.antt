use Rattle.std.proofs.Common.{Some}
use Rattle.chumsky_input.proofs.RichLemmas.{patterns-one}
use Rattle.chumsky_input.proofs.rich.add_plain.Goals as goal

pub returns-in_ok-push_new-in-Some-clause-adds : goal.returns-in_ok-push_new-in-Some-clause-adds
returns-in_ok-push_new-in-Some-clause-adds g c =
    patterns-one g.T.PartialEq.eq g.T.SameClone.same g.T.SameClone.seen g.met.T.SameClone.eq_same
    c.args.patterns.now.items _ (Some c.in-Some.pattern) _ c.in_ok-push_new-in-Some.ensures.items
    (rw c.in-Some.is at c.in_ok-pattern.ensures)
