use Rattle.std.proofs.Common.{◌∙◌}
use Rattle.chumsky_input.proofs.MarkLemmas.{pattern-new, pattern-marked}
use Rattle.chumsky_input.proofs.rich.push_pattern.Goals as goal

pub returns-in_ok-append-clause-items : goal.returns-in_ok-append-clause-items
returns-in_ok-append-clause-items g c =
    c.in_ok-append.ensures.items
    ∙ pattern-new g.T.PartialEq.eq g.T.SameClone.bucket_of c.args.marks.now c.mark_of-mark.result c.args.pattern
    c.args.patterns.now.items c.if-is_new.true c.mark_of-mark.ensures c.requires.marked

pub returns-in_ok-append-clause-marked : goal.returns-in_ok-append-clause-marked
returns-in_ok-append-clause-marked g c =
    rw (returns-in_ok-append-clause-items g c)
    (pattern-marked g.T.PartialEq.eq g.T.SameClone.bucket_of c.args.marks.now c.mark_of-mark.result c.args.pattern
    c.args.patterns.now.items c.mark_of-mark.ensures c.requires.marked)

pub returns-in_ok-push_new-clause-marked : goal.returns-in_ok-push_new-clause-marked
returns-in_ok-push_new-clause-marked g c =
    rw c.in_ok-push_new.ensures.items
    (pattern-marked g.T.PartialEq.eq g.T.SameClone.bucket_of c.args.marks.now c.mark_of-mark.result c.args.pattern
    c.args.patterns.now.items c.mark_of-mark.ensures c.requires.marked)
