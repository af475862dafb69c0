use Rattle.std.proofs.Common.{rules}
use Rattle.chumsky_input.proofs.MarkLemmas.{marked-next}
use Rattle.chumsky_input.proofs.rich.marks_of.Goals as goal

pub loop-pattern-preserved : goal.loop-pattern-preserved
loop-pattern-preserved g c =
    marked-next g.T.PartialEq.eq g.T.SameClone.bucket_of c.loop-pattern.marks c.mark_of-marks.result
    c.loop-pattern.pattern-index c.pattern-item.result c.args.patterns.now (search rules) c.pattern-item.is
    c.mark_of-marks.ensures c.loop-pattern.invariant
