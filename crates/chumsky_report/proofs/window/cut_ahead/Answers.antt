use Rattle.std.proofs.Common.{rules}
use Rattle.chumsky_report.proofs.CutLemmas.{cut_ahead_more}
use Rattle.chumsky_report.proofs.window.cut_ahead.Goals as goal

pub loop-count-preserved : goal.loop-count-preserved
loop-count-preserved c =
    let more = cut_ahead_more c.args.text.now c.loop-count.left.now c.in-Some.shorter.now c.loop-count.count c.loop-count.invariant.1 (search rules) in
    (search rules, more.0, more.1)
