use Rattle.std.proofs.Common.{arith}
use Rattle.std.specs.Range.{range_inclusive_start, range_inclusive_end, range_inclusive_exhausted}
use Rattle.chumsky_parser.proofs.RangeLemmas.{range_few}
use Rattle.chumsky_parser.proofs.container.RangeInclusiveCharSeqChar.most_members.Goals as goal

pub returns : goal.returns
returns c = λ at.
    let r = c.args.self.now in
    let first = c.start.ensures in
    let last = c.end.ensures in
    let few = range_few (range_inclusive_start r) at (range_inclusive_end r) (range_inclusive_exhausted r) in
    omega (arith, first, last, few)
