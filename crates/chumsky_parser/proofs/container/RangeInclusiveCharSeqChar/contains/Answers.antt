use Rattle.std.proofs.Common.{rules, ◌∙◌}
use Rattle.std.specs.Char.{IsScalar}
use Rattle.std.specs.Range.{range_inclusive_start, range_inclusive_end, range_inclusive_exhausted}
use Rattle.chumsky_parser.proofs.RangeLemmas.{range_has}
use Rattle.chumsky_parser.proofs.container.RangeInclusiveCharSeqChar.contains.Goals as goal

pub returns : goal.returns
returns c =
    let h : IsScalar c.args.token.now = search rules in
    let r = c.args.self.now in
    c.contains.ensures.value ∙ range_has (range_inclusive_start r) (range_inclusive_end r) c.args.token.now (range_inclusive_exhausted r) h
