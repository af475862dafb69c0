use Rattle.std.proofs.Common.{refl}
use Rattle.formulas.specs.RankedLaws.{ranked-exactly}
use Rattle.formulas.proofs.ranked.parse_ranked_formula.Goals as goal

pub returns : goal.returns
returns c =
    let x = c.infix_by.ensures in
    let y = c.infix_by-2.ensures in
    ranked-exactly c.infix_by.result c.infix_by-2.result c.args.and c.args.or (record {
      and_sign = rw x.parser c.just.ensures;
      or_sign = rw y.parser c.just-2.ensures;
      is_and = x.folder;
      is_or = y.folder;
      and_stands = rw x.associativity c.left.ensures;
      or_stands = rw y.associativity c.left-2.ensures;
    }) c.ranges.and.fits c.ranges.or.fits (c.parse_listed.ensures refl)
