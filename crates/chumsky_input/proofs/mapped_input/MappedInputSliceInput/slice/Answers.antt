use Rattle.std.proofs.Common.{map}
use Rattle.chumsky_input.proofs.PartLemmas.{mapped_part_seen}
use Rattle.chumsky_input.proofs.mapped_input.MappedInputSliceInput.slice.Goals as goal

pub returns : goal.returns
returns g c =
    let from = c.args.from.now in
    let to = c.args.to.now in
    let apart = g.M.TakesApart.apart in
    mapped_part_seen apart to.elements.now (map apart from.elements.now) to.end from.end c.point_at.result from.place to.place c.requires.same c.point_at.ensures
