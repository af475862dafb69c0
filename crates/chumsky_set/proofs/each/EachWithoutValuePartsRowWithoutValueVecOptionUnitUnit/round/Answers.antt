use Rattle.std.proofs.Common.{rules, ◌≡◌, length}
use Rattle.chumsky_set.proofs.TurnsLemmas.{written_whole}
use Rattle.chumsky_set.proofs.each.EachWithoutValuePartsRowWithoutValueVecOptionUnitUnit.round.Goals as goal

pub returns-clause-ran : goal.returns-clause-ran
returns-clause-ran g c =
    let same : length c.round_each.new.slots ≡ length c.args.slots.now.items = search rules in
    rw (written_whole c.args.slots.now.items c.round_each.new.slots c.args.slots.now.len same c.args.slots.now.ok.0) (rw c.as_mut_slice.ensures.value at c.round_each.ensures.ran)

pub returns-clause-lessens : goal.returns-clause-lessens
returns-clause-lessens g c =
    let same : length c.round_each.new.slots ≡ length c.args.slots.now.items = search rules in
    rw (written_whole c.args.slots.now.items c.round_each.new.slots c.args.slots.now.len same c.args.slots.now.ok.0) (rw c.as_mut_slice.ensures.value at c.round_each.ensures.lessens)
