use Rattle.chumsky_judge.specs.UnwrappedLaws.{filter_map-gives}
use Rattle.chumsky_judge.proofs.laws.filter_map_gives_what_was_picked.Goals as goal

pub returns : goal.returns
returns g c =
    filter_map-gives g.I.Input g.E.Error.Error g.E.Error.Error.takes_no_memory
    (g.F.Picker.gives c.args.filter_map.now.picker)
    (g.A.Parser.meaning c.args.filter_map.now.parser g.E.Error.Error g.E.State.Inspector)
