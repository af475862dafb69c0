use Rattle.chumsky_judge.specs.ComparedLaws.{filter_map-as_part}
use Rattle.chumsky_judge.proofs.laws.filter_map_of_all_answers_as_its_part.Goals as goal

pub returns : goal.returns
returns g c h =
    filter_map-as_part g.I.Input g.E.Error.Error g.E.Error.Error.takes_no_memory
    (g.F.Picker.gives c.args.filter_map.now.picker)
    (g.A.Parser.meaning c.args.filter_map.now.parser g.E.Error.Error g.E.State.Inspector) h
