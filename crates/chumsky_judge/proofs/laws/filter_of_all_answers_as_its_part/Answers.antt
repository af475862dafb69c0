use Rattle.chumsky_judge.specs.ComparedLaws.{filter-as_part}
use Rattle.chumsky_judge.proofs.laws.filter_of_all_answers_as_its_part.Goals as goal

pub returns : goal.returns
returns g c h =
    filter-as_part g.I.Input g.E.Error.Error g.E.Error.Error.takes_no_memory
    (g.F.Tester.gives c.args.filter.now.tester)
    (g.A.Parser.meaning c.args.filter.now.parser g.E.Error.Error g.E.State.Inspector) h
