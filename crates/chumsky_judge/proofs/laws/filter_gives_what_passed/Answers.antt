use Rattle.chumsky_judge.specs.UnwrappedLaws.{filter-gives}
use Rattle.chumsky_judge.proofs.laws.filter_gives_what_passed.Goals as goal

pub returns : goal.returns
returns g c =
    filter-gives g.I.Input g.E.Error.Error g.E.Error.Error.takes_no_memory (g.F.Tester.gives c.args.filter.now.tester)
    (g.A.Parser.meaning c.args.filter.now.parser g.E.Error.Error g.E.State.Inspector)
