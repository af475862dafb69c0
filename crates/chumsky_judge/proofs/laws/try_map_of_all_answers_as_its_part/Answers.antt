use Rattle.std.specs.Prelude.{⊤}
use Rattle.chumsky_judge.specs.ComparedLaws.{try_map-as_part}
use Rattle.chumsky_judge.proofs.laws.try_map_of_all_answers_as_its_part.Goals as goal

pub returns : goal.returns
returns g c h = try_map-as_part g.I.Input g.E.Error.Error ⊤ (g.F.TryMapper.gives c.args.try_map.now.mapper) (g.A.Parser.meaning c.args.try_map.now.parser g.E.Error.Error g.E.State.Inspector) h
