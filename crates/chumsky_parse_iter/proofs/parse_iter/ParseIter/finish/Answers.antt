use Rattle.chumsky_parse_iter.proofs.parse_iter.ParseIter.finish.Goals as goal

pub returns : goal.returns
returns g c = (c.finish_with_state.result.1, c.finish_with_state.ensures)
