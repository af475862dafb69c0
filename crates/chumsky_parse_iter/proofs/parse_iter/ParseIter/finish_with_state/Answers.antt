use Rattle.std.proofs.Common.{rules, refl}
use Rattle.chumsky_parse_iter.proofs.parse_iter.ParseIter.finish_with_state.Goals as goal

pub returns-in-Ok : goal.returns-in-Ok
returns-in-Ok g c = record { found = _; closed = _; closes = c.close_from-answer.ensures; replies = rw c.in-Ok.is (_, refl, refl, refl) }

pub returns-in-Err : goal.returns-in-Err
returns-in-Err g c = record { found = _; closed = _; closes = c.close_from-answer.ensures; replies = rw c.in-Err.is refl }
