use Rattle.std.proofs.Common.{rules, refl}
use Rattle.chumsky_parse_iter.proofs.step.ask.Goals as goal

pub returns-clause-ran : goal.returns-clause-ran
returns-clause-ran g c = rw c.replace-older.ensures.value at c.step_from-answer.ensures.ran
