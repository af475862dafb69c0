use Rattle.std.proofs.Common.{rules, refl}
use Rattle.chumsky_parse_iter.proofs.PartsLemmas.{ran-parts}
use Rattle.chumsky_parse_iter.proofs.step.step_from.Goals as goal

pub returns-clause-ran : goal.returns-clause-ran
returns-clause-ran g c =
    ran-parts c.resume-inp.ensures.begins refl refl (rw c.put_errors.ensures at c.run_step-answer.ensures.ran) (search rules)
    (cc (c.finish-cursor.ensures.cursor, c.finish-cursor.ensures.kept, c.finish-cursor.ensures.emitted))
