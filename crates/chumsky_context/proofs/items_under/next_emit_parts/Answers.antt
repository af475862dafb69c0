use Rattle.std.proofs.Common.{rules}
use Rattle.chumsky_context.proofs.UnderLemmas.{ran-parts}
use Rattle.chumsky_context.proofs.items_under.next_emit_parts.Goals as goal

pub returns-clause-ran : goal.returns-clause-ran
returns-clause-ran g c =
    ran-parts c.resume-inp.ensures.begins (rw c.put_errors.ensures at c.next_emit-answer.ensures.ran) (search rules)
    (cc (c.finish-cursor.ensures.cursor, c.finish-cursor.ensures.kept, c.finish-cursor.ensures.emitted))
