use Rattle.std.proofs.Common.{refl}
use Rattle.chumsky_context.proofs.UnderLemmas.{ran-under}
use Rattle.chumsky_context.proofs.items_under.make_iter_under.Goals as goal

pub returns-clause-ran : goal.returns-clause-ran
returns-clause-ran g c =
    rw (c.put_errors.ensures, c.move_to.ensures)
    (ran-under c.set_aside-errors.ensures.leaves c.set_aside-errors.ensures.kept c.set_aside-errors.ensures.emitted refl refl
    (rw c.cursor-here.ensures at c.make_iter_parts-answer.ensures.ran))
