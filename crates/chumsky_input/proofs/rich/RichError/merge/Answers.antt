use Rattle.chumsky_input.proofs.RichLemmas.{merged-patterns}
use Rattle.chumsky_input.proofs.rich.RichError.merge.Goals as goal

pub returns-clause-error : goal.returns-clause-error
returns-clause-error g c =
    merged-patterns g.T.PartialEq.eq g.T.SameClone.same g.T.SameClone.seen g.met.T.SameClone.eq_same c.args.self
    c.args.other c.append_new.new.patterns c.in-Expected.is c.in-Expected-other_reason.is
    c.in_ok-append_new-in-Expected-other_reason.ensures
