use Rattle.chumsky_label.specs.RichLabel.{rich_label-once, rich_label-is}
use Rattle.chumsky_label.proofs.label_error.rich_takes_one_label.Goals as goal

pub returns-clause-once : goal.returns-clause-once
returns-clause-once g c = rich_label-once g.T.SameClone.seen g.T.SameClone.same _

pub returns-clause-is : goal.returns-clause-is
returns-clause-is g c e = rich_label-is g.T.SameClone.seen g.T.SameClone.same _ e
