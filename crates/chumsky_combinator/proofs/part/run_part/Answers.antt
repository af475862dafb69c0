use Rattle.std.proofs.Common.{rules}
use Rattle.chumsky_combinator.proofs.PartLemmas.{ran-as_wanted}
use Rattle.chumsky_combinator.proofs.part.run_part.Goals as goal

pub returns-in-Ok-clause-ran : goal.returns-in-Ok-clause-ran
returns-in-Ok-clause-ran g c = ran-as_wanted _ c.if-wanted.true ((g.met.P.Parser c.lifetimes (search rules)).ends_after_start c.args.parser.now) c.in-Ok.ensures.ran

pub returns-in-Err-clause-ran : goal.returns-in-Err-clause-ran
returns-in-Err-clause-ran g c = ran-as_wanted _ c.if-wanted.true ((g.met.P.Parser c.lifetimes (search rules)).ends_after_start c.args.parser.now) c.in-Err.ensures.ran

pub returns-in-Ok-go_check-clause-ran : goal.returns-in-Ok-go_check-clause-ran
returns-in-Ok-go_check-clause-ran g c = ran-as_wanted _ c.if-wanted.false ((g.met.P.Parser c.lifetimes (search rules)).ends_after_start c.args.parser.now) c.in-Ok-go_check.ensures.ran

pub returns-in-Err-go_check-clause-ran : goal.returns-in-Err-go_check-clause-ran
returns-in-Err-go_check-clause-ran g c = ran-as_wanted _ c.if-wanted.false ((g.met.P.Parser c.lifetimes (search rules)).ends_after_start c.args.parser.now) c.in-Err-go_check.ensures.ran
