use Rattle.std.proofs.Common.{rules}
use Rattle.chumsky.proofs.Taking.{ran-taking}
use Rattle.chumsky.proofs.moving_part.run_moving.Goals as goal

pub returns-clause-ran : goal.returns-clause-ran
returns-clause-ran g c = ran-taking _ _ _ ((g.met.P.Moving c.lifetimes (search rules)).moved c.args.parser.now c.requires.moves) c.run_part.ensures.ran
