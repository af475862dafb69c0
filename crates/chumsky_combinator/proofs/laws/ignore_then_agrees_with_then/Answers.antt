use Rattle.std.proofs.Common.{rules}
use Rattle.chumsky_combinator.specs.SequenceLaws.{sequence-second_agrees}
use Rattle.chumsky_combinator.proofs.laws.ignore_then_agrees_with_then.Goals as goal

pub returns : goal.returns
returns g c s t =
    sequence-second_agrees _ _ (g.A.Parser.same c.args.a.now) (g.B.Parser.same c.args.b.now)
    ((g.met.A.Parser c.lifetimes (search rules)).agrees c.args.a.now s) ((g.met.B.Parser c.lifetimes (search rules)).agrees c.args.b.now t)
