use Rattle.std.proofs.Common.{false}
use Rattle.chumsky_input.specs.Held.{held}
use Rattle.chumsky_primitive.proofs.JustLemmas.{just_checks}
use Rattle.chumsky_primitive.proofs.just.JustParser.go_check.Goals as goal

pub returns-clause-ran : goal.returns-clause-ran
returns-clause-ran g c =
    just_checks g.I.Input g.I.Token.PartialEq.eq g.E.Error.Error g.E.State.Inspector
    (g.T.Clone.is_clone c.args.self.now.seq) (g.T.Clone.is_infallible c.args.self.now.seq)
    (g.T.Seq.members c.args.self.now.seq)
    (held g.I.Input g.E.Error.Error g.E.State.Inspector c.args.inp.now)
    (held g.I.Input g.E.Error.Error g.E.State.Inspector c.take_members.new.inp) c.take_members.result
    (c.take_members.ensures.ran false)
