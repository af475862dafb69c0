use Rattle.std.proofs.Common.{rules, ◌≡◌, Err, true}
use Rattle.chumsky_input.specs.declared.stop.Fault.TheVariants as fault
use Rattle.chumsky_input.specs.declared.stop.Stop.TheVariants.{Memory}
use Rattle.chumsky_input.specs.Held.{held}
use Rattle.chumsky_parser.proofs.ChainedLemmas.{emit_err, check_ok}
use Rattle.chumsky_primitive.proofs.JustLemmas.{just_stops, just_copies, just_lacks}
use Rattle.chumsky_primitive.proofs.just.JustParser.go_emit.Goals as goal

pub returns-in_err-take_members-clause-ran : goal.returns-in_err-take_members-clause-ran
returns-in_err-take_members-clause-ran g c =
    just_stops g.I.Input g.I.Token.PartialEq.eq g.E.Error.Error g.E.State.Inspector
    (g.T.Clone.is_clone c.args.self.now.seq) (g.T.Clone.is_infallible c.args.self.now.seq)
    (g.T.Seq.members c.args.self.now.seq)
    (held g.I.Input g.E.Error.Error g.E.State.Inspector c.args.inp.now)
    (held g.I.Input g.E.Error.Error g.E.State.Inspector c.take_members.new.inp) (c.take_members.ensures.ran true)
    c.in_err-take_members.was (search rules)

pub returns-in_err-seq-clause-ran : goal.returns-in_err-seq-clause-ran
returns-in_err-seq-clause-ran g c =
    let e : c.from_residual-in_err-seq.result ≡ Err (fault.Stop Memory) = search rules in
    rw (emit_err e)
    (just_lacks g.I.Input g.I.Token.PartialEq.eq g.E.Error.Error g.E.State.Inspector (g.T.Clone.is_clone c.args.self.now.seq) (g.T.Clone.is_infallible c.args.self.now.seq) (g.T.Seq.members c.args.self.now.seq)
    (held g.I.Input g.E.Error.Error g.E.State.Inspector c.args.inp.now)
    (held g.I.Input g.E.Error.Error g.E.State.Inspector c.take_members.new.inp) c.in_err-seq.ensures.cases
    (rw (check_ok c.in_ok-take_members.was) at (c.take_members.ensures.ran true)))

pub returns-clause-ran : goal.returns-clause-ran
returns-clause-ran g c =
    just_copies g.I.Input g.I.Token.PartialEq.eq g.E.Error.Error g.E.State.Inspector
    (g.T.Clone.is_clone c.args.self.now.seq) (g.T.Clone.is_infallible c.args.self.now.seq)
    (g.T.Seq.members c.args.self.now.seq)
    (held g.I.Input g.E.Error.Error g.E.State.Inspector c.args.inp.now)
    (held g.I.Input g.E.Error.Error g.E.State.Inspector c.take_members.new.inp) _ c.in_ok-seq.ensures.cases
    (rw (check_ok c.in_ok-take_members.was) at (c.take_members.ensures.ran true))
