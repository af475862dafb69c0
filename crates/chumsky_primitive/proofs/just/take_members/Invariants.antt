use Rattle.std.proofs.Common.{◌≡◌, length}
use Rattle.chumsky_input.specs.Held.{held}
use Rattle.chumsky_primitive.proofs.JustLemmas.{Continues}
use Rattle.chumsky_primitive.proofs.just.take_members.Given as goal

abbrev pub invariant-loop-member : goal.invariant-loop-member
invariant-loop-member g l =
    Continues g.I.Input g.I.Token.PartialEq.eq g.E.Error.Error g.E.State.Inspector (g.T.Seq.members l.seq)
    (held g.I.Input g.E.Error.Error g.E.State.Inspector l.initial.inp) (g.T.Seq.members_from l.seq l.at)
    (held g.I.Input g.E.Error.Error g.E.State.Inspector l.inp)
    × (l.inp.state.ghost_name ≡ l.initial.inp.state.ghost_name)

abbrev pub decreases-loop-member : goal.decreases-loop-member
decreases-loop-member g l = length (g.T.Seq.members_from l.seq l.at)
