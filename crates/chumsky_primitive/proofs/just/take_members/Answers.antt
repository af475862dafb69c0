use Rattle.std.proofs.Common.{rules, ◌≡◌, ◌∷◌, ◌∙◌, refl}
use Rattle.chumsky_input.specs.Held.{held}
use Rattle.chumsky_parser.proofs.ChainedLemmas.{check_ok}
use Rattle.chumsky_primitive.proofs.JustLemmas.{members_begin, members_step, members_fail, members_end}
use Rattle.chumsky_primitive.proofs.just.take_members.Goals as goal

pub loop-member-init : goal.loop-member-init
loop-member-init g c = (
  members_begin g.I.Input g.I.Token.PartialEq.eq g.E.Error.Error g.E.State.Inspector (g.T.Seq.members c.args.seq.now) (held g.I.Input g.E.Error.Error g.E.State.Inspector c.args.inp.now) _ (g.met.T.Seq.all_from c.args.seq.now),
  refl,
)

pub returns-in_err-take_member-clause-ran : goal.returns-in_err-take_member-clause-ran
returns-in_err-take_member-clause-ran g c =
    let e : g.T.Seq.members_from c.args.seq.now c.loop-member.at ≡ c.get.result.now ∷ g.T.Seq.members_from c.args.seq.now c.in-Some.next = search rules in
    members_fail g.I.Input g.I.Token.PartialEq.eq g.E.Error.Error g.E.State.Inspector (g.T.Seq.members c.args.seq.now)
    (held g.I.Input g.E.Error.Error g.E.State.Inspector c.args.inp.now) _ _ c.get.result.now
    (held g.I.Input g.E.Error.Error g.E.State.Inspector c.loop-member.inp) (held g.I.Input g.E.Error.Error g.E.State.Inspector c.take_member.new.inp) e c.loop-member.invariant.0
    c.take_member.ensures.ran c.in_err-take_member.was (search rules)

pub loop-member-preserved-in_ok-take_member : goal.loop-member-preserved-in_ok-take_member
loop-member-preserved-in_ok-take_member g c =
    let e : g.T.Seq.members_from c.args.seq.now c.loop-member.at ≡ c.get.result.now ∷ g.T.Seq.members_from c.args.seq.now c.in-Some.next = search rules in (
      members_step g.I.Input g.I.Token.PartialEq.eq g.E.Error.Error g.E.State.Inspector
          (g.T.Seq.members c.args.seq.now) (held g.I.Input g.E.Error.Error g.E.State.Inspector c.args.inp.now) _ _
          c.get.result.now
          (held g.I.Input g.E.Error.Error g.E.State.Inspector c.loop-member.inp) (held g.I.Input g.E.Error.Error g.E.State.Inspector c.take_member.new.inp) e c.loop-member.invariant.0
          (λ w. rw (check_ok c.in_ok-take_member.was) at (c.take_member.ensures.ran w)),
      c.take_member.ensures.lent ∙ c.loop-member.invariant.1,
    )

pub loop-member-preserved : goal.loop-member-preserved
loop-member-preserved g c =
    let e : g.T.Seq.members_from c.args.seq.now c.loop-member.at ≡ c.get.result.now ∷ g.T.Seq.members_from c.args.seq.now c.in-Some.next = search rules in (
      members_step g.I.Input g.I.Token.PartialEq.eq g.E.Error.Error g.E.State.Inspector
          (g.T.Seq.members c.args.seq.now) (held g.I.Input g.E.Error.Error g.E.State.Inspector c.args.inp.now) _ _
          c.get.result.now
          (held g.I.Input g.E.Error.Error g.E.State.Inspector c.loop-member.inp) (held g.I.Input g.E.Error.Error g.E.State.Inspector c.take_member.new.inp) e c.loop-member.invariant.0
          (λ w. rw (check_ok c.in_ok-take_member.was) at (c.take_member.ensures.ran w)),
      c.take_member.ensures.lent ∙ c.loop-member.invariant.1,
    )

pub returns-clause-ran : goal.returns-clause-ran
returns-clause-ran g c =
    members_end g.I.Input g.I.Token.PartialEq.eq g.E.Error.Error g.E.State.Inspector (g.T.Seq.members c.args.seq.now) (held g.I.Input g.E.Error.Error g.E.State.Inspector c.args.inp.now) _
    (held g.I.Input g.E.Error.Error g.E.State.Inspector c.loop-member.inp) (search rules) c.loop-member.invariant.0
