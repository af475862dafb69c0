use Rattle.std.proofs.Common.{rules, ◌≡◌, true, false, Err, option_map, sym, ◌∙◌, ap}
use Rattle.chumsky_input.specs.declared.stop.Fault.TheVariants as fault
use Rattle.chumsky_input.specs.declared.stop.Stop.TheVariants.{Memory}
use Rattle.chumsky_input.specs.Held.{held, marks}
use Rattle.chumsky_input.specs.Maybe.{maybe_value}
use Rattle.chumsky_parser.proofs.ChainedLemmas.{check_err}
use Rattle.chumsky_primitive.specs.Just.{is_member}
use Rattle.chumsky_primitive.proofs.JustLemmas.{member_unmarked, member_there, member_unrestored, member_misses}
use Rattle.chumsky_primitive.proofs.just.take_member.Goals as goal

pub returns-in_err-before-clause-ran : goal.returns-in_err-before-clause-ran
returns-in_err-before-clause-ran g c =
    let e : c.from_residual.result ≡ Err (fault.Stop Memory) = search rules in
    rw (check_err e)
    (λ w. member_unmarked g.I.Input g.I.Token.PartialEq.eq g.E.Error.Error g.E.State.Inspector c.args.member.now w
    (held g.I.Input g.E.Error.Error g.E.State.Inspector c.args.inp.now) c.in_err-before.ensures)

pub returns-then-is_there-clause-ran : goal.returns-then-is_there-clause-ran
returns-then-is_there-clause-ran g c =
    let i : is_member g.I.Token.PartialEq.eq c.args.member.now (option_map maybe_value c.next_maybe-found.result) ≡ true = sym c.is_there.ensures ∙ c.if-is_there.true in
    λ w. member_there g.I.Input g.I.Token.PartialEq.eq g.E.Error.Error g.E.State.Inspector c.args.member.now w
    (held g.I.Input g.E.Error.Error g.E.State.Inspector c.args.inp.now)
    (option_map maybe_value c.next_maybe-found.result)
    (held g.I.Input g.E.Error.Error g.E.State.Inspector c.next_maybe-found.new.self) c.next_maybe-found.ensures.taken i c.next_maybe-found.ensures.moves

pub returns-in_err-rewind-clause-ran : goal.returns-in_err-rewind-clause-ran
returns-in_err-rewind-clause-ran g c =
    let e : c.from_residual-in_err-rewind.result ≡ Err (fault.Stop Memory) = search rules in
    let i : is_member g.I.Token.PartialEq.eq c.args.member.now (option_map maybe_value c.next_maybe-found.result) ≡ false = sym c.is_there.ensures ∙ c.if-is_there.false in
    let h = c.in_err-rewind.ensures.back in
    rw (check_err e)
    (λ w. member_unrestored g.I.Input g.I.Token.PartialEq.eq g.E.Error.Error g.E.State.Inspector c.args.member.now w (held g.I.Input g.E.Error.Error g.E.State.Inspector c.args.inp.now) (option_map maybe_value c.next_maybe-found.result)
    (held g.I.Input g.E.Error.Error g.E.State.Inspector c.next_maybe-found.new.self)
    (held g.I.Input g.E.Error.Error g.E.State.Inspector c.rewind.new.self) c.next_maybe-found.ensures.taken i
    c.next_maybe-found.ensures.moves h.0 h.1)

pub returns-clause-ran : goal.returns-clause-ran
returns-clause-ran g c =
    let i : is_member g.I.Token.PartialEq.eq c.args.member.now (option_map maybe_value c.next_maybe-found.result) ≡ false = sym c.is_there.ensures ∙ c.if-is_there.false in
    λ w. member_misses g.I.Input g.I.Token.PartialEq.eq g.E.Error.Error g.E.State.Inspector c.args.member.now w
    (held g.I.Input g.E.Error.Error g.E.State.Inspector c.args.inp.now)
    (option_map maybe_value c.next_maybe-found.result)
    (marks g.I.Input g.E.State.Inspector c.in_ok-before.before) (g.I.Input.place c.cursor-past.result)
    (held g.I.Input g.E.Error.Error g.E.State.Inspector c.next_maybe-found.new.self)
    (held g.I.Input g.E.Error.Error g.E.State.Inspector c.rewind.new.self) _ _
    c.next_maybe-found.ensures.taken i c.in_ok-before.ensures c.next_maybe-found.ensures.moves (ap g.I.Input.place c.cursor-past.ensures) c.in_ok-rewind.ensures.back c.expected_token.ensures.fails
