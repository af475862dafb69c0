use Rattle.std.proofs.Common.{rules, ◌≡◌, Err, false, map, option_map}
use Rattle.chumsky_input.specs.declared.stop.Fault.TheVariants as fault
use Rattle.chumsky_input.specs.declared.stop.Stop.TheVariants.{Memory}
use Rattle.chumsky_input.specs.Held.{held}
use Rattle.chumsky_input.specs.Maybe.{maybe_value}
use Rattle.chumsky_input.specs.Wanted.{Token}
use Rattle.chumsky_parser.proofs.ChainedLemmas.{check_err}
use Rattle.chumsky_primitive.specs.OneOf.{among}
use Rattle.chumsky_primitive.proofs.OneOfLemmas.{past_is, tested_skips, tested_stays, tested_fails}
use Rattle.chumsky_primitive.proofs.one_of.OneOfParserToken.go_check.Goals as goal

pub returns-in-Some-clause-ran : goal.returns-in-Some-clause-ran
returns-in-Some-clause-ran g c =
    tested_skips g.I.Input g.I.ValueInput.seen g.I.ValueInput.takes_no_memory g.E.Error.Error g.E.State.Inspector
    (among g.I.Token.PartialEq.eq (g.S.Seq.members c.args.self.now.seq))
    (map Token (g.S.Seq.members c.args.self.now.seq))
    (held g.I.Input g.E.Error.Error g.E.State.Inspector c.args.inp.now)
    (held g.I.Input g.E.Error.Error g.E.State.Inspector c.take.new.inp) (rw c.cursor-past.ensures at c.next_maybe-found.ensures.token)
    c.in-Some.ensures (rw c.cursor-past.ensures at c.next_maybe-found.ensures.tokens)
    (past_is maybe_value g.I.Input.place _ _ _ (rw c.cursor-past.ensures at c.next_maybe-found.ensures.moves)) c.take.ensures.moves

pub returns-in_err-go_back_from-clause-ran : goal.returns-in_err-go_back_from-clause-ran
returns-in_err-go_back_from-clause-ran g c =
    let e : c.from_residual.result ≡ Err (fault.Stop Memory) = search rules in
    rw (check_err e)
    (tested_stays g.I.Input g.I.ValueInput.seen g.I.ValueInput.takes_no_memory g.E.Error.Error g.E.State.Inspector (among g.I.Token.PartialEq.eq (g.S.Seq.members c.args.self.now.seq)) (map Token (g.S.Seq.members c.args.self.now.seq)) (held g.I.Input g.E.Error.Error g.E.State.Inspector c.args.inp.now)
    _ (held g.I.Input g.E.Error.Error g.E.State.Inspector c.go_back_from.new.inp)
    (rw c.cursor-past.ensures at c.next_maybe-found.ensures.token) c.in_default.ensures c.in_err-go_back_from.ensures.back false)

pub returns-clause-ran : goal.returns-clause-ran
returns-clause-ran g c =
    tested_fails g.I.Input g.I.ValueInput.seen g.I.ValueInput.takes_no_memory g.E.Error.Error g.E.State.Inspector
    (among g.I.Token.PartialEq.eq (g.S.Seq.members c.args.self.now.seq))
    (map Token (g.S.Seq.members c.args.self.now.seq))
    (held g.I.Input g.E.Error.Error g.E.State.Inspector c.args.inp.now)
    (option_map maybe_value c.next_maybe-found.result) (g.I.Input.place c.next_maybe-found.new.cursor)
    (held g.I.Input g.E.Error.Error g.E.State.Inspector c.go_back_from.new.inp)
    (held g.I.Input g.E.Error.Error g.E.State.Inspector c.expect_members.new.inp) c.expect_members.result
    (rw c.cursor-past.ensures at c.next_maybe-found.ensures.token) c.in_default.ensures c.in_ok-go_back_from.ensures.back
    (past_is maybe_value g.I.Input.place _ _ _ (rw c.cursor-past.ensures at c.next_maybe-found.ensures.moves)) c.expect_members.ensures.fails
    false
