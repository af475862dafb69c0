use Rattle.std.proofs.Common.{rules, ◌≡◌, ◌∙◌, ap, Err, arith}
use Rattle.chumsky_input.specs.declared.stop.Fault.TheVariants as fault
use Rattle.chumsky_input.specs.declared.stop.Stop.TheVariants.{Memory}
use Rattle.chumsky_parser.proofs.ChainedLemmas.{check_ok, check_err}
use Rattle.chumsky_choice.proofs.AmongLemmas.{some-first, some-next, left-next, left-none, several-unmarked, several-all, several-stands}
use Rattle.chumsky_choice.proofs.among.check_several.Goals as goal

pub returns-in_err-before-clause-ran : goal.returns-in_err-before-clause-ran
returns-in_err-before-clause-ran g c =
    let e : c.from_residual.result ≡ Err (fault.Stop Memory) = search rules in
    several-unmarked {quiet = g.E.State.Inspector.takes_no_memory}
    (λ p. g.P.Parser.meaning p g.E.Error.Error g.E.State.Inspector) c.args.others.now c.requires.several
    (check_err e) c.in_err-before.ensures

pub returns-in-Ok-clause-ran : goal.returns-in-Ok-clause-ran
returns-in-Ok-clause-ran g c =
    several-stands {quiet = g.E.State.Inspector.takes_no_memory} (λ p. g.P.Parser.meaning p g.E.Error.Error g.E.State.Inspector) c.requires.several c.in_ok-before.ensures
    (some-first g.E.State.Inspector.mark c.in_ok-before.ensures (rw (check_ok c.in-Ok.is) at c.go_check.ensures.ran)) (λ q. cc)

pub returns-in-Err-Stop-clause-ran : goal.returns-in-Err-Stop-clause-ran
returns-in-Err-Stop-clause-ran g c =
    several-stands {quiet = g.E.State.Inspector.takes_no_memory} (λ p. g.P.Parser.meaning p g.E.Error.Error g.E.State.Inspector) c.requires.several c.in_ok-before.ensures
    (some-first g.E.State.Inspector.mark c.in_ok-before.ensures (rw (check_err (c.in-Err-Stop.is ∙ ap Err c.in-Err-Stop.field-0-is)) at c.go_check.ensures.ran)) (λ q. cc)

pub loop-next-init : goal.loop-next-init
loop-next-init g c =
    record {
      some = some-first g.E.State.Inspector.mark c.in_ok-before.ensures (rw (check_err (c.in-Err-Fail.is ∙ ap Err c.in-Err-Fail.field-0-is)) at c.go_check.ensures.ran);
      lent = c.go_check.ensures.lent;
    }

pub returns-in-Ok-check_next-clause-ran : goal.returns-in-Ok-check_next-clause-ran
returns-in-Ok-check_next-clause-ran g c =
    let left = left-next c.args.others.now c.loop-next.next-index c.next-item.result (omega arith) c.next-item.is in
    several-stands {quiet = g.E.State.Inspector.takes_no_memory} (λ p. g.P.Parser.meaning p g.E.Error.Error g.E.State.Inspector) c.requires.several c.in_ok-before.ensures
    (some-next c.loop-next.invariant.some left (rw (check_ok c.in-Ok-check_next.is) at c.check_next.ensures.tries)) (λ q. cc)

pub returns-in-Err-Stop-check_next-clause-ran : goal.returns-in-Err-Stop-check_next-clause-ran
returns-in-Err-Stop-check_next-clause-ran g c =
    let left = left-next c.args.others.now c.loop-next.next-index c.next-item.result (omega arith) c.next-item.is in
    several-stands {quiet = g.E.State.Inspector.takes_no_memory} (λ p. g.P.Parser.meaning p g.E.Error.Error g.E.State.Inspector) c.requires.several c.in_ok-before.ensures
    (some-next c.loop-next.invariant.some left (rw (check_err (c.in-Err-Stop-check_next.is ∙ ap Err c.in-Err-Stop-check_next.field-0-is)) at c.check_next.ensures.tries)) (λ q. cc)

pub loop-next-preserved : goal.loop-next-preserved
loop-next-preserved g c =
    let left = left-next c.args.others.now c.loop-next.next-index c.next-item.result (omega arith) c.next-item.is in
    record {
      some = some-next c.loop-next.invariant.some left (rw (check_err (c.in-Err-Fail-check_next.is ∙ ap Err c.in-Err-Fail-check_next.field-0-is)) at c.check_next.ensures.tries);
      lent = c.check_next.ensures.lent ∙ c.loop-next.invariant.lent;
    }

pub returns-clause-ran : goal.returns-clause-ran
returns-clause-ran g c =
    several-all {quiet = g.E.State.Inspector.takes_no_memory}
    (λ p. g.P.Parser.meaning p g.E.Error.Error g.E.State.Inspector) c.requires.several c.in_ok-before.ensures
    c.loop-next.invariant.some (left-none c.args.others.now c.loop-next.next-index (omega arith))
