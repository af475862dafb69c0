use Rattle.std.proofs.Common.{rules, ◌≡◌, Err}
use Rattle.chumsky_input.specs.declared.stop.Fault.TheVariants as fault
use Rattle.chumsky_input.specs.declared.stop.Stop.TheVariants.{Memory}
use Rattle.chumsky_parser.proofs.ChainedLemmas.{emit_err}
use Rattle.chumsky_choice.proofs.NextLemmas.{tried-first, tried-next, tried-all, first_of-unmarked}
use Rattle.chumsky_choice.proofs.tuples.ChoiceTuple4Parser.go_emit.Goals as goal

pub returns-in_err-before-clause-ran : goal.returns-in_err-before-clause-ran
returns-in_err-before-clause-ran g c =
    let e : c.from_residual.result ≡ Err (fault.Stop Memory) = search rules in
    first_of-unmarked {quiet = g.E.State.Inspector.takes_no_memory} (emit_err e) c.in_err-before.ensures

pub returns-clause-ran : goal.returns-clause-ran
returns-clause-ran g c =
    tried-all c.in_ok-before.ensures
    (tried-next
    (tried-next
    (tried-next (tried-first g.E.State.Inspector.mark c.in_ok-before.ensures c.go_emit-tried.ensures.ran)
    c.emit_next-tried.ensures.tries)
    c.emit_next-tried-2.ensures.tries)
    c.emit_next.ensures.tries)
