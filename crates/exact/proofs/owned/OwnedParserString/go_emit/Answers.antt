use Rattle.std.proofs.Common.{◌≡◌, ◌∙◌, Err, rules}
use Rattle.chumsky_input.specs.declared.stop.Fault.TheVariants as fault
use Rattle.chumsky_input.specs.declared.stop.Stop.TheVariants.{Memory}
use Rattle.chumsky_parser.proofs.ChainedLemmas.{failed, chained, emit_err, emit_ok}
use Rattle.exact.proofs.OwnedLemmas.{ran-own, ran-lacks_own}
use Rattle.exact.proofs.owned.OwnedParserString.go_emit.Goals as goal

pub returns-in_err-part-clause-ran : goal.returns-in_err-part-clause-ran
returns-in_err-part-clause-ran g c = failed c.go_emit.ensures.ran (emit_err c.in_err-part.was) (emit_err (search rules))

pub returns-in_err-text-clause-ran : goal.returns-in_err-text-clause-ran
returns-in_err-text-clause-ran g c =
    let e : c.from_residual-in_err-text.result ≡ Err (fault.Stop Memory) = search rules in
    rw (emit_err e) (chained c.go_emit.ensures.ran (emit_ok c.in_ok-part.was) ran-lacks_own)

pub returns-clause-ran : goal.returns-clause-ran
returns-clause-ran g c = chained c.go_emit.ensures.ran (emit_ok c.in_ok-part.was) (ran-own (c.in_ok-text.ensures.ok ∙ c.as_str.ensures))
