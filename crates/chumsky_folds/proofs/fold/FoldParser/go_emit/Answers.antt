use Rattle.std.proofs.Common.{rules, ◌≡◌, refl, Err}
use Rattle.chumsky_input.specs.declared.stop.Fault.TheVariants as fault
use Rattle.chumsky_input.specs.declared.stop.Stop.TheVariants.{Memory}
use Rattle.chumsky_parser.proofs.ChainedLemmas.{failed, chained, emit_err}
use Rattle.chumsky_parser.proofs.IgnoringLemmas.{ran-copied, ran-lacks_copy}
use Rattle.chumsky_folds.proofs.fold.FoldParser.go_emit.Goals as goal

pub returns-in_err-first-clause-ran : goal.returns-in_err-first-clause-ran
returns-in_err-first-clause-ran g c =
    let e : c.from_residual.result ≡ Err (fault.Stop Memory) = search rules in
    rw (emit_err e) (failed (ran-lacks_copy c.in_err-first.ensures.cases) refl refl)

pub returns-clause-ran : goal.returns-clause-ran
returns-clause-ran g c = chained (ran-copied c.in_ok-first.ensures.cases) refl c.fold_from_left.ensures.ran
