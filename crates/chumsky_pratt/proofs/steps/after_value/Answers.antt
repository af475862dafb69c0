use Rattle.std.proofs.Common.{◌≡◌, ap}
use Rattle.chumsky_pratt.proofs.RoundLemmas.{value_marked, value_lacks}
use Rattle.chumsky_pratt.proofs.WeightLemmas.{beside, value_postfix, value_some}
use Rattle.chumsky_input.specs.Held.{Marks}
use Rattle.chumsky_pratt.proofs.steps.after_value.Goals as goal

pub returns-in-Ok-clause-goes : goal.returns-in-Ok-clause-goes
returns-in-Ok-clause-goes g c = λ to w. (w.0, w.1, value_marked _ _ _ _ w.0 _ _ _ w.2 _ c.in-Ok.ensures, w.3)

pub returns-in-Err-clause-goes : goal.returns-in-Err-clause-goes
returns-in-Err-clause-goes g c = λ to w. (w.0, value_lacks _ _ _ _ w.0 _ _ _ w.2 c.in-Err.ensures, w.3)

pub returns-in-Ok-clause-lighter : goal.returns-in-Ok-clause-lighter
returns-in-Ok-clause-lighter g c =
    let e : g.I.Input.place c.in-Ok.before.cursor ≡ g.I.Input.place c.args.inp.now.cursor =
    ap (λ (z : Marks g.row.I-Token.Denot g.E.State.Inspector.Marked). z.place) c.in-Ok.ensures in
    rw e (beside _ _ _ (value_postfix _ _ _ _))

pub returns-in-Err-clause-lighter : goal.returns-in-Err-clause-lighter
returns-in-Err-clause-lighter g c = beside _ _ _ (value_some _ _ _ _)
