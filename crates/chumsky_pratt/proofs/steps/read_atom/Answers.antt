use Rattle.std.proofs.Common.{rules, arith}
use Rattle.chumsky_pratt.proofs.ClimbLemmas.{atom_ok, atom_err}
use Rattle.chumsky_pratt.proofs.WeightLemmas.{beside, prefix_value, prefix_some}
use Rattle.chumsky_pratt.proofs.steps.read_atom.Goals as goal

pub returns-in-Ok-clause-goes : goal.returns-in-Ok-clause-goes
returns-in-Ok-clause-goes g c =
    λ to w. (
      w.0,
      w.1,
      atom_ok _ _ _ _ w.0 _ _ _ w.2 ((g.met.P.Parser c.lifetimes (search rules)).ends_after_start _)
          ((g.met.R.Operators c.lifetimes (search rules)).ends_after_start _) c.requires.last _
          (rw c.in-Ok.is at c.atom.ensures.ran),
      w.3,
    )

pub returns-clause-goes : goal.returns-clause-goes
returns-clause-goes g c = λ to w. (w.0, atom_err _ _ _ _ w.0 _ _ _ w.2 c.requires.last (rw c.in-Err.is at c.atom.ensures.ran), w.3)

pub returns-in-Ok-clause-lighter : goal.returns-in-Ok-clause-lighter
returns-in-Ok-clause-lighter g c = beside _ _ _ (prefix_value _ _ _ _ _ (omega arith))

pub returns-clause-lighter : goal.returns-clause-lighter
returns-clause-lighter g c = beside _ _ _ (prefix_some _ _ _ _)
