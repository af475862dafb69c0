use Rattle.chumsky.proofs.Refusing.{parses-refused}
use Rattle.chumsky.proofs.refusals.founded_runs_are_refused_as_leaves.Goals as goal

pub returns-clause-parse : goal.returns-clause-parse
returns-clause-parse g c = λ ts old new result few p. parses-refused _ _ _ _ _ _ _ c.requires.stands _ _ _ _ _ _ ts old new result few p

pub returns-clause-check : goal.returns-clause-check
returns-clause-check g c = λ ts old new result few p. parses-refused _ _ _ _ _ _ _ c.requires.stands _ _ _ _ _ _ ts old new result few p
