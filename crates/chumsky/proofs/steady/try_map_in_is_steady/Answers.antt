use Rattle.chumsky.proofs.TriedInLemmas.{handed_on-alike, handed_on-same}
use Rattle.chumsky.proofs.steady.try_map_in_is_steady.Goals as goal

pub returns-clause-steady : goal.returns-clause-steady
returns-clause-steady g c = λ s alike. (s, handed_on-alike _ _ _ _ alike)

pub returns-clause-same : goal.returns-clause-same
returns-clause-same g c = λ x y m. handed_on-same _ _ _ _ x y m
