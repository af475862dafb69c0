use Rattle.std.proofs.Common.{refl}
use Rattle.chumsky_group.proofs.RegroupedLemmas.{regrouped-shown, regrouped-shown_back}
use Rattle.chumsky_group.proofs.laws.group_of_three_is_then_twice.Goals as goal

pub returns-clause-grouped : goal.returns-clause-grouped
returns-clause-grouped g c = regrouped-shown _ _

pub returns-clause-paired : goal.returns-clause-paired
returns-clause-paired g c = regrouped-shown_back _ _ (λ v. refl) _
