use Rattle.chumsky_recovery.specs.RecoverySpares.{closes-nest}
use Rattle.chumsky_recovery.proofs.laws.closes_is_out_of_memory_only_to_nest.Goals as goal

pub returns : goal.returns
returns g c q s = closes-nest _ _ _ _ _ _ q s _
