use Rattle.chumsky_recovery.specs.RecoverySpares.{recovered-tells}
use Rattle.chumsky_recovery.proofs.laws.recover_with_is_out_of_memory_only_to_tell.Goals as goal

pub returns : goal.returns
returns g c s hp hh = recovered-tells _ _ _ _ _ _ _ s hp hh
