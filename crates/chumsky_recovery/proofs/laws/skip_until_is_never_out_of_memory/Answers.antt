use Rattle.chumsky_recovery.specs.RecoverySpares.{skip_until-spares}
use Rattle.chumsky_recovery.proofs.laws.skip_until_is_never_out_of_memory.Goals as goal

pub returns : goal.returns
returns g c s hs hu = skip_until-spares _ _ _ s _ _ hu hs _
