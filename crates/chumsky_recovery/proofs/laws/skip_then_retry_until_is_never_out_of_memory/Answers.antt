use Rattle.chumsky_recovery.specs.RecoverySpares.{skip_then_retry-spares}
use Rattle.chumsky_recovery.proofs.laws.skip_then_retry_until_is_never_out_of_memory.Goals as goal

pub returns : goal.returns
returns g c s hs hu hp = skip_then_retry-spares _ _ _ s _ _ hu hs _ hp
