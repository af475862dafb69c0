use Rattle.chumsky.specs.WantedMemory.{wanted-for_errors}
use Rattle.chumsky.proofs.memory.memory_is_wanted_only_for_errors.Goals as goal

pub returns : goal.returns
returns g c h quiet still b o s m r e = wanted-for_errors _ _ _ quiet still _ h b o s m r e
