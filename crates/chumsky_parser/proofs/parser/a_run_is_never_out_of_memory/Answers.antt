use Rattle.chumsky_parser.specs.MemoryLaws.{run-spares}
use Rattle.chumsky_parser.proofs.parser.a_run_is_never_out_of_memory.Goals as goal

pub returns : goal.returns
returns g c h q wanted old new result r = run-spares _ _ _ h q wanted old new result r
