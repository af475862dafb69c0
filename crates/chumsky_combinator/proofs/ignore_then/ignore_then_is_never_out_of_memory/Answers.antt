use Rattle.chumsky_parser.specs.MemoryLaws.{ignoring_first-spares}
use Rattle.chumsky_combinator.proofs.ignore_then.ignore_then_is_never_out_of_memory.Goals as goal

pub returns : goal.returns
returns g c h = ignoring_first-spares _ _ h.0 h.1.0
