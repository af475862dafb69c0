use Rattle.chumsky_parser.specs.MemoryLaws.{sequence-spares, ignoring_second-spares}
use Rattle.chumsky_combinator.proofs.then.then_is_never_out_of_memory.Goals as goal

pub returns-clause-then : goal.returns-clause-then
returns-clause-then g c h = sequence-spares _ _ h.0 h.1.0

pub returns-clause-then_ignore : goal.returns-clause-then_ignore
returns-clause-then_ignore g c h = ignoring_second-spares _ _ h.0 h.1.0
