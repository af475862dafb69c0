use Rattle.chumsky_parser.specs.MemoryLaws.{between-spares}
use Rattle.chumsky_combinator.proofs.delimited_by.delimited_by_is_never_out_of_memory.Goals as goal

pub returns-clause-delimited : goal.returns-clause-delimited
returns-clause-delimited g c h = between-spares _ _ _ h.1.0 h.0 h.1.1.0

pub returns-clause-padded_by : goal.returns-clause-padded_by
returns-clause-padded_by g c h = between-spares _ _ _ h.1.0 h.0 h.1.0
