use Rattle.chumsky_combinator.specs.OptionalLaws.{or_none-spares}
use Rattle.chumsky_parser.specs.MemoryLaws.{or_else-spares}
use Rattle.chumsky_combinator.proofs.or.or_is_never_out_of_memory.Goals as goal

pub returns-clause-or : goal.returns-clause-or
returns-clause-or g c s h = or_else-spares _ _ _ _ _ s h.0 h.1.0

pub returns-clause-or_not : goal.returns-clause-or_not
returns-clause-or_not g c s h = or_none-spares _ _ _ _ s h.0
