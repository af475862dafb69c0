use Rattle.chumsky_parser.specs.MemoryLaws.{ignoring_first-spares, copy-spares, gives-spares}
use Rattle.chumsky_combinator.proofs.to.to_is_never_out_of_memory.Goals as goal

pub returns-clause-to : goal.returns-clause-to
returns-clause-to g c x h = ignoring_first-spares _ _ h.0 (copy-spares _ _ x)

pub returns-clause-ignored : goal.returns-clause-ignored
returns-clause-ignored g c h = ignoring_first-spares _ _ h.0 (gives-spares tt)
