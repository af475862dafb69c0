use Rattle.chumsky_parser.specs.MemoryLaws.{given-spares, gives-spares, ignoring_first-spares}
use Rattle.chumsky_items.specs.ItemsSpare.{separates-spare, passes-spare}
use Rattle.chumsky_items.proofs.separated_by.separated_by_is_never_out_of_memory.Goals as goal

pub returns-clause-items : goal.returns-clause-items
returns-clause-items g c s h d = record { begin = given-spares _; step = separates-spare _ _ _ _ _ _ s h.1.0 h.0 }

pub returns-clause-plain : goal.returns-clause-plain
returns-clause-plain g c s h = ignoring_first-spares _ _ (passes-spare _ _ (record { begin = given-spares _; step = separates-spare _ _ _ _ _ _ s h.1.0 h.0 })) (gives-spares tt)
