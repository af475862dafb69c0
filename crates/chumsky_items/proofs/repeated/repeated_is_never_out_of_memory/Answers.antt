use Rattle.std.specs.Prelude.{false}
use Rattle.chumsky_parser.specs.MemoryLaws.{given-spares, gives-spares, ignoring_first-spares}
use Rattle.chumsky_items.specs.ItemsSpare.{repeats-spare, passes-spare}
use Rattle.chumsky_items.proofs.repeated.repeated_is_never_out_of_memory.Goals as goal

pub returns-clause-items : goal.returns-clause-items
returns-clause-items g c s h d = record { begin = given-spares _; step = repeats-spare _ _ _ _ d.nonconsumption_is_ok _ _ s h.0 }

pub returns-clause-plain : goal.returns-clause-plain
returns-clause-plain g c s h = ignoring_first-spares _ _ (passes-spare _ _ (record { begin = given-spares _; step = repeats-spare _ _ _ _ false _ _ s h.0 })) (gives-spares tt)
