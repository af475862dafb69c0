use Rattle.std.proofs.Common.{rules}
use Rattle.chumsky_parser.proofs.ItemsLemmas.{emit_fault, emit_end, emit_item}
use Rattle.chumsky_combinator.proofs.MappedItemsLemmas.{maps_with-failed, maps_with-ended, maps_with-item}
use Rattle.chumsky_combinator.proofs.map_items_with.MapWithIterParser.next_emit.Goals as goal

pub returns-in_err-next_item-clause-ran : goal.returns-in_err-next_item-clause-ran
returns-in_err-next_item-clause-ran g c = maps_with-failed c.next_item.ensures.ran (emit_fault _ c.in_err-next_item.was) (emit_fault _ (search rules))

pub returns-in-None-clause-ran : goal.returns-in-None-clause-ran
returns-in-None-clause-ran g c = maps_with-ended c.next_item.ensures.ran (emit_end _ c.in_ok-next_item.was c.in-None.is)

pub returns-in-Some-clause-ran : goal.returns-in-Some-clause-ran
returns-in-Some-clause-ran g c = maps_with-item c.next_item.ensures.ran (emit_item _ c.in_ok-next_item.was c.in-Some.is) c.apply_with.ensures.moves
    (rw c.cursor-before.ensures at c.apply_with.ensures.gives)
