use Rattle.std.proofs.Common.{rules}
use Rattle.chumsky_parser.proofs.ItemsLemmas.{emit_fault, emit_end, emit_item}
use Rattle.chumsky_combinator.proofs.MappedItemsLemmas.{maps-failed, maps-ended, maps-item}
use Rattle.chumsky_combinator.proofs.map_items.MapIterParser.next_emit.Goals as goal

pub returns-in_err-next_emit-clause-ran : goal.returns-in_err-next_emit-clause-ran
returns-in_err-next_emit-clause-ran g c = maps-failed c.next_emit.ensures.ran (emit_fault _ c.in_err-next_emit.was) (emit_fault _ (search rules))

pub returns-in-None-clause-ran : goal.returns-in-None-clause-ran
returns-in-None-clause-ran g c = maps-ended c.next_emit.ensures.ran (emit_end _ c.in_ok-next_emit.was c.in-None.is)

pub returns-in-Some-clause-ran : goal.returns-in-Some-clause-ran
returns-in-Some-clause-ran g c = maps-item c.next_emit.ensures.ran (emit_item _ c.in_ok-next_emit.was c.in-Some.is) c.apply.ensures
