use Rattle.std.proofs.Common.{rules}
use Rattle.chumsky_parser.proofs.ChainedLemmas.{emit_err, emit_ok}
use Rattle.chumsky_parser.proofs.ItemsLemmas.{emit_fault, emit_end, emit_item}
use Rattle.chumsky_combinator.proofs.ThenItemsLemmas.{turn-second, turn-failed, turn-item, turn-unmade, turn-made}
use Rattle.chumsky_combinator.proofs.then_items.ThenIterParser.next_emit.Goals as goal

pub returns-in_err-item-in-First-clause-ran : goal.returns-in_err-item-in-First-clause-ran
returns-in_err-item-in-First-clause-ran g c = turn-failed c.in-First.is c.next_emit-in-First.ensures.ran (emit_fault _ c.in_err-item-in-First.was) (emit_fault _ (search rules))

pub returns-in_err-second-in-None-clause-ran : goal.returns-in_err-second-in-None-clause-ran
returns-in_err-second-in-None-clause-ran g c =
    turn-unmade c.in-First.is c.next_emit-in-First.ensures.ran (emit_end _ c.in_ok-item-in-First.was c.in-None.is)
    c.make_iter.ensures.ran (emit_err c.in_err-second-in-None.was) (emit_fault _ (search rules))

pub returns-in-Second-clause-ran : goal.returns-in-Second-clause-ran
returns-in-Second-clause-ran g c = turn-second c.in-Second.is _ _ c.next_emit.ensures.ran

pub returns-in-Some-clause-ran : goal.returns-in-Some-clause-ran
returns-in-Some-clause-ran g c = turn-item c.in-First.is c.next_emit-in-First.ensures.ran (emit_item _ c.in_ok-item-in-First.was c.in-Some.is)

pub returns-in_ok-second-in-None-clause-ran : goal.returns-in_ok-second-in-None-clause-ran
returns-in_ok-second-in-None-clause-ran g c =
    turn-made c.in-First.is c.next_emit-in-First.ensures.ran (emit_end _ c.in_ok-item-in-First.was c.in-None.is)
    c.make_iter.ensures.ran (emit_ok c.in_ok-second-in-None.was) _ _ c.next_emit-item.ensures.ran
