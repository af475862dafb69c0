use Rattle.std.proofs.Common.{rules}
use Rattle.chumsky_parser.proofs.ChainedLemmas.{emit_err, emit_ok}
use Rattle.chumsky_parser.proofs.ItemsLemmas.{check_fault, check_end, check_item}
use Rattle.chumsky_combinator.proofs.ThenItemsLemmas.{turn-second_check, turn-failed, turn-item, turn-unmade, turn-made_check}
use Rattle.chumsky_combinator.proofs.then_items.ThenIterParser.next_check.Goals as goal

pub returns-in_err-next_check-in-First-clause-ran : goal.returns-in_err-next_check-in-First-clause-ran
returns-in_err-next_check-in-First-clause-ran g c = turn-failed c.in-First.is c.next_check-in-First.ensures.ran (check_fault _ c.in_err-next_check-in-First.was) (check_fault _ (search rules))

pub returns-in_err-second-in-None-clause-ran : goal.returns-in_err-second-in-None-clause-ran
returns-in_err-second-in-None-clause-ran g c =
    turn-unmade c.in-First.is c.next_check-in-First.ensures.ran
    (check_end _ c.in_ok-next_check-in-First.was c.in-None.is) c.make_iter.ensures.ran
    (emit_err c.in_err-second-in-None.was) (check_fault _ (search rules))

pub returns-in-Second-clause-ran : goal.returns-in-Second-clause-ran
returns-in-Second-clause-ran g c = turn-second_check c.in-Second.is _ _ c.next_check.ensures.ran

pub returns-in-Some-clause-ran : goal.returns-in-Some-clause-ran
returns-in-Some-clause-ran g c = turn-item c.in-First.is c.next_check-in-First.ensures.ran (check_item _ c.in_ok-next_check-in-First.was c.in-Some.is)

pub returns-in_ok-second-in-None-clause-ran : goal.returns-in_ok-second-in-None-clause-ran
returns-in_ok-second-in-None-clause-ran g c =
    turn-made_check c.in-First.is c.next_check-in-First.ensures.ran
    (check_end _ c.in_ok-next_check-in-First.was c.in-None.is) c.make_iter.ensures.ran
    (emit_ok c.in_ok-second-in-None.was) _ _ c.next_check-item.ensures.ran
