use Rattle.std.proofs.Common.{rules}
use Rattle.chumsky_parser.proofs.ItemsLemmas.{check_fault}
use Rattle.chumsky_flatten.proofs.FlatteningLemmas.{flattens-passed, flattens-ended, flattens-failed}
use Rattle.chumsky_flatten.proofs.flatten.FlattenIterParserItem.next_check.Goals as goal

pub returns-in_err-next_item-clause-ran : goal.returns-in_err-next_item-clause-ran
returns-in_err-next_item-clause-ran g c = flattens-failed _ c.next_item.ensures.ran c.in_err-next_item.was (check_fault _ (search rules))

pub returns-in-None-clause-ran : goal.returns-in-None-clause-ran
returns-in-None-clause-ran g c = flattens-ended _ c.next_item.ensures.ran c.in_ok-next_item.was c.in-None.is

pub returns-in-Some-clause-ran : goal.returns-in-Some-clause-ran
returns-in-Some-clause-ran g c = flattens-passed _ c.next_item.ensures.ran c.in_ok-next_item.was c.in-Some.is
