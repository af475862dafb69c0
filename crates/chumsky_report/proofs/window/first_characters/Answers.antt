use Rattle.std.proofs.Common.{rules}
use Rattle.chumsky_report.proofs.CutLemmas.{ahead_boundary, shown_ahead_is, shown_ahead_bytes, all_ahead_is, more_ahead_is}
use Rattle.chumsky_report.proofs.window.first_characters.Goals as goal

pub split_at-requires : goal.split_at-requires
split_at-requires c = ahead_boundary c.args.text.now c.cut_ahead.result.0.now c.cut_ahead.result.1 c.cut_ahead.ensures.utf8 c.cut_ahead.ensures.left

pub returns-in-None-clause-shown : goal.returns-in-None-clause-shown
returns-in-None-clause-shown c =
    shown_ahead_is c.args.text.now c.cut_ahead.result.0.now _ c.cut_ahead.result.1 c.args.most c.utf8.text
    c.cut_ahead.ensures.utf8 c.cut_ahead.ensures.left c.cut_ahead.ensures.count c.split_at.ensures.front

pub returns-in-Some-clause-shown : goal.returns-in-Some-clause-shown
returns-in-Some-clause-shown c =
    shown_ahead_is c.args.text.now c.cut_ahead.result.0.now _ c.cut_ahead.result.1 c.args.most c.utf8.text
    c.cut_ahead.ensures.utf8 c.cut_ahead.ensures.left c.cut_ahead.ensures.count c.split_at.ensures.front

pub returns-in-None-clause-spelled : goal.returns-in-None-clause-spelled
returns-in-None-clause-spelled c =
    shown_ahead_bytes c.args.text.now c.cut_ahead.result.0.now _ c.cut_ahead.result.1 c.args.most c.utf8.text
    c.cut_ahead.ensures.utf8 c.cut_ahead.ensures.left c.cut_ahead.ensures.count c.split_at.ensures.front

pub returns-in-Some-clause-spelled : goal.returns-in-Some-clause-spelled
returns-in-Some-clause-spelled c =
    shown_ahead_bytes c.args.text.now c.cut_ahead.result.0.now _ c.cut_ahead.result.1 c.args.most c.utf8.text
    c.cut_ahead.ensures.utf8 c.cut_ahead.ensures.left c.cut_ahead.ensures.count c.split_at.ensures.front

pub returns-in-None-clause-all : goal.returns-in-None-clause-all
returns-in-None-clause-all c = search (rules, all_ahead_is c.args.text.now c.cut_ahead.result.0.now c.cut_ahead.result.1 c.args.most c.cut_ahead.ensures.left c.cut_ahead.ensures.count)

pub returns-in-Some-clause-all : goal.returns-in-Some-clause-all
returns-in-Some-clause-all c =
    search (
      rules,
      more_ahead_is c.args.text.now c.cut_ahead.result.0.now c.in-Some.field-0.now c.cut_ahead.result.1
          c.args.most c.cut_ahead.ensures.left c.cut_ahead.ensures.count,
    )
