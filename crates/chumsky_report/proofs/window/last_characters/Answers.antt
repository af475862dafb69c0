use Rattle.chumsky_report.proofs.CutLemmas.{behind_boundary, shown_behind_is, all_behind_is, more_behind_is}
use Rattle.chumsky_report.proofs.window.last_characters.Goals as goal
use Rattle.std.proofs.Common.{rules}

pub split_at-requires : goal.split_at-requires
split_at-requires c = behind_boundary c.args.text.now c.cut_behind.result.0.now c.cut_behind.result.1 c.utf8.text c.cut_behind.ensures.utf8 c.cut_behind.ensures.left

pub returns-in-None-clause-shown : goal.returns-in-None-clause-shown
returns-in-None-clause-shown c =
    shown_behind_is c.args.text.now c.cut_behind.result.0.now _ c.cut_behind.result.1 c.args.most
    c.cut_behind.ensures.utf8 c.cut_behind.ensures.left c.cut_behind.ensures.count c.split_at.ensures.back

pub returns-in-Some-clause-shown : goal.returns-in-Some-clause-shown
returns-in-Some-clause-shown c =
    shown_behind_is c.args.text.now c.cut_behind.result.0.now _ c.cut_behind.result.1 c.args.most
    c.cut_behind.ensures.utf8 c.cut_behind.ensures.left c.cut_behind.ensures.count c.split_at.ensures.back

pub returns-in-None-clause-all : goal.returns-in-None-clause-all
returns-in-None-clause-all c = search (rules, all_behind_is c.args.text.now c.cut_behind.result.0.now c.cut_behind.result.1 c.args.most c.cut_behind.ensures.left c.cut_behind.ensures.count)

pub returns-in-Some-clause-all : goal.returns-in-Some-clause-all
returns-in-Some-clause-all c =
    search (
      rules,
      more_behind_is c.args.text.now c.cut_behind.result.0.now c.in-Some.field-0.now c.cut_behind.result.1
          c.args.most c.cut_behind.ensures.left c.cut_behind.ensures.count,
    )
