use Rattle.std.proofs.Common.{◌≡◌, ◌<◌, ◌^◌, Err, length, arith, rules}
use Rattle.std.specs.Str.{chars}
use Rattle.chk_run.specs.Decided.{chars-few, refused-for_room, refused-for_memory}
use Rattle.chk_run.specs.RulesLaws.{none-stays}
use Rattle.chk_run.specs.declared.show.Refusal.TheVariants as reason
use Rattle.chk_run.proofs.grammar.run_rules.Goals as goal

pub returns-in-Err-clause-refused : goal.returns-in-Err-clause-refused
returns-in-Err-clause-refused g c =
    refused-for_room _ _ _ _ _ c.in-Err.error c.requires.made (none-stays _ c.args.actions.now.leaves.now c.requires.moving) c.in-Err.ensures.refused

pub returns-in_err-parse-in-Parse-clause-refused : goal.returns-in_err-parse-in-Parse-clause-refused
returns-in_err-parse-in-Parse-clause-refused g c =
    let e : c.from_residual.result ≡ Err (reason.Run c.in_err-parse-in-Parse.field-0.0) = search rules in
    let text = c.args.text.now in
    let fewer = chars-few text c.utf8.text in
    let whole : length text < 2 ^ 64 = search rules in
    let short : length (chars text) < 2 ^ 64 = omega (arith, fewer, whole) in
    let stops = c.founded_runs_are_refused_as_leaves.ensures.parse _ _ _ c.parse.result fewer c.parse.ensures.3 in
    let each = c.decided_parsers_are_refused_for_memory.ensures in
    rw e (refused-for_memory each c.in-Ok.grammar.actions.now.leaves.now (rw (c.in-Ok.ensures.given.0) c.requires.decided) _ _ short _ (rw (c.in_err-parse-in-Parse.was) at stops))

pub returns-in_err-check-in-Check-clause-refused : goal.returns-in_err-check-in-Check-clause-refused
returns-in_err-check-in-Check-clause-refused g c =
    let e : c.from_residual-in_err-check-in-Check.result ≡ Err (reason.Run c.in_err-check-in-Check.field-0.0) = search rules in
    let text = c.args.text.now in
    let fewer = chars-few text c.utf8.text in
    let whole : length text < 2 ^ 64 = search rules in
    let short : length (chars text) < 2 ^ 64 = omega (arith, fewer, whole) in
    let stops = c.founded_runs_are_refused_as_leaves.ensures.check _ _ _ c.check.result fewer c.check.ensures.3 in
    let each = c.decided_parsers_are_refused_for_memory.ensures in
    rw e (refused-for_memory each c.in-Ok.grammar.actions.now.leaves.now (rw (c.in-Ok.ensures.given.0) c.requires.decided) _ _ short _ (rw (c.in_err-check-in-Check.was) at stops))
