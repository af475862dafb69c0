use Rattle.std.proofs.Common.{◌≡◌, ◌≤◌, ◌∙◌, length, ap, sym, rules, arith, Some, None, slice_get}
use Rattle.std.proofs.lemmas.Option.{slice_get_past}
use Rattle.chumsky_debug.specs.Lines.{is_named}
use Rattle.chumsky_debug.proofs.Steps.{named_none, named_step}
use Rattle.chumsky_debug.proofs.lines.+named.Goals as goal

pub is_named-returns-then-bound-eq0 : goal.is_named-returns-then-bound-eq0
is_named-returns-then-bound-eq0 t c =
    let nodes = c.args.rules.now.nodes in
    let nothing : c.args.bound ≡ 0 = omega arith in
    sym (ap (λ bound. is_named nodes bound c.args.node) nothing ∙ named_none nodes c.args.node)

pub is_named-returns-in-Some : goal.is_named-returns-in-Some
is_named-returns-in-Some t c =
    let nodes = c.args.rules.now.nodes in
    let found : slice_get nodes c.args.node ≡ Some c.in-Some.kind.now = search rules in
    c.is_called.ensures ∙ sym (named_step nodes c.args.bound c.args.node (Some c.in-Some.kind.now) (λ e. omega (arith, e)) found)

pub is_named-returns-in-None : goal.is_named-returns-in-None
is_named-returns-in-None t c =
    let nodes = c.args.rules.now.nodes in
    let past : length nodes ≤ c.args.node = search rules in
    sym (named_step nodes c.args.bound c.args.node None (λ e. omega (arith, e)) (slice_get_past nodes c.args.node past))
