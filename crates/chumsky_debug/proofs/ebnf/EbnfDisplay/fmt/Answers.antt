use Rattle.std.proofs.Common.{◌≡◌, ◌∙◌, ◌++◌, ap, sym, rules, arith, length}
use Rattle.std.proofs.lemmas.List.{append-nil, append_assoc}
use Rattle.std.proofs.Output.{has_written_append, has_written_of_eq}
use Rattle.chumsky_debug.specs.Ebnf.{lines_below, node_line, rule_line}
use Rattle.chumsky_debug.proofs.Steps.{lines_more, lines_none}
use Rattle.chumsky_debug.proofs.ebnf.EbnfDisplay.fmt.Goals as goal

pub loop-rule-init : goal.loop-rule-init
loop-rule-init g c = rw (lines_none (rule_line c.args.self.now.info)) (search rules)

pub loop-rule-preserved : goal.loop-rule-preserved
loop-rule-preserved g c plain = has_written_of_eq _ _ _ _ _ (sym (lines_more (rule_line c.args.self.now.info) c.loop-rule.rule))
    (has_written_append _ _ _ _ _ _ (c.loop-rule.invariant plain) (search rules))

pub loop-node-init : goal.loop-node-init
loop-node-init g c plain =
    let info = c.args.self.now.info in
    let all : c.loop-rule.rule ≡ length info.rules.now.bodies = omega (arith, ap length c.bodies-rule-end.ensures) in
    let lines = lines_below (rule_line info) (length info.rules.now.bodies) in
    has_written_of_eq _ _ _ _ _ (ap (lines_below (rule_line info)) all ∙ sym (append-nil lines) ∙ ap (λ text. lines ++ text) (sym (lines_none (node_line info)))) (c.loop-rule.invariant plain)

pub loop-node-preserved : goal.loop-node-preserved
loop-node-preserved g c plain =
    let info = c.args.self.now.info in
    let lines = lines_below (rule_line info) (length info.rules.now.bodies) in
    let n = c.loop-node.node in
    has_written_of_eq _ _ _ _ _ (append_assoc lines (lines_below (node_line info) n) (node_line info n) ∙ ap (λ text. lines ++ text) (sym (lines_more (node_line info) n)))
    (has_written_append _ _ _ _ _ _ (c.loop-node.invariant plain) (search rules))
