use Rattle.std.proofs.Common.{◌++◌, length}
use Rattle.std.specs.Fmt.{HasWritten, IsPlainFormatter}
use Rattle.chumsky_debug.specs.Ebnf.{lines_below, node_line, rule_line}
use Rattle.chumsky_debug.proofs.ebnf.EbnfDisplay.fmt.Given as goal

abbrev pub invariant-loop-rule : goal.invariant-loop-rule
invariant-loop-rule g l = IsPlainFormatter l.fn.f → HasWritten g.W.Write.write_str_gives l.fn.f (lines_below (rule_line l.self.info) l.rule) l.f

abbrev pub invariant-loop-node : goal.invariant-loop-node
invariant-loop-node g l = IsPlainFormatter l.fn.f
    → HasWritten g.W.Write.write_str_gives l.fn.f (lines_below (rule_line l.self.info) (length l.self.info.rules.now.bodies) ++ lines_below (node_line l.self.info) l.node) l.f
