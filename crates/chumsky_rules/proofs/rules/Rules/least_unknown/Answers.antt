use Rattle.std.proofs.Common.{◌≡◌, ◌∙◌, ◌+◌, ap, subst, sym, suc, slice_get, Some, arith}
use Rattle.std.proofs.lemmas.Option.{slice_get-get_or}
use Rattle.chumsky_rules.proofs.Least.{LeastBelow, past_leaf, past_other, no_leaf}
use Rattle.chumsky_rules.proofs.rules.Rules.least_unknown.Goals as goal
use Rattle.chumsky_rules.proofs.rules.Rules.least_unknown.Goals.{in-Leaf, in_default}

pub loop-kind-preserved : goal.loop-kind-preserved
loop-kind-preserved c =
    let nodes = c.nodes-nodes.result.now in
    let i = c.loop-kind.kind-index in
    let item : slice_get nodes i ≡ Some c.kind-item.result = slice_get-get_or nodes i c.kind-item.result c.loop-kind-test.true ∙ ap Some (sym c.kind-item.is) in
    let next : suc i ≡ i + 1 = omega arith in
    subst (λ n. LeastBelow nodes c.args.leaves n c.match-kind.least) next
    (elim c.match-kind.branch [
      | in-Leaf w ↦ subst (LeastBelow nodes c.args.leaves (suc i)) (sym w.least-is)
          (past_leaf _ _ _ _ _ _ (item ∙ ap Some w.in-Leaf.is) c.loop-kind.invariant w.lesser-least.ensures.none
          w.lesser-least.ensures.some)
      | in_default w ↦ subst (LeastBelow nodes c.args.leaves (suc i)) (sym w.least-is) (past_other _ _ _ _ (no_leaf _ _ item w.in_default.not-Leaf) c.loop-kind.invariant)
    ])
