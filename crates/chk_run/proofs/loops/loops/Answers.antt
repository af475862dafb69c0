use Rattle.std.proofs.Common.{◌≡◌, [], ◌∷◌, Some, subst, sym, rules}
use Rattle.chk_run.specs.Rules.{MakesGrammar, loops_nodes}
use Rattle.chk_run.specs.RulesLaws.{loops-make}
use Rattle.chk_run.proofs.loops.loops.Goals as goal

pub returns : goal.returns
returns c =
    let h = c.in_ok-all.ensures.nodes in
    let g = c.define.new.self in
    let nodes : g.nodes ≡ loops_nodes h.0 = rw (c.in_ok-define.ensures.ok) h.2 in
    let bodies : g.bodies ≡ Some 8 ∷ [] = search rules in
    let start : c.in_ok-loops.loops ≡ 0 = search rules in
    subst (λ r. MakesGrammar g r 3) (sym start) (loops-make g h.0 h.1 nodes bodies)
