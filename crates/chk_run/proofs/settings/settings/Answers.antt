use Rattle.std.proofs.Common.{◌≡◌, [], ◌∷◌, Some, subst, sym, rules}
use Rattle.chk_run.specs.Rules.{MakesGrammar, settings_nodes}
use Rattle.chk_run.specs.RulesLaws.{settings-make}
use Rattle.chk_run.proofs.settings.settings.Goals as goal

pub lines-requires-clause-before : goal.lines-requires-clause-before
lines-requires-clause-before c =
    let h = c.in_ok-any.ensures.nodes.0 in
    (h.0, h.1, rw (c.in_ok-define.ensures.ok) h.2)

pub returns : goal.returns
returns c =
    let h = c.in_ok-lines.ensures.nodes in
    let a = c.in_ok-any.ensures.nodes in
    let g = c.define-2.new.self in
    let nodes : g.nodes ≡ settings_nodes h.0.0 = rw (c.in_ok-define-2.ensures.ok) h.0.2 in
    let bodies : g.bodies ≡ Some 21 ∷ Some 12 ∷ [] = search rules in
    let start : c.in_ok-settings.settings ≡ 0 = search rules in
    subst (λ r. MakesGrammar g r 7) (sym start) (settings-make g h.0.0 h.0.1 nodes bodies)
