use Rattle.std.proofs.Common.{◌∙◌, refl, rules}
use Rattle.chk_run.proofs.loops.body.Goals as goal

pub returns-clause-nodes : goal.returns-clause-nodes
returns-clause-nodes c =
    let o = c.in_ok-item.ensures.ok in (
      o.0,
      o.1 ∙ rw (c.in_ok-pair.ensures.number, c.in_ok-opened.ensures.ok, c.in_ok-closed.ensures.ok, c.in_ok-closing.ensures.ok, c.in_ok-inside.ensures.ok, c.in_ok-opening.ensures.ok, c.in_ok-plus.ensures.number, c.in_ok-plus.ensures.ok, c.requires.empty) refl,
      search rules,
      search rules,
    )
