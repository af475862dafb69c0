use Rattle.std.proofs.Common.{rules}
use Rattle.chk_run.proofs.settings.any_value.Goals as goal

pub returns-clause-nodes : goal.returns-clause-nodes
returns-clause-nodes c =
    let o = c.in_ok-any.ensures.ok in
    let l = c.in_ok-list.ensures.nodes in (
      (
        o.0,
        search rules,
        search rules,
      ),
      search rules,
    )
