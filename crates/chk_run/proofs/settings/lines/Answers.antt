use Rattle.std.proofs.Common.{rules}
use Rattle.chk_run.proofs.settings.lines.Goals as goal

pub returns-clause-nodes : goal.returns-clause-nodes
returns-clause-nodes c =
    let b = c.requires.before in (
      (
        b.0,
        b.1,
        search rules,
      ),
      search rules,
    )
