use Rattle.std.proofs.Common.{rules}
use Rattle.chumsky_group.specs.GroupsSpare.{stops_only-spares}
use Rattle.chumsky_group.proofs.parts.group_is_never_out_of_memory.Goals as goal

pub returns : goal.returns
returns g c = stops_only-spares _ _ (g.T.Parser.meaning c.args.group.now) _ ((g.met.T.Parts c.lifetimes (search rules)).stops_only_by_any c.args.group.now)
