use Rattle.std.proofs.Common.{refl}
use Rattle.s_expression.proofs.pieces.atom_parser.Goals as goal

pub returns : goal.returns
returns c = record { backslash = c.just.ensures; at_least = refl; at_most = refl; opening = c.just-2.ensures; closing = c.just-3.ensures }
