use Rattle.std.proofs.Common.{refl}
use Rattle.s_expression.proofs.pieces.gap_parser.Goals as goal

pub returns : goal.returns
returns c = record { semicolon = c.comment.ensures; line_feed = c.just.ensures; at_least = refl; at_most = refl }
