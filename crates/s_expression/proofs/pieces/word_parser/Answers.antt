use Rattle.std.proofs.Common.{refl}
use Rattle.s_expression.proofs.pieces.word_parser.Goals as goal

pub returns : goal.returns
returns c = record { at_least = refl; at_most = refl }
