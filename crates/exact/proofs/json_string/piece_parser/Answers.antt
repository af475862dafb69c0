use Rattle.std.proofs.Common.{◌∙◌, ap}
use Rattle.exact.proofs.json_string.piece_parser.Goals as goal

pub returns : goal.returns
returns c = ap (λ z. z.first.first.seq) c.or-3.ensures.second ∙ ap (λ z. z.first.seq) c.or-2.ensures.first ∙ ap (λ z. z.seq) c.ignore_then-letter.ensures.first ∙ c.just.ensures
