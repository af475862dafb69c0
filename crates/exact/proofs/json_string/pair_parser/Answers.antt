use Rattle.std.proofs.Common.{◌∙◌, ap}
use Rattle.exact.proofs.json_string.pair_parser.Goals as goal

pub returns : goal.returns
returns c =
    let pair = c.map_by.ensures.parser in
    let t = c.then.ensures in
    record {
      high = ap (λ z. z.first.first.seq) pair ∙ ap (λ z. z.first.seq) t.first ∙ c.unit_by.ensures.beginning;
      low = ap (λ z. z.second.first.seq) pair ∙ ap (λ z. z.first.seq) t.second ∙ c.unit_by-2.ensures.beginning;
    }
