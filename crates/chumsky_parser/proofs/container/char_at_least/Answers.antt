use Rattle.std.proofs.Common.{arith, ◌∙◌}
use Rattle.chumsky_parser.proofs.RangeLemmas.{first_from, scalar_or}
use Rattle.chumsky_parser.proofs.container.char_at_least.Goals as goal

pub returns : goal.returns
returns c =
    let is = scalar_or c.from_u32.result c.args.code c.from_u32.ensures.value in
    let l = c.if-code-gt1114111.false in
    first_from c.args.code c.unwrap_or.result (omega arith) (λ s. c.unwrap_or.ensures ∙ is.0 s) (λ n. c.unwrap_or.ensures ∙ is.1 n)
