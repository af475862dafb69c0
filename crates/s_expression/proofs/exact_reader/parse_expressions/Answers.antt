use Rattle.std.proofs.Common.{refl, None}
use Rattle.std.specs.Str.{chars}
use Rattle.chumsky.specs.AcceptedLaws.{refused-long}
use Rattle.chumsky_parser.specs.FurtherLaws.{both-below}
use Rattle.chumsky_descent.specs.CallLanguage.{call_language}
use Rattle.s_expression.specs.Calling.{any_expressions}
use Rattle.s_expression.specs.Lisp.{HoldsLisp}
use Rattle.s_expression.specs.TailLaws.{lisp-sound, lisp-each}
use Rattle.s_expression.specs.WholeLaws.{grammar, reader, exact-unless}
use Rattle.s_expression.proofs.exact_reader.parse_expressions.Goals as goal

pub returns : goal.returns
returns c =
    let cs = chars c.args.text.now in
    let limit = c.args.limit in
    let i = reader limit in
    let d = reader c.recursive_as-expression.result.depth in
    let a0 = c.parse.ensures.3.reads (rw (d.said, d.moves) refl) in
    let a = rw (c.recursive_as-expression.ensures.depth, c.tail.ensures) at a0 in
    let call = call_language any_expressions grammar limit in
    exact-unless HoldsLisp a (λ v e h. lisp-sound call limit i cs v e h) (λ v h. lisp-each call limit i cs v h) (refused-long a limit (λ k l. both-below _ None k (i.refused k l) tt))
