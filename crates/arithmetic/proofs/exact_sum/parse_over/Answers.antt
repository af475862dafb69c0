use Rattle.std.proofs.Common.{◌<◌, length, refl, arith}
use Rattle.std.specs.Str.{chars}
use Rattle.chumsky_grammars.specs.ExactlyLaws.{one-rule, chars-few}
use Rattle.arithmetic.specs.TakenLaws.{exactly-sum}
use Rattle.arithmetic.proofs.exact_sum.parse_over.Goals as goal

pub parse-requires : goal.parse-requires
parse-requires g c κs =
    let given = c.in-Ok.ensures.given.0 in
    let same = c.exact.ensures in
    ((refl, tt), ((rw same c.in-Ok.ensures.ready, rw (same, given) c.requires.ready), tt))

pub returns : goal.returns
returns g c =
    let given = c.in-Ok.ensures.given in
    let enough : length (chars c.args.text.now) < c.in-Ok.grammar.limit = omega (arith, chars-few c.args.text.now c.utf8.text, given.1, c.in-Some.ensures) in
    let rule = one-rule c.in-Ok.ensures.rules c.in_ok-rules.ensures.rules in
    let reads = rw (c.exact.ensures, given.0) at c.parse.ensures.3.reads in
    exactly-sum c.worked_out.result _ c.requires.languages c.in-Ok.grammar.limit enough (rw (rule.0, rule.1) at reads) c.worked_out.ensures
