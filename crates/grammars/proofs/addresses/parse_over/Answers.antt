use Rattle.std.proofs.Common.{◌<◌, length, refl, arith}
use Rattle.std.specs.Str.{chars}
use Rattle.chumsky_grammars.specs.ExactlyLaws.{exactly-by_one_rule_words, one-rule, chars-few}
use Rattle.grammars.specs.Addresses.{IsAddress, address_expression}
use Rattle.grammars.specs.AddressesLaws.{addresses, each_decides}
use Rattle.grammars.proofs.addresses.parse_over.Goals as goal

pub parse-requires : goal.parse-requires
parse-requires g c κs =
    let given = c.in-Ok.ensures.given.0 in
    let same = c.exact_by.ensures.grammar in
    let rule = one-rule c.in-Ok.ensures.rules c.in_ok-rules.ensures.rules in
    ((refl, tt), ((rw same c.in-Ok.ensures.ready, rw (same, given) c.requires.ready), rw (same, rule.0, given) (each_decides _ c.requires.languages)))

pub returns : goal.returns
returns g c =
    let given = c.in-Ok.ensures.given in
    let enough : length (chars c.args.text.now) < c.in-Ok.grammar.limit = omega (arith, chars-few c.args.text.now c.utf8.text, given.1, c.in-Some.ensures) in
    let reads = rw (c.exact_by.ensures.grammar, given.0) at c.parse.ensures.3.reads in
    exactly-by_one_rule_words IsAddress addresses _ address_expression c.requires.languages.words refl c.in-Ok.ensures.rules c.in_ok-rules.ensures.rules enough reads
