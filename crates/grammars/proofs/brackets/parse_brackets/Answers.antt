use Rattle.std.proofs.Common.{◌≡◌, ◌<◌, ◌^◌, [], ◌∷◌, length, refl, subst, arith, rules}
use Rattle.std.specs.Str.{chars}
use Rattle.chumsky_grammars.specs.BuiltLeaves.{just_to}
use Rattle.chumsky_grammars.specs.ExactlyLaws.{exactly-by_one_rule, chars-few}
use Rattle.grammars.specs.Brackets.{IsBalanced, brackets}
use Rattle.grammars.specs.BracketsLaws.{leaves, depths, sound, complete}
use Rattle.grammars.proofs.brackets.parse_brackets.Goals as goal

pub returns : goal.returns
returns c =
    let given = c.in-Ok.ensures.given in
    let few = chars-few c.args.text.now c.utf8.text in
    let short : length c.args.text.now < 2 ^ 64 = search rules in
    let enough : length (chars c.args.text.now) < c.in-Ok.grammar.limit = omega (arith, few, given.1, c.in-Some.ensures) in
    let opening : c.to.result.parser.seq ≡ 40 = rw c.to.ensures.parser c.just.ensures in
    let closing : c.to-2.result.parser.seq ≡ 41 = rw c.to-2.ensures.parser c.just-2.ensures in
    let built : just_to c.to.result.parser.seq c.to.result.value ∷ just_to c.to-2.result.parser.seq c.to-2.result.value ∷ [] ≡ leaves = rw (opening, c.to.ensures.value, closing, c.to-2.ensures.value) refl in
    exactly-by_one_rule IsBalanced depths brackets built refl refl c.in-Ok.ensures.rules c.in_ok-rules.ensures.rules enough sound
    (λ v i. subst (IsBalanced (chars c.args.text.now)) (omega (arith, i.2, i.3, few, short)) i.1)
    (λ v i. complete i [] refl c.in-Ok.grammar.limit enough) (rw (c.exact.ensures, given.0) at c.parse.ensures.3.reads)
