use Rattle.std.proofs.Common.{◌<◌, [], length, refl, arith}
use Rattle.std.specs.Str.{chars}
use Rattle.chumsky_grammars.specs.ExactlyLaws.{exactly-by_one_rule, chars-few}
use Rattle.grammars.specs.Trees.{IsTree, tree_expression}
use Rattle.grammars.specs.TreesLaws.{leaves, trees, sound, complete}
use Rattle.grammars.proofs.trees.parse_tree.Goals as goal

pub returns : goal.returns
unfolding chars
returns c =
    let given = c.in-Ok.ensures.given in
    let enough : length (chars c.args.text.now) < c.in-Ok.grammar.limit = omega (arith, chars-few c.args.text.now c.utf8.text, given.1, c.in-Some.ensures) in
    let built = rw (c.exact.ensures, given.0, c.map_by.ensures.parser, c.map_by-2.ensures.parser, c.map_by-3.ensures.parser, c.map_by-4.ensures.parser) at c.parse.ensures.3.reads in
    exactly-by_one_rule IsTree trees {leaves = leaves} tree_expression refl refl refl c.in-Ok.ensures.rules c.in_ok-rules.ensures.rules enough sound (λ v i. i)
    (λ v i. complete i c.in-Ok.grammar.limit enough []) (rw (c.one_of.ensures, c.one_of-2.ensures, c.one_of-3.ensures, c.one_of-4.ensures) at built)
