use Rattle.std.specs.Prelude.{[]}
use Rattle.std.specs.Str.{chars}
use Rattle.chumsky.specs.AcceptedLaws.{unless-by_words, refused-long}
use Rattle.exact.specs.Trees.{IsTree}
use Rattle.exact.specs.TreesLaws.{tree-text, trees-intended}
use Rattle.exact.specs.TreesLevelsLaws.{refused-deep}
use Rattle.exact.proofs.trees.parse_tree.Goals as goal

pub returns : goal.returns
returns c =
    let cs = chars c.args.text.now in
    let i = trees-intended c.args.limit in
    let a = rw c.recursive_as.ensures.depth at (c.parse.ensures.3.reads (trees-intended c.recursive_as.result.depth).said) in
    unless-by_words IsTree a (λ r. refused-deep c.args.limit cs r (refused-long a c.args.limit i.refused r)) i.unambiguous (i.follows [] tt) (λ v w s. i.given cs v s) (λ v t. i.each cs (tree-text t))
