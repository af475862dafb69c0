use Rattle.std.proofs.Common.{rules}
use Rattle.std.specs.Char.{is_ascii_digit}
use Rattle.std.proofs.lemmas.Iterator.{YieldsList-from_slice}
use Rattle.std.proofs.lemmas.Iterator.Search.{all_from_yields_List}
use borrow.Author.Tests.{tests}
use Rattle.exact.specs.VersionLaws.{zero-led}
use Rattle.exact.proofs.version.has_leading_zero.Goals as goal

pub returns : goal.returns
returns c =
    let w = c.args.identifier.now in
    zero-led w c.all.result (search (rules, tests)) (search (rules, tests))
    (all_from_yields_List is_ascii_digit _ _ c.all.result c.all.ensures.ran (YieldsList-from_slice w cc) (λ x b q k. search (rules, tests)))
