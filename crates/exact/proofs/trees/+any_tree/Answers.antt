use Rattle.exact.proofs.trees.+any_tree.Goals as goal

pub returns : goal.returns
returns t c =
    let p = c.or-number_or_list.ensures in
    let l = c.list_of.ensures in
    let fixed = rw (p.first, p.second, c.number.ensures, l.comma, l.opening, l.closing) at c.run_part.ensures.ran in
    let bounds = rw (l.at_least, l.at_most, l.leading, l.trailing) at fixed in
    record { ran = rw (l.tree, c.recursive_as-inner.ensures.depth) at bounds; as_wanted = c.run_part.ensures.as_wanted; lent = c.run_part.ensures.lent }
