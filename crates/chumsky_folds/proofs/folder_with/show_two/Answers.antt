use Rattle.std.proofs.Common.{rules, refl, sym}
use Rattle.chumsky_folds.proofs.folder_with.show_two.Goals as goal

pub returns : goal.returns
returns g c =
    let kept = c.requires.callable.keeps _ _ _ _ _ (sym c.requires.tokens, c.requires.order) c.closure-answer.ensures in
    record { lent = _; left = _; met = c.closure-answer.ensures; in_order = (sym c.requires.tokens, c.requires.order); shows = refl; leaves = search (rules, kept) }
