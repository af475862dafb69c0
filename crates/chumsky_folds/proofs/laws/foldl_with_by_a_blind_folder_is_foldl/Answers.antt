use Rattle.std.proofs.Common.{rules, false}
use Rattle.chumsky_folds.proofs.BlindLemmas.{blind-alike, blind-anywhere}
use Rattle.chumsky_folds.proofs.laws.foldl_with_by_a_blind_folder_is_foldl.Goals as goal

pub returns-clause-cursors : goal.returns-clause-cursors
returns-clause-cursors g c blind =
    blind-alike _ _ _ _ blind _
    ((g.met.B.IterParser c.lifetimes (search rules)).ends_after_start c.args.foldl.now.items (record { nonconsumption_is_ok = false }))
    ((g.met.A.Parser c.lifetimes (search rules)).ends_after_start c.args.foldl.now.parser)

pub returns-clause-anywhere : goal.returns-clause-anywhere
returns-clause-anywhere g c blind =
    blind-anywhere _ _ _ _ blind _
    ((g.met.B.IterParser c.lifetimes (search rules)).ends_after_start c.args.foldl.now.items (record { nonconsumption_is_ok = false }))
    ((g.met.A.Parser c.lifetimes (search rules)).ends_after_start c.args.foldl.now.parser)
