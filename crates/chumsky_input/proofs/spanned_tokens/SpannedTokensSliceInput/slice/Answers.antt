use Rattle.chumsky_input.proofs.PartLemmas.{part_seen}
use Rattle.chumsky_input.proofs.spanned_tokens.SpannedTokensSliceInput.slice.Goals as goal

pub returns : goal.returns
returns g c =
    let from = c.args.from.now in
    let to = c.args.to.now in
    part_seen to.tokens.now from.tokens.now to.end from.end c.point_at.result from.place to.place c.requires.same c.point_at.ensures
