use Rattle.std.proofs.Common.{rules, ◌≡◌, ◌∙◌, sym, ap, true, take, drop}
use Rattle.chumsky_report.specs.Message.{item_length, is_labelled, items}
use Rattle.chumsky_report.proofs.MessageLemmas.{labelled_step}
use Rattle.chumsky_report.proofs.message.skip_labelled.Goals as goal

pub loop-item-preserved : goal.loop-item-preserved
loop-item-preserved g c =
    let ps = c.loop-item.rest.now in
    let all = c.args.patterns.now in
    let front = c.split_at.ensures.front ∙ ap (λ n. take n ps) c.item_length.ensures.value in
    let back = c.split_at.ensures.back ∙ ap (λ n. drop n ps) c.item_length.ensures.value in
    let found : c.is_labelled.result ≡ true = search rules in
    let is : is_labelled g.T.Symbol.number g.T.Symbol.text g.T.Symbol.word all
    (take (item_length g.T.Symbol.number g.T.Symbol.text g.T.Symbol.word ps) ps)
    ≡ true =
    ap (λ q. is_labelled g.T.Symbol.number g.T.Symbol.text g.T.Symbol.word all q) (sym front)
    ∙ (sym c.is_labelled.ensures ∙ found) in (
      ap (λ q. items g.T.Symbol.number g.T.Symbol.text g.T.Symbol.word all 0 q) back
          ∙ (sym (labelled_step g.T.Symbol.number g.T.Symbol.text g.T.Symbol.word all ps (search rules) is) ∙ c.loop-item.invariant.0),
      search rules,
    )
