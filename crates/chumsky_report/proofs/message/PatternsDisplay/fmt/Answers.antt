use Rattle.std.proofs.Common.{rules, refl, sym, ap, ◌∙◌, take, drop}
use Rattle.chumsky_report.specs.Message.{items}
use Rattle.chumsky_report.proofs.MessageLemmas.{separator_last, separator_between, first_item, next_item, none_left}
use Rattle.chumsky_report.proofs.message.PatternsDisplay.fmt.Goals.{then-is_empty-2, else-is_empty-2}
use Rattle.chumsky_report.proofs.message.PatternsDisplay.fmt.Goals as goal

pub loop-rest-init : goal.loop-rest-init
loop-rest-init g c = (
  c.skip_labelled-rest.ensures.first,
  λ plain h k.
      first_item g.T.Symbol.number g.T.Symbol.text g.T.Symbol.word _ _ _ _ c.args.self.now.0.now c.args.self.now.0.now
      c.skip_labelled-all.result.now c.split_at.result.0.now c.skip_labelled-rest.result.now (search rules)
      c.skip_labelled-all.ensures.items c.skip_labelled-all.ensures.first
      (c.split_at.ensures.front ∙ ap (λ n. take n c.skip_labelled-all.result.now) c.item_length.ensures.value)
      (c.skip_labelled-rest.ensures.items
      ∙ ap (λ q. items g.T.Symbol.number g.T.Symbol.text g.T.Symbol.word c.args.self.now.0.now 0 q)
      (c.split_at.ensures.back ∙ ap (λ n. drop n c.skip_labelled-all.result.now) c.item_length.ensures.value))
      (c.in_ok-write.ensures.writes plain refl) k,
)

pub loop-rest-preserved : goal.loop-rest-preserved
loop-rest-preserved g c = (
  c.skip_labelled-later.ensures.first,
  λ plain h k. c.loop-rest.invariant.1 plain h (λ flat.
      next_item g.T.Symbol.number g.T.Symbol.text g.T.Symbol.word _ _ _ _ c.args.self.now.0.now c.loop-rest.rest.now c.split_at-in-loop-rest.result.0.now c.skip_labelled-later.result.now
      c.if-is_empty-2.separator.now (search rules) c.loop-rest.invariant.0
      (c.split_at-in-loop-rest.ensures.front ∙ ap (λ n. take n c.loop-rest.rest.now) c.item_length-in-loop-rest.ensures.value)
      (c.skip_labelled-later.ensures.items
      ∙ ap (λ q. items g.T.Symbol.number g.T.Symbol.text g.T.Symbol.word c.args.self.now.0.now 0 q)
      (c.split_at-in-loop-rest.ensures.back ∙ ap (λ n. drop n c.loop-rest.rest.now) c.item_length-in-loop-rest.ensures.value))
      (elim c.if-is_empty-2.branch [
        | then-is_empty-2 w ↦ ap (λ r. r.now) w.separator-is
            ∙ sym
            (separator_last g.T.Symbol.number g.T.Symbol.text g.T.Symbol.word c.args.self.now.0.now
            c.skip_labelled-later.result.now (search rules))
        | else-is_empty-2 w ↦ ap (λ r. r.now) w.separator-is
            ∙ sym
            (separator_between g.T.Symbol.number g.T.Symbol.text g.T.Symbol.word c.args.self.now.0.now
            c.skip_labelled-later.result.now (search rules) c.skip_labelled-later.ensures.first)
      ])
      (c.in_ok-write-2.ensures.writes flat refl) k),
)

pub returns-clause-writes : goal.returns-clause-writes
returns-clause-writes g c plain ok =
    c.loop-rest.invariant.1 plain _
    (λ flat. none_left g.T.Symbol.number g.T.Symbol.text g.T.Symbol.word _ _ c.args.self.now.0.now
    c.loop-rest.rest.now (search rules) flat)
