use Rattle.std.proofs.Common.{rules, refl, sym, ap, ◌∙◌, Ok}
use Rattle.chumsky_input.proofs.DisplayLemmas.{separator_last, separator_between, shows_from, shows_to, none_left, one_more}
use Rattle.chumsky_input.proofs.display.PatternsDisplay.fmt.Goals.{then-is_empty, else-is_empty}
use Rattle.chumsky_input.proofs.display.PatternsDisplay.fmt.Goals as goal

-- src/display.rt:36:9
pub loop-rest-preserved : goal.loop-rest-preserved
loop-rest-preserved g c plain h k = c.loop-rest.invariant plain h (λ flat.
    one_more _ g.T.Display.output _ _ _ c.loop-rest.rest.now _ _ (search rules) (search rules)
    (elim c.if-is_empty.branch [
      | then-is_empty w ↦ ap (λ r. r.now) w.separator-is ∙ sym (separator_last _ (search rules))
      | else-is_empty w ↦ ap (λ r. r.now) w.separator-is ∙ sym (separator_between _ (search rules))
    ])
    (shows_from _ _ _ (Ok c.in_ok-write-2.field-0) _ c.in_ok-write-2.ensures.writes flat refl)
    k)

-- src/display.rt:30:5
pub returns-clause-writes : goal.returns-clause-writes
returns-clause-writes g c = shows_to _ _ _ (Ok tt) _ (λ plain. c.loop-rest.invariant plain _ (λ flat. none_left _ g.T.Display.output _ c.loop-rest.rest.now (search rules) flat))
