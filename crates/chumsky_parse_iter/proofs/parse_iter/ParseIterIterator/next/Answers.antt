use Rattle.std.proofs.Common.{refl, sym, ◌∙◌}
use Rattle.chumsky_parse_iter.proofs.parse_iter.ParseIterIterator.next.Goals.{in-Unbegun, in-Running}
use Rattle.chumsky_parse_iter.proofs.parse_iter.ParseIterIterator.next.Goals as goal

pub returns-clause-steps : goal.returns-clause-steps
returns-clause-steps g c =
    elim c.match-replace.branch [
      | in-Unbegun w ↦ rw (w.self-is, sym c.replace.ensures.value ∙ w.in-Unbegun.is) (
        refl,
        record {
          answer = w.ask-answer.result;
          ran = w.ask-answer.ensures.ran;
          counted = rw (w.self-is, w.answer-is) at c.settle.ensures;
        },
      )
      | in-Running w ↦ rw (w.self-is, sym c.replace.ensures.value ∙ w.in-Running.is) (
        refl,
        record {
          answer = w.ask-answer-in-Running.result;
          ran = w.ask-answer-in-Running.ensures.ran;
          counted = rw (w.self-is, w.answer-is) at c.settle.ensures;
        },
      )
    ]
