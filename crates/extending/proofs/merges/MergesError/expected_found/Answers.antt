use Rattle.std.proofs.Common.{Some, None, ap, sym, ◌∙◌, append-nil}
use Rattle.chumsky_input.specs.Wanted.{named_token}
use Rattle.extending.proofs.MergesLemmas.{tokens-more, no-token, named-unlabelled}
use Rattle.extending.proofs.merges.MergesError.expected_found.Goals as goal
use Rattle.extending.proofs.merges.MergesError.expected_found.Goals.{in-Token+in_ok-push, in_default}

pub loop-item-preserved : goal.loop-item-preserved
loop-item-preserved g c =
    let more = tokens-more g.X.Item.Expectation.expectation c.loop-item.yielded c.in-Some.item in
    elim c.match-as_expected.branch [
      | in-Token+in_ok-push w ↦ more (Some w.get.result.now) c.loop-item.text.items _ c.loop-item.invariant (sym (named-unlabelled _) ∙ sym (ap named_token (rw w.in-Token.is at c.as_expected.ensures)) ∙ ap Some (sym w.get.ensures)) (ap (λ v. v.items) w.text-is ∙ w.in_ok-push.ensures.items)
      | in_default w ↦ more None c.loop-item.text.items _ c.loop-item.invariant (sym (named-unlabelled _) ∙ sym (ap named_token c.as_expected.ensures) ∙ no-token c.as_expected.result w.in_default.not-Token) (ap (λ v. v.items) w.text-is ∙ sym (append-nil _))
    ]
