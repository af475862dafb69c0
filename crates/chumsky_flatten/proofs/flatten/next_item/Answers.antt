use Rattle.std.proofs.Common.{rules, ◌≡◌, false, None}
use Rattle.chumsky_parser.proofs.ItemsLemmas.{emit_fault}
use Rattle.chumsky_flatten.proofs.FlatteningLemmas.{hand-item, hand-first, hand-ended, hand-failed}
use Rattle.chumsky_flatten.proofs.flatten.next_item.Goals as goal

pub returns-in-Some-clause-ran : goal.returns-in-Some-clause-ran
returns-in-Some-clause-ran g c =
    hand-item g.E.State.Inspector.mark g.E.State.Inspector.back g.E.State.Inspector.takes_no_memory
    g.O.IntoIterator.into_iter_gives g.O.IntoIter.Iterator.next_gives
    (λ t. g.A.IterParser.gives c.args.parser.now (record { nonconsumption_is_ok = false }) t g.E.Error.Error g.E.State.Inspector)
    _ _ _ _ _ c.next_in_hand.ensures.gives c.in-Some.is

pub returns-in_err-first_of_next-clause-ran : goal.returns-in_err-first_of_next-clause-ran
returns-in_err-first_of_next-clause-ran g c =
    let none : c.next_in_hand.result ≡ None = search rules in
    hand-failed g.E.State.Inspector.mark g.E.State.Inspector.back g.E.State.Inspector.takes_no_memory
    g.O.IntoIterator.into_iter_gives g.O.IntoIter.Iterator.next_gives
    (λ t. g.A.IterParser.gives c.args.parser.now (record { nonconsumption_is_ok = false }) t g.E.Error.Error g.E.State.Inspector)
    _ _ _ _ c.next_in_hand.ensures.gives none _ c.first_of_next.ensures.ran c.in_err-first_of_next.was
    (emit_fault _ (search rules))

pub returns-in-None-clause-ran : goal.returns-in-None-clause-ran
returns-in-None-clause-ran g c =
    let none : c.next_in_hand.result ≡ None = search rules in
    hand-ended g.E.State.Inspector.mark g.E.State.Inspector.back g.E.State.Inspector.takes_no_memory
    g.O.IntoIterator.into_iter_gives g.O.IntoIter.Iterator.next_gives
    (λ t. g.A.IterParser.gives c.args.parser.now (record { nonconsumption_is_ok = false }) t g.E.Error.Error g.E.State.Inspector)
    _ _ _ _ c.next_in_hand.ensures.gives none _ c.first_of_next.ensures.ran c.in_ok-first_of_next.was c.in-None.is

pub returns-in-Some-2-clause-ran : goal.returns-in-Some-2-clause-ran
returns-in-Some-2-clause-ran g c =
    let none : c.next_in_hand.result ≡ None = search rules in
    hand-first g.E.State.Inspector.mark g.E.State.Inspector.back g.E.State.Inspector.takes_no_memory
    g.O.IntoIterator.into_iter_gives g.O.IntoIter.Iterator.next_gives
    (λ t. g.A.IterParser.gives c.args.parser.now (record { nonconsumption_is_ok = false }) t g.E.Error.Error g.E.State.Inspector)
    _ _ _ _ c.next_in_hand.ensures.gives none _ c.first_of_next.ensures.ran c.in_ok-first_of_next.was
    c.in-Some-2.is (search rules) (search rules)
