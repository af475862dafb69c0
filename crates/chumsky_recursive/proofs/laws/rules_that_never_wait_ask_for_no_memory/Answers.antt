use Rattle.std.proofs.Common.{rules, inl, inr}
use Rattle.chumsky_recursive.specs.Founding.{in_place-goes, in_place-halts}
use Rattle.chumsky_recursive.specs.Unwaiting.{call-asks}
use Rattle.chumsky_recursive.proofs.laws.rules_that_never_wait_ask_for_no_memory.Goals as goal

pub returns : goal.returns
returns g c =
    let laws = g.met.A.Actions c.lifetimes (search rules) in
    let now = c.args.grammar.now.actions.now in
    λ b o there m h.
    elim (call-asks _ _ _ _ c.args.grammar.now.rules.rules.now c.requires.never (g.A.Actions.takes_no_memory now)
    (λ f v k. k) (λ f v k. k) (λ n. in_place-goes _ (laws.leaves_end_after_start now n)) c.args.grammar.now.limit
    c.args.grammar.now.rules.start b o there m h) [
      | inl l ↦ inl (in_place-halts _ _ _ _ l)
      | inr e ↦ inr e
    ]
