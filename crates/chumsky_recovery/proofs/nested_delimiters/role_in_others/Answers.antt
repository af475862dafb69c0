use Rattle.std.proofs.Common.{rules, sym, ◌∙◌}
use Rattle.chumsky_recovery.specs.Nested.{has_token}
use Rattle.chumsky_recovery.proofs.NestedLemmas.{among-opens, among-misfits, among-later}
use Rattle.chumsky_recovery.proofs.nested_delimiters.role_in_others.Goals as goal

pub returns-then-contains : goal.returns-then-contains
returns-then-contains g c =
    sym
    (among-opens (has_token g.X.PartialEq.eq g.T.Seq.members) c.args.token.now c.loop-rest.rest.now
    c.pair-item.result (search rules) (search rules) (sym c.contains.ensures ∙ c.if-contains.true))
    ∙ c.loop-rest.invariant

pub returns-then-contains-2 : goal.returns-then-contains-2
returns-then-contains-2 g c =
    sym
    (among-misfits (has_token g.X.PartialEq.eq g.T.Seq.members) c.args.token.now c.loop-rest.rest.now
    c.pair-item.result (search rules) (search rules) (sym c.contains.ensures ∙ c.if-contains.false)
    (sym c.contains-in-len1-up.ensures ∙ c.if-contains-2.true))
    ∙ c.loop-rest.invariant

pub loop-rest-preserved : goal.loop-rest-preserved
loop-rest-preserved g c =
    among-later (has_token g.X.PartialEq.eq g.T.Seq.members) c.args.token.now c.loop-rest.rest.now c.pair-item.result
    (search rules) (search rules) (sym c.contains.ensures ∙ c.if-contains.false)
    (sym c.contains-in-len1-up.ensures ∙ c.if-contains-2.false)
    ∙ c.loop-rest.invariant
