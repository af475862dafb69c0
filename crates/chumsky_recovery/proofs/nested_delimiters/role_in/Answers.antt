use Rattle.std.proofs.Common.{sym, ◌∙◌}
use Rattle.chumsky_input.specs.Maybe.{maybe_value}
use Rattle.chumsky_recovery.specs.Nested.{has_token}
use Rattle.chumsky_recovery.proofs.NestedLemmas.{found-closes, found-opens, found-misfits, found-others}
use Rattle.chumsky_recovery.proofs.nested_delimiters.role_in.Goals as goal

pub returns-then-contains : goal.returns-then-contains
returns-then-contains g c =
    rw c.in-Some.is
    (sym
    (found-closes (has_token g.X.PartialEq.eq g.T.Seq.members) (maybe_value c.in-Some.token)
    c.args.innermost.now c.args.pairs.now.start c.args.pairs.now.end c.args.pairs.now.others
    (rw c.get.ensures at (sym c.contains.ensures ∙ c.if-contains.true))))

pub returns-then-contains-2 : goal.returns-then-contains-2
returns-then-contains-2 g c =
    rw c.in-Some.is
    (sym
    (found-opens (has_token g.X.PartialEq.eq g.T.Seq.members) (maybe_value c.in-Some.token)
    c.args.innermost.now c.args.pairs.now.start c.args.pairs.now.end c.args.pairs.now.others
    (rw c.get.ensures at (sym c.contains.ensures ∙ c.if-contains.false))
    (rw c.get-in-Some.ensures at (sym c.contains-in-Some.ensures ∙ c.if-contains-2.true))))

pub returns-then-contains-3 : goal.returns-then-contains-3
returns-then-contains-3 g c =
    rw c.in-Some.is
    (sym
    (found-misfits (has_token g.X.PartialEq.eq g.T.Seq.members) (maybe_value c.in-Some.token)
    c.args.innermost.now c.args.pairs.now.start c.args.pairs.now.end c.args.pairs.now.others
    (rw c.get.ensures at (sym c.contains.ensures ∙ c.if-contains.false))
    (rw c.get-in-Some.ensures at (sym c.contains-in-Some.ensures ∙ c.if-contains-2.false))
    (rw c.get-in-Some-2.ensures at (sym c.contains-in-Some-2.ensures ∙ c.if-contains-3.true))))

pub returns-else-contains-3 : goal.returns-else-contains-3
returns-else-contains-3 g c =
    rw c.in-Some.is (rw c.get-in-Some-3.ensures at c.role_in_others.ensures
    ∙ sym
    (found-others (has_token g.X.PartialEq.eq g.T.Seq.members) (maybe_value c.in-Some.token) c.args.innermost.now
    c.args.pairs.now.start c.args.pairs.now.end c.args.pairs.now.others
    (rw c.get.ensures at (sym c.contains.ensures ∙ c.if-contains.false))
    (rw c.get-in-Some.ensures at (sym c.contains-in-Some.ensures ∙ c.if-contains-2.false))
    (rw c.get-in-Some-2.ensures at (sym c.contains-in-Some-2.ensures ∙ c.if-contains-3.false))))
