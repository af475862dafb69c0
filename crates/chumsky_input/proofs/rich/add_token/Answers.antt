use Rattle.std.proofs.Common.{rules, ◌≡◌, true, false}
use Rattle.std.specs.List.{list_any}
use Rattle.chumsky_input.specs.declared.rich.RichPattern.TheVariants as pattern
use Rattle.chumsky_input.specs.Rich.{pattern_same}
use Rattle.chumsky_input.proofs.RichLemmas.{token-added, token-there}
use Rattle.chumsky_input.proofs.rich.add_token.Goals as goal

pub returns-in_ok-append-clause-adds : goal.returns-in_ok-append-clause-adds
returns-in_ok-append-clause-adds g c =
    let none : list_any (λ x. pattern_same g.T.PartialEq.eq x (pattern.Token c.args.token.now)) c.args.patterns.now.items ≡ false = search rules in
    token-added g.T.PartialEq.eq g.T.SameClone.same g.T.SameClone.seen g.met.T.SameClone.eq_same
    c.args.patterns.now.items _ c.args.token.now c.in_ok-own.own none c.in_ok-own.ensures.token
    c.in_ok-append.ensures.items

pub returns-else-not-is_named-clause-adds : goal.returns-else-not-is_named-clause-adds
returns-else-not-is_named-clause-adds g c =
    let some : list_any (λ x. pattern_same g.T.PartialEq.eq x (pattern.Token c.args.token.now)) c.args.patterns.now.items ≡ true = search rules in
    token-there g.T.PartialEq.eq g.T.SameClone.same g.T.SameClone.seen g.met.T.SameClone.eq_same c.args.patterns.now.items c.args.token.now some
