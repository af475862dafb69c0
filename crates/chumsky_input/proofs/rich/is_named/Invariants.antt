use Rattle.std.proofs.Common.{◌≡◌, false, take}
use Rattle.std.specs.List.{list_any}
use Rattle.chumsky_input.specs.declared.rich.RichPattern.TheVariants as pattern
use Rattle.chumsky_input.specs.Rich.{pattern_same}
use Rattle.chumsky_input.proofs.rich.is_named.Given as goal

-- none of the patterns so far is that of the token
abbrev pub invariant-loop-pattern : goal.invariant-loop-pattern
invariant-loop-pattern g l = list_any (λ x. pattern_same g.T.PartialEq.eq x (pattern.Token l.token)) (take l.pattern-index l.patterns) ≡ false
