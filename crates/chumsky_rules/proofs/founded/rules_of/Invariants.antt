use Rattle.std.proofs.Common.{◌≡◌, map, take}
use Rattle.chumsky_rules.specs.declared.founded.Rank.{Rank}
use Rattle.chumsky_rules.proofs.founded.rules_of.Given as goal

abbrev pub invariant-loop-rank : goal.invariant-loop-rank
invariant-loop-rank l = l.rules.items ≡ map (λ (x : Rank). x.rule) (take l.rank-index l.ranks)
