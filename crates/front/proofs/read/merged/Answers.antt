use Rattle.std.proofs.Common.{rules}
use Rattle.std.proofs.lemmas.List.Sorted.{IsNonDecreasingBy-from_sort_by_key}
use Rattle.chumsky_input.specs.Rich.{rich_span}
use Rattle.front.proofs.read.merged.Goals as goal

pub returns-clause-order : goal.returns-clause-order
returns-clause-order c = IsNonDecreasingBy-from_sort_by_key (λ error. (rich_span error).start) c.sort_by_key.new.self.items c.in_ok-sort_by_key.ensures.sorted (search rules)
