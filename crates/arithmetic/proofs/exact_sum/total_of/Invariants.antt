use Rattle.std.specs.Prelude.{ℤ, Option, reverse}
use Rattle.arithmetic.specs.Lines.{ComesTo, from_part}
use Rattle.arithmetic.proofs.exact_sum.total_of.Given as goal

-- what is left of the steps comes to what all do
abbrev pub invariant-loop-step : goal.invariant-loop-step
invariant-loop-step l = record { comes : (z : Option ℤ) → ComesTo l.running (reverse l.left.items) z → ComesTo (from_part l.fn.first) (reverse l.fn.steps.items) z }

abbrev pub decreases-loop-step : goal.decreases-loop-step
decreases-loop-step l = goal.left-loop-step l
