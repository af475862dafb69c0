use Rattle.std.proofs.Common.{◌≡◌, drop}
use Rattle.chumsky_input.specs.declared.span.SimpleSpan.{SimpleSpan}
use Rattle.arithmetic.specs.Steps.{from_left, CanAll, StopsAt}
use Rattle.arithmetic.proofs.total.Given as goal

-- what is left of the steps makes of the number so far what all make of the first; and where it stops, all do
abbrev pub invariant-loop-value : goal.invariant-loop-value
invariant-loop-value l = record {
  made : from_left l.total (drop l.value-index l.steps) ≡ from_left l.first l.steps;
  can : CanAll l.total (drop l.value-index l.steps) → CanAll l.first l.steps;
  needs : CanAll l.first l.steps → CanAll l.total (drop l.value-index l.steps);
  stops : (span : SimpleSpan) → StopsAt l.total (drop l.value-index l.steps) span → StopsAt l.first l.steps span;
}
