use Rattle.std.proofs.Common.{◌≡◌, ◌+◌, min, take}
use Rattle.std.specs.List.{sum_by}
use Rattle.chumsky_debug.specs.Lines.{bodies_at, places_in}
use Rattle.chumsky_debug.proofs.lines.places.Given as goal

abbrev pub invariant-loop-kind : goal.invariant-loop-kind
invariant-loop-kind l = l.found ≡ min 2 (sum_by (places_in l.node) (take l.kind-index l.rules.nodes))

abbrev pub invariant-loop-body : goal.invariant-loop-body
invariant-loop-body l = l.found ≡ min 2 (sum_by (places_in l.node) l.rules.nodes + sum_by (bodies_at l.node) (take l.body-index l.rules.bodies))
