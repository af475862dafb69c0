use Rattle.std.proofs.Common.{◌≡◌, ◌≤◌, ◌*◌, ◌-◌, length}
use Rattle.chumsky_report.specs.Place.{IsPlace, ArePlaces}
use Rattle.chumsky_report.proofs.index.places.Given as goal

abbrev pub invariant-loop-at : goal.invariant-loop-at
invariant-loop-at l = IsPlace l.text l.at l.place × ArePlaces l.text l.places.items × (l.at ≡ length l.places.items * 1024) × (l.at ≤ length l.text)

abbrev pub decreases-loop-at : goal.decreases-loop-at
decreases-loop-at l = length l.text - l.at
