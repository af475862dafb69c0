use Rattle.chumsky_report.specs.Place.{IsPlace}
use Rattle.chumsky_report.proofs.line.place_from.Given as goal

abbrev pub invariant-loop-index : goal.invariant-loop-index
invariant-loop-index l = IsPlace l.bytes l.index l.place
