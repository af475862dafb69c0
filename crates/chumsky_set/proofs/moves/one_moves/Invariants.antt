use Rattle.std.proofs.Common.{◌≡◌, false, take}
use Rattle.std.specs.List.{list_any}
use Rattle.chumsky_set.proofs.moves.one_moves.Given as goal

abbrev pub invariant-loop-parser : goal.invariant-loop-parser
invariant-loop-parser g l = list_any g.P.Moving.moves (take l.parser-index l.parsers) ≡ false
