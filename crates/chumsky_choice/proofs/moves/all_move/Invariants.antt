use Rattle.std.proofs.Common.{◌≡◌, true, take}
use Rattle.std.specs.List.{list_all}
use Rattle.chumsky_choice.proofs.moves.all_move.Given as goal

abbrev pub invariant-loop-parser : goal.invariant-loop-parser
invariant-loop-parser g l = list_all g.P.Moving.moves (take l.parser-index l.parsers) ≡ true
