use Rattle.std.proofs.Common.{◌≡◌}
use Rattle.chumsky_input.specs.Held.{held}
use Rattle.chumsky_group.proofs.InTurnLemmas.{ChecksFrom}
use Rattle.chumsky_group.proofs.arrays.GroupArrayParserArrayVec.go_check.Given as goal

abbrev pub invariant-loop-parser : goal.invariant-loop-parser
invariant-loop-parser g l = record {
  from : ChecksFrom g.E.Error.Error.merged g.E.Error.Error.takes_no_memory
      (λ q. g.P.Parser.meaning q g.E.Error.Error g.E.State.Inspector) l.parsers l.parser-index
      (held g.I.Input g.E.Error.Error g.E.State.Inspector l.fn.inp)
      (held g.I.Input g.E.Error.Error g.E.State.Inspector l.inp);
  lent : l.inp.state.ghost_name ≡ l.fn.inp.state.ghost_name;
}
