use Rattle.std.proofs.Common.{rules}
use Rattle.chk_run.specs.Decided.{halts-for_memory}
use Rattle.chk_run.proofs.grammar.decided_parsers_are_refused_for_memory.Goals as goal

pub returns : goal.returns
returns g c = record { halts = λ p k. halts-for_memory ((g.met.P.Parser c.lifetimes (search rules)).accepts p) k }
