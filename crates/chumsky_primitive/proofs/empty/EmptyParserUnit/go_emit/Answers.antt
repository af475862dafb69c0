use Rattle.std.proofs.Common.{refl, true, Some}
use Rattle.chumsky_input.specs.Held.{held}
use Rattle.chumsky_parser.proofs.FailureLemmas.{ran-yes}
use Rattle.chumsky_primitive.proofs.empty.EmptyParserUnit.go_emit.Goals as goal

pub returns-clause-ran : goal.returns-clause-ran
returns-clause-ran g c = ran-yes g.E.Error.Error.merged g.E.Error.Error.takes_no_memory _ true (held g.I.Input g.E.Error.Error g.E.State.Inspector c.args.inp.now) (Some tt) _ _ refl
