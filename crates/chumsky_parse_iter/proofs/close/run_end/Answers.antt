use Rattle.std.proofs.Common.{rules}
use Rattle.chumsky_parse_iter.proofs.FinishLemmas.{closes-refused, closes-asked}
use Rattle.chumsky_parse_iter.proofs.close.run_end.Goals.{in-Refused, in_default}
use Rattle.chumsky_parse_iter.proofs.close.run_end.Goals as goal

pub returns-clause-ran : goal.returns-clause-ran
returns-clause-ran g c =
    elim c.match-phase.branch [
      | in-Refused w ↦ rw (w.inp-is, w.result-is) (closes-refused g.I.Input g.E.Error.Error g.E.State.Inspector w.in-Refused.fault c.args.phase w.in-Refused.is)
      | in_default w ↦ rw (w.inp-is, w.result-is) (closes-asked g.I.Input g.E.Error.Error g.E.State.Inspector c.args.phase w.in_default.not-Refused w.go_check.ensures.ran)
    ]
