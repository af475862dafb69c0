-- A run of a parser that moves takes a token where it succeeds.
use Rattle.std.proofs.Common.{Bool, Option, Result}
use Rattle.chumsky_input.specs.declared.stop.Fault.{Fault}
use Rattle.chumsky_input.specs.Held.{Held}
use Rattle.chumsky_input.specs.Outcome.{Meaning}
use Rattle.chumsky_input.specs.Run.{Ran}
use Rattle.chumsky_combinator.specs.Part.{Onward}
use Rattle.chumsky_parser.specs.Progress.{Moves}
use Rattle.chumsky.specs.Values.{Taking}

module _ {Tok Cx St Er V : Type 0} (merged : Er → Er → Er) (safe : Type 0) (m : Meaning Tok Cx St Er V) where
  pub ran-taking : {wanted : Bool} {old new : Held Tok Cx St Er} {result : Result (Option V) Fault} → Moves m
      → Ran merged safe (Onward m) wanted old new result → Ran merged safe (Onward (Taking m)) wanted old new result
  ran-taking moves r = record {
    outcome = r.outcome;
    meant = record {
      means = record { means = r.meant.means; takes = moves _ r.outcome r.meant.means };
      ends = r.meant.ends;
    };
    answered = r.answered;
    state = r.state;
    left = r.left;
    same = r.same;
  }
