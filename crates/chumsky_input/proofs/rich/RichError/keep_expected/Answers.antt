use Rattle.std.proofs.Common.{rules, sym}
use Rattle.std.specs.Prelude.{option_copied}
use Rattle.chumsky_input.specs.Rich.{rich_seen, rich_merged}
use Rattle.chumsky_input.proofs.KeepingLemmas.{keeps_first, keeps_further, keeps_there}
use Rattle.chumsky_input.proofs.rich.RichError.keep_expected.Goals as goal

pub returns-in_ok-error-in-None : goal.returns-in_ok-error-in-None
returns-in_ok-error-in-None g c = record { keeps = keeps_first (rich_merged g.T.SameClone.same) (rich_seen g.T.SameClone.seen) (sym c.in-None.is) c.in_ok-error-in-None.ensures; refused = tt }

pub returns-in_ok-replace_by_one-in-Some : goal.returns-in_ok-replace_by_one-in-Some
returns-in_ok-replace_by_one-in-Some g c =
    record {
      keeps = keeps_further (rich_merged g.T.SameClone.same) (rich_seen g.T.SameClone.seen) (sym c.in-Some.is) (search rules) c.in_ok-replace_by_one-in-Some.ensures.replaces;
      refused = tt;
    }

pub returns-in_ok-merge_one-in-Some : goal.returns-in_ok-merge_one-in-Some
returns-in_ok-merge_one-in-Some g c =
    record {
      keeps =
          keeps_there (rich_merged g.T.SameClone.same) (rich_seen g.T.SameClone.seen) (sym c.in-Some.is)
          c.requires.near (search rules)
          (c.in_ok-merge_one-in-Some.ensures.merges (option_copied c.args.found) c.args.span);
      refused = tt;
    }
