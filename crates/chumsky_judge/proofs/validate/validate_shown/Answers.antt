use Rattle.std.proofs.Common.{rules, refl, sym}
use Rattle.chumsky_judge.proofs.validate.validate_shown.Goals as goal

pub returns : goal.returns
returns g c =
    let kept = c.requires.callable.keeps _ _ _ _ _ _ (sym c.requires.tokens, c.requires.order) c.validator-output.ensures in
    record {
      lent = _;
      left = _;
      fresh = _;
      after = _;
      met = c.validator-output.ensures;
      in_order = (sym c.requires.tokens, c.requires.order);
      shows = refl;
      none = search rules;
      not_refused = search rules;
      leaves = search (rules, kept);
      emits = refl;
    }
