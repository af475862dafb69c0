use Rattle.std.proofs.Common.{rules, refl, map, ap}
use Rattle.chumsky_parse_iter.proofs.PartsLemmas.{ran-begun}
use Rattle.chumsky_parse_iter.proofs.close.close_from.Goals as goal

pub returns : goal.returns
returns g c =
    record {
      answer = c.run_end-ended.result;
      mid = _;
      left = _;
      ran = ran-begun c.resume-inp.ensures.begins refl refl (rw c.put_errors.ensures at c.run_end-ended.ensures.ran);
      settles = c.settle-answer.ensures.settles;
      state_is = search rules;
      found_is = rw c.finish-last.ensures.emitted refl;
    }
