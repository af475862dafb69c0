use Rattle.std.proofs.Common.{refl}
use Rattle.exact.proofs.json.scalar_of.Goals as goal

pub returns : goal.returns
returns g c =
    let w = c.or.ensures in
    let t = c.or-truth.ensures in
    record {
      number = refl;
      string = refl;
      null = rw w.first c.null_word.ensures;
      yes = rw (w.second, t.first) c.true_word.ensures.word;
      is_yes = rw (w.second, t.first) c.true_word.ensures.value;
      no = rw (w.second, t.second) c.false_word.ensures.word;
      is_no = rw (w.second, t.second) c.false_word.ensures.value;
    }
