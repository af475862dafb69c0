use Rattle.std.proofs.Common.{rules}
use Rattle.chk_run.proofs.settings.run_settings.Goals as goal

pub run_over-requires : goal.run_over-requires
run_over-requires c κs = (search rules, (search rules, (search rules, (search (rules, c.word.ensures.least, c.word.ensures.most, c.word-2.ensures.least, c.word-2.ensures.most), c.in-Ok.ensures))))
