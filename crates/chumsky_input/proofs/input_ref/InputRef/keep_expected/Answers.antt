use Rattle.chumsky_input.proofs.KeepingLemmas.{not_past}
use Rattle.chumsky_input.proofs.input_ref.InputRef.keep_expected.Goals as goal

pub keep_expected-requires : goal.keep_expected-requires
keep_expected-requires g c = record { near = not_past g.E.Error.Error.seen c.args.place c.args.self.now.kept c.requires.near }
