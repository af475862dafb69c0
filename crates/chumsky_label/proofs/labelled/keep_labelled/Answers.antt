use Rattle.std.specs.Prelude.{option_map, refl}
use Rattle.chumsky_input.specs.Held.{held, located}
use Rattle.chumsky_label.specs.Labelling.{LabelsSeen}
use Rattle.chumsky_label.proofs.LabelledLemmas.{keeps_older, keeps_hidden}
use Rattle.chumsky_label.proofs.labelled.keep_labelled.Goals as goal

pub returns-clause-keeps : goal.returns-clause-keeps
returns-clause-keeps g c =
    keeps_older g.E.Error.Error.merged g.E.Error.Error.takes_no_memory
    (LabelsSeen g.E.Error.Error.seen (g.E.Error.LabelError.labelled g.E.Error.Error c.args.label.now))
    g.E.Error.LabelError.labels_freely c.args.start (option_map (located g.E.Error.Error.seen) c.args.older)
    (held g.I.Input g.E.Error.Error g.E.State.Inspector c.args.inp.now)
    (held g.I.Input g.E.Error.Error g.E.State.Inspector c.relabel.new.inp)
    (held g.I.Input g.E.Error.Error g.E.State.Inspector c.keep_before-2.new.self) c.keep_before-2.result
    c.in_ok-relabel.ensures.labels c.keep_before-2.ensures.keeps

pub returns-then-lies_past-clause-keeps : goal.returns-then-lies_past-clause-keeps
returns-then-lies_past-clause-keeps g c =
    keeps_hidden g.E.Error.Error.merged g.E.Error.Error.takes_no_memory g.E.Error.Error.seen
    (g.E.Error.LabelError.labelled g.E.Error.Error c.args.label.now) c.args.start
    g.E.Error.LabelError.labels_freely (held g.I.Input g.E.Error.Error g.E.State.Inspector c.args.inp.now)
    (held g.I.Input g.E.Error.Error g.E.State.Inspector c.keep_before.new.self) c.keep_before.result c.args.older
    c.args.inp.now.kept (c.if-lies_past.ensures.past refl) refl c.keep_before.ensures.keeps
