use Rattle.std.proofs.Common.{rules, ◌≡◌, Some, None, true, false, Err, refl}
use Rattle.chumsky_input.specs.declared.stop.Fault.TheVariants as fault
use Rattle.chumsky_input.specs.declared.stop.Stop.TheVariants.{Memory}
use Rattle.chumsky_input.specs.Held.{held}
use Rattle.chumsky_parser.proofs.ChainedLemmas.{emit_err}
use Rattle.chumsky_text.proofs.RunLemmas.{begun_misses, newline_ran}
use Rattle.chumsky_text.proofs.newline.NewlineParserSlice.go_emit.Goals as goal

pub returns-in-None-clause-ran : goal.returns-in-None-clause-ran
returns-in-None-clause-ran g c =
    begun_misses _ _ _ _ _ _ _ _ (held g.I.Input g.E.Error.Error g.E.State.Inspector c.args.inp.now)
    (held g.I.Input g.E.Error.Error g.E.State.Inspector c.take_first.new.inp) _ _ c.in-None.ensures.takes.0
    c.in-None.ensures.takes.1 (rw c.expected.ensures at c.expect_here.ensures.fails)

pub returns-in-Some-clause-ran : goal.returns-in-Some-clause-ran
returns-in-Some-clause-ran g c =
    newline_ran _ _ _ _ g.K.Rest.Kind.holds (λ t. g.K.Lexeme.rest_after c.args.self.now.kind t) g.K.Rest.Kind.fits _ _
    _ (held g.I.Input g.E.Error.Error g.E.State.Inspector c.args.inp.now)
    (held g.I.Input g.E.Error.Error g.E.State.Inspector c.take_first.new.inp)
    (held g.I.Input g.E.Error.Error g.E.State.Inspector c.take_one-more.new.inp)
    (held g.I.Input g.E.Error.Error g.E.State.Inspector c.take_one-more.new.inp) c.in-Some.rest
    c.in-Some.ensures.takes (Some c.slice_since.result) (rw c.cursor-before.ensures at c.slice_since.ensures) c.take_one-more.result
    refl c.take_one-more.ensures.takes
