use Rattle.std.proofs.Common.{Some, None, sym, ◌∙◌}
use Rattle.chumsky_input.specs.Held.{held}
use Rattle.chumsky_text.proofs.RunLemmas.{begun_misses, keyword_ran, keyword_misses}
use Rattle.chumsky_text.proofs.keyword.KeywordParserSlice.go_check.Goals as goal

pub returns-in-None-clause-ran : goal.returns-in-None-clause-ran
returns-in-None-clause-ran g c =
    begun_misses _ _ _ _ _ _ _ _ (held g.I.Input g.E.Error.Error g.E.State.Inspector c.args.inp.now)
    (held g.I.Input g.E.Error.Error g.E.State.Inspector c.take_first.new.inp) _ _ c.in-None.ensures.takes.0
    c.in-None.ensures.takes.1 c.expect_here.ensures.fails

pub returns-then-is_text-clause-ran : goal.returns-then-is_text-clause-ran
returns-then-is_text-clause-ran g c =
    keyword_ran _ _ _ _ g.K.Rest.Kind.holds (λ t. g.K.Lexeme.rest_after c.args.self.now.kind t) g.K.Rest.Kind.fits _ _
    _ (held g.I.Input g.E.Error.Error g.E.State.Inspector c.args.inp.now)
    (held g.I.Input g.E.Error.Error g.E.State.Inspector c.take_first.new.inp)
    (held g.I.Input g.E.Error.Error g.E.State.Inspector c.skip_run.new.inp)
    (held g.I.Input g.E.Error.Error g.E.State.Inspector c.skip_run.new.inp) c.in-Some.rest c.in-Some.ensures.takes
    None tt (g.I.TextInput.spells c.args.self.now.word.now) c.skip_run.ensures.moves
    (sym (c.is_text.ensures _ _ _ (rw c.cursor-before.ensures at c.slice_since-spelled.ensures)) ∙ c.if-is_text.true)

pub returns-else-is_text-clause-ran : goal.returns-else-is_text-clause-ran
returns-else-is_text-clause-ran g c =
    keyword_misses _ _ _ _ g.K.Rest.Kind.holds (λ t. g.K.Lexeme.rest_after c.args.self.now.kind t) g.K.Rest.Kind.fits
    _ _ _ (held g.I.Input g.E.Error.Error g.E.State.Inspector c.args.inp.now)
    (held g.I.Input g.E.Error.Error g.E.State.Inspector c.take_first.new.inp)
    (held g.I.Input g.E.Error.Error g.E.State.Inspector c.skip_run.new.inp) _ c.in-Some.rest
    c.in-Some.ensures.takes (g.I.TextInput.spells c.args.self.now.word.now) _ c.skip_run.ensures.moves
    (sym (c.is_text.ensures _ _ _ (rw c.cursor-before.ensures at c.slice_since-spelled.ensures)) ∙ c.if-is_text.false)
    (rw c.cursor-before.ensures at c.expect_since.ensures.fails)
