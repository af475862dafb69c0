use Rattle.std.proofs.Common.{rules, ap, subst, ◌∙◌}
use Rattle.std.specs.Fmt.{DisplaysOnOk}
use Rattle.chumsky_input.specs.Display.{rich_text}
use Rattle.chumsky_report.specs.Report.{shown_span, text_at}
use Rattle.chumsky_report.proofs.report.TokenReportDisplay.fmt.Goals as goal

pub returns-clause-writes : goal.returns-clause-writes
returns-clause-writes g c =
    let name = c.args.self.now.name.now in
    let text = g.S.Source.text c.args.self.now.text in
    let message = rich_text g.T.Display.output c.args.self.now.error.now in
    let shown = c.shown_span-span.ensures.value ∙ ap (shown_span text) c.span.ensures in
    subst (λ t. DisplaysOnOk g.W.Write.write_str_gives c.args.f.now c.write.result t c.write.new.self)
    (c.locate.ensures ∙ ap (λ s. text_at name text message s) shown) c.write.ensures.writes
