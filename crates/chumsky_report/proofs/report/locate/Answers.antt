use Rattle.std.proofs.Common.{rules, ◌≡◌, ap, ◌∙◌, take, length, min, ◌-◌}
use Rattle.std.specs.Str.{encode_utf8_all}
use Rattle.std.proofs.lemmas.List.{take_min}
use Rattle.chumsky_report.specs.Line.{characters}
use Rattle.chumsky_report.specs.Report.{marked, last_line}
use Rattle.chumsky_report.specs.Window.{shown_ahead, line_text, below_line}
use Rattle.chumsky_report.specs.declared.report.Located.{Located}
use Rattle.chumsky_report.proofs.ReportLemmas.{located_is}
use Rattle.chumsky_report.proofs.report.locate.Goals as goal

pub returns : goal.returns
returns g c =
    let text = g.S.Source.text c.args.text.now in
    let span = c.args.span in
    let shown = c.as_bytes-shown.result.now in
    let is : c.as_str.result.now ≡ text = c.as_str.ensures in
    let least : c.min.result ≡ min (span.end - span.start) (length shown) = search rules in
    let count : c.characters.result ≡ marked text span =
    c.characters.ensures.value ∙ ap characters (
    c.split_at.ensures.front ∙ ap (λ k. take k shown) least ∙ take_min (span.end - span.start) shown
    ∙ ap (take (span.end - span.start)) (c.as_bytes-shown.ensures.value ∙ c.window_of-window.ensures.after ∙ ap (λ t. encode_utf8_all (shown_ahead t span.start)) is)) in
    let last : c.place-2.result.line ≡ last_line text span = search rules in
    let made : Located g.row.M.Denot = record {
      name = c.args.name;
      place = c.place.result;
      message = c.args.message;
      window = c.window_of-window.result;
      marked = c.characters.result;
      last_line = c.place-2.result.line;
    } in
    located_is g.M.Display.output made text span c.place.ensures
    (c.window_of-window.ensures.line ∙ ap (λ t. line_text t span.start) is) (c.window_of-window.ensures.below ∙ ap (λ t. below_line t span.start) is) count last
