use Rattle.std.proofs.Common.{rules, ◌≡◌, sym, ap, ◌∙◌, length, nat_le, ℕ, ◌<◌, false}
use Rattle.std.specs.Prelude.{if◌then◌else◌}
use Rattle.std.specs.Fmt.Cut.{floor_char_boundary}
use Rattle.chumsky_input.specs.declared.span.SimpleSpan.{SimpleSpan}
use Rattle.chumsky_report.specs.Line.{text_end}
use Rattle.chumsky_report.proofs.FloorLemmas.{floor_is}
use Rattle.chumsky_report.proofs.report.shown_span.Goals as goal

pub returns-clause-value : goal.returns-clause-value
returns-clause-value g c =
    let text = g.S.Source.text c.args.text in
    let span = c.args.span in
    let low : nat_le (length text) span.start ≡ false = search rules in
    let within : span.start < length c.as_str-2.result.now = search rules in
    let at : floor_char_boundary text span.start ≡ c.floor_char_boundary.result =
    ap (λ t. floor_char_boundary t span.start) (sym c.as_str-2.ensures)
    ∙ floor_is c.as_str-2.result.now span.start c.floor_char_boundary.result within
    c.floor_char_boundary.ensures.bound c.floor_char_boundary.ensures.boundary c.floor_char_boundary.ensures.nearest in
    let end : SimpleSpan = record { start = text_end text; end = text_end text } in
    let from : ℕ → SimpleSpan = λ n. record { start = n; end = span.end } in
    sym (ap (λ t. if t then end else from (floor_char_boundary text span.start)) low ∙ ap from at)
