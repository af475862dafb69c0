-- A report whose places are known is that of the text.
use Rattle.std.proofs.Common.{◌≡◌, ap, ◌∙◌, ℕ, List, [], ◌++◌, replicate, Some}
use Rattle.std.specs.Prelude.{Option, codes, decimal, max}
use Rattle.std.specs.Fmt.{◌++?◌}
use Rattle.chumsky_input.specs.declared.span.SimpleSpan.{SimpleSpan}
use Rattle.chumsky_report.specs.Line.{line_number, column_number}
use Rattle.chumsky_report.specs.Place.{IsPlace}
use Rattle.chumsky_report.specs.Printed.{located_text, onward_of}
use Rattle.chumsky_report.specs.Report.{marked, last_line, text_at}
use Rattle.chumsky_report.specs.Shown.{line_of, below_of}
use Rattle.chumsky_report.specs.Window.{line_text, below_line}
use Rattle.chumsky_report.specs.declared.report.Located.{Located}

text_of : List ℕ → Option (List ℕ) → ℕ → ℕ → List ℕ → List ℕ → ℕ → ℕ → Option (List ℕ)
text_of name message line column shown below count last =
    Some (name ++ (codes ":" ++ (decimal line ++ (codes ":" ++ decimal column)))) ++? (Some (codes ": ") ++? (message
    ++? (Some (codes "\n") ++? (Some shown ++? (Some (codes "\n") ++? Some (below ++ (replicate (max 1 count) 94 ++ onward_of line last)))))))

pub located_is : {M : Type 0} (output : M → Option (List ℕ)) (r : Located M) (text : List ℕ) (span : SimpleSpan) → IsPlace text span.start r.place
    → line_of r.window ≡ line_text text span.start → below_of r.window ≡ below_line text span.start
    → r.marked ≡ marked text span → r.last_line ≡ last_line text span
    → located_text output r ≡ text_at r.name.now text (output r.message) span
unfolding text_of
located_is output r text span p w b m l =
    let name = r.name.now in
    let e = output r.message in
    ap (λ x. text_of name e x r.place.column (line_of r.window) (below_of r.window) r.marked r.last_line) p.line
    ∙ ap (λ x. text_of name e (line_number text span.start) x (line_of r.window) (below_of r.window) r.marked r.last_line) p.column
    ∙ ap (λ x. text_of name e (line_number text span.start) (column_number text span.start) x (below_of r.window) r.marked r.last_line) w
    ∙ ap (λ x. text_of name e (line_number text span.start) (column_number text span.start) (line_text text span.start) x r.marked r.last_line) b
    ∙ ap (λ x. text_of name e (line_number text span.start) (column_number text span.start) (line_text text span.start) (below_line text span.start) x r.last_line) m
    ∙ ap (λ x. text_of name e (line_number text span.start) (column_number text span.start) (line_text text span.start) (below_line text span.start) (marked text span) x) l
