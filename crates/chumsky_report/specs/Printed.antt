-- What is printed of a report whose places are known.
use Rattle.std.specs.Prelude.{ℕ, Option, Some, nat_le, if◌then◌else◌, max, List, [], ◌++◌, replicate, codes, decimal}
use Rattle.std.specs.Fmt.{◌++?◌}
use Rattle.chumsky_report.specs.Shown.{line_of, below_of}
use Rattle.chumsky_report.specs.declared.line.Place.{Place}
use Rattle.chumsky_report.specs.declared.report.Located.{Located}
use Rattle.chumsky_report.specs.declared.report.Underline.{Underline}

-- a name and a place
abbrev pub named_text : List ℕ → Place → List ℕ
named_text name place = name ++ (codes ":" ++ (decimal place.line ++ (codes ":" ++ decimal place.column)))

-- to which line a span goes on, by its first line and its last
abbrev pub onward_of : ℕ → ℕ → List ℕ
onward_of first last = if nat_le last first then [] else codes " to line " ++ decimal last

abbrev pub marks_text : Underline → List ℕ
marks_text m = below_of m.window ++ (replicate (max 1 m.marked) 94 ++ onward_of m.onward.0 m.onward.1)

abbrev pub located_text : {M : Type 0} → (M → Option (List ℕ)) → Located M → Option (List ℕ)
located_text output r = Some (named_text r.name.now r.place) ++? (Some (codes ": ") ++? (output r.message
    ++? (Some (codes "\n") ++? (Some (line_of r.window) ++? (Some (codes "\n") ++? Some (below_of r.window
    ++ (replicate (max 1 r.marked) 94 ++ onward_of r.place.line r.last_line)))))))
