-- Places of a text.
use Rattle.std.specs.Prelude.{◌≡◌, ℕ, ◌+◌, ◌*◌, if◌then◌else◌, List, Some, slice_get, ◌==◌}
use Rattle.std.specs.Fmt.{is_char_start}
use Rattle.chumsky_report.specs.Line.{line_number, column_number}
use Rattle.chumsky_report.specs.declared.line.Place.{Place}

-- the line and the column of an offset
pub record IsPlace (text : List ℕ) (at : ℕ) (place : Place) : Type 0 where
  pub line : place.line ≡ line_number text at
  pub column : place.column ≡ column_number text at

-- the n-th of the places is that of byte n * 1024
abbrev pub ArePlaces : List ℕ → List Place → Type 0
ArePlaces text places = (n : ℕ) (place : Place) → slice_get places n ≡ Some place → IsPlace text (n * 1024) place

-- the place after a byte
abbrev pub place_after : Place → ℕ → Place
place_after place b = if b == 10 then record { line = place.line + 1; column = 1 }
    else (if is_char_start b then record { line = place.line; column = place.column + 1 } else place)
