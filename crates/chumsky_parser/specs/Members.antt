-- The members of a text from a byte on, and those of a range.
use Rattle.std.specs.Prelude.{◌≡◌, ℕ, ◌+◌, ◌-◌, Bool, cond, ◌&&◌, ◌||◌, List, [], length, drop, nat_lt, slice_index, ◌==◌}
use Rattle.std.specs.List.{filter, range_with_len}
use Rattle.std.specs.Range.{range_inclusive_start, range_inclusive_end, range_inclusive_exhausted}
use Rattle.std.specs.Str.{chars}
use Rattle.std.specs.declared.ops.RangeInclusive.{RangeInclusive}
use Rattle.std.proofs.Math.Utf8.{scalar}
use Rattle.std.proofs.Common.{ap, arith}

-- whether a character begins at the byte i, or the text ends there
abbrev pub at_boundary : List ℕ → ℕ → Bool
at_boundary bs i = (i == 0) || ((i == length bs) || (nat_lt i (length bs) && (nat_lt (slice_index bs i) 128 || nat_lt 191 (slice_index bs i))))

-- the characters of a text from the byte i on, and none where none begins there
abbrev pub chars_from : List ℕ → ℕ → List ℕ
chars_from bs i = cond (at_boundary bs i) (chars (drop i bs)) []

-- the characters from the number a on and below the number b, in order: no surrogates
abbrev pub chars_between : ℕ → ℕ → List ℕ
chars_between a b = filter scalar (range_with_len a (b - a))

-- the number past the last character of a range, which has lost its end once it is spent
abbrev pub range_past : RangeInclusive ℕ → ℕ
range_past r = cond (range_inclusive_exhausted r) (range_inclusive_end r) (range_inclusive_end r + 1)

pub range_from_start : (r : RangeInclusive ℕ) → chars_between (range_inclusive_start r + 0) (range_past r) ≡ chars_between (range_inclusive_start r) (range_past r)
range_from_start r = let e : range_inclusive_start r + 0 ≡ range_inclusive_start r = omega arith in ap (λ a. chars_between a (range_past r)) e
