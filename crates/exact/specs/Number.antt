-- How a number is written.
use Rattle.std.specs.Prelude.{ℕ, List}
use Rattle.chumsky_exact.specs.Numerals.{IsUnsigned}

-- a text is decimal digits, with no zero before another, that write this number; and a `u32` holds it
abbrev pub IsNumber : List ℕ → ℕ → Type 0
IsNumber = IsUnsigned 32
