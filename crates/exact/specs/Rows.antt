-- Which texts are rows of bits.
use Rattle.std.specs.Prelude.{ℕ, ◌<◌, List, false, length, codes}
use Rattle.std.specs.declared.alloc.Global.{Global}
use Rattle.std.specs.declared.vec.Vec.{Vec}
use Rattle.chumsky_exact.specs.Rendered.{OfEach, Written}
use Rattle.exact.specs.Bits.{IsBit}

-- bits, and one at least
abbrev pub IsRow : Vec ℕ Global → Type 0
IsRow row = OfEach IsBit row.items × (0 < length row.items)

-- they are rows, and the text is these with commas between them
abbrev pub IsRows : List ℕ → Vec (Vec ℕ Global) Global → Type 0
IsRows cs rows = OfEach IsRow rows.items × Written (λ row. row.items) (codes ",") false rows.items cs
