-- Which texts are bits.
use Rattle.std.specs.Prelude.{◌≡◌, ℕ, ◌<◌, List, length, ◌⊎◌}
use Rattle.std.specs.declared.alloc.Global.{Global}
use Rattle.std.specs.declared.vec.Vec.{Vec}
use Rattle.chumsky_exact.specs.Rendered.{OfEach}

-- `0` or `1`
abbrev pub IsBit : ℕ → Type 0
IsBit c = (c ≡ 48) ⊎ (c ≡ 49)

-- it holds the characters of the text: bits, and one at least
pub record IsBits (cs : List ℕ) (v : Vec ℕ Global) : Type 0 where
  pub held : v.items ≡ cs
  pub bits : OfEach IsBit cs
  pub some : 0 < length cs
