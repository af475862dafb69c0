-- Characters in UTF-8, one after another.
use Rattle.std.proofs.Common.{◌≡◌, ℕ, List, [], ◌∷◌, flat_map, refl}
use Rattle.std.specs.Char.{encode_utf8}
use Rattle.std.specs.Str.{encode_utf8_all}

-- the bytes of a text are those of its characters
pub flat_map-all : (cs : List ℕ) → flat_map encode_utf8 cs ≡ encode_utf8_all cs
flat_map-all [] = refl
flat_map-all (c ∷ cs) = rw (flat_map-all cs) refl
