-- How the header of a packet is laid out.
use Rattle.std.specs.Prelude.{◌≡◌, ℕ, ◌+◌, ◌*◌, List, [], ◌∷◌, ◌++◌, ◌⊎◌, codes}
use Rattle.examples.specs.declared.header.Header.{Header}

-- these bytes are a header: three letters, a version that is known, flags, and how many bytes follow, the high byte first
pub record IsHeader (bytes : List ℕ) (header : Header) : Type 0 where
  pub high : ℕ
  pub low : ℕ
  pub all : bytes ≡ codes "PKT" ++ (header.version ∷ header.flags ∷ high ∷ low ∷ [])
  pub known : (header.version ≡ 1) ⊎ (header.version ≡ 2)
  pub length : header.length ≡ high * 256 + low
