-- The bits of the bytes of a text that lie below 128.
use Rattle.std.specs.Prelude.{ℕ, ◌^◌, cond, List, [], ◌∷◌, nat_lt, bit_or}

-- the bit of a byte below 128, and none of another
abbrev pub byte_bit : ℕ → ℕ
byte_bit b = cond (nat_lt b 128) (2 ^ b) 0

-- the bits n, and those of more bytes
abbrev pub more_bits : ℕ → List ℕ → ℕ
more_bits n [] = n
more_bits n (b ∷ bs) = more_bits (bit_or n (byte_bit b)) bs

abbrev pub text_bits : List ℕ → ℕ
text_bits bs = more_bits 0 bs
