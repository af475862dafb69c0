-- The parser of bits accepts just these.
-- Main laws: bits-sound, bits-complete. Read first: Bits.antt.
use Rattle.std.proofs.Common.{◌≡◌, ℕ, Bool, true, nat_eq, None, List, [], ◌∷◌, refl, ◌∙◌, arith, inl, inr}
use Rattle.std.proofs.lemmas.Bool.Decides.{nat_tests}
use Rattle.std.specs.Prelude.{codes, ⊤}
use Rattle.std.specs.declared.alloc.Global.{Global}
use Rattle.std.specs.declared.vec.Vec.{Vec}
use Rattle.chumsky_parser.specs.ItemsLanguage.{IsListFrom, ListFrom}
use Rattle.chumsky_parser.specs.Words.{IsOne, AllPass}
use Rattle.chumsky_primitive.specs.OneOf.{among}
use Rattle.chumsky_items.specs.ListLanguage.{Holding}
use Rattle.chumsky_items.specs.ListWords.{RepeatedWord, RepeatedEnd}
use Rattle.chumsky_exact.specs.Rendered.{OfEach, tokens-written, written-tokens}
use Rattle.exact.specs.Bits.{IsBit, IsBits}

-- the characters of the parser's set
abbrev pub is_bit : ℕ → Bool
is_bit = among nat_eq (codes "01")

pub bit-is : (c : ℕ) → is_bit c ≡ true → IsBit c
bit-is c e = grind (arith, nat_tests)

pub is-bit : (c : ℕ) → IsBit c → is_bit c ≡ true
is-bit c (inl e) = rw e refl
is-bit c (inr e) = rw e refl

bits-are : (cs : List ℕ) → AllPass is_bit cs → OfEach IsBit cs
bits-are [] h = tt
bits-are (c ∷ cs) h = (bit-is c h.0, bits-are cs h.1)

are-bits : (cs : List ℕ) → OfEach IsBit cs → AllPass is_bit cs
are-bits [] h = tt
are-bits (c ∷ cs) h = (is-bit c h.0, are-bits cs h.1)

-- what a word stands for holds its bits
pub bits-sound : (cs : List ℕ) (v : Vec ℕ Global) → Holding (ListFrom (λ k w c. RepeatedWord None (λ z. IsOne is_bit (λ t. c ≡ t) z) k w) (RepeatedEnd 1 None) 0) (λ xs v. v.items ≡ xs) cs v → IsBits cs v
bits-sound cs v h =
    let w = tokens-written is_bit 1 h.items cs h.is in
    record { held = h.held ∙ w.0; bits = bits-are cs w.1; some = omega (arith, w.2) }

-- and bits are a word
pub bits-complete : (cs : List ℕ) (v : Vec ℕ Global) → IsBits cs v → IsListFrom (RepeatedWord None (IsOne is_bit (λ t. ⊤))) (RepeatedEnd 1 None) 0 cs
bits-complete cs v i = written-tokens is_bit 1 cs (are-bits cs i.bits) (omega (arith, i.some))
