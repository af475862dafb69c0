-- Identifiers of ASCII: which words they are, and that their bytes are their characters.
-- Main words: IsName. Main laws: name-bytes, name-slice. Read first: TextLanguage.antt.
use Rattle.std.proofs.Common.{◌≡◌, ℕ, ◌<◌, Bool, true, ◌||◌, List, [], ◌∷◌, ◌∙◌, arith}
use Rattle.std.specs.Prelude.{◌==◌, slice_range}
use Rattle.std.specs.Char.{is_ascii_alphabetic, is_ascii_alphanumeric}
use Rattle.std.specs.Str.{encode_utf8_all, IsAscii}
use Rattle.std.proofs.lemmas.Bool.Decides.{nat_tests}
use Rattle.std.proofs.lemmas.Str.{encodes-IsAscii}
use Rattle.std.proofs.lemmas.Str.Ascii.{IsAscii-nil, IsAscii-cons}
use Rattle.chumsky_parser.specs.Slices.{IsSliceOf, slice-made}
use Rattle.chumsky_parser.specs.Words.{AllPass}
use Rattle.chumsky_text.specs.TextLanguage.{IsWord}

-- a letter or `_`; and after it a digit too
abbrev pub begins_name : ℕ → Bool
begins_name c = is_ascii_alphabetic c || (c == 95)

abbrev pub in_name : ℕ → Bool
in_name c = is_ascii_alphanumeric c || (c == 95)

-- an identifier of ASCII, as `ascii::ident` takes it
abbrev pub IsName : List ℕ → Type 0
IsName = IsWord begins_name (λ t. in_name)

begins_ascii : (c : ℕ) → begins_name c ≡ true → c < 128
begins_ascii c e = grind (arith, nat_tests)

in_ascii : (c : ℕ) → in_name c ≡ true → c < 128
in_ascii c e = grind (arith, nat_tests)

all_ascii : (cs : List ℕ) → AllPass in_name cs → IsAscii cs
all_ascii [] h = IsAscii-nil
all_ascii (c ∷ cs) h = IsAscii-cons c cs (in_ascii c h.0) (all_ascii cs h.1)

pub name-bytes : (w : List ℕ) → IsName w → encode_utf8_all w ≡ w
name-bytes [] h = absurd h
name-bytes (c ∷ cs) h = encodes-IsAscii (c ∷ cs) (IsAscii-cons c cs (begins_ascii c h.0) (all_ascii cs h.1))

-- the slice of an identifier holds its characters, byte for byte
pub name-slice : {V : Type 0} (seen : V → List ℕ) (w : List ℕ) (v : V) → IsName w → IsSliceOf (λ l i j u. seen u ≡ encode_utf8_all (slice_range l.list i j)) w v → seen v ≡ w
name-slice seen w v h x = slice-made seen encode_utf8_all w v x ∙ name-bytes w h
