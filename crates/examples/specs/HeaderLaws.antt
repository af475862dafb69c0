-- The parser of headers accepts just these.
-- Main laws: header-sound, header-complete. Read first: Header.antt.
use Rattle.std.proofs.Common.{◌≡◌, ℕ, ◌+◌, ◌*◌, Bool, true, nat_eq, List, [], ◌∷◌, ◌++◌, refl, ◌∙◌, arith, inl, inr}
use Rattle.std.proofs.lemmas.Bool.Decides.{nat_tests}
use Rattle.std.specs.Prelude.{⊤, ◌⊎◌, codes}
use Rattle.chumsky_parser.specs.Words.{Joined, IsOne}
use Rattle.chumsky_primitive.specs.Literals.{equals-same, same-equals}
use Rattle.chumsky_primitive.specs.OneOf.{among}
use Rattle.chumsky_primitive.specs.PrimitiveLanguage.{Equals}
use Rattle.examples.specs.declared.header.Header.{Header}
use Rattle.examples.specs.Header.{IsHeader}

abbrev pub is_version : ℕ → Bool
is_version = among nat_eq (1 ∷ 2 ∷ [])

abbrev pub any_byte : ℕ → Bool
any_byte _ = true

-- a byte that passes a test, as a value
abbrev pub ByteOf : (ℕ → Bool) → ℕ → List ℕ → Type 0
ByteOf test v = IsOne test (λ t. v ≡ t)

version-known : (v : ℕ) → is_version v ≡ true → (v ≡ 1) ⊎ (v ≡ 2)
version-known v e = grind (arith, nat_tests)

known-version : (v : ℕ) → (v ≡ 1) ⊎ (v ≡ 2) → is_version v ≡ true
known-version v (inl e) = rw e refl
known-version v (inr e) = rw e refl

-- the words of these values; of what the letters stand for there is P
abbrev pub HeaderOf : Type 0 → ℕ → ℕ → ℕ → ℕ → List ℕ → Type 0
HeaderOf P version flags high low = Joined (Joined (Joined (Joined (λ u. Equals nat_eq (codes "PKT") u × P) (ByteOf is_version version)) (ByteOf any_byte flags)) (ByteOf any_byte high)) (ByteOf any_byte low)

-- what a word stands for is its header
pub header-sound : {P : Type 0} (bytes : List ℕ) (version flags high low : ℕ) (header : Header) → HeaderOf P version flags high low bytes
    → header.version ≡ version → header.flags ≡ flags → header.length ≡ high * 256 + low → IsHeader bytes header
header-sound bytes version flags high low header j ev ef el =
    let a = j.is_first in
    let b = a.is_first in
    let c = b.is_first in
    let s : c.first ≡ codes "PKT" = equals-same (codes "PKT") c.first c.is_first.0 in
    let v : c.second ≡ header.version ∷ [] = cc (c.is_second.all, c.is_second.is, ev) in
    let f : b.second ≡ header.flags ∷ [] = cc (b.is_second.all, b.is_second.is, ef) in
    let h : a.second ≡ high ∷ [] = cc (a.is_second.all, a.is_second.is) in
    let l : j.second ≡ low ∷ [] = cc (j.is_second.all, j.is_second.is) in
    let k : header.version ≡ c.is_second.token = ev ∙ c.is_second.is in
    record {
      high = high;
      low = low;
      all = rw (j.all, a.all, b.all, c.all, s, v, f, h, l) refl;
      known = rw k (version-known c.is_second.token c.is_second.passes);
      length = el;
    }

one : (test : ℕ → Bool) (t : ℕ) → test t ≡ true → IsOne test (λ t. ⊤) (t ∷ [])
one test t p = record { token = t; all = refl; passes = p; is = tt }

-- and a header is a word
pub header-complete : (bytes : List ℕ) (header : Header) → IsHeader bytes header
    → Joined (Joined (Joined (Joined (Equals nat_eq (codes "PKT")) (IsOne is_version (λ t. ⊤))) (IsOne any_byte (λ t. ⊤))) (IsOne any_byte (λ t. ⊤))) (IsOne any_byte (λ t. ⊤)) bytes
header-complete bytes header i = record {
  first = codes "PKT" ++ (header.version ∷ header.flags ∷ i.high ∷ []);
  second = i.low ∷ [];
  all = i.all;
  is_second = one any_byte i.low refl;
  is_first = record {
    first = codes "PKT" ++ (header.version ∷ header.flags ∷ []);
    second = i.high ∷ [];
    all = refl;
    is_second = one any_byte i.high refl;
    is_first = record {
      first = codes "PKT" ++ (header.version ∷ []);
      second = header.flags ∷ [];
      all = refl;
      is_second = one any_byte header.flags refl;
      is_first = record {
        first = codes "PKT";
        second = header.version ∷ [];
        all = refl;
        is_first = same-equals (codes "PKT");
        is_second = one is_version header.version (known-version header.version i.known);
      };
    };
  };
}
