-- How versions are written, as Semantic Versioning 2.0.0 has it.
-- Main words: IsIdentifier, IsPreRelease, IsVersion, HoldsVersion. Laws: VersionLaws.antt. Read first: InTurn.antt, Separated.antt of chumsky_exact.
use Rattle.std.specs.Prelude.{◌≡◌, ℕ, ◌==◌, ◌||◌, Bool, true, Option, List, [], ◌∷◌, codes, length, map, slice_index}
use Rattle.std.specs.Borrow.{Bor}
use Rattle.std.specs.Char.{is_ascii_alphanumeric, is_ascii_digit}
use Rattle.std.specs.List.{list_all}
use Rattle.std.specs.declared.alloc.Global.{Global}
use Rattle.std.specs.declared.vec.Vec.{Vec}
use Rattle.chumsky_text.specs.Decimals.{IsDecimal}
use Rattle.chumsky_exact.specs.InTurn.{InTurn, The, Is, IfAny}
use Rattle.chumsky_exact.specs.Lexemes.{AreSome}
use Rattle.chumsky_exact.specs.Separated.{Separated, if_any}
use Rattle.exact.specs.declared.version.Version.{Version}

-- a letter of ASCII, a digit or a hyphen
abbrev pub in_identifier : ℕ → Bool
in_identifier c = is_ascii_alphanumeric c || (c == 45)

-- an identifier: one such character at least
abbrev pub IsIdentifier : List ℕ → Type 0
IsIdentifier = AreSome in_identifier

-- an identifier of a pre-release: where it is digits alone and begins with a zero, it is that zero
abbrev pub IsPreRelease : List ℕ → Type 0
IsPreRelease w = IsIdentifier w × (list_all is_ascii_digit w ≡ true → slice_index w 0 ≡ 48 → length w ≡ 1)

-- what a version says: three numbers, of any size, and identifiers
pub record Parts : Type 0 where
  pub major : List ℕ
  pub minor : List ℕ
  pub patch : List ℕ
  pub pre_release : List (List ℕ)
  pub build : List (List ℕ)

-- a text is these words, with a dot between each two
abbrev pub Dotted : (List ℕ → Type 0) → List ℕ → List (List ℕ) → Type 0
Dotted P = Separated (λ w text. The P text w) (codes ".")

-- a text is this version, as `1.0.0-rc.1+exp.sha`: three numbers with no zero before another digit, and a dot between each two; the
-- identifiers of a pre-release behind a hyphen, where there are any; and those of a build behind a plus, where there are any
abbrev pub IsVersion : List ℕ → Parts → Type 0
IsVersion cs v =
    InTurn
    (The IsDecimal v.major ∷ Is (codes ".") ∷ The IsDecimal v.minor ∷ Is (codes ".") ∷ The IsDecimal v.patch
    ∷ IfAny (codes "-") (Dotted IsPreRelease) v.pre_release ∷ IfAny (codes "+") (Dotted IsIdentifier) v.build ∷ []) cs

-- the texts of slices, and what a version that holds slices says
abbrev pub texts : Vec (Bor (List ℕ)) Global → List (List ℕ)
texts v = map (λ s. s.now) v.items

abbrev pub parts_of : Version → Parts
parts_of v = record { major = v.major.now; minor = v.minor.now; patch = v.patch.now; pre_release = texts v.pre_release; build = texts v.build }

-- it holds the version that the text is
abbrev pub HoldsVersion : List ℕ → Version → Type 0
HoldsVersion cs v = IsVersion cs (parts_of v)

-- what is read of a version, part by part
abbrev pub listed : Option (Vec (Bor (List ℕ)) Global) → List (List ℕ)
listed = if_any (λ s. s.now)

abbrev pub parts_read : (((Bor (List ℕ) × Bor (List ℕ)) × Bor (List ℕ)) × Option (Vec (Bor (List ℕ)) Global)) × Option (Vec (Bor (List ℕ)) Global) → Parts
parts_read r = record { major = r.0.0.0.0.now; minor = r.0.0.0.1.now; patch = r.0.0.1.now; pre_release = listed r.0.1; build = listed r.1 }
