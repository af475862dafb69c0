-- The parser of versions accepts just these, and a text is one version at most.
-- Main laws: version, version-sound, version-complete, version-once; fits-by_word. Read first: Version.antt; Pieces.antt, Composed.antt of chumsky_exact.
use Rattle.std.proofs.Common.{◌≡◌, ℕ, ◌<◌, Bool, true, nat_lt, ◌&&◌, Option, List, [], ◌∷◌, refl, sym, ◌∙◌, ap, subst, arith}
use Rattle.std.specs.Prelude.{◌==◌, not, length, codes, slice_index}
use Rattle.std.specs.Borrow.{Bor}
use Rattle.std.specs.Char.{is_ascii_digit}
use Rattle.std.specs.List.{list_all}
use Rattle.std.specs.Str.{encode_utf8_all}
use Rattle.std.specs.declared.alloc.Global.{Global}
use Rattle.std.specs.declared.vec.Vec.{Vec}
use Rattle.std.proofs.lemmas.Bool.Decides.{nat_tests}
use Rattle.chumsky_parser.specs.Slices.{IsSliceOf}
use Rattle.chumsky_text.specs.Decimals.{TextSlice, slice-bytes}
use Rattle.chumsky_exact.specs.Composed.{optional, separated, if_any-once}
use Rattle.chumsky_exact.specs.InTurn.{The, IfAny, Tree, Part, Then, leaves, Words, Turn, from_of, as_defined, as_parsed, turned}
use Rattle.chumsky_exact.specs.Lexemes.{some, tested, number, fixed, some-bytes, sliced_is, sliced_number, spelled, the_number, spells}
use Rattle.chumsky_exact.specs.Pieces.{Piece, word_of, row-once}
use Rattle.chumsky_exact.specs.Ranges.{Ranges, within, Only}
use Rattle.chumsky_exact.specs.Separated.{heard_if_any, told_if_any}
use Rattle.exact.specs.Version.{in_identifier, IsIdentifier, IsPreRelease, Parts, Dotted, IsVersion, parts_of, HoldsVersion, parts_read}
use Rattle.exact.specs.declared.version.Version.{Version}

abbrev pub Slice : Type 0
Slice = Bor (List ℕ)

abbrev pub Slices : Type 0
Slices = Option (Vec Slice Global)

-- digits with a zero before another
abbrev pub has_leading_zero : List ℕ → Bool
has_leading_zero w = (nat_lt 1 (length w) && (slice_index w 0 == 48)) && list_all is_ascii_digit w

abbrev pub fits_pre_release : List ℕ → Bool
fits_pre_release w = not (has_leading_zero (encode_utf8_all w))

-- what is tested of the slice of a word
pub fits-by_word : (w : List ℕ) (s : Slice) (x : Bool) → IsSliceOf (TextSlice (λ t. t.now)) w s → x ≡ not (has_leading_zero s.now) → x ≡ fits_pre_release w
fits-by_word w s x i g = g ∙ ap (λ z. not (has_leading_zero z)) (slice-bytes (λ t. t.now) w s i)

pub zero-led : (w : List ℕ) (r : Bool) → nat_lt 1 (length w) ≡ true → (slice_index w 0 == 48) ≡ true → r ≡ list_all is_ascii_digit w → r ≡ has_leading_zero w
zero-led w r l s e = e ∙ sym (ap (λ b. (b && (slice_index w 0 == 48)) && list_all is_ascii_digit w) l ∙ ap (λ b. b && list_all is_ascii_digit w) s)

-- where there is none, digits that begin with a zero are that zero; and the other way round
plain : (w : List ℕ) → not (has_leading_zero w) ≡ true → list_all is_ascii_digit w ≡ true → slice_index w 0 ≡ 48 → length w ≡ 1
plain [] f d z = absurd (omega (arith, z))
plain (c ∷ cs) f d z = grind (arith, nat_tests)

is_plain : (w : List ℕ) → (list_all is_ascii_digit w ≡ true → slice_index w 0 ≡ 48 → length w ≡ 1) → not (has_leading_zero w) ≡ true
is_plain w h = grind (arith, nat_tests, h)

-- identifiers, of which the bytes are the characters; and those of a pre-release
abbrev identifier_ranges : Ranges
identifier_ranges = (45, 45) ∷ (48, 57) ∷ (65, 90) ∷ (97, 122) ∷ []

pub are_in : (c : ℕ) → in_identifier c ≡ true → within identifier_ranges c ≡ true
are_in c e = grind (arith, nat_tests)

pub are_all : (c : ℕ) → within identifier_ranges c ≡ true → in_identifier c ≡ true
are_all c e = grind (arith, nat_tests)

in_ascii : (c : ℕ) → in_identifier c ≡ true → c < 128
in_ascii c e = grind (arith, nat_tests)

abbrev pub identifier : Piece
identifier = some in_identifier identifier_ranges are_in are_all

abbrev pub pre_identifier : Piece
pre_identifier = tested fits_pre_release identifier

-- what a word of each says with its slice
abbrev pub IdentifierOf : List ℕ → Slice → Type 0
IdentifierOf w s = IsIdentifier w × IsSliceOf (TextSlice (λ t. t.now)) w s

pub identifier-is : (w : List ℕ) (s : Slice) → IdentifierOf w s → The IsIdentifier s.now w
identifier-is w s i = sliced_is IsIdentifier (some-bytes in_identifier in_ascii) s w i

fits-plain : (w : List ℕ) → IsIdentifier w → fits_pre_release w ≡ not (has_leading_zero w)
fits-plain w i = ap (λ z. not (has_leading_zero z)) (some-bytes in_identifier in_ascii w i)

pub pre_release-is : (w : List ℕ) (s : Slice) → IdentifierOf w s × (fits_pre_release w ≡ true) → The IsPreRelease s.now w
pre_release-is w s i = ((i.0.0, plain w (sym (fits-plain w i.0.0) ∙ i.1)), (identifier-is w s i.0).1)

pub pre_release-word : (w text : List ℕ) → The IsPreRelease text w → IsIdentifier w × (fits_pre_release w ≡ true)
pre_release-word w text i = (i.0.0, fits-plain w i.0.0 ∙ is_plain w i.0.1)

-- a version as its parser nests its parts
abbrev pub nested : {A : Type 1} → A → A → A → A → A → A → Tree A
nested major dot minor patch pre_release build = Then (Then (Then (Then (Then (Then (Part major) (Part dot)) (Part minor)) (Part dot)) (Part patch)) (Part pre_release)) (Part build)

abbrev pub version : Tree Piece
version =
    let pre_release = Then (Part (fixed (codes "-"))) (Part (separated (Part pre_identifier) (codes ".") refl)) in
    let build = Then (Part (fixed (codes "+"))) (Part (separated (Part identifier) (codes ".") refl)) in
    nested number (fixed (codes ".")) number number (optional pre_release refl) (optional build refl)

-- what is known of each part of a word, with what that says; and what a version says of each, with the words that these are
abbrev pub Reading : Type 0
Reading = (((Slice × Slice) × Slice) × Slices) × Slices

abbrev pub heard : Reading → Tree (Turn ℕ)
heard r =
    let pre_release = heard_if_any (λ w s. IdentifierOf w s × (fits_pre_release w ≡ true)) (λ w text. The IsPreRelease text w) (λ s. s.now) pre_release-is (codes "-") (codes ".") r.0.1 in
    let build = heard_if_any IdentifierOf (λ w text. The IsIdentifier text w) (λ s. s.now) identifier-is (codes "+") (codes ".") r.1 in
    nested (sliced_number r.0.0.0.0) (spelled (codes ".")) (sliced_number r.0.0.0.1) (sliced_number r.0.0.1) pre_release build

abbrev pub told : Parts → Tree (Turn ℕ)
told v =
    let pre_release = told_if_any (λ w text. The IsPreRelease text w) pre_identifier.word pre_release-word (codes "-") (codes ".") v.pre_release in
    let build = told_if_any (λ w text. The IsIdentifier text w) identifier.word (λ w text i. i.0) (codes "+") (codes ".") v.build in
    nested (the_number v.major) (spells (codes ".")) (the_number v.minor) (the_number v.patch) pre_release build

-- so a word stands for the version of the text, and a version is such a word
pub version-sound : (cs : List ℕ) (v : Version) → (r : Reading) × Words from_of (heard r) cs × (parts_of v ≡ parts_read r) → HoldsVersion cs v
version-sound cs v s = subst (IsVersion cs) (sym s.2) (as_defined (heard s.0) cs s.1)

pub version-complete : (cs : List ℕ) (v : Parts) → IsVersion cs v → Words word_of version cs
version-complete cs v i = as_parsed (told v) cs i

-- behind a sign a text is one list of identifiers at most
pre_release-once : {w u : List ℕ} (xs ys : List (List ℕ)) → w ≡ u → IfAny (codes "-") (Dotted IsPreRelease) xs w → IfAny (codes "-") (Dotted IsPreRelease) ys u → xs ≡ ys
pre_release-once {w} {u} xs ys e i j = if_any-once (Part pre_identifier) (codes ".") refl _ pre_release-word (λ w y z k l. sym k.1 ∙ l.1) 45 [] w u xs ys e i j

build-once : {w u : List ℕ} (xs ys : List (List ℕ)) → w ≡ u → IfAny (codes "+") (Dotted IsIdentifier) xs w → IfAny (codes "+") (Dotted IsIdentifier) ys u → xs ≡ ys
build-once {w} {u} xs ys e i j = if_any-once (Part identifier) (codes ".") refl _ (λ w text k. k.0) (λ w y z k l. sym k.1 ∙ l.1) 43 [] w u xs ys e i j

abbrev parts : List ℕ → List ℕ → List ℕ → List (List ℕ) → List (List ℕ) → Parts
parts a b c p q = record { major = a; minor = b; patch = c; pre_release = p; build = q }

-- so a text is one version at most: nothing comes after it
pub version-once : (cs : List ℕ) (v u : Parts) → IsVersion cs v → IsVersion cs u → v ≡ u
version-once cs v u i j =
    let r = (row-once (leaves version []) (Only []) refl cs cs [] [] (turned (leaves (told v) []) cs i) (turned (leaves (told u) []) cs j) tt tt refl).0 in
    let minor = i.is_second.is_second in
    let patch = minor.is_second.is_second in
    let others = j.is_second.is_second in
    let last = others.is_second.is_second in
    let a : v.major ≡ u.major = sym i.is_first.1 ∙ r.0 ∙ j.is_first.1 in
    let b : v.minor ≡ u.minor = sym minor.is_first.1 ∙ r.1.1.0 ∙ others.is_first.1 in
    let c : v.patch ≡ u.patch = sym patch.is_first.1 ∙ r.1.1.1.1.0 ∙ last.is_first.1 in
    let p = pre_release-once v.pre_release u.pre_release r.1.1.1.1.1.0 patch.is_second.is_first last.is_second.is_first in
    let q = build-once v.build u.build r.1.1.1.1.1.1.0 patch.is_second.is_second.is_first last.is_second.is_second.is_first in
    let all : parts v.major v.minor v.patch v.pre_release v.build ≡ parts u.major u.minor u.patch u.pre_release u.build = cc (a, b, c, p, q) in
    all
