-- What the parser of numbers may do, and its language, part by part.
-- Main words: number_meaning, number_language. Laws: JsonNumbersLaws.antt. Read first: JsonNumbers.antt, Owned.antt.
use Rattle.std.specs.Prelude.{◌≡◌, ℕ, ◌==◌, cond, nat_eq, Bool, false, Option, List, [], ◌∷◌, ⊤, String, codes, string_bytes}
use Rattle.std.specs.Borrow.{Bor}
use Rattle.std.specs.Char.{is_digit}
use Rattle.std.specs.declared.alloc.Global.{Global}
use Rattle.chumsky_input.specs.declared.error.Error as error_trait
use Rattle.chumsky_input.specs.declared.inspector.Inspector as inspector_trait
use Rattle.chumsky_input.specs.declared.input.Input as input_trait
use Rattle.chumsky_input.specs.Layout.{Layout}
use Rattle.chumsky_input.specs.Outcome.{Meaning}
use Rattle.chumsky_input.specs.Wanted.{Label}
use Rattle.chumsky_parser.specs.Choice.{OrElse}
use Rattle.chumsky_parser.specs.ChoiceLanguage.{or_language}
use Rattle.chumsky_parser.specs.Ignoring.{IgnoringFirst, IgnoringSecond}
use Rattle.chumsky_parser.specs.Language.{Language}
use Rattle.chumsky_parser.specs.SequenceLanguage.{ignore_then_language, then_ignore_language}
use Rattle.chumsky_primitive.specs.Any.{CountsAs}
use Rattle.chumsky_primitive.specs.Just.{MeansJust}
use Rattle.chumsky_primitive.specs.OneOf.{MeansOneOf, among}
use Rattle.chumsky_primitive.specs.PrimitiveLanguage.{one_language, literal_language}
use Rattle.chumsky_combinator.specs.Optional.{OrNone}
use Rattle.chumsky_combinator.specs.OptionalLanguage.{or_not_language}
use Rattle.chumsky_context.specs.Covered.{Covers}
use Rattle.chumsky_context.specs.CoveredLanguage.{covered_language}
use Rattle.chumsky_text.specs.Decimals.{TextSlice}
use Rattle.chumsky_text.specs.TextLanguage.{word_language}
use Rattle.chumsky_text.specs.TextRun.{MeansWord}
use Rattle.exact.specs.Owned.{Owns, owned_language}

-- a slice of the text
abbrev pub IsSlice : Layout ℕ → ℕ → ℕ → Bor (List ℕ) → Type 0
IsSlice = TextSlice (λ s. s.now)

-- a text of its own, with the bytes of a slice
abbrev pub IsOwn : Bor (List ℕ) → String Global → Type 0
IsOwn slice text = string_bytes text ≡ slice.now

-- after a zero a number has no more digits
abbrev pub digit_after : ℕ → ℕ → Bool
digit_after first c = cond (first == 48) false (is_digit c 10)

module _ {I Sp Cu Er St Mk Cx : Type 0} (source : input_trait.Ghosts I Cu ℕ Sp) (errors : error_trait.Ghosts Er I ℕ Sp) (states : inspector_trait.Ghosts St I Mk ℕ Sp) where
  -- the part, or nothing
  abbrev pub MaybeSo : {V : Type 0} → Meaning ℕ Cx states.Seen errors.Seen V → Meaning ℕ Cx states.Seen errors.Seen (Option V)
  MaybeSo = OrNone states.mark states.back states.takes_no_memory

  -- one character, one of some, and digits; before a point there is no zero before another digit
  abbrev pub MeansFixed : ℕ → Meaning ℕ Cx states.Seen errors.Seen ℕ
  MeansFixed c = MeansJust source nat_eq errors states (λ d. d ≡ c) ⊤ (c ∷ [])

  abbrev pub MeansAmong : List ℕ → Meaning ℕ Cx states.Seen errors.Seen ℕ
  MeansAmong = MeansOneOf source (λ c. c) (λ _. ⊤) errors states nat_eq

  abbrev pub MeansDigits : Meaning ℕ Cx states.Seen errors.Seen (Bor (List ℕ))
  MeansDigits = MeansWord source IsSlice errors states (λ t. is_digit t 10) (λ t c. is_digit c 10) (Label (codes "digit") ∷ []) (λ t. Label (codes "digit") ∷ [])

  abbrev pub MeansInt : Meaning ℕ Cx states.Seen errors.Seen (Bor (List ℕ))
  MeansInt = MeansWord source IsSlice errors states (λ t. is_digit t 10) digit_after (Label (codes "int") ∷ []) (λ t. cond (t == 48) [] (Label (codes "digit") ∷ []))

  -- a point and digits; a letter, a sign or none, and digits
  abbrev pub MeansFraction : Meaning ℕ Cx states.Seen errors.Seen (Bor (List ℕ))
  MeansFraction = IgnoringFirst (MeansFixed 46) MeansDigits

  abbrev pub MeansExponent : Meaning ℕ Cx states.Seen errors.Seen (Bor (List ℕ))
  MeansExponent = IgnoringFirst (IgnoringFirst (MeansAmong (101 ∷ 69 ∷ [])) (MaybeSo (MeansAmong (43 ∷ 45 ∷ [])))) MeansDigits

  -- a fraction and maybe an exponent, or an exponent alone
  abbrev pub MeansMore : Meaning ℕ Cx states.Seen errors.Seen (Bor (List ℕ))
  MeansMore = OrElse states.mark states.back states.takes_no_memory (IgnoringSecond MeansFraction (MaybeSo MeansExponent)) MeansExponent

  -- a minus or none, and digits
  abbrev pub MeansWhole : Meaning ℕ Cx states.Seen errors.Seen (Bor (List ℕ))
  MeansWhole = IgnoringFirst (MaybeSo (MeansFixed 45)) MeansInt

  -- what the parser of numbers may do
  abbrev pub number_meaning : Meaning ℕ Cx states.Seen errors.Seen (String Global)
  number_meaning = Owns IsOwn (Covers IsSlice (IgnoringSecond MeansWhole (MaybeSo MeansMore)))

-- the same of languages
abbrev pub fixed : ℕ → Language ℕ ℕ
fixed c = literal_language nat_eq (c ∷ []) (λ d. d ≡ c) ⊤

abbrev pub one_among : List ℕ → Language ℕ ℕ
one_among cs = one_language (among nat_eq cs) (CountsAs (λ c. c)) ((t : ℕ) → ⊤)

abbrev pub digits_language : Language ℕ (Bor (List ℕ))
digits_language = word_language IsSlice (λ t. is_digit t 10) (λ t c. is_digit c 10)

abbrev pub int_language : Language ℕ (Bor (List ℕ))
int_language = word_language IsSlice (λ t. is_digit t 10) digit_after

abbrev pub fraction_language : Language ℕ (Bor (List ℕ))
fraction_language = ignore_then_language (fixed 46) digits_language

-- the letter of an exponent and its sign
abbrev pub signed_language : Language ℕ (Option ℕ)
signed_language = ignore_then_language (one_among (101 ∷ 69 ∷ [])) (or_not_language (one_among (43 ∷ 45 ∷ [])))

abbrev pub exponent_language : Language ℕ (Bor (List ℕ))
exponent_language = ignore_then_language signed_language digits_language

-- a fraction and maybe an exponent
abbrev pub pointed_language : Language ℕ (Bor (List ℕ))
pointed_language = then_ignore_language fraction_language (or_not_language exponent_language)

-- the same, or an exponent alone
abbrev pub more_language : Language ℕ (Bor (List ℕ))
more_language = or_language pointed_language exponent_language

-- what stands before: a minus and digits
abbrev pub whole_language : Language ℕ (Bor (List ℕ))
whole_language = ignore_then_language (or_not_language (fixed 45)) int_language

-- the language of the parser of numbers
abbrev pub number_language : Language ℕ (String Global)
number_language = owned_language IsOwn (covered_language IsSlice (then_ignore_language whole_language (or_not_language more_language)))
