-- What the parsers of fields may do, and their languages.
-- Main words: quoted_meaning, quoted_language, unquoted_meaning, unquoted_language. Main laws: quoted-lawful, unquoted-lawful. Laws of words: CsvLaws.antt. Read first: Lawful.antt of chumsky_descent.
use Rattle.std.specs.Prelude.{◌≡◌, ℕ, nat_eq, Some, None, false, List, [], ◌∷◌, ⊤, String, string_bytes}
use Rattle.std.specs.Str.{encode_utf8_all}
use Rattle.std.specs.declared.alloc.Global.{Global}
use Rattle.chumsky_input.specs.declared.error.Error as error_trait
use Rattle.chumsky_input.specs.declared.inspector.Inspector as inspector_trait
use Rattle.chumsky_input.specs.declared.input.Input as input_trait
use Rattle.chumsky_input.specs.Outcome.{Meaning}
use Rattle.chumsky_input.specs.Wanted as wanted
use Rattle.chumsky_parser.specs.Chained.{Given}
use Rattle.chumsky_parser.specs.Choice.{OrElse}
use Rattle.chumsky_parser.specs.ChoiceLanguage.{or_language}
use Rattle.chumsky_parser.specs.FailureLaws.{SameUnit}
use Rattle.chumsky_parser.specs.Ignoring.{IgnoringFirst, IgnoringSecond, Between}
use Rattle.chumsky_parser.specs.Language.{Language}
use Rattle.chumsky_parser.specs.SequenceLanguage.{ignore_then_language, then_ignore_language, between_language}
use Rattle.chumsky_primitive.specs.Any.{CountsAs}
use Rattle.chumsky_primitive.specs.Just.{MeansJust}
use Rattle.chumsky_primitive.specs.OneOf.{MeansNoneOf, outside}
use Rattle.chumsky_primitive.specs.OneOfLaws.{tested-ends, tested-agrees}
use Rattle.chumsky_primitive.specs.PrimitiveLanguage.{one_language, literal_language}
use Rattle.chumsky_primitive.specs.PrimitiveLanguageLaws.{tested-accepts}
use Rattle.chumsky_items.specs.Consumers.{Collects}
use Rattle.chumsky_items.specs.ListLanguage.{collected_language}
use Rattle.chumsky_items.specs.RepeatedLanguage.{repeated_language}
use Rattle.chumsky_items.specs.Repeating.{Repeats}
use Rattle.chumsky_judge.specs.JudgedLanguage.{not_language, not-accepts}
use Rattle.chumsky_judge.specs.Not.{MeansNot}
use Rattle.chumsky_judge.specs.NotLaws.{not-ends, not-agrees}
use Rattle.chumsky_descent.specs.Lawful.{Lawful, AnyTwo, loosely, just-lawful, ignore_then-lawful, then_ignore-lawful, between-lawful, or-lawful, repeated-lawful}

-- a string holds these characters
abbrev pub HoldsChars : List ℕ → String Global → Type 0
HoldsChars cs s = string_bytes s ≡ encode_utf8_all cs

-- a field may end at a comma, CR or LF, or where the text ends; and what has no quotes around it has none in it either
abbrev pub field_ends : List ℕ
field_ends = 44 ∷ 13 ∷ 10 ∷ []

abbrev pub specials : List ℕ
specials = 44 ∷ 34 ∷ 13 ∷ 10 ∷ []

module _ {I Sp Cu Er St Mk Cx : Type 0} (source : input_trait.Ghosts I Cu ℕ Sp) (errors : error_trait.Ghosts Er I ℕ Sp) (states : inspector_trait.Ghosts St I Mk ℕ Sp) where
  -- a quote, and one character that is none of some
  abbrev MeansQuote : Meaning ℕ Cx states.Seen errors.Seen ℕ
  MeansQuote = MeansJust source nat_eq errors states (λ d. d ≡ 34) ⊤ (34 ∷ [])

  abbrev MeansOther : List ℕ → Meaning ℕ Cx states.Seen errors.Seen ℕ
  MeansOther = MeansNoneOf source (λ c. c) (λ _. ⊤) errors states nat_eq

  -- nothing, where a field may end
  abbrev MeansFieldEnd : Meaning ℕ Cx states.Seen errors.Seen (Unit {0})
  MeansFieldEnd = MeansNot source errors states (MeansOther field_ends)

  -- any number of such characters, in a string
  abbrev MeansMany : Meaning ℕ Cx states.Seen errors.Seen ℕ → Meaning ℕ Cx states.Seen errors.Seen (String Global)
  MeansMany part = Collects (Repeats states.mark states.back states.takes_no_memory part false 0 None) (Given (Some 0)) HoldsChars ⊥

  -- a character between quotes, where two quotes stand for one
  abbrev MeansPiece : Meaning ℕ Cx states.Seen errors.Seen ℕ
  MeansPiece = OrElse states.mark states.back states.takes_no_memory (MeansOther (34 ∷ [])) (IgnoringFirst MeansQuote MeansQuote)

  -- what the parsers of a field in quotes and of one without may do
  abbrev pub quoted_meaning : Meaning ℕ Cx states.Seen errors.Seen (String Global)
  quoted_meaning = Between MeansQuote (MeansMany MeansPiece) (IgnoringSecond MeansQuote MeansFieldEnd)

  abbrev pub unquoted_meaning : Meaning ℕ Cx states.Seen errors.Seen (String Global)
  unquoted_meaning = IgnoringSecond (MeansMany (MeansOther specials)) MeansFieldEnd

-- the same of languages
abbrev pub quote : Language ℕ ℕ
quote = literal_language nat_eq (34 ∷ []) (λ d. d ≡ 34) ⊤

abbrev pub other_than : List ℕ → Language ℕ ℕ
other_than cs = one_language (outside nat_eq cs) (CountsAs (λ c. c)) ((t : ℕ) → ⊤)

abbrev pub field_end : Language ℕ (Unit {0})
field_end = not_language (other_than field_ends)

abbrev pub many : Language ℕ ℕ → Language ℕ (String Global)
many F = collected_language (repeated_language F 0 None) HoldsChars ⊥

abbrev pub piece : Language ℕ ℕ
piece = or_language (other_than (34 ∷ [])) (ignore_then_language quote quote)

abbrev pub quoted_language : Language ℕ (String Global)
quoted_language = between_language quote (many piece) (then_ignore_language quote field_end)

abbrev pub unquoted_language : Language ℕ (String Global)
unquoted_language = then_ignore_language (many (other_than specials)) field_end

module _ {I Sp Cu Er St Mk Cx : Type 0} (source : input_trait.Ghosts I Cu ℕ Sp) (errors : error_trait.Ghosts Er I ℕ Sp) (states : inspector_trait.Ghosts St I Mk ℕ Sp) where
  -- each part is lawful
  abbrev IsLawful : {V : Type 0} → Meaning ℕ Cx states.Seen errors.Seen V → Language ℕ V → Type 0
  IsLawful = Lawful (errors.takes_no_memory × states.takes_no_memory)

  quote-lawful : IsLawful (MeansQuote source errors states) quote
  quote-lawful = just-lawful (34 ∷ []) source nat_eq errors states (λ d. d ≡ 34) ⊤

  other-lawful : (cs : List ℕ) → IsLawful (MeansOther source errors states cs) (other_than cs)
  other-lawful cs = record {
    ends = tested-ends source (λ c. c) (λ _. ⊤) errors states (wanted.SomethingElse ∷ []) (outside nat_eq cs);
    agrees = loosely (λ v w. v ≡ w) (tested-agrees source (λ c. c) (λ _. ⊤) errors states (wanted.SomethingElse ∷ []) (outside nat_eq cs));
    accepts = tested-accepts source errors states (λ c. c) (λ _. ⊤) (outside nat_eq cs) (wanted.SomethingElse ∷ []);
  }

  field_end-lawful : IsLawful (MeansFieldEnd source errors states) field_end
  field_end-lawful =
      let p = other-lawful field_ends in
      let part = MeansOther source errors states field_ends in
      let agrees = loosely SameUnit (not-agrees source errors states part AnyTwo p.agrees) in
      record { ends = not-ends source errors states part p.ends; agrees = agrees; accepts = not-accepts source errors states part p.accepts }

  pub quoted-lawful : IsLawful (quoted_meaning source errors states) quoted_language
  quoted-lawful = between-lawful quote-lawful (repeated-lawful (or-lawful (other-lawful (34 ∷ [])) (ignore_then-lawful quote-lawful quote-lawful))) (then_ignore-lawful quote-lawful field_end-lawful)

  pub unquoted-lawful : IsLawful (unquoted_meaning source errors states) unquoted_language
  unquoted-lawful = then_ignore-lawful (repeated-lawful (other-lawful specials)) field_end-lawful
