-- Combinators that make lawful meanings of lawful ones, beside those of chumsky_descent; and the parser of numbers of JSON.
-- Main laws: one_of-lawful, slice-lawful, owned-lawful, number-lawful. Read first: Lawful.antt of chumsky_descent, JsonNumbersLanguage.antt.
use Rattle.std.specs.Prelude.{◌≡◌, ℕ, nat_eq, Bool, List, [], ◌∷◌, map, ⊤}
use Rattle.chumsky_input.specs.declared.error.Error as error_trait
use Rattle.chumsky_input.specs.declared.inspector.Inspector as inspector_trait
use Rattle.chumsky_input.specs.declared.input.Input as input_trait
use Rattle.chumsky_input.specs.Layout.{Layout}
use Rattle.chumsky_input.specs.Outcome.{Meaning}
use Rattle.chumsky_input.specs.Wanted as wanted
use Rattle.chumsky_parser.specs.Language.{Language}
use Rattle.chumsky_primitive.specs.Any.{CountsAs}
use Rattle.chumsky_primitive.specs.OneOf.{MeansOneOf, among}
use Rattle.chumsky_primitive.specs.OneOfLaws.{tested-ends, tested-agrees}
use Rattle.chumsky_primitive.specs.PrimitiveLanguage.{one_language}
use Rattle.chumsky_primitive.specs.PrimitiveLanguageLaws.{tested-accepts}
use Rattle.chumsky_context.specs.Covered.{Covers}
use Rattle.chumsky_context.specs.CoveredLanguage.{covered_language, covers-accepts}
use Rattle.chumsky_context.specs.CoveredLaws.{covers-ends, covers-agree}
use Rattle.chumsky_descent.specs.Lawful.{Lawful, AnyTwo, loosely, just-lawful, word-lawful, ignore_then-lawful, then_ignore-lawful, or_not-lawful, or-lawful}
use Rattle.exact.specs.Owned.{Owns, owned_language, owns-ends, owns-agrees, owned-accepts}
use Rattle.exact.specs.JsonNumbersLanguage.{MeansFixed, MeansAmong, MeansDigits, MeansFraction, MeansExponent, MeansMore, MeansWhole, number_meaning, fixed, one_among, digits_language, fraction_language, exponent_language, more_language, whole_language, number_language}

-- `one_of(members)`
pub one_of-lawful : {I Tok Sp Cu Er St Mk Cx S : Type 0} (members : List Tok) (source : input_trait.Ghosts I Cu Tok Sp) (seen : Tok → S) (safe : Tok → Type 0) (errors : error_trait.Ghosts Er I Tok Sp) (states : inspector_trait.Ghosts St I Mk Tok Sp) (equal : Tok → Tok → Bool)
    → Lawful (errors.takes_no_memory × states.takes_no_memory) (MeansOneOf {Cx = Cx} source seen safe errors states equal members) (one_language (among equal members) (CountsAs seen) ((t : Tok) → safe t))
one_of-lawful members source seen safe errors states equal = record {
  ends = tested-ends source seen safe errors states (map wanted.Token members) (among equal members);
  agrees = loosely (λ v w. seen v ≡ seen w) (tested-agrees source seen safe errors states (map wanted.Token members) (among equal members));
  accepts = tested-accepts source errors states seen safe (among equal members) (map wanted.Token members);
}

module _ {Tok Cx St Er spare V W : Type 0} {part : Meaning Tok Cx St Er V} {F : Language Tok V} (p : Lawful spare part F) where
  -- `part.to_slice()`
  pub slice-lawful : {is : Layout Tok → ℕ → ℕ → W → Type 0} → Lawful spare (Covers is part) (covered_language is F)
  slice-lawful {is} = record { ends = covers-ends is part p.ends; agrees = covers-agree is part AnyTwo AnyTwo (λ ts i j v w e d. tt) p.agrees; accepts = covers-accepts is part p.accepts }

  -- `Owned { parser: part }`
  pub owned-lawful : {copies : V → W → Type 0} → Lawful spare (Owns copies part) (owned_language copies F)
  owned-lawful {copies} = record { ends = owns-ends copies part p.ends; agrees = owns-agrees copies part p.agrees; accepts = owned-accepts copies part p.accepts }

module _ {I Sp Cu Er St Mk Cx : Type 0} (source : input_trait.Ghosts I Cu ℕ Sp) (errors : error_trait.Ghosts Er I ℕ Sp) (states : inspector_trait.Ghosts St I Mk ℕ Sp) where
  -- a part of the parser of numbers is lawful
  abbrev IsLawful : {V : Type 0} → Meaning ℕ Cx states.Seen errors.Seen V → Language ℕ V → Type 0
  IsLawful = Lawful (errors.takes_no_memory × states.takes_no_memory)

  fixed-lawful : (c : ℕ) → IsLawful (MeansFixed source errors states c) (fixed c)
  fixed-lawful c = just-lawful (c ∷ []) source nat_eq errors states (λ d. d ≡ c) ⊤

  among-lawful : (cs : List ℕ) → IsLawful (MeansAmong source errors states cs) (one_among cs)
  among-lawful cs = one_of-lawful cs source (λ c. c) (λ _. ⊤) errors states nat_eq

  digits-lawful : IsLawful (MeansDigits source errors states) digits_language
  digits-lawful = word-lawful

  fraction-lawful : IsLawful (MeansFraction source errors states) fraction_language
  fraction-lawful = ignore_then-lawful (fixed-lawful 46) digits-lawful

  exponent-lawful : IsLawful (MeansExponent source errors states) exponent_language
  exponent-lawful = ignore_then-lawful (ignore_then-lawful (among-lawful (101 ∷ 69 ∷ [])) (or_not-lawful (among-lawful (43 ∷ 45 ∷ [])))) digits-lawful

  more-lawful : IsLawful (MeansMore source errors states) more_language
  more-lawful = or-lawful (then_ignore-lawful fraction-lawful (or_not-lawful exponent-lawful)) exponent-lawful

  whole-lawful : IsLawful (MeansWhole source errors states) whole_language
  whole-lawful = ignore_then-lawful (or_not-lawful (fixed-lawful 45)) word-lawful

  -- the parser of numbers
  pub number-lawful : IsLawful (number_meaning source errors states) number_language
  number-lawful = owned-lawful (slice-lawful (then_ignore-lawful whole-lawful (or_not-lawful more-lawful)))
