-- The function that reads values of JSON accepts just these.
-- Main word: grammar. Main laws: number-is, string-is, values-intended, refused-deep. Read first: JsonLaws.antt, JsonLevelsLaws.antt, and CallLanguage.antt of chumsky_descent.
use Rattle.std.proofs.Common.{◌≡◌, ℕ, suc, ◌≤◌, nat_eq, List, [], ◌∷◌, length, refl, sym, ◌∙◌, ap}
use Rattle.chumsky_parser.specs.Ending.{At, Refused, DoesNotEnd, and_then}
use Rattle.chumsky_parser.specs.Language.{Language}
use Rattle.chumsky_parser.specs.Words.{StopsAt}
use Rattle.chumsky_primitive.specs.EndLanguage.{end_ends}
use Rattle.chumsky_primitive.specs.PrimitiveLanguage.{literal_ends}
use Rattle.chumsky_descent.specs.CallLanguage.{call_language, IsIntended, call-is_intended}
use Rattle.chumsky_descent.specs.Exactly.{grammar_of}
use Rattle.exact.specs.declared.json_value.Json.{Json}
use Rattle.chumsky_exact.specs.Deep.{IsDeep, deep-unless}
use Rattle.exact.specs.JsonForms.{IsElement, IsJson}
use Rattle.exact.specs.JsonNumbers.{number_goes_on}
use Rattle.exact.specs.JsonNumbersLanguage.{number_language}
use Rattle.exact.specs.JsonNumbersLaws.{number-sound, number-some, number-complete, number-follow, number-unambiguous, number-fails}
use Rattle.exact.specs.JsonStringsLaws.{string_language, string-sound, string-some, string-complete, string-unambiguous}
use Rattle.exact.specs.JsonGrammar.{begins_value, past_blanks, values}
use Rattle.exact.specs.JsonLaws.{IsNumberLanguage, IsStringLanguage, literal_fails, none_then, blanks-follow, kept}
use Rattle.exact.specs.JsonLevels.{levels}
use Rattle.exact.specs.JsonLevelsLaws.{IsShallow, value-taken, value-fails}
use Rattle.chumsky_exact.specs.Taken.{AlwaysTakes, taken-by_body}
use Rattle.exact.specs.contracts.json.OfValueBodyRefStrJsonEmptyText.TheImpl.{ghosts, no_dict}
use denote.Builtin.{unit}

-- the language of the function's body, of that of a call in it
abbrev pub grammar : Language ℕ Json → Language ℕ Json
grammar = grammar_of (λ call. (ghosts unit call no_dict).body tt)

-- its numbers and strings are those of JSON
pub number-is : IsNumberLanguage number_language
number-is = record {
  said = refl;
  moves = refl;
  sure = refl;
  sound = number-sound;
  some = number-some;
  complete = λ w i. number-complete i;
  follows = number-follow;
  unambiguous = number-unambiguous;
  fails = number-fails;
}

string-fails : (ts : List ℕ) → StopsAt (nat_eq 34) ts → DoesNotEnd (string_language.ends ts)
string-fails [] t = tt
string-fails (c ∷ cs) t = none_then _ (literal_ends nat_eq (34 ∷ []) (c ∷ cs)) (literal_fails 34 [] cs c t)

pub string-is : IsStringLanguage string_language
string-is = record {
  said = refl;
  moves = refl;
  sure = refl;
  sound = string-sound;
  some = string-some;
  complete = λ w cs i. string-complete i;
  follows = λ rest. tt;
  unambiguous = string-unambiguous;
  fails = string-fails;
}

-- so its body keeps what is intended
body-kept : (call : Language ℕ Json) (depth : ℕ) → IsIntended values call depth → IsIntended values (grammar call) (suc depth)
body-kept call depth i =
    let k = kept number_language string_language number-is string-is call depth i in
    record {
      said = k.said;
      moves = k.moves;
      only = k.only;
      given = k.given;
      each = k.each;
      follows = k.follows;
      fails = k.fails;
      unambiguous = k.unambiguous;
      refused = k.refused;
    }

-- and the function has the language that is intended
pub values-intended : (depth : ℕ) → IsIntended values (call_language values grammar depth) depth
values-intended = call-is_intended values grammar body-kept

-- a value of fewer levels than calls may be open is taken
values-taken : (depth : ℕ) → AlwaysTakes (call_language values grammar depth).ends (IsShallow depth) (StopsAt number_goes_on)
values-taken =
    taken-by_body IsElement levels (StopsAt number_goes_on) (λ ts. StopsAt begins_value (past_blanks ts)) values grammar (value-fails number-is string-is) (value-taken number-is string-is)

end_known : (ts : List ℕ) → end_ends ts ≡ Refused → ⊥
end_known [] e = cc e
end_known (c ∷ cs) e = cc e

-- so a text that is refused, and is no shorter than the limit, is deep
pub refused-deep : (limit : ℕ) (text : List ℕ) → and_then (λ ts. end_ends (past_blanks ts)) ((call_language values grammar limit).ends text) ≡ Refused → limit ≤ length text → IsDeep IsJson levels limit text
refused-deep limit text e l = deep-unless IsJson levels limit text l (λ f j k.
    let d : (call_language values grammar limit).ends text ≡ At j.after = ap (call_language values grammar limit).ends j.all ∙ values-taken limit j.element j.after (f, j.is, k) (blanks-follow j.after j.blank) in
    end_known (past_blanks j.after) (sym (ap (and_then (λ ts. end_ends (past_blanks ts))) d) ∙ e))
