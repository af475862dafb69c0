-- The grammar of JSON: the languages of its parsers, over those of numbers and strings.
-- Main words: mark, scalar_language, listed_language, member_language, value_language, values. Laws: JsonLaws.antt. Read first: JsonForms.antt, and Language.antt of the parsers.
use Rattle.std.specs.Prelude.{◌≡◌, ℕ, ◌||◌, nat_eq, true, false, Bool, None, List, [], ◌∷◌, length, drop, codes, String, ⊤}
use Rattle.std.specs.Array.{AllZipBelow}
use Rattle.std.specs.Borrow.{Bor}
use Rattle.std.specs.declared.alloc.Global.{Global}
use Rattle.std.specs.declared.vec.Vec.{Vec}
use Rattle.chumsky_parser.specs.ChoiceLanguage.{or_language}
use Rattle.chumsky_parser.specs.Language.{Language}
use Rattle.chumsky_parser.specs.SequenceLanguage.{then_language, ignore_then_language, then_ignore_language, between_language}
use Rattle.chumsky_parser.specs.Words.{StopsAt}
use Rattle.chumsky_primitive.specs.PrimitiveLanguage.{literal_language}
use Rattle.chumsky_combinator.specs.MappedLanguage.{map_language}
use Rattle.chumsky_items.specs.ListLanguage.{collected_language}
use Rattle.chumsky_items.specs.SeparatedLanguage.{separated_language}
use Rattle.chumsky_text.specs.Decimals.{TextSlice}
use Rattle.chumsky_text.specs.Leading.{leading}
use Rattle.chumsky_text.specs.TextLanguage.{run_language}
use Rattle.chumsky_descent.specs.Calls.{Intended}
use Rattle.exact.specs.declared.json_value.Json.{Json}
use Rattle.exact.specs.declared.json_value.Json as json
use Rattle.exact.specs.JsonForms.{Form, form_of, is_blank, IsElement}
use Rattle.exact.specs.JsonNumbers.{begins_number, number_goes_on}

-- blanks, be it none
abbrev pub blanks : Language ℕ (Bor (List ℕ))
blanks = run_language (TextSlice (λ s. s.now)) is_blank

-- a character
abbrev pub just : ℕ → Language ℕ ℕ
just c = literal_language nat_eq (c ∷ []) (λ v. v ≡ c) ⊤

-- a character after blanks
abbrev pub mark : ℕ → Language ℕ ℕ
mark c = ignore_then_language blanks (just c)

-- the word for a value, as `null`
abbrev pub word_for : List ℕ → Json → Language ℕ Json
word_for cs value = map_language (λ v w. w ≡ value) (literal_language nat_eq cs (λ ds. AllZipBelow (λ c d. d ≡ c) cs ds (length cs)) ⊤)

-- `null`, `true` or `false`
abbrev pub words : Language ℕ Json
words = or_language (word_for (codes "null") json.Null) (or_language (word_for (codes "true") (json.Bool true)) (word_for (codes "false") (json.Bool false)))

-- a value that has no others in it
abbrev pub scalar_language : (number string : Language ℕ (String Global)) → Language ℕ Json
scalar_language number string = or_language (map_language (λ s v. v ≡ json.Number s) number) (or_language (map_language (λ s v. v ≡ json.String s) string) words)

-- items between two characters, with a comma (44) between each two
abbrev pub listed_language : {V : Type 0} → ℕ → ℕ → Language ℕ V → Language ℕ (Vec V Global)
listed_language opening closing item =
    between_language (just opening) (collected_language (separated_language (mark 44) item (record { least = 0; most = None; leading = false; trailing = false; free = false })) (λ vs v. v.items ≡ vs) ⊥) (mark closing)

-- a name after blanks, and a colon (58)
abbrev pub name_language : (string : Language ℕ (String Global)) → Language ℕ (String Global)
name_language string = then_ignore_language (ignore_then_language blanks string) (mark 58)

-- a member: a name, and what a call reads
abbrev pub member_language : (string : Language ℕ (String Global)) → Language ℕ Json → Language ℕ (String Global × Json)
member_language string call = then_language (name_language string) call

-- a value, where a call reads those in it: `[` is 91 and `]` is 93, `{` is 123 and `}` is 125
abbrev pub bare_language : (number string : Language ℕ (String Global)) → Language ℕ Json → Language ℕ Json
bare_language number string call =
    or_language (scalar_language number string)
    (or_language (map_language (λ vs v. v ≡ json.Array vs) (listed_language 91 93 call)) (map_language (λ ms v. v ≡ json.Object ms) (listed_language 123 125 (member_language string call))))

-- and with the blanks before it
abbrev pub value_language : (number string : Language ℕ (String Global)) → Language ℕ Json → Language ℕ Json
value_language number string call = ignore_then_language blanks (bare_language number string call)

-- a value that has no others in it begins as a number does, with a quote (34) or with a letter of its word; and any value so too, or
-- with a bracket
abbrev pub begins_scalar : ℕ → Bool
begins_scalar c = begins_number c || (nat_eq 34 c || (nat_eq 110 c || (nat_eq 116 c || nat_eq 102 c)))

abbrev pub begins_value : ℕ → Bool
begins_value c = begins_scalar c || (nat_eq 91 c || nat_eq 123 c)

-- what is left past the blanks
abbrev pub past_blanks : List ℕ → List ℕ
past_blanks ts = drop (length (leading is_blank ts)) ts

-- a text that is some element
abbrev pub IsText : List ℕ → Type 0
IsText w = (f : Form) × IsElement w f

-- these are the words of the function that reads values, where none goes on with a number
abbrev pub values : Intended ℕ Json
values = record { word = IsText; stands_for = λ w v. IsElement w (form_of v); follow = StopsAt number_goes_on; fails = λ ts. StopsAt begins_value (past_blanks ts); moves = true }
