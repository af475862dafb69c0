-- JSON: what a value says, and how it is written, after RFC 8259.
-- Main words: Form, form_of, IsJson, HoldsJson. Strings: JsonStrings.antt. Numbers: JsonNumbers.antt. Laws: JsonLaws.antt, JsonOnce.antt.
use Rattle.std.specs.Prelude.{◌≡◌, ℕ, ◌||◌, ◌==◌, true, false, Bool, List, [], ◌∷◌, ◌++◌, codes, String, string_bytes}
use Rattle.std.specs.Str.{chars}
use Rattle.std.specs.declared.alloc.Global.{Global}
use Rattle.chumsky_parser.specs.Words.{AllPass}
use Rattle.exact.specs.declared.json_value.Json.{Json, fold-Json}
use Rattle.exact.specs.declared.json_value.Json.TheOpen.{Json-F}
use Rattle.exact.specs.JsonStrings.{IsString}
use Rattle.exact.specs.JsonNumbers.{IsNumberText}

mutual
  -- what a value says, wherever it lies in memory: a string is its characters, and a number those that it is written with
  pub data Form : Type 0 where
    null : Form
    truth : Bool → Form
    number : List ℕ → Form
    string : List ℕ → Form
    array : Forms → Form
    object : Members → Form

  -- what each of some values says, in order
  pub data Forms : Type 0 where
    no_forms : Forms
    form : Form → Forms → Forms

  -- names, each with what its value says, in order; a name may be there twice
  pub data Members : Type 0 where
    no_members : Members
    member : List ℕ → Form → Members → Members

abbrev pub forms_of : List Form → Forms
forms_of [] = no_forms
forms_of (f ∷ fs) = form f (forms_of fs)

abbrev pub members_of : List (String Global × Form) → Members
members_of [] = no_members
members_of (m ∷ ms) = member (chars (string_bytes m.0)) m.1 (members_of ms)

-- one level, in which each value inside is already seen as what it says
abbrev pub form_step : Json-F Form → Form
form_step Json-F.Null = null
form_step (Json-F.Bool b) = truth b
form_step (Json-F.Number s) = number (chars (string_bytes s))
form_step (Json-F.String s) = string (chars (string_bytes s))
form_step (Json-F.Array v) = array (forms_of v.items)
form_step (Json-F.Object v) = object (members_of v.items)

-- what a value says
abbrev pub form_of : Json → Form
form_of = fold-Json Form form_step

-- a space, a tab, a line feed or a return
abbrev pub is_blank : ℕ → Bool
is_blank c = (c == 32) || (c == 9) || (c == 10) || (c == 13)

abbrev pub AreBlanks : List ℕ → Type 0
AreBlanks = AllPass is_blank

mutual
  -- a text is a value: a word, a number, a string, elements in square brackets, or members in curly ones
  pub data IsValue : List ℕ → Form → Type 0 where
    is_null : IsValue (codes "null") null
    is_true : IsValue (codes "true") (truth true)
    is_false : IsValue (codes "false") (truth false)
    is_number : {w : List ℕ} → IsNumberText w → IsValue w (number w)
    is_string : {w cs : List ℕ} → IsString w cs → IsValue w (string cs)
    is_array : {w : List ℕ} {fs : Forms} (b : List ℕ) → AreElements w fs → AreBlanks b → IsValue (codes "[" ++ (w ++ (b ++ codes "]"))) (array fs)
    is_object : {w : List ℕ} {ms : Members} (b : List ℕ) → AreMembers w ms → AreBlanks b → IsValue (codes "{" ++ (w ++ (b ++ codes "}"))) (object ms)

  -- an element: a value after blanks
  pub data IsElement : List ℕ → Form → Type 0 where
    is_element : {w : List ℕ} {f : Form} (b : List ℕ) → AreBlanks b → IsValue w f → IsElement (b ++ w) f

  -- elements, with blanks and a comma between each two
  pub data AreElements : List ℕ → Forms → Type 0 where
    no_element : AreElements [] no_forms
    one_element : {w : List ℕ} {f : Form} → IsElement w f → AreElements w (form f no_forms)
    more_elements : {w ws : List ℕ} {f g : Form} {fs : Forms} (b : List ℕ) → IsElement w f → AreBlanks b → AreElements ws (form g fs) → AreElements (w ++ ((b ++ codes ",") ++ ws)) (form f (form g fs))

  -- a member: a name after blanks, a colon after blanks, and an element
  pub data IsMember : List ℕ → List ℕ → Form → Type 0 where
    is_member : {v w cs : List ℕ} {f : Form} (a b : List ℕ) → AreBlanks a → IsString v cs → AreBlanks b → IsElement w f → IsMember (((a ++ v) ++ (b ++ codes ":")) ++ w) cs f

  -- members, with blanks and a comma between each two
  pub data AreMembers : List ℕ → Members → Type 0 where
    no_member : AreMembers [] no_members
    one_member : {w cs : List ℕ} {f : Form} → IsMember w cs f → AreMembers w (member cs f no_members)
    more_members : {w ws cs ds : List ℕ} {f g : Form} {ms : Members} (b : List ℕ) → IsMember w cs f → AreBlanks b → AreMembers ws (member ds g ms) → AreMembers (w ++ ((b ++ codes ",") ++ ws)) (member cs f (member ds g ms))

-- a text is JSON: an element, and blanks
pub record IsJson (text : List ℕ) (said : Form) : Type 0 where
  pub element : List ℕ
  pub after : List ℕ
  pub all : text ≡ element ++ after
  pub is : IsElement element said
  pub blank : AreBlanks after

-- the text is the value
abbrev pub HoldsJson : List ℕ → Json → Type 0
HoldsJson text value = IsJson text (form_of value)
