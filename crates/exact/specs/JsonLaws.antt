-- The grammar of JSON has just the words that are intended, over languages of numbers and of strings that have theirs.
-- Main words: IsNumberLanguage, IsStringLanguage. Main laws: kept, json-sound, json-complete. Read first: JsonGrammar.antt.
use Rattle.std.proofs.Common.{◌≡◌, ℕ, suc, ◌||◌, ◌&&◌, ◌<◌, Bool, true, false, nat_eq, Option, Some, None, List, [], ◌∷◌, ◌++◌, drop, length, map, append_assoc, refl, sym, ◌∙◌, ap, subst, arith, rules, inl, inr}
use Rattle.std.specs.Prelude.{codes, String, string_bytes, ◌⊎◌}
use Rattle.std.specs.Str.{chars}
use Rattle.std.specs.declared.alloc.Global.{Global}
use Rattle.std.specs.declared.vec.Vec.{Vec}
use Rattle.std.proofs.lemmas.Bool.Decides.{nat_tests}
use Rattle.std.proofs.lemmas.List.{append-nil}
use Rattle.chumsky_parser.specs.Ending.{Ending, Ender, At, Nowhere, Refused, DoesNotEnd, and_then, or_else}
use Rattle.chumsky_parser.specs.FurtherLaws.{both-below, behind-below}
use Rattle.chumsky_parser.specs.ItemsLanguage.{ListFrom}
use Rattle.chumsky_parser.specs.Language.{Language, IsBelow, sooner, later}
use Rattle.chumsky_parser.specs.Words.{Joined, StopsAt}
use Rattle.chumsky_primitive.specs.PrimitiveLanguage.{Equals, literal_ends}
use Rattle.chumsky_primitive.specs.Literals.{equals-same, same-equals}
use Rattle.chumsky_items.specs.ListLanguage.{Holding}
use Rattle.chumsky_items.specs.ListWords.{SeparatedWord, SeparatedEnd}
use Rattle.chumsky_text.specs.Leading.{leading}
use Rattle.chumsky_text.specs.TextLanguageLaws.{leading_stops}
use Rattle.chumsky_descent.specs.CallLanguage.{IsIntended}
use Rattle.chumsky_exact.specs.Lists.{Items, last_item, more_items, IsList, listed, none-list, items-list, bracketed-below}
use Rattle.chumsky_exact.specs.TableLaws.{both_false}
use Rattle.exact.specs.declared.json_value.Json.{Json, the_lemmas}
use Rattle.exact.specs.declared.json_value.Json as json
use Rattle.exact.specs.JsonStrings.{IsString, quoted}
use Rattle.exact.specs.JsonNumbers.{IsNumberText, begins_number, number_goes_on}
use Rattle.exact.specs.JsonNumbersOnce.{number-begins}
use Rattle.exact.specs.JsonForms.{Form, null, truth, number, string, array, object, Forms, no_forms, form, Members, no_members, member, forms_of, members_of, form_of, is_blank, AreBlanks}
use Rattle.exact.specs.JsonForms.{IsValue, is_null, is_true, is_false, is_number, is_string, is_array, is_object, IsElement, is_element, AreElements, no_element, one_element, more_elements, IsMember, is_member, AreMembers, no_member, one_member, more_members, IsJson}
use Rattle.exact.specs.JsonGrammar.{mark, words, scalar_language, listed_language, name_language, member_language, bare_language, value_language, begins_scalar, begins_value, past_blanks, IsText, values}

abbrev pub Is : List ℕ → List ℕ → Type 0
Is = Equals nat_eq

-- a character after blanks
abbrev pub IsMark : ℕ → List ℕ → Type 0
IsMark c = Joined AreBlanks (Is (c ∷ []))

-- a text has a first character, which passes
abbrev pub Begins : (ℕ → Bool) → List ℕ → Type 0
Begins test [] = ⊥
Begins test (c ∷ cs) = test c ≡ true

-- what a value says, level by level
pub form-null : form_of json.Null ≡ null
form-null = search (rules, the_lemmas)

pub form-bool : (b : Bool) → form_of (json.Bool b) ≡ truth b
form-bool b = search (rules, the_lemmas)

pub form-number : (s : String Global) → form_of (json.Number s) ≡ number (chars (string_bytes s))
form-number s = search (rules, the_lemmas)

pub form-string : (s : String Global) → form_of (json.String s) ≡ string (chars (string_bytes s))
form-string s = search (rules, the_lemmas)

pub form-array : (v : Vec Json Global) → form_of (json.Array v) ≡ array (forms_of (map form_of v.items))
form-array v = search (rules, the_lemmas)

pub form-object : (v : Vec (String Global × Json) Global) → form_of (json.Object v) ≡ object (members_of (map (λ m. (m.0, form_of m.1)) v.items))
form-object v = search (rules, the_lemmas)

-- a language of the numbers of JSON: its words are those, each stands for itself, and is taken whole where nothing goes on with it
pub record IsNumberLanguage (l : Language ℕ (String Global)) : Type 0 where
  pub said : l.said ≡ true
  pub moves : l.moves ≡ true
  pub sure : l.refused_from ≡ None
  pub sound : (w : List ℕ) (s : String Global) → l.stands_for w s → IsNumberText w × (chars (string_bytes s) ≡ w)
  pub some : (w : List ℕ) → l.word w → IsNumberText w
  pub complete : (w : List ℕ) → IsNumberText w → l.word w
  pub follows : (rest : List ℕ) → StopsAt number_goes_on rest → l.follow rest
  pub unambiguous : l.unambiguous
  pub fails : (ts : List ℕ) → StopsAt begins_number ts → DoesNotEnd (l.ends ts)

-- a language of the strings of JSON: its words are those, each stands for its characters, and anything may follow it
pub record IsStringLanguage (l : Language ℕ (String Global)) : Type 0 where
  pub said : l.said ≡ true
  pub moves : l.moves ≡ true
  pub sure : l.refused_from ≡ None
  pub sound : (w : List ℕ) (s : String Global) → l.stands_for w s → IsString w (chars (string_bytes s))
  pub some : (w : List ℕ) → l.word w → (cs : List ℕ) × IsString w cs
  pub complete : (w cs : List ℕ) → IsString w cs → l.word w
  pub follows : (rest : List ℕ) → l.follow rest
  pub unambiguous : l.unambiguous
  pub fails : (ts : List ℕ) → StopsAt (nat_eq 34) ts → DoesNotEnd (l.ends ts)

-- of two tests both, and the first
both_true : (a b : Bool) → a ≡ true → b ≡ true → (a && b) ≡ true
both_true a b e f = rw (e, f) refl

first_true : (a b : Bool) → a ≡ true → (a || b) ≡ true
first_true a b e = rw e refl

-- what does not end, in turn or as a choice
neither_ends : (x y : Ending (List ℕ)) → DoesNotEnd x → DoesNotEnd y → DoesNotEnd (or_else x y)
neither_ends (At r) y h k = absurd h
neither_ends Nowhere y h k = k
neither_ends Refused y h k = tt

pub none_then : (next : List ℕ → Ending (List ℕ)) (x : Ending (List ℕ)) → DoesNotEnd x → DoesNotEnd (and_then next x)
none_then next (At r) h = absurd h
none_then next Nowhere h = tt
none_then next Refused h = tt

-- and on the same text
fails_on : (f : Ender ℕ) (v w rest : List ℕ) → w ≡ v → DoesNotEnd (f (v ++ rest)) → DoesNotEnd (f (w ++ rest))
fails_on f v w rest e h = subst (λ z. DoesNotEnd (f (z ++ rest))) (sym e) h

pub literal_fails : (m : ℕ) (ms cs : List ℕ) (c : ℕ) → nat_eq m c ≡ false → DoesNotEnd (literal_ends nat_eq (m ∷ ms) (c ∷ cs))
literal_fails m ms cs c e = rw e tt

-- what is below a number is so after a part that may take no token
later_first : (a : Option ℕ) (k : ℕ) → IsBelow a k → IsBelow (later a false) k
later_first None k i = tt
later_first (Some n) k i = i

-- a blank goes on with no number and begins no value
blank_is : (c : ℕ) → is_blank c ≡ true → (c ≡ 32) ⊎ ((c ≡ 9) ⊎ ((c ≡ 10) ⊎ (c ≡ 13)))
blank_is c e = grind (arith, nat_tests)

blank_alone : (c : ℕ) → is_blank c ≡ true → (number_goes_on c ≡ false) × (begins_value c ≡ false)
blank_alone c e = elim (blank_is c e) [
  | inl a ↦ rw a (refl, refl)
  | inr x ↦ elim x [ inl a ↦ rw a (refl, refl) | inr y ↦ elim y [ inl a ↦ rw a (refl, refl) | inr a ↦ rw a (refl, refl) ] ]
]

begins-no_blank : (c : ℕ) → begins_value c ≡ true → is_blank c ≡ false
begins-no_blank c e = by_blank (is_blank c) refl
  where
    by_blank : (b : Bool) → is_blank c ≡ b → is_blank c ≡ false
    by_blank true h = let n = (blank_alone c h).1 in absurd (cc (e, n))
    by_blank false h = h

-- past blanks is what follows them
pub past : (b rest : List ℕ) → AreBlanks b → StopsAt is_blank rest → past_blanks (b ++ rest) ≡ rest
past b rest k s = let e : leading is_blank (b ++ rest) ≡ b = leading_stops is_blank b rest k s in rw e (drop_front b)
  where
    drop_front : (b : List ℕ) → drop (length b) (b ++ rest) ≡ rest
    drop_front [] = refl
    drop_front (c ∷ cs) = drop_front cs

-- blanks, and then something that goes on with no number
blanks_stop : (b rest : List ℕ) → AreBlanks b → StopsAt number_goes_on rest → StopsAt number_goes_on (b ++ rest)
blanks_stop [] rest k s = s
blanks_stop (c ∷ cs) rest k s = (blank_alone c k.0).0

pub blanks-follow : (b : List ℕ) → AreBlanks b → StopsAt number_goes_on b
blanks-follow [] k = tt
blanks-follow (c ∷ cs) k = (blank_alone c k.0).0

-- a mark is blanks and its character
marked : (c : ℕ) (w : List ℕ) → IsMark c w → (b : List ℕ) × AreBlanks b × (w ≡ b ++ (c ∷ []))
marked c w j = let e : j.second ≡ c ∷ [] = equals-same (c ∷ []) j.second j.is_second in (j.first, j.is_first, cc (j.all, e))

pub is_mark : (c : ℕ) (b : List ℕ) → AreBlanks b → IsMark c (b ++ (c ∷ []))
is_mark c b k = record { first = b; second = c ∷ []; all = refl; is_first = k; is_second = same-equals (c ∷ []) }

before_rest : (c : ℕ) (w rest : List ℕ) (j : IsMark c w) → w ++ rest ≡ (marked c w j).0 ++ (c ∷ rest)
before_rest c w rest j = let m = marked c w j in ap (λ z. z ++ rest) m.2 ∙ append_assoc m.0 (c ∷ []) rest

pub mark_stops : (c : ℕ) → number_goes_on c ≡ false → (w rest : List ℕ) → IsMark c w → StopsAt number_goes_on (w ++ rest)
mark_stops c n w rest j = let m = marked c w j in subst (StopsAt number_goes_on) (sym (before_rest c w rest j)) (blanks_stop m.0 (c ∷ rest) m.1 n)

pub mark_past : (c : ℕ) → is_blank c ≡ false → (w rest : List ℕ) → IsMark c w → past_blanks (w ++ rest) ≡ c ∷ rest
mark_past c n w rest j = let m = marked c w j in subst (λ z. past_blanks z ≡ c ∷ rest) (sym (before_rest c w rest j)) (past m.0 (c ∷ rest) m.1 n)

-- no mark is another
pub mark_fails : (c d : ℕ) → is_blank d ≡ false → nat_eq c d ≡ false → (w rest : List ℕ) → IsMark d w → DoesNotEnd ((mark c).ends (w ++ rest))
mark_fails c d n e w rest j = subst (λ z. DoesNotEnd (literal_ends nat_eq (c ∷ []) z)) (sym (mark_past d n w rest j)) (literal_fails c [] rest d e)

pub mark-unambiguous : (c : ℕ) → is_blank c ≡ false → (mark c).unambiguous
mark-unambiguous c n = (tt, tt, λ w rest j f. subst (λ z. StopsAt is_blank (z ++ rest)) (sym (equals-same (c ∷ []) w j)) n)

by_comma : (P : List ℕ → Type 0) (s : List ℕ) → IsMark 44 s → ((b : List ℕ) → AreBlanks b → P (b ++ codes ",")) → P s
by_comma P s i p = let m = marked 44 s i in subst P (sym m.2) (p m.0 m.1)

-- what stands between two characters, of which the second may have blanks before it
bracketed : {P : List ℕ → Type 0} (o q : ℕ) (w : List ℕ) (j : Joined (Is (o ∷ [])) (Joined P (IsMark q)) w) → (b : List ℕ) × AreBlanks b × ((o ∷ []) ++ (j.is_second.first ++ (b ++ (q ∷ []))) ≡ w)
bracketed o q w j =
    let e : j.first ≡ o ∷ [] = equals-same (o ∷ []) j.first j.is_first in
    let m = marked q j.is_second.second j.is_second.is_second in
    let c : j.is_second.second ≡ m.0 ++ (q ∷ []) = m.2 in
    (m.0, m.1, cc (j.all, e, j.is_second.all, c))

pub is_bracketed : {P : List ℕ → Type 0} (o q : ℕ) (w b : List ℕ) → P w → AreBlanks b → Joined (Is (o ∷ [])) (Joined P (IsMark q)) ((o ∷ []) ++ (w ++ (b ++ (q ∷ []))))
is_bracketed o q w b p k = record { first = o ∷ []; second = w ++ (b ++ (q ∷ [])); all = refl; is_first = same-equals (o ∷ []); is_second = record { first = w; second = b ++ (q ∷ []); all = refl; is_first = p; is_second = is_mark q b k } }

opened : {P : List ℕ → Type 0} (o : ℕ) (w : List ℕ) (j : Joined (Is (o ∷ [])) P w) → w ≡ o ∷ j.second
opened o w j = let e : j.first ≡ o ∷ [] = equals-same (o ∷ []) j.first j.is_first in cc (j.all, e)

-- elements are a word of a list, and so are members
module _ (P : List ℕ → Type 0) where
  module _ (is : (w : List ℕ) (f : Form) → IsElement w f → P w) where
    more_elements-are : {w : List ℕ} {f : Form} {fs : Forms} → AreElements w (form f fs) → Items (IsMark 44) P w
    more_elements-are {w} {f} (one_element i) = last_item (is w f i)
    more_elements-are {f = f} (more_elements {w} b i k a) = more_items {s = b ++ codes ","} (is w f i) (is_mark 44 b k) (more_elements-are a)

    elements-list : {w : List ℕ} {fs : Forms} → AreElements w fs → IsList (IsMark 44) P 0 w
    elements-list no_element = none-list (IsMark 44) P
    elements-list (one_element i) = items-list (IsMark 44) P (more_elements-are (one_element i))
    elements-list (more_elements b i k a) = items-list (IsMark 44) P (more_elements-are (more_elements b i k a))

  module _ (is : (w cs : List ℕ) (f : Form) → IsMember w cs f → P w) where
    more_members-are : {w cs : List ℕ} {f : Form} {ms : Members} → AreMembers w (member cs f ms) → Items (IsMark 44) P w
    more_members-are {w} {cs} {f} (one_member i) = last_item (is w cs f i)
    more_members-are {cs = cs} {f = f} (more_members {w} b i k a) = more_items {s = b ++ codes ","} (is w cs f i) (is_mark 44 b k) (more_members-are a)

    members-list : {w : List ℕ} {ms : Members} → AreMembers w ms → IsList (IsMark 44) P 0 w
    members-list no_member = none-list (IsMark 44) P
    members-list (one_member i) = items-list (IsMark 44) P (more_members-are (one_member i))
    members-list (more_members b i k a) = items-list (IsMark 44) P (more_members-are (more_members b i k a))

-- a text is some elements, or some members, as many as these words
abbrev SomeElements : List ℕ → List (List ℕ) → Type 0
SomeElements w [] = AreElements w no_forms
SomeElements w (u ∷ us) = (f : Form) × (fs : Forms) × AreElements w (form f fs)

elements_of : (w : List ℕ) (us : List (List ℕ)) → SomeElements w us → (fs : Forms) × AreElements w fs
elements_of w [] a = (no_forms, a)
elements_of w (u ∷ us) a = (form a.0 a.1, a.2)

abbrev SomeMembers : List ℕ → List (List ℕ) → Type 0
SomeMembers w [] = AreMembers w no_members
SomeMembers w (u ∷ us) = (cs : List ℕ) × (f : Form) × (ms : Members) × AreMembers w (member cs f ms)

some_members : (w : List ℕ) (us : List (List ℕ)) → SomeMembers w us → (ms : Members) × AreMembers w ms
some_members w [] a = (no_members, a)
some_members w (u ∷ us) a = (member a.0 a.1 a.2, a.3)

-- what is asked of the items of a list in brackets, so that none is cut short or taken for another
record IsItem {V : Type 0} (item : Language ℕ V) (closing depth : ℕ) : Type 0 where
  said : item.said ≡ true
  moves : item.moves ≡ true
  unambiguous : item.unambiguous
  follows : (rest : List ℕ) → StopsAt number_goes_on rest → item.follow rest
  fails : (w rest : List ℕ) → IsMark closing w → DoesNotEnd (item.ends (w ++ rest))
  refused : (k : ℕ) → k < depth → IsBelow item.refused_from k

module _ {V : Type 0} (o q : ℕ) (item : Language ℕ V) (depth : ℕ) (i : IsItem item q depth) where
  list-said : (listed_language o q item).said ≡ true
  list-said = rw (i.said, i.moves) refl

  list_fails : (c : ℕ) (cs : List ℕ) → nat_eq o c ≡ false → DoesNotEnd ((listed_language o q item).ends (c ∷ cs))
  list_fails c cs e = none_then _ (literal_ends nat_eq (o ∷ []) (c ∷ cs)) (literal_fails o [] cs c e)

  list-refused : (k : ℕ) → k < suc depth → IsBelow (listed_language o q item).refused_from k
  list-refused = bracketed-below item.refused_from depth i.refused

  module _ (blank : is_blank q ≡ false) (stops : number_goes_on q ≡ false) (no_comma : nat_eq 44 q ≡ false) where
    goes_on : (c : ℕ) → number_goes_on c ≡ false → (w rest : List ℕ) → IsMark c w → item.follow (w ++ rest)
    goes_on c n w rest j = i.follows (w ++ rest) (mark_stops c n w rest j)

    list-unambiguous : (listed_language o q item).unambiguous
    list-unambiguous = (
      tt,
      (
        (i.unambiguous, mark-unambiguous 44 refl, λ w rest j f. goes_on 44 refl w rest j, λ w rest j f. tt, λ e. absurd (cc e)),
        mark-unambiguous q blank,
        λ w rest j f. (goes_on q stops w rest j, tt, mark_fails 44 q blank no_comma w rest j, i.fails w rest j),
      ),
      λ w rest j f. tt,
    )

list_fails-nil : {V : Type 0} (o q : ℕ) (item : Language ℕ V) → DoesNotEnd ((listed_language o q item).ends [])
list_fails-nil o q item = tt

-- no word for a value is another
pub words-unambiguous : words.unambiguous
words-unambiguous = (
  tt,
  (tt, tt, λ w rest j f. fails_on (literal_ends nat_eq (codes "true")) (codes "false") w rest (equals-same (codes "false") w j) tt),
  λ w rest j f. elim j [
    | inl k ↦ fails_on (literal_ends nat_eq (codes "null")) (codes "true") w rest (equals-same (codes "true") w k) tt
    | inr k ↦ fails_on (literal_ends nat_eq (codes "null")) (codes "false") w rest (equals-same (codes "false") w k) tt
  ],
)

-- a word of one value
word_is : (cs w : List ℕ) (f : Form) → Is cs w → IsValue cs f → IsValue w f
word_is cs w f j t = subst (λ z. IsValue z f) (sym (equals-same cs w j)) t

-- the parts of a member
member_parts : {A B C : List ℕ → Type 0} (u : List ℕ) (j : Joined (Joined (Joined A B) (IsMark 58)) C u)
    → (b : List ℕ) × AreBlanks b × (((j.is_first.is_first.first ++ j.is_first.is_first.second) ++ (b ++ codes ":")) ++ j.second ≡ u)
member_parts u j =
    let k = j.is_first in
    let h = k.is_first in
    let m = marked 58 k.second k.is_second in
    let c : k.second ≡ m.0 ++ codes ":" = m.2 in
    (m.0, m.1, cc (j.all, k.all, h.all, c))

-- each text of a value begins so
pub string-begins : {w cs : List ℕ} → IsString w cs → Begins begins_value w
string-begins (quoted a) = refl

module _ (N S : Language ℕ (String Global)) (n : IsNumberLanguage N) (s : IsStringLanguage S) where
  abbrev pub scalar : Language ℕ Json
  scalar = scalar_language N S

  pub value-begins : {w : List ℕ} {f : Form} → IsValue w f → Begins begins_value w
  value-begins is_null = refl
  value-begins is_true = refl
  value-begins is_false = refl
  value-begins (is_number {w} h) =
      let b = number-begins h in
      subst (Begins begins_value) (sym b.2) (first_true (begins_scalar b.0) _ (first_true (begins_number b.0) _ b.3))
  value-begins (is_string h) = string-begins h
  value-begins (is_array b a k) = refl
  value-begins (is_object b a k) = refl

  pub value-no_blank : (w rest : List ℕ) → Begins begins_value w → StopsAt is_blank (w ++ rest)
  value-no_blank [] rest b = absurd b
  value-no_blank (c ∷ cs) rest b = begins-no_blank c b

  -- values that have no others in them
  scalar-some : (w : List ℕ) → scalar.word w → (f : Form) × IsValue w f
  scalar-some w (inl h) = (number w, is_number (n.some w h))
  scalar-some w (inr (inl h)) = let t = s.some w h in (string t.0, is_string t.1)
  scalar-some w (inr (inr (inl j))) = (null, word_is (codes "null") w null j is_null)
  scalar-some w (inr (inr (inr (inl j)))) = (truth true, word_is (codes "true") w (truth true) j is_true)
  scalar-some w (inr (inr (inr (inr j)))) = (truth false, word_is (codes "false") w (truth false) j is_false)

  scalar-sound : (w : List ℕ) (v : Json) → scalar.stands_for w v → IsValue w (form_of v)
  scalar-sound w v (inl m) = let k = n.sound w m.0 m.1 in subst (IsValue w) (sym (ap form_of m.2 ∙ form-number m.0 ∙ ap number k.1)) (is_number k.0)
  scalar-sound w v (inr (inl m)) = subst (IsValue w) (sym (ap form_of m.2 ∙ form-string m.0)) (is_string (s.sound w m.0 m.1))
  scalar-sound w v (inr (inr (inl m))) = subst (IsValue w) (sym (ap form_of m.2 ∙ form-null)) (word_is (codes "null") w null m.1.0 is_null)
  scalar-sound w v (inr (inr (inr (inl m)))) = subst (IsValue w) (sym (ap form_of m.2 ∙ form-bool true)) (word_is (codes "true") w (truth true) m.1.0 is_true)
  scalar-sound w v (inr (inr (inr (inr m)))) = subst (IsValue w) (sym (ap form_of m.2 ∙ form-bool false)) (word_is (codes "false") w (truth false) m.1.0 is_false)

  pub scalar-follows : (rest : List ℕ) → StopsAt number_goes_on rest → scalar.follow rest
  scalar-follows rest t = (n.follows rest t, (s.follows rest, (tt, (tt, tt))))

  scalar-said : scalar.said ≡ true
  scalar-said = rw (n.said, s.said) refl

  scalar-moves : scalar.moves ≡ true
  scalar-moves = rw (n.moves, s.moves) refl

  scalar-sure : scalar.refused_from ≡ None
  scalar-sure = rw (n.sure, s.sure) refl

  pub scalar-fails : (ts : List ℕ) → StopsAt begins_scalar ts → DoesNotEnd (scalar.ends ts)
  scalar-fails [] t = neither_ends (N.ends []) _ (n.fails [] tt) (neither_ends (S.ends []) Nowhere (s.fails [] tt) tt)
  scalar-fails (c ∷ cs) t =
      let p = both_false (begins_number c) (nat_eq 34 c || (nat_eq 110 c || (nat_eq 116 c || nat_eq 102 c))) t in
      let q = both_false (nat_eq 34 c) (nat_eq 110 c || (nat_eq 116 c || nat_eq 102 c)) p.1 in
      let r = both_false (nat_eq 110 c) (nat_eq 116 c || nat_eq 102 c) q.1 in
      let u = both_false (nat_eq 116 c) (nat_eq 102 c) r.1 in
      let ts : List ℕ = c ∷ cs in
      let a : Ending (List ℕ) = literal_ends nat_eq (codes "null") ts in
      let b : Ending (List ℕ) = literal_ends nat_eq (codes "true") ts in
      let d : Ending (List ℕ) = literal_ends nat_eq (codes "false") ts in
      let words : DoesNotEnd (or_else a (or_else b d)) = neither_ends a (or_else b d) (literal_fails 110 (codes "ull") cs c r.0) (neither_ends b d (literal_fails 116 (codes "rue") cs c u.0) (literal_fails 102 (codes "alse") cs c u.1)) in
      neither_ends (N.ends ts) (or_else (S.ends ts) (or_else a (or_else b d))) (n.fails ts p.0) (neither_ends (S.ends ts) (or_else a (or_else b d)) (s.fails ts q.0) words)

  string_no_number : (w rest cs : List ℕ) → IsString w cs → DoesNotEnd (N.ends (w ++ rest))
  string_no_number w rest cs (quoted a) = n.fails _ refl

  -- neither a string nor a word is a number, no word is a string, and none another
  pub scalar-unambiguous : scalar.unambiguous
  scalar-unambiguous = (
    n.unambiguous,
    (
      s.unambiguous,
      words-unambiguous,
      λ w rest j f. elim j [
        | inl k ↦ fails_on S.ends (codes "null") w rest (equals-same (codes "null") w k) (s.fails _ refl)
        | inr y ↦ elim y [ inl k ↦ fails_on S.ends (codes "true") w rest (equals-same (codes "true") w k) (s.fails _ refl) | inr k ↦ fails_on S.ends (codes "false") w rest (equals-same (codes "false") w k) (s.fails _ refl) ]
      ],
    ),
    λ w rest j f. elim j [
      | inl k ↦ (let t = s.some w k in string_no_number w rest t.0 t.1)
      | inr x ↦ elim x [
        | inl k ↦ fails_on N.ends (codes "null") w rest (equals-same (codes "null") w k) (n.fails _ refl)
        | inr y ↦ elim y [ inl k ↦ fails_on N.ends (codes "true") w rest (equals-same (codes "true") w k) (n.fails _ refl) | inr k ↦ fails_on N.ends (codes "false") w rest (equals-same (codes "false") w k) (n.fails _ refl) ]
      ]
    ],
  )

  -- names
  pub name-each : (a v b cs : List ℕ) → AreBlanks a → IsString v cs → AreBlanks b → (name_language S).word ((a ++ v) ++ (b ++ codes ":"))
  name-each a v b cs p t q = record { first = a ++ v; second = b ++ codes ":"; all = refl; is_first = record { first = a; second = v; all = refl; is_first = p; is_second = s.complete v cs t }; is_second = is_mark 58 b q }

  pub name-fails : (ts : List ℕ) → StopsAt (nat_eq 34) (past_blanks ts) → DoesNotEnd ((name_language S).ends ts)
  name-fails ts t = none_then (mark 58).ends (S.ends (past_blanks ts)) (s.fails (past_blanks ts) t)

  pub name-unambiguous : (name_language S).unambiguous
  name-unambiguous = ((tt, s.unambiguous, λ w rest j f. let t = s.some w j in value-no_blank w rest (string-begins t.1)), mark-unambiguous 58 refl, λ w rest j f. s.follows (w ++ rest))

  module _ (call : Language ℕ Json) (depth : ℕ) (i : IsIntended values call depth) where
    abbrev item : Language ℕ (String Global × Json)
    item = member_language S call

    -- members
    member-some : (u : List ℕ) → item.word u → (cs : List ℕ) × (f : Form) × IsMember u cs f
    member-some u j =
        let m = member_parts u j in
        let h = j.is_first.is_first in
        let t = s.some h.second h.is_second in
        let e = i.only j.second j.is_second in
        (t.0, e.0, subst (λ z. IsMember z t.0 e.0) m.2 (is_member h.first m.0 h.is_first t.1 m.1 e.1))

    member-sound : (u : List ℕ) (v : String Global × Json) → item.stands_for u v → IsMember u (chars (string_bytes v.0)) (form_of v.1)
    member-sound u v j =
        let m = member_parts u j in
        let h = j.is_first.is_first in
        subst (λ z. IsMember z (chars (string_bytes v.0)) (form_of v.1)) m.2 (is_member h.first m.0 h.is_first (s.sound h.second v.0 h.is_second) m.1 (i.given j.second v.1 j.is_second))

    member-each : (u cs : List ℕ) (f : Form) → IsMember u cs f → item.word u
    member-each _ cs f (is_member {v} {w} a b p t q e) = record { first = (a ++ v) ++ (b ++ codes ":"); second = w; all = refl; is_first = name-each a v b cs p t q; is_second = i.each w (f, e) }

    -- elements and members in brackets
    elements-some : (w : List ℕ) → IsList (IsMark 44) call.word 0 w → (fs : Forms) × AreElements w fs
    elements-some w k = elements_of w k.items (listed (IsMark 44) (λ u z. call.word u) SomeElements no_element
        (λ u z h. let t = i.only u h in (t.0, no_forms, one_element t.1))
        (λ u c us z y zs h s a. let t = i.only u h in (t.0, form a.0 a.1, by_comma (λ x. AreElements (u ++ (x ++ us)) (form t.0 (form a.0 a.1))) c s (λ b k. more_elements b t.1 k a.2)))
        k.items w k.are)

    members-some : (w : List ℕ) → IsList (IsMark 44) item.word 0 w → (ms : Members) × AreMembers w ms
    members-some w k = some_members w k.items (listed (IsMark 44) (λ u z. item.word u) SomeMembers no_member
        (λ u z h. let t = member-some u h in (t.0, t.1, no_members, one_member t.2))
        (λ u c us z y zs h s a. let t = member-some u h in (t.0, t.1, member a.0 a.1 a.2, by_comma (λ x. AreMembers (u ++ (x ++ us)) (member t.0 t.1 (member a.0 a.1 a.2))) c s (λ b k. more_members b t.2 k a.3)))
        k.items w k.are)

    abbrev ListFor : {V : Type 0} → (List ℕ → V → Type 0) → List ℕ → Vec V Global → Type 0
    ListFor stands = Holding (ListFrom (λ k u x. SeparatedWord (IsMark 44) false None (λ y. stands y x) k u) (SeparatedEnd (IsMark 44) false false 0 None) 0) (λ xs v. v.items ≡ xs)

    elements-sound : (w : List ℕ) (vs : Vec Json Global) → ListFor call.stands_for w vs → AreElements w (forms_of (map form_of vs.items))
    elements-sound w vs k =
        subst (λ z. AreElements w (forms_of (map form_of z))) (sym k.held) (listed (IsMark 44) call.stands_for (λ u vs. AreElements u (forms_of (map form_of vs))) no_element
        (λ u z h. one_element (i.given u z h))
        (λ u c us z y zs h s a. by_comma (λ x. AreElements (u ++ (x ++ us)) (form (form_of z) (form (form_of y) (forms_of (map form_of zs))))) c s (λ b k. more_elements b (i.given u z h) k a))
        k.items w k.is)

    abbrev said_of : List (String Global × Json) → Members
    said_of ms = members_of (map (λ m. (m.0, form_of m.1)) ms)

    members-sound : (w : List ℕ) (ms : Vec (String Global × Json) Global) → ListFor item.stands_for w ms → AreMembers w (said_of ms.items)
    members-sound w ms k =
        subst (λ z. AreMembers w (said_of z)) (sym k.held) (listed (IsMark 44) item.stands_for (λ u vs. AreMembers u (said_of vs)) no_member
        (λ u z h. one_member (member-sound u z h))
        (λ u c us z y zs h s a. by_comma (λ x. AreMembers (u ++ (x ++ us)) (member (chars (string_bytes z.0)) (form_of z.1) (said_of (y ∷ zs)))) c s (λ b k. more_members b (member-sound u z h) k a))
        k.items w k.is)

    array-some : (w : List ℕ) → (listed_language 91 93 call).word w → (f : Form) × IsValue w f
    array-some w j =
        let b = bracketed 91 93 w j in
        let a = elements-some j.is_second.first j.is_second.is_first in
        (array a.0, subst (λ z. IsValue z (array a.0)) b.2 (is_array b.0 a.1 b.1))

    object-some : (w : List ℕ) → (listed_language 123 125 item).word w → (f : Form) × IsValue w f
    object-some w j =
        let b = bracketed 123 125 w j in
        let a = members-some j.is_second.first j.is_second.is_first in
        (object a.0, subst (λ z. IsValue z (object a.0)) b.2 (is_object b.0 a.1 b.1))

    array-sound : (w : List ℕ) (vs : Vec Json Global) (v : Json) → (listed_language 91 93 call).stands_for w vs → v ≡ json.Array vs → IsValue w (form_of v)
    array-sound w vs v j e =
        let b = bracketed 91 93 w j in
        let a = elements-sound j.is_second.first vs j.is_second.is_first in
        let r : IsValue w (array (forms_of (map form_of vs.items))) = subst (λ z. IsValue z (array (forms_of (map form_of vs.items)))) b.2 (is_array b.0 a b.1) in
        subst (IsValue w) (sym (ap form_of e ∙ form-array vs)) r

    object-sound : (w : List ℕ) (ms : Vec (String Global × Json) Global) (v : Json) → (listed_language 123 125 item).stands_for w ms → v ≡ json.Object ms → IsValue w (form_of v)
    object-sound w ms v j e =
        let b = bracketed 123 125 w j in
        let a = members-sound j.is_second.first ms j.is_second.is_first in
        let r : IsValue w (object (said_of ms.items)) = subst (λ z. IsValue z (object (said_of ms.items))) b.2 (is_object b.0 a b.1) in
        subst (IsValue w) (sym (ap form_of e ∙ form-object ms)) r

    -- what is asked of items is so of elements and of members
    element-is : IsItem call 93 depth
    element-is = record {
      said = i.said;
      moves = i.moves refl;
      unambiguous = i.unambiguous;
      follows = i.follows;
      fails = λ w rest j. i.fails (w ++ rest) (subst (StopsAt begins_value) (sym (mark_past 93 refl w rest j)) refl);
      refused = i.refused;
    }

    member_fails : (w rest : List ℕ) → IsMark 125 w → DoesNotEnd (item.ends (w ++ rest))
    member_fails w rest j = none_then call.ends _ (name-fails (w ++ rest) (subst (StopsAt (nat_eq 34)) (sym (mark_past 125 refl w rest j)) refl))

    member-unambiguous : item.unambiguous
    member-unambiguous = (name-unambiguous, i.unambiguous, λ w rest j f. tt)

    member_below : (a b : Option ℕ) (moves : Bool) (k : ℕ) → a ≡ None → moves ≡ true → IsBelow (later b true) k → IsBelow (sooner (sooner (sooner None (later a false)) (later None moves)) (later b (moves || true))) k
    member_below a b moves k e f h = rw (e, f) h

    member-is : IsItem item 125 depth
    member-is = record {
      said = rw (s.said, i.said) refl;
      moves = rw s.moves refl;
      unambiguous = member-unambiguous;
      follows = i.follows;
      fails = member_fails;
      refused = λ k l. member_below S.refused_from call.refused_from S.moves k s.sure s.moves (behind-below call.refused_from depth i.refused k (omega (arith, l)));
    }

    -- any value
    abbrev bare : Language ℕ Json
    bare = bare_language N S call

    bare-some : (w : List ℕ) → bare.word w → (f : Form) × IsValue w f
    bare-some w (inl j) = scalar-some w j
    bare-some w (inr (inl j)) = array-some w j
    bare-some w (inr (inr j)) = object-some w j

    bare-sound : (w : List ℕ) (v : Json) → bare.stands_for w v → IsValue w (form_of v)
    bare-sound w v (inl m) = scalar-sound w v m
    bare-sound w v (inr (inl m)) = array-sound w m.0 v m.1 m.2
    bare-sound w v (inr (inr m)) = object-sound w m.0 v m.1 m.2

    bare-each : (w : List ℕ) (f : Form) → IsValue w f → bare.word w
    bare-each _ _ is_null = inl (inr (inr (inl (same-equals (codes "null")))))
    bare-each _ _ is_true = inl (inr (inr (inr (inl (same-equals (codes "true"))))))
    bare-each _ _ is_false = inl (inr (inr (inr (inr (same-equals (codes "false"))))))
    bare-each w _ (is_number h) = inl (inl (n.complete w h))
    bare-each w _ (is_string {cs = cs} h) = inl (inr (inl (s.complete w cs h)))
    bare-each _ _ (is_array {w} b a k) = inr (inl (is_bracketed 91 93 w b (elements-list call.word (λ u f h. i.each u (f, h)) a) k))
    bare-each _ _ (is_object {w} b a k) = inr (inr (is_bracketed 123 125 w b (members-list item.word member-each a) k))

    bare-fails : (ts : List ℕ) → StopsAt begins_value ts → DoesNotEnd (bare.ends ts)
    bare-fails [] t = neither_ends (scalar.ends []) _ (scalar-fails [] tt) tt
    bare-fails (c ∷ cs) t =
        let p = both_false (begins_scalar c) (nat_eq 91 c || nat_eq 123 c) t in
        let q = both_false (nat_eq 91 c) (nat_eq 123 c) p.1 in
        let ts : List ℕ = c ∷ cs in
        let a : Ending (List ℕ) = (listed_language 91 93 call).ends ts in
        let o : Ending (List ℕ) = (listed_language 123 125 item).ends ts in
        neither_ends (scalar.ends ts) (or_else a o) (scalar-fails ts p.0) (neither_ends a o (list_fails 91 93 call depth element-is c cs q.0) (list_fails 123 125 item depth member-is c cs q.1))

    abbrev arrays : Language ℕ (Vec Json Global)
    arrays = listed_language 91 93 call

    abbrev objects : Language ℕ (Vec (String Global × Json) Global)
    objects = listed_language 123 125 item

    bare-refused : (k : ℕ) → k < suc depth → IsBelow bare.refused_from k
    bare-refused k l =
        both-below scalar.refused_from (sooner arrays.refused_from objects.refused_from) k (subst (λ z. IsBelow z k) (sym scalar-sure) tt)
        (both-below arrays.refused_from objects.refused_from k (list-refused 91 93 call depth element-is k l) (list-refused 123 125 item depth member-is k l))

    bare-unambiguous : bare.unambiguous
    bare-unambiguous = (
      scalar-unambiguous,
      (
        list-unambiguous 91 93 call depth element-is refl refl refl,
        list-unambiguous 123 125 item depth member-is refl refl refl,
        λ w rest j f. fails_on arrays.ends (123 ∷ j.second) w rest (opened 123 w j) tt,
      ),
      λ w rest j f. elim j [ inl k ↦ fails_on scalar.ends (91 ∷ k.second) w rest (opened 91 w k) (scalar-fails _ refl) | inr k ↦ fails_on scalar.ends (123 ∷ k.second) w rest (opened 123 w k) (scalar-fails _ refl) ],
    )

    bare-said : bare.said ≡ true
    bare-said = both_true scalar.said (arrays.said && objects.said) scalar-said (both_true arrays.said objects.said (list-said 91 93 call depth element-is) (list-said 123 125 item depth member-is))

    bare-moves : bare.moves ≡ true
    bare-moves = both_true scalar.moves true scalar-moves refl

    -- the body of the function keeps what is intended
    pub kept : IsIntended values (value_language N S call) (suc depth)
    kept = record {
      said = bare-said;
      moves = λ e. bare-moves;
      only = λ w j. let k = bare-some j.second j.is_second in (k.0, subst (λ z. IsElement z k.0) (sym j.all) (is_element j.first j.is_first k.1));
      given = λ w v j. subst (λ z. IsElement z (form_of v)) (sym j.all) (is_element j.first j.is_first (bare-sound j.second v j.is_second));
      each = λ w t. each w t.0 t.1;
      follows = λ rest t. (scalar-follows rest t, (tt, tt));
      fails = λ ts t. bare-fails (past_blanks ts) t;
      unambiguous = (tt, bare-unambiguous, λ w rest j f. let k = bare-some w j in value-no_blank w rest (value-begins k.1));
      refused = λ k l. later_first bare.refused_from k (bare-refused k l);
    }
      where
        each : (w : List ℕ) (f : Form) → IsElement w f → (value_language N S call).word w
        each _ f (is_element {w} b k v) = record { first = b; second = w; all = refl; is_first = k; is_second = bare-each w f v }

-- what may stand after a value: blanks, and the end
abbrev pub IsRest : List ℕ → Type 0
IsRest = Joined AreBlanks (λ w. w ≡ [])

pub rest-is_blank : (w : List ℕ) → IsRest w → AreBlanks w
rest-is_blank w j = let e : w ≡ j.first = j.all ∙ ap (λ z. j.first ++ z) j.is_second ∙ append-nil j.first in subst AreBlanks (sym e) j.is_first

pub blank-is_rest : (w : List ℕ) → AreBlanks w → IsRest w
blank-is_rest w k = record { first = w; second = []; all = sym (append-nil w); is_first = k; is_second = refl }

pub rest_stops : (w rest : List ℕ) → IsRest w → rest ≡ [] → StopsAt number_goes_on (w ++ rest)
rest_stops w rest j e = rw e (blanks_stop w [] (rest-is_blank w j) tt)

-- an element with what may stand after it is JSON, and JSON is that
pub json-sound : (cs : List ℕ) (f : Form) → Joined (λ w. IsElement w f) IsRest cs → IsJson cs f
json-sound cs f j = record { element = j.first; after = j.second; all = j.all; is = j.is_first; blank = rest-is_blank j.second j.is_second }

pub json-complete : (cs : List ℕ) (f : Form) → IsJson cs f → Joined IsText IsRest cs
json-complete cs f j = record { first = j.element; second = j.after; all = j.all; is_first = (f, j.is); is_second = blank-is_rest j.after j.blank }
