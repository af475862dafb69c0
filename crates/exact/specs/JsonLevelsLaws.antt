-- A value of fewer levels than calls may be open is taken, whatever follows it that may: it is not refused.
-- Main word: IsShallow. Main laws: value-taken, value-fails. Read first: JsonLevels.antt, Taken.antt of chumsky_exact, JsonLaws.antt.
use Rattle.std.proofs.Common.{◌≡◌, ℕ, suc, ◌+◌, ◌<◌, nat_eq, Bool, false, ◌||◌, None, List, [], ◌∷◌, ◌++◌, length, append_assoc, refl, sym, ◌∙◌, ap, subst, arith, inl, inr}
use Rattle.std.proofs.lemmas.List.{length-append}
use Rattle.std.specs.Prelude.{⊤, codes, String}
use Rattle.std.specs.declared.alloc.Global.{Global}
use Rattle.chumsky_parser.specs.ChoiceLanguage.{or_language}
use Rattle.chumsky_parser.specs.Ending.{Ending, Ender, At, Nowhere, and_then, or_else}
use Rattle.chumsky_parser.specs.ItemsLanguage.{list_ends}
use Rattle.chumsky_parser.specs.Language.{Language}
use Rattle.chumsky_parser.specs.SequenceLanguage.{ignore_then_language}
use Rattle.chumsky_parser.specs.Words.{Joined, StopsAt, then_ends}
use Rattle.chumsky_primitive.specs.Just.{MeansJust}
use Rattle.chumsky_primitive.specs.PrimitiveLanguage.{literal_ends, literal_language}
use Rattle.chumsky_primitive.specs.Literals.{same-equals}
use Rattle.chumsky_combinator.specs.MappedLanguage.{map_language}
use Rattle.chumsky_items.specs.ListWords.{separated_next}
use Rattle.chumsky_descent.specs.Lawful.{between-lawful, repeated-lawful}
use Rattle.chumsky_exact.specs.Lists.{Items, last_item, more_items, IsList, none-list, items-list}
use Rattle.chumsky_exact.specs.TableLaws.{both_false}
use Rattle.exact.specs.declared.json_value.Json.{Json}
use Rattle.exact.specs.declared.json_value.Json as json
use Rattle.exact.specs.JsonForms.{Form, Forms, form, Members, member, is_blank}
use Rattle.exact.specs.JsonForms.{IsValue, is_null, is_true, is_false, is_number, is_string, is_array, is_object, IsElement, is_element, AreElements, no_element, one_element, more_elements, IsMember, is_member, AreMembers, no_member, one_member, more_members}
use Rattle.exact.specs.JsonGrammar.{blanks, just, mark, words, scalar_language, listed_language, name_language, member_language, bare_language, value_language, begins_scalar, begins_value, past_blanks}
use Rattle.exact.specs.JsonLaws.{IsNumberLanguage, IsStringLanguage, Begins, Is, IsMark, past, mark_past, mark_stops, mark_fails, mark-unambiguous, is_mark, is_bracketed}
use Rattle.exact.specs.JsonLaws.{value-begins, value-no_blank, scalar-follows, scalar-fails, words-unambiguous, scalar-unambiguous, name-each, name-fails, name-unambiguous}
use Rattle.exact.specs.JsonLawful.{blanks-lawful, letter-lawful, mark-lawful, words-lawful, piece-lawful}
use Rattle.exact.specs.JsonLevels.{levels, levels_each, levels_in}
use Rattle.exact.specs.JsonNumbers.{number_goes_on}
use Rattle.exact.specs.JsonNumbersLanguage.{IsSlice, number_language}
use Rattle.exact.specs.JsonStringsLaws.{string_language}
use Rattle.exact.specs.Lawfully.{number-lawful}
use Rattle.chumsky_exact.specs.Taken.{AlwaysTakes, IsKnown, source, errors, states, IsLawful, lawful-known, left_below, right_below, then-always, then-known, or-known, list-always, HasFewerLevels}

-- a text is some element of fewer levels
abbrev pub IsShallow : ℕ → List ℕ → Type 0
IsShallow = HasFewerLevels IsElement levels

just-known : (c : ℕ) → IsKnown (just c)
just-known c = lawful-known (letter-lawful {source = source} {errors = errors} {states = states} c) refl tt refl

mark-known : (c : ℕ) (blank : is_blank c ≡ false) → IsKnown (mark c)
mark-known c blank = lawful-known (mark-lawful {source = source} {errors = errors} {states = states} {is = IsSlice} c) refl (mark-unambiguous c blank) refl

blanks-known : IsKnown blanks
blanks-known = lawful-known (blanks-lawful {source = source} {errors = errors} {states = states} {is = IsSlice}) refl tt refl

quote-lawful : (c : ℕ) → IsLawful (MeansJust source nat_eq errors states (λ (v : Unit {0}). ⊤) ⊤ (c ∷ [])) (literal_language nat_eq (c ∷ []) (λ (v : Unit {0}). ⊤) ⊤)
quote-lawful c = letter-lawful c

words-known : IsKnown words
words-known = lawful-known (words-lawful {source = source} {errors = errors} {states = states}) refl words-unambiguous refl

-- the first alternative, and the second where the first fails
first-ends : {x : Ending (List ℕ)} {rest : List ℕ} (y : Ending (List ℕ)) → x ≡ At rest → or_else x y ≡ At rest
first-ends y e = ap (λ z. or_else z y) e

second-ends : {x y z : Ending (List ℕ)} → x ≡ Nowhere → y ≡ z → or_else x y ≡ z
second-ends {y = y} e d = ap (λ u. or_else u y) e ∙ d

-- items, with a comma between each two
abbrev items_of : {V : Type 0} → Language ℕ V → Ender ℕ
items_of item = list_ends (separated_next item.ends (mark 44).ends false false 0 None)

-- what begins otherwise is no list
list-none : {V : Type 0} (o q : ℕ) (item : Language ℕ V) (c : ℕ) (cs : List ℕ) → nat_eq o c ≡ false → (listed_language o q item).ends (c ∷ cs) ≡ Nowhere
list-none o q item c cs e = let d : literal_ends nat_eq (o ∷ []) (c ∷ cs) ≡ Nowhere = rw e refl in ap (and_then (then_ends (items_of item) (mark q).ends)) d

-- a list of items that are taken is taken, where its items fail on the bracket that closes it
list-taken : {V : Type 0} (o q : ℕ) (item : Language ℕ V) (P : List ℕ → Type 0) (size : (w : List ℕ) → P w → 0 < length w) → AlwaysTakes item.ends P (StopsAt number_goes_on)
    → is_blank q ≡ false → number_goes_on q ≡ false → nat_eq 44 q ≡ false → ((w rest : List ℕ) → IsMark q w → item.ends (w ++ rest) ≡ Nowhere)
    → AlwaysTakes (listed_language o q item).ends (Joined (Is (o ∷ [])) (Joined (IsList (IsMark 44) P 0) (IsMark q))) (λ rest. ⊤)
list-taken o q item P size taken blank stops no_comma fails =
    let comma = mark-known 44 refl in
    then-always (just o).ends (then_ends (items_of item) (mark q).ends) (just-known o).each
    (then-always (items_of item) (mark q).ends (list-always item.ends (mark 44).ends P (IsMark 44) (StopsAt number_goes_on) size taken comma.each (λ w rest j. mark_stops 44 refl w rest j)) (mark-known q blank).each
    (λ w rest j f. record { fit = mark_stops q stops w rest j; no_separator = comma.fails (w ++ rest) (mark_fails 44 q blank no_comma w rest j); no_item = fails w rest j }))
    (λ w rest j f. tt)

-- the sizes of what is not empty, and of what ends so
begun_size : (test : ℕ → Bool) (w : List ℕ) → Begins test w → 0 < length w
begun_size test [] b = absurd b
begun_size test (c ∷ cs) b = omega arith

behind_size : (v w : List ℕ) → 0 < length w → 0 < length (v ++ w)
behind_size v w l = let e : length (v ++ w) ≡ length v + length w = length-append v w in omega (arith, l, e)

module _ (n : IsNumberLanguage number_language) (s : IsStringLanguage string_language) where
  abbrev scalars : Language ℕ Json
  scalars = scalar_language number_language string_language

  numbers-known : IsKnown number_language
  numbers-known = lawful-known (number-lawful source errors states) refl n.unambiguous refl

  strings-known : IsKnown string_language
  strings-known =
      let piece = piece-lawful {source = source} {errors = errors} {states = states} {V = Unit {0}} {copies = λ v. ⊤} {safe = ⊤} {W = Unit {0}} {copies_one = λ v. ⊤} {safe_one = ⊤} {maps = λ p c. ⊤} in
      let pieces = repeated-lawful {mark = states.mark} {back = states.back} piece {C = String Global} {free = false} {least = 0} {most = None} {holds = λ cs s. ⊤} {quiet = ⊥} in
      let k = lawful-known (between-lawful (quote-lawful 34) pieces (quote-lawful 34)) refl s.unambiguous refl in
      record { each = k.each; fails = k.fails }

  scalars-known : IsKnown scalars
  scalars-known =
      let u = scalar-unambiguous number_language string_language n s in
      let number = map_language (λ s v. v ≡ json.Number s) number_language in
      let string = map_language (λ s v. v ≡ json.String s) string_language in
      or-known number (or_language string words) (record { each = numbers-known.each; fails = numbers-known.fails }) (or-known string words (record { each = strings-known.each; fails = strings-known.fails }) words-known u.1.2) u.2

  names-known : IsKnown (name_language string_language)
  names-known =
      let u = name-unambiguous number_language string_language n s in
      let name = then-known blanks string_language blanks-known strings-known _ _ u.0.2 in
      then-known (ignore_then_language blanks string_language) (mark 58) name (mark-known 58 refl) _ _ u.2

  element_size : {w : List ℕ} {f : Form} → IsElement w f → 0 < length w
  element_size (is_element {w} b k i) = behind_size b w (begun_size begins_value w (value-begins number_language string_language n s i))

  module _ (call : Language ℕ Json) where
    abbrev item : Language ℕ (String Global × Json)
    item = member_language string_language call

    abbrev arrays : Ender ℕ
    arrays = (listed_language 91 93 call).ends

    abbrev objects : Ender ℕ
    objects = (listed_language 123 125 item).ends

    -- any value
    abbrev bare : Ender ℕ
    bare = (bare_language number_language string_language call).ends

    scalar-none : (c : ℕ) (cs : List ℕ) → begins_scalar c ≡ false → scalars.ends (c ∷ cs) ≡ Nowhere
    scalar-none c cs e = scalars-known.fails (c ∷ cs) (scalar-fails number_language string_language n s (c ∷ cs) e)

    bare-none : (ts : List ℕ) → StopsAt begins_value ts → bare ts ≡ Nowhere
    bare-none [] t = second-ends (scalars-known.fails [] (scalar-fails number_language string_language n s [] tt)) refl
    bare-none (c ∷ cs) t =
        let p = both_false (begins_scalar c) (nat_eq 91 c || nat_eq 123 c) t in
        let q = both_false (nat_eq 91 c) (nat_eq 123 c) p.1 in
        second-ends (scalar-none c cs p.0) (second-ends (list-none 91 93 call c cs q.0) (list-none 123 125 item c cs q.1))

    -- the body fails on what begins no value
    pub value-fails : (ts : List ℕ) → StopsAt begins_value (past_blanks ts) → (value_language number_language string_language call).ends ts ≡ Nowhere
    value-fails ts t = bare-none (past_blanks ts) t

    no_member_ends : (w rest : List ℕ) → IsMark 125 w → item.ends (w ++ rest) ≡ Nowhere
    no_member_ends w rest j =
        let e : (name_language string_language).ends (w ++ rest) ≡ Nowhere =
        names-known.fails (w ++ rest) (name-fails number_language string_language n s (w ++ rest) (subst (StopsAt (nat_eq 34)) (sym (mark_past 125 refl w rest j)) refl)) in
        ap (and_then call.ends) e

    module _ (depth : ℕ) (taken : AlwaysTakes call.ends (IsShallow depth) (StopsAt number_goes_on)) (fails : 0 < depth → (ts : List ℕ) → StopsAt begins_value (past_blanks ts) → call.ends ts ≡ Nowhere) where
      -- a text is a name and then such an element
      abbrev IsShallowMember : List ℕ → Type 0
      IsShallowMember = Joined (name_language string_language).word (IsShallow depth)

      -- elements and members of fewer levels are a list of such
      more_elements-shallow : {w : List ℕ} {f : Form} {fs : Forms} → AreElements w (form f fs) → levels_each (form f fs) < depth → Items (IsMark 44) (IsShallow depth) w
      more_elements-shallow {w} {f} {fs} (one_element i) l = last_item (f, i, left_below (levels f) (levels_each fs) depth l)
      more_elements-shallow {w} {f} {fs} (more_elements b i k a) l =
          more_items {s = b ++ codes ","} (f, i, left_below (levels f) (levels_each fs) depth l) (is_mark 44 b k) (more_elements-shallow a (right_below (levels f) (levels_each fs) depth l))

      elements-shallow : {w : List ℕ} {fs : Forms} → AreElements w fs → levels_each fs < depth → IsList (IsMark 44) (IsShallow depth) 0 w
      elements-shallow no_element l = none-list (IsMark 44) (IsShallow depth)
      elements-shallow (one_element i) l = items-list (IsMark 44) (IsShallow depth) (more_elements-shallow (one_element i) l)
      elements-shallow (more_elements b i k a) l = items-list (IsMark 44) (IsShallow depth) (more_elements-shallow (more_elements b i k a) l)

      member-shallow : {w cs : List ℕ} {f : Form} → IsMember w cs f → levels f < depth → IsShallowMember w
      member-shallow {cs = cs} {f = f} (is_member {v} {w} a b p t q e) l = record { first = (a ++ v) ++ (b ++ codes ":"); second = w; all = refl; is_first = name-each number_language string_language n s a v b cs p t q; is_second = (f, e, l) }

      more_members-shallow : {w cs : List ℕ} {f : Form} {ms : Members} → AreMembers w (member cs f ms) → levels_in (member cs f ms) < depth → Items (IsMark 44) IsShallowMember w
      more_members-shallow {w} {cs} {f} {ms} (one_member i) l = last_item (member-shallow i (left_below (levels f) (levels_in ms) depth l))
      more_members-shallow {w} {cs} {f} {ms} (more_members b i k a) l =
          more_items {s = b ++ codes ","} (member-shallow i (left_below (levels f) (levels_in ms) depth l)) (is_mark 44 b k) (more_members-shallow a (right_below (levels f) (levels_in ms) depth l))

      members-shallow : {w : List ℕ} {ms : Members} → AreMembers w ms → levels_in ms < depth → IsList (IsMark 44) IsShallowMember 0 w
      members-shallow no_member l = none-list (IsMark 44) IsShallowMember
      members-shallow (one_member i) l = items-list (IsMark 44) IsShallowMember (more_members-shallow (one_member i) l)
      members-shallow (more_members b i k a) l = items-list (IsMark 44) IsShallowMember (more_members-shallow (more_members b i k a) l)

      -- so they are taken in their brackets
      arrays-taken : 0 < depth → AlwaysTakes arrays (Joined (Is (91 ∷ [])) (Joined (IsList (IsMark 44) (IsShallow depth) 0) (IsMark 93))) (λ rest. ⊤)
      arrays-taken l = list-taken 91 93 call (IsShallow depth) (λ w i. element_size i.1) taken refl refl refl (λ w rest j. fails l (w ++ rest) (subst (StopsAt begins_value) (sym (mark_past 93 refl w rest j)) refl))

      members-taken : AlwaysTakes item.ends IsShallowMember (StopsAt number_goes_on)
      members-taken = then-always (name_language string_language).ends call.ends names-known.each taken (λ w rest i t. tt)

      member_size : (w : List ℕ) → IsShallowMember w → 0 < length w
      member_size w j = subst (λ z. 0 < length z) (sym j.all) (behind_size j.first j.second (element_size j.is_second.1))

      objects-taken : AlwaysTakes objects (Joined (Is (123 ∷ [])) (Joined (IsList (IsMark 44) IsShallowMember 0) (IsMark 125))) (λ rest. ⊤)
      objects-taken = list-taken 123 125 item IsShallowMember member_size members-taken refl refl refl no_member_ends

      scalar-taken : (w rest : List ℕ) → scalars.word w → StopsAt number_goes_on rest → bare (w ++ rest) ≡ At rest
      scalar-taken w rest j t = first-ends _ (scalars-known.each w rest j (scalar-follows number_language string_language n s rest t))

      bare-taken : {w : List ℕ} {f : Form} (rest : List ℕ) → IsValue w f → levels f < suc depth → StopsAt number_goes_on rest → bare (w ++ rest) ≡ At rest
      bare-taken rest is_null l t = scalar-taken (codes "null") rest (inr (inr (inl (same-equals (codes "null"))))) t
      bare-taken rest is_true l t = scalar-taken (codes "true") rest (inr (inr (inr (inl (same-equals (codes "true")))))) t
      bare-taken rest is_false l t = scalar-taken (codes "false") rest (inr (inr (inr (inr (same-equals (codes "false")))))) t
      bare-taken {w} rest (is_number h) l t = scalar-taken w rest (inl (n.complete w h)) t
      bare-taken {w} rest (is_string {cs = cs} h) l t = scalar-taken w rest (inr (inl (s.complete w cs h))) t
      bare-taken rest (is_array {w} {fs} b a k) l t =
          let m : levels_each fs < depth = omega (arith, l) in
          let d : arrays ((codes "[" ++ (w ++ (b ++ codes "]"))) ++ rest) ≡ At rest = arrays-taken (omega (arith, m)) (codes "[" ++ (w ++ (b ++ codes "]"))) rest (is_bracketed 91 93 w b (elements-shallow a m) k) tt in
          second-ends (scalar-none 91 ((w ++ (b ++ codes "]")) ++ rest) refl) (first-ends _ d)
      bare-taken rest (is_object {w} {ms} b a k) l t =
          let m : levels_in ms < depth = omega (arith, l) in
          let d : objects ((codes "{" ++ (w ++ (b ++ codes "}"))) ++ rest) ≡ At rest = objects-taken (codes "{" ++ (w ++ (b ++ codes "}"))) rest (is_bracketed 123 125 w b (members-shallow a m) k) tt in
          second-ends (scalar-none 123 ((w ++ (b ++ codes "}")) ++ rest) refl) (second-ends (list-none 91 93 call 123 ((w ++ (b ++ codes "}")) ++ rest) refl) d)

      element-taken : {w : List ℕ} {f : Form} (rest : List ℕ) → IsElement w f → levels f < suc depth → StopsAt number_goes_on rest → bare (past_blanks (w ++ rest)) ≡ At rest
      element-taken rest (is_element {w} b k i) l t =
          let e : past_blanks ((b ++ w) ++ rest) ≡ w ++ rest = ap past_blanks (append_assoc b w rest) ∙ past b (w ++ rest) k (value-no_blank number_language string_language n s w rest (value-begins number_language string_language n s i)) in
          ap bare e ∙ bare-taken rest i l t

      -- where values of fewer levels are taken in a call, those of one more are in the body
      pub value-taken : AlwaysTakes (value_language number_language string_language call).ends (IsShallow (suc depth)) (StopsAt number_goes_on)
      value-taken w rest i t = element-taken rest i.1 i.2 t
