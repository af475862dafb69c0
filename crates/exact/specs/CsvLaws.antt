-- The parser of comma-separated values accepts just these.
-- Main laws: csv-sound, csv-complete, csv-unambiguous; without-return, without-end, without-none, trimmed-exact. Read first: Csv.antt, CsvFields.antt, DividedLaws.antt.
use Rattle.std.proofs.Common.{◌≡◌, ℕ, suc, ◌&&◌, Bool, true, false, cond, nat_eq, Option, Some, None, List, [], ◌∷◌, ◌++◌, refl, sym, ◌∙◌, ap, subst, arith, inl, inr}
use Rattle.std.proofs.lemmas.Bool.Decides.{nat_tests}
use Rattle.std.proofs.lemmas.List.{append-nil}
use Rattle.std.proofs.lemmas.Str.{chars_from_encodes, IsUtf8-string_bytes}
use Rattle.std.specs.Prelude.{◌==◌, ◌≢◌, ⊤, ◌⊎◌, String, string_bytes, Result, Ok, Err}
use Rattle.std.specs.declared.alloc.Global.{Global}
use Rattle.std.specs.declared.vec.Vec.{Vec}
use Rattle.chumsky_input.specs.declared.stop.Stop.{Stop}
use Rattle.chumsky_parser.specs.ChoiceLanguage.{or_language}
use Rattle.chumsky_parser.specs.Ending.{At, Nowhere, DoesNotEnd}
use Rattle.chumsky_parser.specs.ItemsLanguage.{ListFrom, IsListFrom}
use Rattle.chumsky_parser.specs.Language.{Language}
use Rattle.chumsky_parser.specs.SequenceLanguage.{ignore_then_language}
use Rattle.chumsky_parser.specs.Words.{Joined, IsOne, AllPass}
use Rattle.chumsky_parser.specs.declared.result.ParseResult.{ParseResult}
use Rattle.chumsky_primitive.specs.Literals.{equals-same, same-equals}
use Rattle.chumsky_primitive.specs.OneOf.{outside}
use Rattle.chumsky_primitive.specs.PrimitiveLanguage.{Equals, one_ends, literal_ends, literal_language}
use Rattle.chumsky_combinator.specs.OptionalLanguage.{or_not_language}
use Rattle.chumsky_items.specs.ListWords.{RepeatedWord, RepeatedEnd}
use Rattle.chumsky.specs.Accepted.{IsExactly, Exactly}
use Rattle.exact.specs.Csv.{is_text_data, doubled, IsCsvField, IsComma, is_line_end, IsLineEnd, IsRecord, AreRecords, without_line_end, field_of, record_of, records_of, HoldsCsv}
use Rattle.exact.specs.CsvFields.{HoldsChars, field_ends, specials, other_than, piece, quoted_language, unquoted_language}
use Rattle.exact.specs.DividedLaws.{divided_language, divided-sound, divided-complete, divided-unambiguous}

-- a field, a comma and the end of a line, a record, and all records, as they are parsed
abbrev pub field_language : Language ℕ (String Global)
field_language = or_language quoted_language unquoted_language

abbrev pub character : ℕ → Language ℕ ℕ
character c = literal_language nat_eq (c ∷ []) (λ d. d ≡ c) ⊤

abbrev pub line_end_language : ℕ → ℕ → Language ℕ ℕ
line_end_language cr lf = ignore_then_language (or_not_language (character cr)) (character lf)

abbrev pub record_language : ℕ → Language ℕ (Vec (String Global) Global)
record_language comma = divided_language field_language (character comma)

abbrev pub csv_language : ℕ → ℕ → ℕ → Language ℕ (Vec (Vec (String Global) Global) Global)
csv_language comma cr lf = divided_language (record_language comma) (line_end_language cr lf)

abbrev IsThis : ℕ → List ℕ → Type 0
IsThis c = Equals nat_eq (c ∷ [])

-- a word of two parts
both : {P Q : List ℕ → Type 0} (w x y : List ℕ) (j : Joined P Q w) → j.first ≡ x → j.second ≡ y → w ≡ x ++ y
both w x y j e d = j.all ∙ (ap (λ z. z ++ j.second) e ∙ ap (λ z. x ++ z) d)

-- what is no quote is itself, and a quote is two
doubled-other : (c : ℕ) (cs : List ℕ) → outside nat_eq (34 ∷ []) c ≡ true → c ∷ doubled cs ≡ doubled (c ∷ cs)
doubled-other c cs e = let n : (c == 34) ≡ false = grind (arith, nat_tests) in rw n refl

piece-sound : (w : List ℕ) (c : ℕ) (cs : List ℕ) → piece.stands_for w c → w ++ doubled cs ≡ doubled (c ∷ cs)
piece-sound w c cs (inl i) =
    let e : w ≡ c ∷ [] = cc (i.all, i.is) in
    let p : outside nat_eq (34 ∷ []) c ≡ true = ap (outside nat_eq (34 ∷ [])) i.is ∙ i.passes in
    ap (λ z. z ++ doubled cs) e ∙ doubled-other c cs p
piece-sound w c cs (inr j) =
    let e : w ≡ 34 ∷ 34 ∷ [] = both w (34 ∷ []) (34 ∷ []) j (equals-same (34 ∷ []) j.first j.is_first) (equals-same (34 ∷ []) j.second j.is_second.0) in
    let d : c ≡ 34 = j.is_second.1 in
    ap (λ z. z ++ doubled cs) e ∙ ap (λ z. doubled (z ∷ cs)) (sym d)

pieces-sound : (k : ℕ) (cs w : List ℕ) → ListFrom (λ k u c. RepeatedWord None (λ t. piece.stands_for t c) k u) (RepeatedEnd 0 None) k cs w → w ≡ doubled cs
pieces-sound k [] w l = l.1
pieces-sound k (c ∷ cs) w l = l.all ∙ ap (λ z. l.first ++ z) (pieces-sound (suc k) cs l.second l.is_second) ∙ piece-sound l.first c cs l.is_first.1

-- the characters that a string holds
held-chars : (cs : List ℕ) (s : String Global) → HoldsChars cs s → cs ≡ field_of s
held-chars cs s h = chars_from_encodes cs (string_bytes s) (IsUtf8-string_bytes s) (sym h)

quoted-sound : (w : List ℕ) (s : String Global) → quoted_language.stands_for w s → w ≡ 34 ∷ (doubled (field_of s) ++ 34 ∷ [])
quoted-sound w s j =
    let k = j.is_second in
    let h = k.is_first in
    let l = k.is_second in
    let a : k.first ≡ doubled (field_of s) = pieces-sound 0 h.items k.first h.is ∙ ap doubled (held-chars h.items s h.held) in
    let b : k.second ≡ 34 ∷ [] = both k.second (34 ∷ []) [] l (equals-same (34 ∷ []) l.first l.is_first) l.is_second in
    both w (34 ∷ []) (doubled (field_of s) ++ 34 ∷ []) j (equals-same (34 ∷ []) j.first j.is_first) (both j.second (doubled (field_of s)) (34 ∷ []) k a b)

-- what is none of the four may stand in a field without quotes, and the other way round
text_data-is : (c : ℕ) → outside nat_eq specials c ≡ true → is_text_data c ≡ true
text_data-is c e = grind (arith, nat_tests)

is-text_data : (c : ℕ) → is_text_data c ≡ true → outside nat_eq specials c ≡ true
is-text_data c e = grind (arith, nat_tests)

text_data_from : (k : ℕ) (cs w : List ℕ) → ListFrom (λ k u c. RepeatedWord None (λ t. (other_than specials).stands_for t c) k u) (RepeatedEnd 0 None) k cs w → (w ≡ cs) × AllPass is_text_data cs
text_data_from k [] w l = (l.1, tt)
text_data_from k (c ∷ cs) w l =
    let i = l.is_first.1 in
    let r = text_data_from (suc k) cs l.second l.is_second in
    let e : l.first ≡ c ∷ [] = cc (i.all, i.is) in
    let p : outside nat_eq specials c ≡ true = ap (outside nat_eq specials) i.is ∙ i.passes in
    (l.all ∙ ap (λ z. z ++ l.second) e ∙ ap (λ z. c ∷ z) r.0, (text_data-is c p, r.1))

unquoted-sound : (w : List ℕ) (s : String Global) → unquoted_language.stands_for w s → (w ≡ field_of s) × AllPass is_text_data (field_of s)
unquoted-sound w s j =
    let h = j.is_first in
    let r = text_data_from 0 h.items j.first h.is in
    let e : h.items ≡ field_of s = held-chars h.items s h.held in
    let a : w ≡ j.first = j.all ∙ ap (λ z. j.first ++ z) j.is_second ∙ append-nil j.first in
    (a ∙ r.0 ∙ e, subst (AllPass is_text_data) e r.1)

field-sound : (w : List ℕ) (s : String Global) → field_language.stands_for w s → IsCsvField w (field_of s)
field-sound w s (inl j) = inr (quoted-sound w s j)
field-sound w s (inr j) = inl (unquoted-sound w s j)

-- and each field is a word
abbrev Pieces : ℕ → List ℕ → Type 0
Pieces = IsListFrom (RepeatedWord None piece.word) (RepeatedEnd 0 None)

one_more : (k c : ℕ) (cs : List ℕ) → Pieces (suc k) (doubled cs) → Pieces k (doubled (c ∷ cs))
one_more k c cs r = by_quote (c == 34) refl
  where
    by_quote : (b : Bool) → (c == 34) ≡ b → Pieces k (cond b (34 ∷ 34 ∷ doubled cs) (c ∷ doubled cs))
    by_quote true e = record {
      items = (34 ∷ 34 ∷ []) ∷ r.items;
      are = record {
        first = 34 ∷ 34 ∷ [];
        second = doubled cs;
        all = refl;
        is_first = (tt, inr (record { first = 34 ∷ []; second = 34 ∷ []; all = refl; is_first = same-equals (34 ∷ []); is_second = same-equals (34 ∷ []) }));
        is_second = r.are;
      };
    }
    by_quote false e =
        let p : outside nat_eq (34 ∷ []) c ≡ true = grind (arith, nat_tests) in
        let i : IsOne (outside nat_eq (34 ∷ [])) (λ t. ⊤) (c ∷ []) = record { token = c; all = refl; passes = p; is = tt } in
        record { items = (c ∷ []) ∷ r.items; are = record { first = c ∷ []; second = doubled cs; all = refl; is_first = (tt, inl i); is_second = r.are } }

pieces_of : (k : ℕ) (cs : List ℕ) → Pieces k (doubled cs)
pieces_of k [] = record { items = []; are = (omega arith, refl) }
pieces_of k (c ∷ cs) = one_more k c cs (pieces_of (suc k) cs)

text_data_of : (k : ℕ) (cs : List ℕ) → AllPass is_text_data cs → IsListFrom (RepeatedWord None (IsOne (outside nat_eq specials) (λ t. ⊤))) (RepeatedEnd 0 None) k cs
text_data_of k [] h = record { items = []; are = (omega arith, refl) }
text_data_of k (c ∷ cs) h =
    let r = text_data_of (suc k) cs h.1 in
    let i : IsOne (outside nat_eq specials) (λ t. ⊤) (c ∷ []) = record { token = c; all = refl; passes = is-text_data c h.0; is = tt } in
    record { items = (c ∷ []) ∷ r.items; are = record { first = c ∷ []; second = cs; all = refl; is_first = (tt, i); is_second = r.are } }

field-complete : (w field : List ℕ) → IsCsvField w field → field_language.word w
field-complete w field (inl h) =
    let j : unquoted_language.word field = record { first = field; second = []; all = sym (append-nil field); is_first = text_data_of 0 field h.1; is_second = refl } in
    inr (subst (λ z. unquoted_language.word z) (sym h.0) j)
field-complete w field (inr e) = inl (subst (λ z. quoted_language.word z) (sym e) (record {
  first = 34 ∷ [];
  second = doubled field ++ 34 ∷ [];
  all = refl;
  is_first = same-equals (34 ∷ []);
  is_second = record {
    first = doubled field;
    second = 34 ∷ [];
    all = refl;
    is_first = pieces_of 0 field;
    is_second = record { first = 34 ∷ []; second = []; all = refl; is_first = same-equals (34 ∷ []); is_second = refl };
  };
}))

-- where a field may end, no quote stands, and nothing that a field without quotes may have
abbrev MayEnd : List ℕ → Type 0
MayEnd rest = DoesNotEnd (one_ends (outside nat_eq field_ends) rest)

no_other : (b : Bool) (cs : List ℕ) → b ≡ true → DoesNotEnd (cond b (At cs) Nowhere) → ⊥
no_other true cs e d = d
no_other false cs e d = absurd (cc e)

no_quote : (rest : List ℕ) → MayEnd rest → literal_ends nat_eq (34 ∷ []) rest ≡ Nowhere
no_quote [] m = refl
no_quote (c ∷ cs) m = by_quote (nat_eq 34 c) refl
  where
    by_quote : (b : Bool) → nat_eq 34 c ≡ b → cond b (At cs) Nowhere ≡ Nowhere
    by_quote true e = let p : outside nat_eq field_ends c ≡ true = grind (arith, nat_tests) in absurd (no_other (outside nat_eq field_ends c) cs p m)
    by_quote false e = refl

no_text_data : (rest : List ℕ) → MayEnd rest → DoesNotEnd (one_ends (outside nat_eq specials) rest)
no_text_data [] m = tt
no_text_data (c ∷ cs) m = by_text_data (outside nat_eq specials c) refl
  where
    by_text_data : (b : Bool) → outside nat_eq specials c ≡ b → DoesNotEnd (cond b (At cs) Nowhere)
    by_text_data true e = let p : outside nat_eq field_ends c ≡ true = grind (arith, nat_tests) in absurd (no_other (outside nat_eq field_ends c) cs p m)
    by_text_data false e = tt

no_piece : (rest : List ℕ) → MayEnd rest → DoesNotEnd (piece.ends (34 ∷ rest))
no_piece rest m = let e = no_quote rest m in rw e tt

closing_ends : (w rest : List ℕ) → Joined (IsThis 34) (λ u. u ≡ []) w → MayEnd rest → DoesNotEnd (piece.ends (w ++ rest))
closing_ends w rest j m =
    let e : w ≡ 34 ∷ [] = both w (34 ∷ []) [] j (equals-same (34 ∷ []) j.first j.is_first) j.is_second in
    subst (λ z. DoesNotEnd (piece.ends (z ++ rest))) (sym e) (no_piece rest m)

two_quotes : (w rest : List ℕ) → Joined (IsThis 34) (IsThis 34) w → DoesNotEnd (one_ends (outside nat_eq (34 ∷ [])) (w ++ rest))
two_quotes w rest j =
    let e : w ≡ 34 ∷ 34 ∷ [] = both w (34 ∷ []) (34 ∷ []) j (equals-same (34 ∷ []) j.first j.is_first) (equals-same (34 ∷ []) j.second j.is_second) in
    subst (λ z. DoesNotEnd (one_ends (outside nat_eq (34 ∷ [])) (z ++ rest))) (sym e) tt

-- so a field without quotes is none in quotes
no_opening : (c : ℕ) (cs : List ℕ) → outside nat_eq specials c ≡ true → literal_ends nat_eq (34 ∷ []) (c ∷ cs) ≡ Nowhere
no_opening c cs p = let n : nat_eq 34 c ≡ false = grind (arith, nat_tests) in rw n refl

abbrev AreTextData : List (List ℕ) → List ℕ → Type 0
AreTextData = ListFrom (λ k u (v : List ℕ). RepeatedWord None (IsOne (outside nat_eq specials) (λ t. ⊤)) k u) (RepeatedEnd 0 None) 0

not_begun : (w rest : List ℕ) (items : List (List ℕ)) → AreTextData items w → MayEnd rest → literal_ends nat_eq (34 ∷ []) (w ++ rest) ≡ Nowhere
not_begun w rest [] l m = let e : w ≡ [] = l.1 in ap (λ z. literal_ends nat_eq (34 ∷ []) (z ++ rest)) e ∙ no_quote rest m
not_begun w rest (v ∷ vs) l m =
    let i = l.is_first.1 in
    let e : w ≡ i.token ∷ l.second = l.all ∙ ap (λ z. z ++ l.second) i.all in
    ap (λ z. literal_ends nat_eq (34 ∷ []) (z ++ rest)) e ∙ no_opening i.token (l.second ++ rest) i.passes

quoted_fails : (w rest : List ℕ) → unquoted_language.word w → MayEnd rest → DoesNotEnd (quoted_language.ends (w ++ rest))
quoted_fails w rest j m =
    let e : w ≡ j.first = j.all ∙ ap (λ z. j.first ++ z) j.is_second ∙ append-nil j.first in
    let n : literal_ends nat_eq (34 ∷ []) (w ++ rest) ≡ Nowhere = ap (λ z. literal_ends nat_eq (34 ∷ []) (z ++ rest)) e ∙ not_begun j.first rest j.is_first.items j.is_first.are m in
    rw n tt

field-unambiguous : field_language.unambiguous
field-unambiguous = (
  (
    tt,
    (
      ((tt, (tt, tt, λ w rest i f. tt), λ w rest j f. two_quotes w rest j), λ w rest i f. (tt, tt)),
      (tt, tt, λ w rest i f. tt),
      λ w rest j m. ((tt, tt), inr (closing_ends w rest j m)),
    ),
    λ w rest j f. tt,
  ),
  ((tt, λ w rest i f. tt), tt, λ w rest e m. (tt, inr (subst (λ z. DoesNotEnd (one_ends (outside nat_eq specials) (z ++ rest))) (sym e) (no_text_data rest m)))),
  λ w rest j m. quoted_fails w rest j m,
)

-- the end of a line, with CR or without
line_end-sound : (w : List ℕ) → (line_end_language 13 10).word w → IsLineEnd w
line_end-sound w j = by_return j.first j.is_first j.all
  where
    by_return : (u : List ℕ) → IsThis 13 u ⊎ (u ≡ []) → w ≡ u ++ j.second → IsLineEnd w
    by_return u (inl h) e = let d : w ≡ 13 ∷ 10 ∷ [] = e ∙ ap (λ z. z ++ j.second) (equals-same (13 ∷ []) u h) ∙ ap (λ z. 13 ∷ z) (equals-same (10 ∷ []) j.second j.is_second) in ap is_line_end d
    by_return u (inr h) e = let d : w ≡ 10 ∷ [] = e ∙ ap (λ z. z ++ j.second) h ∙ equals-same (10 ∷ []) j.second j.is_second in ap is_line_end d

pub line_end-is : (w : List ℕ) → IsLineEnd w → (w ≡ 13 ∷ 10 ∷ []) ⊎ (w ≡ 10 ∷ [])
line_end-is [] e = absurd (cc e)
line_end-is (c ∷ []) e = let d : c ≡ 10 = grind (arith, nat_tests) in inr (ap (λ z. z ∷ []) d)
line_end-is (c ∷ d ∷ []) e = let p : c ≡ 13 = grind (arith, nat_tests) in let q : d ≡ 10 = grind (arith, nat_tests) in inl (cc (p, q))
line_end-is (c ∷ d ∷ f ∷ fs) e = absurd (cc e)

line_end-complete : (w : List ℕ) → IsLineEnd w → (line_end_language 13 10).word w
line_end-complete w i = elim (line_end-is w i) [
  | inl e ↦ subst (λ z. (line_end_language 13 10).word z) (sym e) (record { first = 13 ∷ []; second = 10 ∷ []; all = refl; is_first = inl (same-equals (13 ∷ [])); is_second = same-equals (10 ∷ []) })
  | inr e ↦ subst (λ z. (line_end_language 13 10).word z) (sym e) (record { first = []; second = 10 ∷ []; all = refl; is_first = inr refl; is_second = same-equals (10 ∷ []) })
]

comma-sound : (w : List ℕ) → IsThis 44 w → IsComma w
comma-sound w i = equals-same (44 ∷ []) w i

comma-complete : (w : List ℕ) → IsComma w → IsThis 44 w
comma-complete w e = subst (IsThis 44) (sym e) (same-equals (44 ∷ []))

-- what the parser's words stand for are records
record-sound : (w : List ℕ) (v : Vec (String Global) Global) → (record_language 44).stands_for w v → IsRecord w (record_of v)
record-sound w v s = divided-sound field_language (character 44) IsCsvField IsComma field_of field-sound comma-sound w v s

pub csv-sound : (w : List ℕ) (v : Vec (Vec (String Global) Global) Global) → (csv_language 44 13 10).stands_for w v → AreRecords w (records_of v)
csv-sound w v s = divided-sound (record_language 44) (line_end_language 13 10) IsRecord IsLineEnd record_of record-sound line_end-sound w v s

-- and records are a word
record-complete : (w : List ℕ) (fields : List (List ℕ)) → IsRecord w fields → (record_language 44).word w
record-complete w fields i = divided-complete field_language (character 44) IsCsvField IsComma field-complete comma-complete i

pub csv-complete : (w : List ℕ) (records : List (List (List ℕ))) → AreRecords w records → (csv_language 44 13 10).word w
csv-complete w records i = divided-complete (record_language 44) (line_end_language 13 10) IsRecord IsLineEnd record-complete line_end-complete i

-- no word is cut short
comma_ends : (s rest : List ℕ) → IsThis 44 s → field_language.follow (s ++ rest)
comma_ends s rest i = subst (λ z. field_language.follow (z ++ rest)) (sym (comma-sound s i)) (tt, tt)

line_ends : (s rest : List ℕ) → (line_end_language 13 10).word s → (record_language 44).follow (s ++ rest)
line_ends s rest i = elim (line_end-is s (line_end-sound s i)) [
  | inl e ↦ subst (λ z. (record_language 44).follow (z ++ rest)) (sym e) ((tt, tt), inr tt)
  | inr e ↦ subst (λ z. (record_language 44).follow (z ++ rest)) (sym e) ((tt, tt), inr tt)
]

lf_begins : (w rest : List ℕ) → IsThis 10 w → DoesNotEnd (literal_ends nat_eq (13 ∷ []) (w ++ rest))
lf_begins w rest i = let e = equals-same (10 ∷ []) w i in rw e tt

pub csv-unambiguous : (csv_language 44 13 10).unambiguous
csv-unambiguous =
    divided-unambiguous (record_language 44) (line_end_language 13 10) line_ends
    (divided-unambiguous field_language (character 44) comma_ends field-unambiguous tt (λ w rest i f. tt))
    (tt, tt, λ w rest i f. (tt, lf_begins w rest i)) (λ w rest i f. tt)

-- a text before CR and LF; one before LF that doesn't end in CR; and one that doesn't end in LF
pub without-return : (cs : List ℕ) → without_line_end (cs ++ (13 ∷ 10 ∷ [])) ≡ cs
without-return [] = refl
without-return (c ∷ []) = refl
without-return (c ∷ d ∷ []) = refl
without-return (c ∷ d ∷ e ∷ es) = ap (λ z. c ∷ z) (without-return (d ∷ e ∷ es))

pub without-end : (cs : List ℕ) → ((front : List ℕ) → cs ≢ front ++ (13 ∷ [])) → without_line_end (cs ++ (10 ∷ [])) ≡ cs
without-end [] h = refl
without-end (c ∷ []) h = by_return (c == 13) refl
  where
    by_return : (b : Bool) → (c == 13) ≡ b → cond (b && true) [] (c ∷ []) ≡ c ∷ []
    by_return true e = let d : c ≡ 13 = grind (arith, nat_tests) in absurd (h [] (ap (λ z. z ∷ []) d))
    by_return false e = refl
without-end (c ∷ d ∷ []) h = ap (λ z. c ∷ z) (without-end (d ∷ []) (λ front e. h (c ∷ front) (ap (λ z. c ∷ z) e)))
without-end (c ∷ d ∷ e ∷ es) h = ap (λ z. c ∷ z) (without-end (d ∷ e ∷ es) (λ front q. h (c ∷ front) (ap (λ z. c ∷ z) q)))

pub without-none : (cs : List ℕ) → ((front : List ℕ) → cs ≢ front ++ (10 ∷ [])) → without_line_end cs ≡ cs
without-none [] h = refl
without-none (c ∷ []) h = by_end (c == 10) refl
  where
    by_end : (b : Bool) → (c == 10) ≡ b → cond b [] (c ∷ []) ≡ c ∷ []
    by_end true e = let d : c ≡ 10 = grind (arith, nat_tests) in absurd (h [] (ap (λ z. z ∷ []) d))
    by_end false e = refl
without-none (c ∷ d ∷ []) h = by_end ((c == 13) && (d == 10)) refl ∙ ap (λ z. c ∷ z) (without-none (d ∷ []) (λ front e. h (c ∷ front) (ap (λ z. c ∷ z) e)))
  where
    by_end : (b : Bool) → ((c == 13) && (d == 10)) ≡ b → cond b [] (c ∷ without_line_end (d ∷ [])) ≡ c ∷ without_line_end (d ∷ [])
    by_end true e = let q : d ≡ 10 = grind (arith, nat_tests) in absurd (h (c ∷ []) (ap (λ z. c ∷ z ∷ []) q))
    by_end false e = refl
without-none (c ∷ d ∷ e ∷ es) h = ap (λ z. c ∷ z) (without-none (d ∷ e ∷ es) (λ front q. h (c ∷ front) (ap (λ z. c ∷ z) q)))

-- an exact answer of the text without its last line end is one of the text
pub trimmed-exact : {Er : Type 0} (cs ts : List ℕ) → ts ≡ without_line_end cs → (r : Result (ParseResult (Vec (Vec (String Global) Global) Global) Er) Stop)
    → Exactly (λ us v. AreRecords us (records_of v)) ts r → Exactly HoldsCsv cs r
trimmed-exact cs ts e (Ok parsed) i = by_output parsed.output i
  where
    by_output : (x : Option (Vec (Vec (String Global) Global) Global)) → IsExactly (λ us v. AreRecords us (records_of v)) ts x → IsExactly HoldsCsv cs x
    by_output (Some v) i = subst (λ z. AreRecords z (records_of v)) e i
    by_output None i = λ v p. i v (subst (λ z. AreRecords z (records_of v)) (sym e) p)
trimmed-exact cs ts e (Err s) i = i
