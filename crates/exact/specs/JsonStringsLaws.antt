-- The parser of strings accepts just these.
-- Main words: piece_language, string_language. Main laws: string-some, string-sound, string-complete, string-unambiguous. Read first: JsonStrings.antt, JsonPicks.antt.
use Rattle.std.proofs.Common.{◌≡◌, ℕ, suc, ◌&&◌, Bool, true, false, cond, nat_eq, nat_le, nat_lt, Option, Some, None, List, [], ◌∷◌, ◌++◌, refl, sym, ◌∙◌, ap, subst, arith, inl, inr}
use Rattle.std.specs.Prelude.{String, string_bytes, ⊤}
use Rattle.std.specs.declared.alloc.Global.{Global}
use Rattle.std.specs.Char.Utf16.{is_high_surrogate, is_low_surrogate, surrogate_pair_char}
use Rattle.std.specs.Str.{chars, encode_utf8_all}
use Rattle.std.proofs.lemmas.Bool.Decides.{nat_tests}
use Rattle.std.proofs.lemmas.Str.{chars_from_encodes, IsUtf8-string_bytes}
use Rattle.chumsky_parser.specs.ChoiceLanguage.{or_language}
use Rattle.chumsky_parser.specs.Ending.{At, Nowhere, Ender, DoesNotEnd}
use Rattle.chumsky_parser.specs.ItemsLanguage.{ListFrom, IsListFrom}
use Rattle.chumsky_parser.specs.Language.{Language}
use Rattle.chumsky_parser.specs.SequenceLanguage.{then_language, ignore_then_language, between_language}
use Rattle.chumsky_parser.specs.Words.{Joined}
use Rattle.chumsky_parser.specs.WordsLaws.{taken_word}
use Rattle.chumsky_primitive.specs.Literals.{equals-same, same-equals}
use Rattle.chumsky_primitive.specs.PrimitiveLanguage.{Equals, one_language, literal_language}
use Rattle.chumsky_combinator.specs.MappedLanguage.{map_language}
use Rattle.chumsky_items.specs.ListLanguage.{collected_language}
use Rattle.chumsky_items.specs.ListWords.{RepeatedWord, RepeatedEnd}
use Rattle.chumsky_items.specs.RepeatedLanguage.{repeated_language}
use Rattle.chumsky_judge.specs.Picked.{IsPick, picked_ends, picked_language}
use Rattle.exact.specs.JsonStrings.{is_plain, escaped, unit_of, IsPiece, plain, by_letter, by_unit, by_pair, ArePieces, no_piece, more_pieces, IsString, quoted}
use Rattle.exact.specs.JsonPicks.{plain_of, of_one, passing, lone, lone_of, high_of, low_of, JoinsPair}
use Rattle.exact.specs.JsonPicksLaws.{both, IsFour, four_is, is_any, are_four}

abbrev Is : List ℕ → List ℕ → Type 0
Is = Equals nat_eq

-- the languages of its parsers: of fixed characters, of any one and any four, of units and pairs
abbrev fixed : List ℕ → Language ℕ (Unit {0})
fixed cs = literal_language nat_eq cs (λ v. ⊤) ⊤

abbrev any_language : Language ℕ ℕ
any_language = one_language (λ t. true) (λ t v. v ≡ t) ⊤

abbrev four_language : Language ℕ (((ℕ × ℕ) × ℕ) × ℕ)
four_language = then_language (then_language (then_language any_language any_language) any_language) any_language

abbrev unit_language : (List ℕ → Option ℕ) → Language ℕ ℕ
unit_language picks = ignore_then_language (fixed (92 ∷ 117 ∷ [])) (picked_language picks four_language)

abbrev pair_language : Language ℕ ℕ
pair_language = map_language (λ (p : ℕ × ℕ) c. JoinsPair p.0 p.1 c) (then_language (unit_language high_of) (unit_language low_of))

abbrev plain_language : Language ℕ ℕ
plain_language = picked_language (of_one plain_of) any_language

abbrev letter_language : Language ℕ ℕ
letter_language = ignore_then_language (fixed (92 ∷ [])) (picked_language (of_one escaped) any_language)

abbrev pub piece_language : Language ℕ ℕ
piece_language = or_language plain_language (or_language letter_language (or_language (unit_language lone_of) pair_language))

-- pieces between quotes
abbrev pub string_language : Language ℕ (String Global)
string_language = between_language (fixed (34 ∷ [])) (collected_language (repeated_language piece_language 0 None) (λ cs s. string_bytes s ≡ encode_utf8_all cs) ⊥) (fixed (34 ∷ []))

-- what follows a backslash and `u`
abbrev AfterU : (List ℕ → Type 0) → List ℕ → Type 0
AfterU = Joined (Is (92 ∷ 117 ∷ []))

-- what is picked
some_of : (x : Option ℕ) → IsPick x → (v : ℕ) × (x ≡ Some v)
some_of (Some v) i = (v, refl)
some_of None i = absurd i

pick_of : (x : Option ℕ) (v : ℕ) → x ≡ Some v → IsPick x
pick_of x v e = rw e tt

plain_is : (c v : ℕ) → plain_of c ≡ Some v → IsPiece (c ∷ []) v
plain_is c v e = by_test (is_plain c) refl e
  where
    by_test : (b : Bool) → is_plain c ≡ b → cond b (Some c) None ≡ Some v → IsPiece (c ∷ []) v
    by_test true d q = let s : c ≡ v = cc q in subst (λ z. IsPiece (c ∷ []) z) s (plain c d)
    by_test false d q = absurd (cc q)

lone_is : (h : List ℕ) (v : ℕ) (x : Option ℕ) → unit_of h ≡ x → lone x ≡ Some v → IsPiece (92 ∷ 117 ∷ h) v
lone_is h v (Some u) e l = by_unit h u v e l
lone_is h v None e l = absurd (cc l)

-- a unit that passes is the one that was written
passed : (test : ℕ → Bool) (x : Option ℕ) (v : ℕ) → passing test x ≡ Some v → (x ≡ Some v) × (test v ≡ true)
passed test None v e = absurd (cc e)
passed test (Some u) v e = by_test (test u) refl e
  where
    by_test : (b : Bool) → test u ≡ b → cond b (Some u) None ≡ Some v → (Some u ≡ Some v) × (test v ≡ true)
    by_test true d q = let s : u ≡ v = cc q in (q, subst (λ z. test z ≡ true) s d)
    by_test false d q = absurd (cc q)

unit_passes : (test : ℕ → Bool) (x : Option ℕ) (u : ℕ) → x ≡ Some u → test u ≡ true → passing test x ≡ Some u
unit_passes test x u e d = rw (e, d) refl

after_u : {P : List ℕ → Type 0} (w : List ℕ) (j : AfterU P w) → w ≡ 92 ∷ 117 ∷ j.second
after_u w j = both w (92 ∷ 117 ∷ []) j.second j (equals-same (92 ∷ 117 ∷ []) j.first j.is_first) refl

-- a word of a character is a piece that stands for it
pub piece-sound : (w : List ℕ) (v : ℕ) → piece_language.stands_for w v → IsPiece w v
piece-sound w v (inl m) =
    let e : w ≡ m.0.token ∷ [] = m.0.all in
    let d : plain_of m.0.token ≡ Some v = subst (λ z. of_one plain_of z ≡ Some v) e m.1 in
    subst (λ z. IsPiece z v) (sym e) (plain_is m.0.token v d)
piece-sound w v (inr (inl j)) =
    let a = j.is_second.0 in
    let e : w ≡ 92 ∷ a.token ∷ [] = both w (92 ∷ []) (a.token ∷ []) j (equals-same (92 ∷ []) j.first j.is_first) a.all in
    let d : escaped a.token ≡ Some v = subst (λ z. of_one escaped z ≡ Some v) a.all j.is_second.1 in
    subst (λ z. IsPiece z v) (sym e) (by_letter a.token v d)
piece-sound w v (inr (inr (inl j))) = subst (λ z. IsPiece z v) (sym (after_u w j)) (lone_is j.second v (unit_of j.second) refl j.is_second.1)
piece-sound w v (inr (inr (inr m))) =
    let j = m.1 in
    let h = passed is_high_surrogate (unit_of j.is_first.second) m.0.0 j.is_first.is_second.1 in
    let l = passed is_low_surrogate (unit_of j.is_second.second) m.0.1 j.is_second.is_second.1 in
    let e : w ≡ (92 ∷ 117 ∷ j.is_first.second) ++ (92 ∷ 117 ∷ j.is_second.second) = both w (92 ∷ 117 ∷ j.is_first.second) (92 ∷ 117 ∷ j.is_second.second) j (after_u j.first j.is_first) (after_u j.second j.is_second) in
    let p : IsPiece w (surrogate_pair_char m.0.0 m.0.1) = subst (λ z. IsPiece z (surrogate_pair_char m.0.0 m.0.1)) (sym e) (by_pair j.is_first.second j.is_second.second m.0.0 m.0.1 h.0 h.1 l.0 l.1) in
    subst (IsPiece w) (sym (m.2 h.1 l.1)) p

-- each word stands for some character
pub piece-some : (w : List ℕ) → piece_language.word w → (v : ℕ) × IsPiece w v
piece-some w (inl m) = let s = some_of (of_one plain_of w) m.1 in (s.0, piece-sound w s.0 (inl (m.0, s.1)))
piece-some w (inr (inl j)) =
    let s = some_of (of_one escaped j.second) j.is_second.1 in
    (s.0, piece-sound w s.0 (inr (inl (record { first = j.first; second = j.second; all = j.all; is_first = j.is_first; is_second = (j.is_second.0, s.1) }))))
piece-some w (inr (inr (inl j))) =
    let s = some_of (lone_of j.second) j.is_second.1 in
    (s.0, piece-sound w s.0 (inr (inr (inl (record { first = j.first; second = j.second; all = j.all; is_first = j.is_first; is_second = (j.is_second.0, s.1) })))))
piece-some w (inr (inr (inr j))) =
    let a = j.is_first in
    let b = j.is_second in
    let h = some_of (high_of a.second) a.is_second.1 in
    let l = some_of (low_of b.second) b.is_second.1 in
    let k : Joined (AfterU (λ u. IsFour u × (high_of u ≡ Some h.0))) (AfterU (λ u. IsFour u × (low_of u ≡ Some l.0))) w = record {
      first = j.first;
      second = j.second;
      all = j.all;
      is_first = record { first = a.first; second = a.second; all = a.all; is_first = a.is_first; is_second = (a.is_second.0, h.1) };
      is_second = record { first = b.first; second = b.second; all = b.all; is_first = b.is_first; is_second = (b.is_second.0, l.1) };
    } in
    (surrogate_pair_char h.0 l.0, piece-sound w (surrogate_pair_char h.0 l.0) (inr (inr (inr ((h.0, l.0), k, λ x y. refl)))))

-- digits of which there is a unit are four
four_digits : (h : List ℕ) (u : ℕ) → unit_of h ≡ Some u → IsFour h
four_digits [] u e = absurd (cc e)
four_digits (a ∷ []) u e = absurd (cc e)
four_digits (a ∷ b ∷ []) u e = absurd (cc e)
four_digits (a ∷ b ∷ c ∷ []) u e = absurd (cc e)
four_digits (a ∷ b ∷ c ∷ d ∷ []) u e = are_four a b c d
four_digits (a ∷ b ∷ c ∷ d ∷ f ∷ fs) u e = absurd (cc e)

begun : {P : List ℕ → Type 0} (h : List ℕ) → P h → AfterU P (92 ∷ 117 ∷ h)
begun h p = record { first = 92 ∷ 117 ∷ []; second = h; all = refl; is_first = same-equals (92 ∷ 117 ∷ []); is_second = p }

-- and each piece is a word
pub piece-complete : {w : List ℕ} {v : ℕ} → IsPiece w v → piece_language.word w
piece-complete (plain c e) = inl (is_any c, let d : is_plain c ≡ true = e in rw d tt)
piece-complete (by_letter e c d) = inr (inl (record { first = 92 ∷ []; second = e ∷ []; all = refl; is_first = same-equals (92 ∷ []); is_second = (is_any e, pick_of (escaped e) c d) }))
piece-complete (by_unit h u c e l) = inr (inr (inl (begun h (four_digits h u e, pick_of (lone_of h) c (ap lone e ∙ l)))))
piece-complete (by_pair h l u v e i d k) = inr (inr (inr (record {
  first = 92 ∷ 117 ∷ h;
  second = 92 ∷ 117 ∷ l;
  all = refl;
  is_first = begun h (four_digits h u e, pick_of (high_of h) u (unit_passes is_high_surrogate (unit_of h) u e i));
  is_second = begun l (four_digits l v d, pick_of (low_of l) v (unit_passes is_low_surrogate (unit_of l) v d k));
})))

-- words of pieces one after another
abbrev ManyWords : ℕ → List (List ℕ) → List ℕ → Type 0
ManyWords = ListFrom (λ k u (v : List ℕ). RepeatedWord None piece_language.word k u) (RepeatedEnd 0 None)

abbrev ManyFor : ℕ → List ℕ → List ℕ → Type 0
ManyFor = ListFrom (λ k u v. RepeatedWord None (λ t. piece_language.stands_for t v) k u) (RepeatedEnd 0 None)

many-some : (k : ℕ) (us : List (List ℕ)) (w : List ℕ) → ManyWords k us w → (cs : List ℕ) × ArePieces w cs
many-some k [] w l = let e : w ≡ [] = l.1 in ([], subst (λ z. ArePieces z []) (sym e) no_piece)
many-some k (u ∷ us) w l =
    let p = piece-some l.first l.is_first.1 in
    let r = many-some (suc k) us l.second l.is_second in
    (p.0 ∷ r.0, subst (λ z. ArePieces z (p.0 ∷ r.0)) (sym l.all) (more_pieces p.1 r.1))

many-sound : (k : ℕ) (cs w : List ℕ) → ManyFor k cs w → ArePieces w cs
many-sound k [] w l = let e : w ≡ [] = l.1 in subst (λ z. ArePieces z []) (sym e) no_piece
many-sound k (c ∷ cs) w l = subst (λ z. ArePieces z (c ∷ cs)) (sym l.all) (more_pieces (piece-sound l.first c l.is_first.1) (many-sound (suc k) cs l.second l.is_second))

many-complete : (k : ℕ) {w cs : List ℕ} → ArePieces w cs → IsListFrom (RepeatedWord None piece_language.word) (RepeatedEnd 0 None) k w
many-complete k no_piece = record { items = []; are = (omega arith, refl) }
many-complete k (more_pieces {w} {ws} i a) = let l = many-complete (suc k) a in record { items = w ∷ l.items; are = record { first = w; second = ws; all = refl; is_first = (tt, piece-complete i); is_second = l.are } }

-- what stands between quotes
within_quotes : {P : List ℕ → Type 0} (w : List ℕ) (j : Joined (Is (34 ∷ [])) (Joined P (Is (34 ∷ []))) w) → w ≡ 34 ∷ (j.is_second.first ++ 34 ∷ [])
within_quotes w j =
    let k = j.is_second in
    both w (34 ∷ []) (k.first ++ 34 ∷ []) j (equals-same (34 ∷ []) j.first j.is_first) (both j.second k.first (34 ∷ []) k refl (equals-same (34 ∷ []) k.second k.is_second))

pub string-some : (w : List ℕ) → string_language.word w → (cs : List ℕ) × IsString w cs
string-some w j =
    let l = j.is_second.is_first in
    let m = many-some 0 l.items j.is_second.first l.are in
    (m.0, subst (λ z. IsString z m.0) (sym (within_quotes w j)) (quoted m.1))

pub string-sound : (w : List ℕ) (s : String Global) → string_language.stands_for w s → IsString w (chars (string_bytes s))
string-sound w s j =
    let h = j.is_second.is_first in
    let e : h.items ≡ chars (string_bytes s) = chars_from_encodes h.items (string_bytes s) (IsUtf8-string_bytes s) (sym h.held) in
    let q : IsString w h.items = subst (λ z. IsString z h.items) (sym (within_quotes w j)) (quoted (many-sound 0 h.items j.is_second.first h.is)) in
    subst (IsString w) e q

pub string-complete : {w cs : List ℕ} → IsString w cs → string_language.word w
string-complete (quoted {w} a) = record {
  first = 34 ∷ [];
  second = w ++ 34 ∷ [];
  all = refl;
  is_first = same-equals (34 ∷ []);
  is_second = record { first = w; second = 34 ∷ []; all = refl; is_first = many-complete 0 a; is_second = same-equals (34 ∷ []) };
}

-- where nothing is picked of the word that a part takes, it does not end
picked-none : {U : Type 0} (f : Ender ℕ) (picks : List ℕ → Option U) (ts rest word : List ℕ) → f ts ≡ At rest → ts ≡ word ++ rest → picks word ≡ None → picked_ends picks f ts ≡ Nowhere
picked-none f picks ts rest word e d n = let q = taken_word ts rest word d in rw (e, q, n) refl

-- a backslash is no plain character, `u` no letter of an escape, and a quote neither
no_plain : (ts : List ℕ) → plain_language.ends (92 ∷ ts) ≡ Nowhere
no_plain ts = picked-none any_language.ends (of_one plain_of) (92 ∷ ts) ts (92 ∷ []) refl refl refl

no_letter : (ts : List ℕ) → letter_language.ends (92 ∷ 117 ∷ ts) ≡ Nowhere
no_letter ts = picked-none any_language.ends (of_one escaped) (117 ∷ ts) ts (117 ∷ []) refl refl refl

no_piece_ends : (ts : List ℕ) → DoesNotEnd (piece_language.ends (34 ∷ ts))
no_piece_ends ts = let e : plain_language.ends (34 ∷ ts) ≡ Nowhere = picked-none any_language.ends (of_one plain_of) (34 ∷ ts) ts (34 ∷ []) refl refl refl in rw e tt

-- a unit of a pair is in no other way a character
no_lone : (x : Option ℕ) (u : ℕ) → passing is_high_surrogate x ≡ Some u → lone x ≡ None
no_lone x u e = let p = passed is_high_surrogate x u e in let q : x ≡ Some u = p.0 in rw q (high-none u p.1)
  where
    high-none : (u : ℕ) → is_high_surrogate u ≡ true → lone (Some u) ≡ None
    high-none u h = let e : (nat_le 0xD800 u && nat_lt u 0xE000) ≡ true = grind (arith, nat_tests) in rw e refl

lone_fails : (w rest : List ℕ) → pair_language.word w → DoesNotEnd ((unit_language lone_of).ends (w ++ rest))
lone_fails w rest j =
    let a = j.is_first in
    let f = four_is a.second a.is_second.0 in
    let q : a.second ≡ f.0 ∷ f.1 ∷ f.2 ∷ f.3 ∷ [] = f.4 in
    let s = some_of (high_of a.second) a.is_second.1 in
    let n : lone_of (f.0 ∷ f.1 ∷ f.2 ∷ f.3 ∷ []) ≡ None = subst (λ z. lone_of z ≡ None) q (no_lone (unit_of a.second) s.0 s.1) in
    let r : List ℕ = j.second ++ rest in
    let e : w ++ rest ≡ 92 ∷ 117 ∷ f.0 ∷ f.1 ∷ f.2 ∷ f.3 ∷ r = ap (λ z. z ++ rest) (both w (92 ∷ 117 ∷ f.0 ∷ f.1 ∷ f.2 ∷ f.3 ∷ []) j.second j (after_u j.first a ∙ ap (λ z. 92 ∷ 117 ∷ z) q) refl) in
    let d : (unit_language lone_of).ends (92 ∷ 117 ∷ f.0 ∷ f.1 ∷ f.2 ∷ f.3 ∷ r) ≡ Nowhere = picked-none four_language.ends lone_of (f.0 ∷ f.1 ∷ f.2 ∷ f.3 ∷ r) r (f.0 ∷ f.1 ∷ f.2 ∷ f.3 ∷ []) refl refl n in
    subst (λ z. DoesNotEnd ((unit_language lone_of).ends z)) (sym e) (rw d tt)

-- what begins with a backslash and `u`, or with a backslash
letter_fails : {P : List ℕ → Type 0} (w rest : List ℕ) → AfterU P w → DoesNotEnd (letter_language.ends (w ++ rest))
letter_fails w rest j =
    let d : letter_language.ends (92 ∷ 117 ∷ (j.second ++ rest)) ≡ Nowhere = no_letter (j.second ++ rest) in
    let n : DoesNotEnd (letter_language.ends (92 ∷ 117 ∷ (j.second ++ rest))) = rw d tt in
    subst (λ z. DoesNotEnd (letter_language.ends z)) (sym (ap (λ z. z ++ rest) (after_u w j))) n

plain_fails : (w rest cs : List ℕ) → w ≡ 92 ∷ cs → DoesNotEnd (plain_language.ends (w ++ rest))
plain_fails w rest cs e =
    let d : plain_language.ends (92 ∷ (cs ++ rest)) ≡ Nowhere = no_plain (cs ++ rest) in
    let n : DoesNotEnd (plain_language.ends (92 ∷ (cs ++ rest))) = rw d tt in
    subst (λ z. DoesNotEnd (plain_language.ends z)) (sym (ap (λ z. z ++ rest) e)) n

-- the first part of a pair is one of a unit
pair_begins : (w : List ℕ) (j : pair_language.word w) → w ≡ 92 ∷ 117 ∷ (j.is_first.second ++ j.second)
pair_begins w j = both w (92 ∷ 117 ∷ j.is_first.second) j.second j (after_u j.first j.is_first) refl

pair_after_u : (w : List ℕ) → pair_language.word w → AfterU (λ u. ⊤) w
pair_after_u w j = subst (AfterU (λ u. ⊤)) (sym (pair_begins w j)) (begun (j.is_first.second ++ j.second) tt)

four-unambiguous : four_language.unambiguous
four-unambiguous = (((tt, tt, λ w rest i f. tt), tt, λ w rest i f. tt), tt, λ w rest i f. tt)

unit-unambiguous : (picks : List ℕ → Option ℕ) → (unit_language picks).unambiguous
unit-unambiguous picks = (tt, four-unambiguous, λ w rest i f. tt)

pub piece-unambiguous : piece_language.unambiguous
piece-unambiguous = (
  tt,
  (
    (tt, tt, λ w rest i f. tt),
    (unit-unambiguous lone_of, (unit-unambiguous high_of, unit-unambiguous low_of, λ w rest i f. tt), λ w rest j f. lone_fails w rest j),
    λ w rest j f. elim j [ inl k ↦ letter_fails w rest k | inr k ↦ letter_fails w rest (pair_after_u w k) ],
  ),
  λ w rest j f. elim j [
    | inl k ↦ plain_fails w rest k.second (both w (92 ∷ []) k.second k (equals-same (92 ∷ []) k.first k.is_first) refl)
    | inr x ↦ elim x [ inl k ↦ plain_fails w rest (117 ∷ k.second) (after_u w k) | inr k ↦ plain_fails w rest (117 ∷ (k.is_first.second ++ k.second)) (pair_begins w k) ]
  ],
)

quote_follows : (w rest : List ℕ) → Is (34 ∷ []) w → DoesNotEnd (piece_language.ends (w ++ rest))
quote_follows w rest j = subst (λ z. DoesNotEnd (piece_language.ends (z ++ rest))) (sym (equals-same (34 ∷ []) w j)) (no_piece_ends rest)

pub string-unambiguous : string_language.unambiguous
string-unambiguous = (tt, ((piece-unambiguous, λ w rest i f. (tt, (tt, (tt, tt)))), tt, λ w rest j f. ((tt, (tt, (tt, tt))), inr (quote_follows w rest j))), λ w rest j f. tt)
