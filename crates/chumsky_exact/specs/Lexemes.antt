-- Pieces that text parsers take: runs, names, numbers, fixed text, and what looks ahead; and what a word of one, with its slice, says.
-- Main words: run, lexeme, some, blanks, name, number, such, picked, tested, fixed, before_one; sliced_is, sliced_name, sliced_number, spelled, picked_field, the, the_number, spells, field_picked.
-- Read first: Pieces.antt.
use Rattle.std.proofs.Common.{◌≡◌, ℕ, ◌<◌, ◌≤◌, ◌^◌, Bool, true, false, cond, nat_eq, nat_le, ◌&&◌, ◌||◌, Option, List, [], ◌∷◌, ◌++◌, refl, sym, ◌∙◌, ap, subst, arith}
use Rattle.std.specs.Prelude.{⊤, not, ◌==◌}
use Rattle.std.specs.Borrow.{Bor}
use Rattle.std.specs.Char.{is_digit, digit_value}
use Rattle.std.specs.Str.{encode_utf8_all, IsAscii}
use Rattle.std.proofs.lemmas.Bool.Decides.{nat_tests}
use Rattle.std.proofs.lemmas.List.{append_cancel_left}
use Rattle.std.proofs.lemmas.Str.{encodes-IsAscii}
use Rattle.std.proofs.lemmas.Str.Ascii.{IsAscii-nil, IsAscii-cons}
use Rattle.std.proofs.lemmas.Str.Parse.{digit_from_value}
use Rattle.chumsky_parser.specs.Ending.{At, Nowhere, DoesNotEnd}
use Rattle.chumsky_parser.specs.ProgressLaws.{never}
use Rattle.chumsky_parser.specs.Slices.{IsSliceOf}
use Rattle.chumsky_parser.specs.Words.{AllPass, StopsAt}
use Rattle.chumsky_judge.specs.Looking.{not_ends}
use Rattle.chumsky_judge.specs.Picked.{IsPick, picked_ends}
use Rattle.chumsky_judge.specs.Tested.{passing}
use Rattle.chumsky_primitive.specs.Just.{has_members}
use Rattle.chumsky_primitive.specs.Literals.{equals-same, same-equals}
use Rattle.chumsky_primitive.specs.OneOf.{among, outside}
use Rattle.chumsky_primitive.specs.PrimitiveLanguage.{Equals, one_ends, literal_ends}
use Rattle.chumsky_text.specs.Decimals.{IsInt, IsDecimal, TextSlice, fixed_of, int-decimal, decimal-int, numeral-bytes, slice-bytes}
use Rattle.chumsky_text.specs.Names.{IsName, begins_name, in_name, name-slice}
use Rattle.chumsky_text.specs.TextLanguage.{IsWord, StopsAll, run_ends, begun_ends, word_front}
use Rattle.chumsky_exact.specs.Fields.{IsField, Picked, Picks, field, picks}
use Rattle.chumsky_exact.specs.InTurn.{Turn, Is, The}
use Rattle.chumsky_exact.specs.Pieces.{Piece, BeginsIn, none_after, run-once}
use Rattle.chumsky_exact.specs.Ranges.{Ranges, within, AllBut, Only, barred, weaker}

pub stops_by : (test other : ℕ → Bool) → ((c : ℕ) → test c ≡ true → other c ≡ true) → (rest : List ℕ) → StopsAt other rest → StopsAt test rest
stops_by test other h [] s = tt
stops_by test other h (c ∷ cs) s = weaker test other c (h c) s

pub stops_in : (test : ℕ → Bool) (rs : Ranges) → ((c : ℕ) → test c ≡ true → within rs c ≡ true) → (rest : List ℕ) → StopsAt (within rs) rest → StopsAt test rest
stops_in test rs h rest s = stops_by test (within rs) h rest s

pub anything : (rest : List ℕ) → StopsAt (within []) rest
anything [] = tt
anything (c ∷ cs) = refl

module _ (test : ℕ → Bool) (rs : Ranges) (are_in : (c : ℕ) → test c ≡ true → within rs c ≡ true) where
  pub run_begins : (w : List ℕ) → AllPass test w → BeginsIn true rs w
  run_begins [] h = refl
  run_begins (c ∷ cs) h = are_in c h.0

  -- characters of these that pass a test, be it none
  abbrev pub run : Piece
  run = record {
    word = AllPass test;
    follow = StopsAt test;
    ends = run_ends test;
    empty = true;
    begins = rs;
    begun = run_begins;
    fails = λ e rest s. never (sym e);
    next = AllBut rs;
    fits = stops_in test rs are_in;
    leaves_over = AllBut [];
    left = λ rest f. anything rest;
    once = λ w v x y p q s t e. run-once test w v x y p q (stops_in test rs are_in x s) (stops_in test rs are_in y t) e;
    uncut = ⊤;
    is_uncut = tt;
  }

module _ (begins : ℕ → Bool) (goes_on : ℕ → ℕ → Bool) (bs rs : Ranges) (begin_in : (c : ℕ) → begins c ≡ true → within bs c ≡ true)
    (go_on_in : (t c : ℕ) → goes_on t c ≡ true → within rs c ≡ true) where
  pub lexeme_begins : (w : List ℕ) → IsWord begins goes_on w → BeginsIn false bs w
  lexeme_begins [] h = absurd h
  lexeme_begins (c ∷ cs) h = begin_in c h.0

  pub lexeme_fails : (rest : List ℕ) → StopsAt (within bs) rest → DoesNotEnd (begun_ends begins (word_front goes_on) (λ w. true) rest)
  lexeme_fails [] s = tt
  lexeme_fails (c ∷ cs) s = let n : begins c ≡ false = stops_in begins bs begin_in (c ∷ cs) s in rw n tt

  pub lexeme_once : (w v x y : List ℕ) → IsWord begins goes_on w → IsWord begins goes_on v → StopsAt (within rs) x → StopsAt (within rs) y → w ++ x ≡ v ++ y → (w ≡ v) × (x ≡ y)
  lexeme_once [] v x y p q s t e = absurd p
  lexeme_once (c ∷ cs) [] x y p q s t e = absurd q
  lexeme_once (c ∷ cs) (d ∷ ds) x y p q s t e =
      let h : c ≡ d = cc e in
      let k : cs ++ x ≡ ds ++ y = cc e in
      let i = subst (λ z. AllPass (goes_on z) ds) (sym h) q.1 in
      let r = run-once (goes_on c) cs ds x y p.1 i (stops_in (goes_on c) rs (go_on_in c) x s) (stops_in (goes_on c) rs (go_on_in c) y t) k in
      let a : cs ≡ ds = r.0 in
      (cc (h, a), r.1)

  -- a first character of some, and then those of others that go on with it
  abbrev pub lexeme : Piece
  lexeme = record {
    word = IsWord begins goes_on;
    follow = StopsAll goes_on;
    ends = begun_ends begins (word_front goes_on) (λ w. true);
    empty = false;
    begins = bs;
    begun = lexeme_begins;
    fails = λ e. lexeme_fails;
    next = AllBut rs;
    fits = λ rest s t. stops_in (goes_on t) rs (go_on_in t) rest s;
    leaves_over = AllBut [];
    left = λ rest f. anything rest;
    once = lexeme_once;
    uncut = ⊤;
    is_uncut = tt;
  }

-- characters that pass a test, one at least
abbrev pub AreSome : (ℕ → Bool) → List ℕ → Type 0
AreSome test = IsWord test (λ t. test)

module _ (test : ℕ → Bool) (rs : Ranges) (are_in : (c : ℕ) → test c ≡ true → within rs c ≡ true) (are_all : (c : ℕ) → within rs c ≡ true → test c ≡ true) where
  -- such characters, where just these pass; so it is known that none comes after them
  abbrev pub some : Piece
  some = record (lexeme test (λ t. test) rs rs are_in (λ t. are_in)) { leaves_over = AllBut rs; left = λ rest f. stops_by (within rs) test are_all rest (f 0) }

-- spaces and tabs, as `text::inline_whitespace()` takes them
abbrev pub is_blank : ℕ → Bool
is_blank c = (c == 32) || (c == 9)

abbrev pub AreBlanks : List ℕ → Type 0
AreBlanks = AllPass is_blank

pub blank_in : (c : ℕ) → is_blank c ≡ true → within ((9, 9) ∷ (32, 32) ∷ []) c ≡ true
blank_in c e = grind (arith, nat_tests)

abbrev pub blanks : Piece
blanks = run is_blank ((9, 9) ∷ (32, 32) ∷ []) blank_in

-- names of ASCII
pub name_begins : (c : ℕ) → begins_name c ≡ true → within ((65, 90) ∷ (95, 95) ∷ (97, 122) ∷ []) c ≡ true
name_begins c e = grind (arith, nat_tests)

pub name_goes_on : (c : ℕ) → in_name c ≡ true → within ((48, 57) ∷ (65, 90) ∷ (95, 95) ∷ (97, 122) ∷ []) c ≡ true
name_goes_on c e = grind (arith, nat_tests)

abbrev pub name : Piece
name = lexeme begins_name (λ t. in_name) ((65, 90) ∷ (95, 95) ∷ (97, 122) ∷ []) ((48, 57) ∷ (65, 90) ∷ (95, 95) ∷ (97, 122) ∷ []) name_begins (λ t. name_goes_on)

-- numbers in decimal digits
digit_below : (c : ℕ) → is_digit c 10 ≡ true → digit_value c < 10
digit_below c e = grind (arith, nat_tests)

between_digits : (c : ℕ) → 48 ≤ c → c ≤ 57 → within ((48, 57) ∷ []) c ≡ true
between_digits c a b = grind (arith, nat_tests)

pub digit_in : (c : ℕ) → is_digit c 10 ≡ true → within ((48, 57) ∷ []) c ≡ true
digit_in c e = let r = digit_from_value c (digit_below c e) in between_digits c r.0 r.1

pub goes_on_in : (t c : ℕ) → cond (nat_eq t 48) false (is_digit c 10) ≡ true → within ((48, 57) ∷ []) c ≡ true
goes_on_in t c e = by_zero (nat_eq t 48) e
  where
    by_zero : (z : Bool) → cond z false (is_digit c 10) ≡ true → within ((48, 57) ∷ []) c ≡ true
    by_zero true h = absurd (cc h)
    by_zero false h = digit_in c h

abbrev pub number : Piece
number = lexeme (λ t. is_digit t 10) (λ t c. cond (nat_eq t 48) false (is_digit c 10)) ((48, 57) ∷ []) ((48, 57) ∷ []) digit_in goes_on_in

-- a piece of whose words more is known, by what is picked of them
abbrev pub such : {U : Type 0} → (List ℕ → Type 0) → (List ℕ → Option U) → Piece → Piece
such P picks p = record p {
  word = λ w. p.word w × P w;
  ends = picked_ends picks p.ends;
  begun = λ w h. p.begun w h.0;
  fails = λ e rest s. none_after _ (p.ends rest) (p.fails e rest s);
  once = λ w v x y h k s t e. p.once w v x y h.0 k.0 s t e;
}

-- the words of a piece that pass a test, as `test_by` takes them
abbrev pub tested : (List ℕ → Bool) → Piece → Piece
tested tests p = such (λ w. tests w ≡ true) (passing tests) p

-- so many digits that make a number within bounds, as `text::digits(10).pick_by(Fixed { .. })` takes them
abbrev pub digits : Piece
digits = lexeme (λ t. is_digit t 10) (λ t c. is_digit c 10) ((48, 57) ∷ []) ((48, 57) ∷ []) digit_in (λ t. digit_in)

abbrev pub picked : ℕ → ℕ → ℕ → Piece
picked so_many least most = let picks = λ (w : List ℕ). fixed_of so_many least most (encode_utf8_all w) in such (λ w. IsPick (picks w)) picks digits

-- just these characters
abbrev pub only : List ℕ → Ranges
only [] = []
only (m ∷ ms) = (m, m) ∷ only ms

abbrev pub first_of : List ℕ → Ranges
first_of [] = []
first_of (m ∷ ms) = (m, m) ∷ []

same_within : (m t : ℕ) → nat_eq m t ≡ true → within ((m, m) ∷ []) t ≡ true
same_within m t e = grind (arith, nat_tests)

pub fixed_begins : (text w : List ℕ) → Equals nat_eq text w → BeginsIn (not (has_members text)) (first_of text) w
fixed_begins [] [] e = refl
fixed_begins [] (t ∷ ts) e = absurd e
fixed_begins (m ∷ ms) [] e = absurd e
fixed_begins (m ∷ ms) (t ∷ ts) e = same_within m t e.0

other_than : (m t : ℕ) → within ((m, m) ∷ []) t ≡ false → nat_eq m t ≡ false
other_than m t e = grind (arith, nat_tests)

pub fixed_fails : (text : List ℕ) → not (has_members text) ≡ false → (rest : List ℕ) → StopsAt (within (first_of text)) rest → DoesNotEnd (literal_ends nat_eq text rest)
fixed_fails [] e rest s = absurd (cc e)
fixed_fails (m ∷ ms) e [] s = tt
fixed_fails (m ∷ ms) e (t ∷ ts) s = let n = other_than m t s in rw n tt

pub fixed_once : (text w v x y : List ℕ) → Equals nat_eq text w → Equals nat_eq text v → w ++ x ≡ v ++ y → (w ≡ v) × (x ≡ y)
fixed_once text w v x y p q e =
    let a : w ≡ v = equals-same text w p ∙ sym (equals-same text v q) in
    (a, append_cancel_left v x y (ap (λ z. z ++ x) (sym a) ∙ e))

abbrev pub fixed : List ℕ → Piece
fixed text = record {
  word = Equals nat_eq text;
  follow = λ rest. ⊤;
  ends = literal_ends nat_eq text;
  empty = not (has_members text);
  begins = first_of text;
  begun = fixed_begins text;
  fails = fixed_fails text;
  next = AllBut [];
  fits = λ rest s. tt;
  leaves_over = AllBut [];
  left = λ rest f. anything rest;
  once = λ w v x y p q s t e. fixed_once text w v x y p q e;
  uncut = ⊤;
  is_uncut = tt;
}

equal_between : (m c : ℕ) → nat_eq m c ≡ true → (nat_le m c && nat_le c m) ≡ true
equal_between m c e = grind (arith, nat_tests)

other_outside : (m c : ℕ) → nat_eq m c ≡ false → (nat_le m c && nat_le c m) ≡ false
other_outside m c e = grind (arith, nat_tests)

among_only : (ms : List ℕ) (c : ℕ) → within (only ms) c ≡ among nat_eq ms c
among_only [] c = refl
among_only (m ∷ ms) c = ap (λ z. z || within (only ms) c) (by_test (nat_eq m c) refl) ∙ ap (λ z. nat_eq m c || z) (among_only ms c)
  where
    by_test : (b : Bool) → nat_eq m c ≡ b → (nat_le m c && nat_le c m) ≡ nat_eq m c
    by_test true e = equal_between m c e ∙ sym e
    by_test false e = other_outside m c e ∙ sym e

pub ends_by : (ms rest : List ℕ) → StopsAt (barred (Only (only ms))) rest → DoesNotEnd (one_ends (outside nat_eq ms) rest)
ends_by ms [] s = tt
ends_by ms (c ∷ cs) s = let e : outside nat_eq ms c ≡ false = ap not (sym (among_only ms c)) ∙ s in rw e tt

pub by_ends : (ms rest : List ℕ) → DoesNotEnd (one_ends (outside nat_eq ms) rest) → StopsAt (barred (Only (only ms))) rest
by_ends ms [] h = tt
by_ends ms (c ∷ cs) h = ap not (among_only ms c) ∙ not_taken (outside nat_eq ms c) h
  where
    not_taken : (taken : Bool) → DoesNotEnd (cond taken (At cs) Nowhere) → taken ≡ false
    not_taken true d = absurd d
    not_taken false d = refl

pub nothing_begins : (w : List ℕ) → w ≡ [] → BeginsIn true [] w
nothing_begins w e = subst (BeginsIn true []) (sym e) refl

pub nothing_once : (w v x y : List ℕ) → w ≡ [] → v ≡ [] → w ++ x ≡ v ++ y → (w ≡ v) × (x ≡ y)
nothing_once w v x y p q e = (p ∙ sym q, sym (ap (λ z. z ++ x) p) ∙ e ∙ ap (λ z. z ++ y) q)

-- nothing, before the end or one of these characters, as `none_of(..).not()` takes it
abbrev pub before_one : List ℕ → Piece
before_one ms = record {
  word = λ w. w ≡ [];
  follow = λ rest. DoesNotEnd (one_ends (outside nat_eq ms) rest);
  ends = not_ends (one_ends (outside nat_eq ms));
  empty = true;
  begins = [];
  begun = nothing_begins;
  fails = λ e rest s. never (sym e);
  next = Only (only ms);
  fits = ends_by ms;
  leaves_over = Only (only ms);
  left = by_ends ms;
  once = λ w v x y p q s t e. nothing_once w v x y p q e;
  uncut = ⊤;
  is_uncut = tt;
}

-- the bytes of characters of ASCII are these
passes_ascii : (test : ℕ → Bool) → ((c : ℕ) → test c ≡ true → c < 128) → (w : List ℕ) → AllPass test w → IsAscii w
passes_ascii test below [] h = IsAscii-nil
passes_ascii test below (c ∷ cs) h = IsAscii-cons c cs (below c h.0) (passes_ascii test below cs h.1)

pub some-bytes : (test : ℕ → Bool) → ((c : ℕ) → test c ≡ true → c < 128) → (w : List ℕ) → AreSome test w → encode_utf8_all w ≡ w
some-bytes test below [] h = absurd h
some-bytes test below (c ∷ cs) h = encodes-IsAscii (c ∷ cs) (passes_ascii test below (c ∷ cs) h)

-- what a word says with its slice: one whose bytes are its characters; a name, a number; and fixed text
pub sliced_is : (P : List ℕ → Type 0) → ((w : List ℕ) → P w → encode_utf8_all w ≡ w) → (s : Bor (List ℕ)) (w : List ℕ) → P w × IsSliceOf (TextSlice (λ t. t.now)) w s → The P s.now w
sliced_is P bytes s w h = (h.0, sym (slice-bytes (λ t. t.now) w s h.1 ∙ bytes w h.0))

pub sliced_name_is : (s : Bor (List ℕ)) (w : List ℕ) → IsName w × IsSliceOf (TextSlice (λ t. t.now)) w s → The IsName s.now w
sliced_name_is s w h = (h.0, sym (name-slice (λ t. t.now) w s h.0 h.1))

abbrev pub sliced_name : Bor (List ℕ) → Turn ℕ
sliced_name s = record { from = λ w. IsName w × IsSliceOf (TextSlice (λ t. t.now)) w s; to = The IsName s.now; gives = sliced_name_is s }

pub sliced_number_is : (s : Bor (List ℕ)) (w : List ℕ) → IsInt w × IsSliceOf (TextSlice (λ t. t.now)) w s → The IsDecimal s.now w
sliced_number_is s w h = let d = int-decimal w h.0 in (d, sym (slice-bytes (λ t. t.now) w s h.1 ∙ numeral-bytes w d.0))

abbrev pub sliced_number : Bor (List ℕ) → Turn ℕ
sliced_number s = record { from = λ w. IsInt w × IsSliceOf (TextSlice (λ t. t.now)) w s; to = The IsDecimal s.now; gives = sliced_number_is s }

abbrev pub spelled : List ℕ → Turn ℕ
spelled text = record { from = Equals nat_eq text; to = Is text; gives = equals-same text }

-- and the other way round
pub spells_is : (text w : List ℕ) → w ≡ text → Equals nat_eq text w
spells_is text w e = subst (Equals nat_eq text) (sym e) (same-equals text)

abbrev pub spells : List ℕ → Turn ℕ
spells text = record { from = Is text; to = Equals nat_eq text; gives = spells_is text }

abbrev pub the : (List ℕ → Type 0) → List ℕ → Turn ℕ
the P text = record { from = The P text; to = P; gives = λ w h. h.0 }

abbrev pub the_number : List ℕ → Turn ℕ
the_number text = record { from = The IsDecimal text; to = IsInt; gives = λ w h. decimal-int w h.0 }

abbrev pub picked_field : ℕ → ℕ → ℕ → ℕ → Turn ℕ
picked_field so_many least most n = record { from = Picked so_many least most n; to = λ w. IsField so_many least most w n; gives = λ w p. field so_many least most w n p }

abbrev pub field_picked : (so_many least most n : ℕ) → most < 2 ^ 32 → Turn ℕ
field_picked so_many least most n l = record { from = λ w. IsField so_many least most w n; to = Picks so_many least most; gives = λ w i. picks so_many least most w n l i }
