-- Pieces made of others: one that may be absent, and a list with fixed text between its items.
-- Main words: optional, separated. Main laws: separated-once, if_any-once. Read first: Lexemes.antt, Separated.antt.
use Rattle.std.proofs.Common.{◌≡◌, ℕ, zero, suc, Bool, true, false, cond, nat_eq, ◌&&◌, None, List, [], ◌∷◌, ◌++◌, length, refl, sym, ◌∙◌, ap, subst, arith, inl, inr}
use Rattle.std.specs.Prelude.{⊤, ◌⊎◌, not, map}
use Rattle.std.proofs.lemmas.Bool.Decides.{nat_tests}
use Rattle.std.proofs.lemmas.List.{append-nil, append_cancel_left, append_cancel_right}
use Rattle.chumsky_parser.specs.Ending.{Ending, At, Nowhere, Refused, Ender, DoesNotEnd}
use Rattle.chumsky_parser.specs.ItemsLanguage.{list_ends, list_until}
use Rattle.chumsky_parser.specs.ProgressLaws.{both-true, never}
use Rattle.chumsky_parser.specs.Words.{StopsAt}
use Rattle.chumsky_primitive.specs.Just.{has_members}
use Rattle.chumsky_primitive.specs.Literals.{same-equals}
use Rattle.chumsky_primitive.specs.PrimitiveLanguage.{Equals, literal_ends}
use Rattle.chumsky_combinator.specs.OptionalLanguage.{maybe_ends}
use Rattle.chumsky_items.specs.ListWords.{separated_next, SeparatedFollow}
use Rattle.chumsky_exact.specs.InTurn.{IfAny, Tree, Part, leaves, Words}
use Rattle.chumsky_exact.specs.Lexemes.{fixed, first_of, fixed_fails, anything, nothing_once}
use Rattle.chumsky_exact.specs.Pieces.{
  Piece,
  BeginsIn,
  word_of,
  row_stops,
  Follow,
  next_of,
  left_of,
  fits_of,
  over_of,
  may_follow,
  may-follow,
  Unambiguous,
  is_unambiguous,
  unambiguous,
  is_parted,
  words-once,
  opens,
  opens_with,
  ends_of,
  fails_of,
  begins_more,
  begun_of,
  is_whole,
}
use Rattle.chumsky_exact.specs.Ranges.{Ranges, within, Limit, AllBut, barred, but, also, but-stops, also-stops}
use Rattle.chumsky_exact.specs.Separated.{Separated, SeparatedFrom, AreSeparated, list-separated, separated-front}

not_both : (rs : Ranges) (w rest : List ℕ) → BeginsIn false rs w → StopsAt (within rs) (w ++ rest) → ⊥
not_both rs [] rest h s = let n : false ≡ true = h in absurd (cc n)
not_both rs (c ∷ cs) rest h s = absurd (cc (h, s))

some_begin : (empty : Bool) (rs : Ranges) (w : List ℕ) → BeginsIn false rs w → BeginsIn empty rs w
some_begin empty rs [] h = let n : false ≡ true = h in absurd (cc n)
some_begin empty rs (c ∷ cs) h = h

-- a parser that may itself be a part
module _ (t : Tree Piece) (h : is_whole t ≡ true) where
  opened : opens t ≡ true
  opened = (both-true (opens t) (is_unambiguous t) (both-true (opens t && is_unambiguous t) (is_parted (leaves t []) (next_of t)) h).0).0

  pub is_clear : is_unambiguous t ≡ true
  is_clear = (both-true (opens t) (is_unambiguous t) (both-true (opens t && is_unambiguous t) (is_parted (leaves t []) (next_of t)) h).0).1

  pub begun_whole : (empty : Bool) (w : List ℕ) → Words word_of t w → BeginsIn empty (opens_with t) w
  begun_whole empty w i = some_begin empty (opens_with t) w (begun_of t opened w i)

  pub fails_whole : (rest : List ℕ) → StopsAt (within (opens_with t)) rest → DoesNotEnd (ends_of t rest)
  fails_whole rest s = fails_of t opened rest s

  pub whole_once : (w v x y : List ℕ) → Words word_of t w → Words word_of t v → StopsAt (barred (next_of t)) x → StopsAt (barred (next_of t)) y → w ++ x ≡ v ++ y → (w ≡ v) × (x ≡ y)
  whole_once = words-once t (next_of t) (both-true (opens t && is_unambiguous t) (is_parted (leaves t []) (next_of t)) h).1

  -- one of its words, or nothing
  abbrev pub IsOptional : List ℕ → Type 0
  IsOptional w = Words word_of t w ⊎ (w ≡ [])

  pub optional_begins : (w : List ℕ) → IsOptional w → BeginsIn true (opens_with t) w
  optional_begins w (inl i) = begun_whole true w i
  optional_begins w (inr e) = subst (BeginsIn true (opens_with t)) (sym e) refl

  abbrev pub after_optional : Limit
  after_optional = but (next_of t) (opens_with t)

  pub not_word : (w x y : List ℕ) → Words word_of t w → StopsAt (barred after_optional) y → w ++ x ≡ y → ⊥
  not_word w x y i s e = not_both (opens_with t) w x (begun_of t opened w i) (subst (StopsAt (within (opens_with t))) (sym e) (but-stops (next_of t) (opens_with t) y s).1)

  pub optional_once : (w v x y : List ℕ) → IsOptional w → IsOptional v → StopsAt (barred after_optional) x → StopsAt (barred after_optional) y → w ++ x ≡ v ++ y → (w ≡ v) × (x ≡ y)
  optional_once w v x y (inl i) (inl j) s u e = whole_once w v x y i j (but-stops (next_of t) (opens_with t) x s).0 (but-stops (next_of t) (opens_with t) y u).0 e
  optional_once w v x y (inl i) (inr b) s u e = absurd (not_word w x y i u (e ∙ ap (λ z. z ++ y) b))
  optional_once w v x y (inr a) (inl j) s u e = absurd (not_word v y x j s (sym e ∙ ap (λ z. z ++ x) a))
  optional_once w v x y (inr a) (inr b) s u e = nothing_once w v x y a b e

  -- a part that may be absent, as `or_not` takes it: what it begins with may not follow it
  abbrev pub optional : Piece
  optional = record {
    word = IsOptional;
    follow = λ rest. Follow t rest × DoesNotEnd (ends_of t rest);
    ends = maybe_ends (ends_of t);
    empty = true;
    begins = opens_with t;
    begun = optional_begins;
    fails = λ e rest s. never (sym e);
    next = after_optional;
    fits = λ rest s. (fits_of t rest (but-stops (next_of t) (opens_with t) rest s).0, fails_whole rest (but-stops (next_of t) (opens_with t) rest s).1);
    leaves_over = left_of t;
    left = λ rest f. over_of t rest f.0;
    once = optional_once;
    uncut = Unambiguous t;
    is_uncut = unambiguous t is_clear;
  }

-- a separator of one character, of which it is known that it doesn't come where the separator doesn't
abbrev pub alone : List ℕ → Ranges
alone [] = []
alone (c ∷ []) = (c, c) ∷ []
alone (c ∷ d ∷ ds) = []

not_within : (c d : ℕ) → nat_eq c d ≡ false → within ((c, c) ∷ []) d ≡ false
not_within c d e = grind (arith, nat_tests)

not_taken : (b : Bool) (rest : List ℕ) → DoesNotEnd (cond b (At rest) Nowhere) → b ≡ false
not_taken true rest d = absurd d
not_taken false rest d = refl

pub alone_stops : (separator rest : List ℕ) → DoesNotEnd (literal_ends nat_eq separator rest) → StopsAt (within (alone separator)) rest
alone_stops [] rest d = anything rest
alone_stops (c ∷ []) [] d = tt
alone_stops (c ∷ []) (t ∷ ts) d = not_within c t (not_taken (nat_eq c t) ts d)
alone_stops (c ∷ d ∷ ds) rest n = anything rest

not_first : (separator rest : List ℕ) → has_members separator ≡ true → StopsAt (within (first_of separator)) (separator ++ rest) → ⊥
not_first [] rest h s = absurd (cc h)
not_first (m ∷ ms) rest h s = let t : within ((m, m) ∷ []) m ≡ true = grind (arith, nat_tests) in absurd (cc (t, s))

-- a list of an item at least ends nowhere where no item is
pub none_until : (f separator : Ender ℕ) (n : ℕ) (ts : List ℕ) → DoesNotEnd (f ts) → DoesNotEnd (list_until (separated_next f separator false false 1 None) n 0 ts)
none_until f separator n ts d = by_number n (f ts) refl d
  where
    by_number : (n : ℕ) (x : Ending (List ℕ)) → f ts ≡ x → DoesNotEnd x → DoesNotEnd (list_until (separated_next f separator false false 1 None) n 0 ts)
    by_number n (At r) e d = absurd d
    by_number zero Nowhere e d = rw e tt
    by_number zero Refused e d = rw e tt
    by_number (suc n) Nowhere e d = rw e tt
    by_number (suc n) Refused e d = rw e tt

-- an item may itself be a part, and the separator may follow it
abbrev pub makes_list : Tree Piece → List ℕ → Bool
makes_list item separator = (has_members separator && is_whole item) && may_follow item (Part (fixed separator))

module _ (item : Tree Piece) (separator : List ℕ) (h : makes_list item separator ≡ true) where
  some_members : has_members separator ≡ true
  some_members = (both-true (has_members separator) (is_whole item) (both-true (has_members separator && is_whole item) (may_follow item (Part (fixed separator))) h).0).0

  pub whole_item : is_whole item ≡ true
  whole_item = (both-true (has_members separator) (is_whole item) (both-true (has_members separator && is_whole item) (may_follow item (Part (fixed separator))) h).0).1

  pub separator_follows : may_follow item (Part (fixed separator)) ≡ true
  separator_follows = (both-true (has_members separator && is_whole item) (may_follow item (Part (fixed separator))) h).1

  -- what may follow an item; and the list: no item, and no separator
  abbrev pub FitsItem : List ℕ → Type 0
  FitsItem = StopsAt (barred (next_of item))

  abbrev pub after_list : Limit
  after_list = but (but (next_of item) (opens_with item)) (first_of separator)

  abbrev pub FitsList : List ℕ → Type 0
  FitsList = StopsAt (barred after_list)

  pub fits_item : (rest : List ℕ) → FitsList rest → FitsItem rest
  fits_item rest s = (but-stops (next_of item) (opens_with item) rest (but-stops (but (next_of item) (opens_with item)) (first_of separator) rest s).0).0

  pub no_item : (rest : List ℕ) → FitsList rest → StopsAt (within (opens_with item)) rest
  no_item rest s = (but-stops (next_of item) (opens_with item) rest (but-stops (but (next_of item) (opens_with item)) (first_of separator) rest s).0).1

  pub no_separator : (rest : List ℕ) → FitsList rest → StopsAt (within (first_of separator)) rest
  no_separator rest s = (but-stops (but (next_of item) (opens_with item)) (first_of separator) rest s).1

  pub separator_fits : (rest : List ℕ) → FitsItem (separator ++ rest)
  separator_fits rest =
      row_stops (next_of item) (fixed separator ∷ []) (AllBut []) separator_follows separator rest
      (record { first = separator; second = []; all = sym (append-nil separator); is_first = same-equals separator; is_second = refl }) (anything rest)

  pub not_list : (rest : List ℕ) → FitsList (separator ++ rest) → ⊥
  not_list rest s = not_first separator rest some_members (no_separator (separator ++ rest) s)

  pub no_separator_ends : (rest : List ℕ) → FitsList rest → DoesNotEnd (literal_ends nat_eq separator rest)
  no_separator_ends rest s = fixed_fails separator (ap not some_members) rest (no_separator rest s)

  abbrev IsItem : List ℕ → Type 0
  IsItem = Words word_of item

  begins_list : (items : List (List ℕ)) (w : List ℕ) → SeparatedFrom (λ z k. IsItem z) separator 0 items w → BeginsIn false (opens_with item) w
  begins_list [] w l = absurd (omega (arith, l.0))
  begins_list (k ∷ ks) w l = subst (BeginsIn false (opens_with item)) (sym l.all) (begins_more (opens_with item) l.first l.second (begun_whole item whole_item false l.first l.is_first.1))

  pub list_begins : (w : List ℕ) → AreSeparated IsItem separator w → BeginsIn false (opens_with item) w
  list_begins w i = begins_list i.items w i.are

  -- items without their values
  spelled : (w : List ℕ) (i : AreSeparated IsItem separator w) → Separated (λ z (v : Unit {0}). IsItem z) separator w (map (λ k. tt) i.items)
  spelled w i = list-separated (λ z (k : List ℕ). IsItem z) (λ z (v : Unit {0}). IsItem z) (λ k. tt) (λ z k j. j) separator i.items w i.are

  pub list_once : (w v x y : List ℕ) → AreSeparated IsItem separator w → AreSeparated IsItem separator v → FitsList x → FitsList y → w ++ x ≡ v ++ y → (w ≡ v) × (x ≡ y)
  list_once w v x y i j s u e =
      let r = separated-front (λ z (v : Unit {0}). IsItem z) separator FitsItem FitsList fits_item separator_fits not_list
      (λ w v x y a b i j s u e. (refl, (whole_once item whole_item w v x y i j s u e).1)) (spelled w i) (spelled v j) x y s u e in
      (append_cancel_right w v x (e ∙ ap (λ z. v ++ z) (sym r.1)), r.1)

  -- a list of one item at least, with fixed text between each two, as `separated_by(just(..)).at_least(1)` takes it
  abbrev pub separated : Piece
  separated = record {
    word = AreSeparated (Words word_of item) separator;
    follow = SeparatedFollow (ends_of item) (literal_ends nat_eq separator) (Follow item) (λ rest. ⊤);
    ends = list_ends (separated_next (ends_of item) (literal_ends nat_eq separator) false false 1 None);
    empty = false;
    begins = opens_with item;
    begun = list_begins;
    fails = λ e rest s. none_until (ends_of item) (literal_ends nat_eq separator) (length rest) rest (fails_whole item whole_item rest s);
    next = after_list;
    fits = λ rest s. (fits_of item rest (fits_item rest s), tt, no_separator_ends rest s, fails_whole item whole_item rest (no_item rest s));
    leaves_over = also (left_of item) (alone separator);
    left = λ rest f. also-stops (left_of item) (alone separator) rest (over_of item rest f.0) (alone_stops separator rest f.2);
    once = list_once;
    uncut =
        Unambiguous item × ⊤ × ((w rest : List ℕ) → Equals nat_eq separator w → ⊤ → Follow item (w ++ rest)) × ((w rest : List ℕ) → Words word_of item w → Follow item rest → ⊤)
        × (false ≡ true → (w rest : List ℕ) → Words word_of item w → Follow item rest → DoesNotEnd (literal_ends nat_eq separator (w ++ rest)));
    is_uncut = (unambiguous item (is_clear item whole_item), tt, λ w rest i f. may-follow item (Part (fixed separator)) separator_follows w rest i f, λ w rest i f. tt, λ e. never e);
  }

  -- where a word has one value, a text is one list of values; and one or none behind a text that opens it
  module _ {V : Type 0} (of : List ℕ → V → Type 0) (is_word : (w : List ℕ) (v : V) → of w v → Words word_of item w) (decides : (w : List ℕ) (v t : V) → of w v → of w t → v ≡ t) where
    one_value : (w u x y : List ℕ) (v t : V) → of w v → of u t → FitsItem x → FitsItem y → w ++ x ≡ u ++ y → (v ≡ t) × (x ≡ y)
    one_value w u x y v t i j p q e = let r = whole_once item whole_item w u x y (is_word w v i) (is_word u t j) p q e in (decides u v t (subst (λ z. of z v) r.0 i) j, r.1)

    pub separated-once : (w : List ℕ) (vs ts : List V) → Separated of separator w vs → Separated of separator w ts → vs ≡ ts
    separated-once w vs ts i j = (separated-front of separator FitsItem FitsList fits_item separator_fits not_list one_value i j [] [] tt tt refl).0

    pub if_any-once : (c : ℕ) (cs w u : List ℕ) (vs ts : List V) → w ≡ u → IfAny (c ∷ cs) (Separated of separator) vs w → IfAny (c ∷ cs) (Separated of separator) ts u → vs ≡ ts
    if_any-once c cs w u [] [] s i j = refl
    if_any-once c cs w u [] (t ∷ ts) s i j = let e : [] ≡ c ∷ (cs ++ j.second) = sym i ∙ s ∙ j.all ∙ ap (λ z. z ++ j.second) j.is_first in absurd (cc e)
    if_any-once c cs w u (v ∷ vs) [] s i j = let e : [] ≡ c ∷ (cs ++ i.second) = sym j ∙ sym s ∙ i.all ∙ ap (λ z. z ++ i.second) i.is_first in absurd (cc e)
    if_any-once c cs w u (v ∷ vs) (t ∷ ts) s i j =
        let a : (c ∷ cs) ++ i.second ≡ (c ∷ cs) ++ j.second = ap (λ z. z ++ i.second) (sym i.is_first) ∙ sym i.all ∙ s ∙ j.all ∙ ap (λ z. z ++ j.second) j.is_first in
        let b = append_cancel_left (c ∷ cs) i.second j.second a in
        separated-once j.second (v ∷ vs) (t ∷ ts) (subst (λ z. Separated of separator z (v ∷ vs)) b i.is_second) j.is_second
