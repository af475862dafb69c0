-- The language of a set: a word of each part, in some order.
-- Main words: set_ends, set_taken, InAnyOrder, RowLanguage, set_language. Laws: SetWords.antt, SetEndings.antt. Read first: AnyOrder.antt, and Language.antt of chumsky_parser.
use Rattle.std.specs.Prelude.{◌≡◌, ℕ, zero, suc, ◌+◌, Bool, true, false, ◌&&◌, nat_lt, if◌then◌else◌, Option, Some, None, IsSomeAnd, List, [], ◌∷◌, length, map, flat_map, ⊤, IsPermutation}
use Rattle.chumsky_parser.specs.Ending.{Ending, At, Nowhere, Refused, Ender, and_then, Ends}
use Rattle.chumsky_parser.specs.Language.{Language, sooner}
use Rattle.chumsky_set.specs.AnyOrder.{still}

-- of each part the tokens that were left where it was taken, if it was
abbrev pub Places : Type 0 → Type 0
Places Tok = List (Option (List Tok))

abbrev pub none_taken : {Tok : Type 0} → List (Ender Tok) → Places Tok
none_taken fs = map (λ _. None) fs

-- how many are not taken
abbrev pub untaken : {Tok : Type 0} → Places Tok → ℕ
untaken [] = 0
untaken (p ∷ places) = still p + untaken places

-- where a pass ends: the parts that are taken then, and the tokens that are left
abbrev pub Passed : Type 0 → Type 0
Passed Tok = Ending (Places Tok × List Tok)

abbrev pub left_of : {Tok : Type 0} → Passed Tok → Ending (List Tok)
left_of x = and_then (λ s. At s.1) x

-- a pass over the others, with a part before them
abbrev pub before : {Tok : Type 0} → Option (List Tok) → Passed Tok → Passed Tok
before p x = and_then (λ s. At (p ∷ s.0, s.1)) x

-- there, if a token was taken
abbrev pub further_on : {Tok : Type 0} → List Tok → List Tok → Ending (List Tok)
further_on ts rest = if nat_lt (length rest) (length ts) then At rest else Nowhere

-- a part is taken where it ends, and else is gone back from; the others go on
abbrev pub offered : {Tok : Type 0} → List Tok → (List Tok → Passed Tok) → Ending (List Tok) → Passed Tok
offered ts others (At rest) = before (Some ts) (others rest)
offered ts others Nowhere = before None (others ts)
offered ts others Refused = Refused

-- a round: each part that is not taken is offered what is left, and has to take a token
abbrev pub round : {Tok : Type 0} → List (Ender Tok) → Places Tok → List Tok → Passed Tok
round [] places ts = At ([], ts)
round (f ∷ fs) [] ts = Nowhere
round (f ∷ fs) (Some p ∷ places) ts = before (Some p) (round fs places ts)
round (f ∷ fs) (None ∷ places) ts = offered ts (round fs places) (and_then (further_on ts) (f ts))

-- the last pass: each part that is not taken has to end
abbrev pub last_pass : {Tok : Type 0} → List (Ender Tok) → Places Tok → List Tok → Passed Tok
last_pass [] places ts = At ([], ts)
last_pass (f ∷ fs) [] ts = Nowhere
last_pass (f ∷ fs) (Some p ∷ places) ts = before (Some p) (last_pass fs places ts)
last_pass (f ∷ fs) (None ∷ places) ts = and_then (λ rest. before (Some ts) (last_pass fs places rest)) (f ts)

-- fewer rounds than so many, as long as they take a part, and the last pass
abbrev pub rounds : {Tok : Type 0} → ℕ → List (Ender Tok) → Places Tok → List Tok → Passed Tok
rounds zero fs places ts = Nowhere
rounds (suc n) fs places ts = and_then (λ s. if nat_lt (untaken s.0) (untaken places) then rounds n fs s.0 s.1 else last_pass fs s.0 s.1) (round fs places ts)

-- where each part of a set is taken, and where the set ends
abbrev pub set_taken : {Tok : Type 0} → List (Ender Tok) → List Tok → Passed Tok
set_taken fs ts = rounds (suc (untaken (none_taken fs))) fs (none_taken fs) ts

abbrev pub set_ends : {Tok : Type 0} → List (Ender Tok) → Ender Tok
set_ends fs ts = left_of (set_taken fs ts)

-- words that are so, one after another in some order
pub record InAnyOrder {Tok : Type 0} (are : List (List Tok) → Type 0) (w : List Tok) : Type 0 where
  pub words : List (List Tok)
  pub is : are words
  pub order : List (List Tok)
  pub moved : IsPermutation words order
  pub all : w ≡ flat_map (λ u. u) order

-- what is said of the parts of a set
pub record RowLanguage (Tok V : Type 0) : Type 1 where
  -- that the language of each is said
  pub said : Bool
  -- where each ends, and which values they may give where they are taken at these places
  pub ends : List (Ender Tok)
  pub value : Places Tok → V → Type 0
  -- these are words, one of each, and stand for these values
  pub words : List (List Tok) → Type 0
  pub stand_for : List (List Tok) → V → Type 0
  pub refused_from : Option ℕ
  pub takes_no_memory : Type 0

-- P of the first and of the others
abbrev pub OfFirst : {X : Type 0} → (X → List X → Type 0) → List X → Type 0
OfFirst P [] = ⊥
OfFirst P (x ∷ xs) = P x xs

abbrev pub no_parts : {Tok : Type 0} → RowLanguage Tok (Unit {0})
no_parts = record {
  said = true;
  ends = [];
  value = λ places v. ⊤;
  words = λ ws. ws ≡ [];
  stand_for = λ ws v. ws ≡ [];
  refused_from = None;
  takes_no_memory = ⊤;
}

abbrev pub part_before : {Tok V W : Type 0} → Language Tok V → RowLanguage Tok W → RowLanguage Tok (V × W)
part_before F others = record {
  said = F.said && others.said;
  ends = F.ends ∷ others.ends;
  value = λ places v. OfFirst (λ p ps. IsSomeAnd p (λ ts. F.value ts v.0) × others.value ps v.1) places;
  words = λ ws. OfFirst (λ u us. F.word u × others.words us) ws;
  stand_for = λ ws v. OfFirst (λ u us. F.stands_for u v.0 × others.stand_for us v.1) ws;
  refused_from = sooner F.refused_from others.refused_from;
  takes_no_memory = F.takes_no_memory × others.takes_no_memory;
}

-- a word of each part in some order, with their values, which this takes apart. When no word is cut short is not said
abbrev pub set_language : {Tok V W : Type 0} → (W → V) → RowLanguage Tok V → Language Tok W
set_language apart R = record {
  said = R.said;
  ends = set_ends R.ends;
  value = λ ts w. Ends (set_taken R.ends ts) (λ s. R.value s.0 (apart w));
  word = InAnyOrder R.words;
  stands_for = λ u w. InAnyOrder (λ ws. R.stand_for ws (apart w)) u;
  follow = λ _. ⊥;
  unambiguous = ⊥;
  refused_from = R.refused_from;
  moves = false;
  takes_no_memory = R.takes_no_memory;
}

-- the values of one to four parts, as the passes have them
abbrev pub apart_one : {A : Type 0} → record { 0 : A } → A × Unit {0}
apart_one v = (v.0, tt)

abbrev pub apart_two : {A B : Type 0} → A × B → A × (B × Unit {0})
apart_two v = (v.0, (v.1, tt))

abbrev pub apart_three : {A B C : Type 0} → A × B × C → A × (B × (C × Unit {0}))
apart_three v = (v.0, (v.1, (v.2, tt)))

abbrev pub apart_four : {A B C D : Type 0} → A × B × C × D → A × (B × (C × (D × Unit {0})))
apart_four v = (v.0, (v.1, (v.2, (v.3, tt))))
