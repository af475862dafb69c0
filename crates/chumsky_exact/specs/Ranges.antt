-- Sets of characters as ranges, so that it is computed which of them may come next.
-- Main words: within, Limit, barred, lets, implied, but, also. Main laws: lets-all, implied-stops, but-stops, also-stops. Read first: Words.antt of chumsky_parser.
use Rattle.std.proofs.Common.{◌≡◌, ℕ, Bool, true, false, nat_lt, nat_le, ◌&&◌, ◌||◌, List, [], ◌∷◌, ◌++◌, cond, refl, ap, arith, inl, inr}
use Rattle.std.specs.Prelude.{◌⊎◌, not}
use Rattle.std.proofs.lemmas.Bool.Decides.{nat_tests}
use Rattle.chumsky_parser.specs.ProgressLaws.{both-true}
use Rattle.chumsky_parser.specs.Words.{StopsAt}

-- each from a first character to a last
abbrev pub Ranges : Type 0
Ranges = List (ℕ × ℕ)

abbrev pub between : ℕ × ℕ → ℕ → Bool
between r c = nat_le r.0 c && nat_le c r.1

-- a character is in one of them
abbrev pub within : Ranges → ℕ → Bool
within [] c = false
within (r ∷ rs) c = between r c || within rs c

-- a range, and ranges, have no character in common with others
abbrev pub range_apart : ℕ × ℕ → Ranges → Bool
range_apart r [] = true
range_apart r (q ∷ qs) = (nat_lt r.1 q.0 || nat_lt q.1 r.0) && range_apart r qs

abbrev pub apart : Ranges → Ranges → Bool
apart [] qs = true
apart (r ∷ rs) qs = range_apart r qs && apart rs qs

-- a range is all in one of others, and ranges each are
abbrev pub range_covered : ℕ × ℕ → Ranges → Bool
range_covered r [] = false
range_covered r (q ∷ qs) = (nat_le q.0 r.0 && nat_le r.1 q.1) || range_covered r qs

abbrev pub covered : Ranges → Ranges → Bool
covered [] qs = true
covered (r ∷ rs) qs = range_covered r qs && covered rs qs

-- what may come next, if anything does: all but these, or these alone
pub data Limit : Type 0 where
  AllBut : Ranges → Limit
  Only : Ranges → Limit

-- whether a character may not
abbrev pub barred : Limit → ℕ → Bool
barred (AllBut rs) = within rs
barred (Only rs) = λ c. not (within rs c)

-- each of these may; and each that may under the second limit
abbrev pub lets : Limit → Ranges → Bool
lets (AllBut rs) qs = apart qs rs
lets (Only rs) qs = covered qs rs

abbrev pub implied : Limit → Limit → Bool
implied (AllBut rs) (AllBut qs) = covered rs qs
implied (AllBut rs) (Only qs) = apart qs rs
implied (Only rs) (AllBut qs) = false
implied (Only rs) (Only qs) = covered qs rs

either : (a b : Bool) → (a || b) ≡ true → (a ≡ true) ⊎ (b ≡ true)
either true b e = inl refl
either false b e = inr e

neither : (a b : Bool) → a ≡ false → b ≡ false → (a || b) ≡ false
neither true b e f = absurd (cc e)
neither false b e f = f

first_true : (a b : Bool) → a ≡ true → (a || b) ≡ true
first_true true b e = refl
first_true false b e = absurd (cc e)

second_true : (a b : Bool) → b ≡ true → (a || b) ≡ true
second_true true b e = refl
second_true false b e = e

-- of ranges from a to b and from d to e
in_first_alone : (a b d e c : ℕ) → (nat_lt b d || nat_lt e a) ≡ true → (nat_le a c && nat_le c b) ≡ true → (nat_le d c && nat_le c e) ≡ false
in_first_alone a b d e c p q = grind (arith, nat_tests)

in_second_too : (a b d e c : ℕ) → (nat_le d a && nat_le b e) ≡ true → (nat_le a c && nat_le c b) ≡ true → (nat_le d c && nat_le c e) ≡ true
in_second_too a b d e c p q = grind (arith, nat_tests)

outside_all : (r : ℕ × ℕ) (qs : Ranges) (c : ℕ) → range_apart r qs ≡ true → between r c ≡ true → within qs c ≡ false
outside_all r [] c e h = refl
outside_all r (q ∷ qs) c e h =
    let p = both-true (nat_lt r.1 q.0 || nat_lt q.1 r.0) (range_apart r qs) e in
    neither (between q c) (within qs c) (in_first_alone r.0 r.1 q.0 q.1 c p.0 h) (outside_all r qs c p.1 h)

inside_some : (r : ℕ × ℕ) (qs : Ranges) (c : ℕ) → range_covered r qs ≡ true → between r c ≡ true → within qs c ≡ true
inside_some r [] c e h = absurd (cc e)
inside_some r (q ∷ qs) c e h = elim (either (nat_le q.0 r.0 && nat_le r.1 q.1) (range_covered r qs) e) [
  | inl p ↦ first_true (between q c) (within qs c) (in_second_too r.0 r.1 q.0 q.1 c p h)
  | inr p ↦ second_true (between q c) (within qs c) (inside_some r qs c p h)
]

within-apart : (rs qs : Ranges) (c : ℕ) → apart rs qs ≡ true → within rs c ≡ true → within qs c ≡ false
within-apart [] qs c e h = absurd (cc h)
within-apart (r ∷ rs) qs c e h =
    let p = both-true (range_apart r qs) (apart rs qs) e in
    elim (either (between r c) (within rs c) h) [ inl i ↦ outside_all r qs c p.0 i | inr i ↦ within-apart rs qs c p.1 i ]

within-covered : (rs qs : Ranges) (c : ℕ) → covered rs qs ≡ true → within rs c ≡ true → within qs c ≡ true
within-covered [] qs c e h = absurd (cc h)
within-covered (r ∷ rs) qs c e h =
    let p = both-true (range_covered r qs) (covered rs qs) e in
    elim (either (between r c) (within rs c) h) [ inl i ↦ inside_some r qs c p.0 i | inr i ↦ within-covered rs qs c p.1 i ]

-- what is in ranges is in these and others
pub within-left : (rs qs : Ranges) (c : ℕ) → within rs c ≡ true → within (rs ++ qs) c ≡ true
within-left [] qs c h = absurd (cc h)
within-left (r ∷ rs) qs c h = elim (either (between r c) (within rs c) h) [
  | inl i ↦ first_true (between r c) (within (rs ++ qs) c) i
  | inr i ↦ second_true (between r c) (within (rs ++ qs) c) (within-left rs qs c i)
]

pub within-right : (rs qs : Ranges) (c : ℕ) → within qs c ≡ true → within (rs ++ qs) c ≡ true
within-right [] qs c h = h
within-right (r ∷ rs) qs c h = second_true (between r c) (within (rs ++ qs) c) (within-right rs qs c h)

-- each of ranges that a limit lets come may come
pub lets-all : (l : Limit) (qs : Ranges) (c : ℕ) → lets l qs ≡ true → within qs c ≡ true → barred l c ≡ false
lets-all (AllBut rs) qs c e h = within-apart qs rs c e h
lets-all (Only rs) qs c e h = ap not (within-covered qs rs c e h)

not_false : (b : Bool) → not b ≡ false → b ≡ true
not_false true e = refl
not_false false e = absurd (cc e)

-- what no test passes of some, passes none that implies it
pub weaker : (test other : ℕ → Bool) (c : ℕ) → (test c ≡ true → other c ≡ true) → other c ≡ false → test c ≡ false
weaker test other c h n = by_test (test c) refl
  where
    by_test : (b : Bool) → test c ≡ b → test c ≡ false
    by_test true e = let f = h e in absurd (cc (f, n))
    by_test false e = e

limits : (l m : Limit) (c : ℕ) → implied l m ≡ true → barred m c ≡ false → barred l c ≡ false
limits (AllBut rs) (AllBut qs) c e n = weaker (within rs) (within qs) c (within-covered rs qs c e) n
limits (AllBut rs) (Only qs) c e n = within-apart qs rs c e (not_false (within qs c) n)
limits (Only rs) (AllBut qs) c e n = absurd (cc e)
limits (Only rs) (Only qs) c e n = ap not (within-covered qs rs c e (not_false (within qs c) n))

-- where one limit is kept, so is one that is implied
pub implied-stops : (l m : Limit) → implied l m ≡ true → (rest : List ℕ) → StopsAt (barred m) rest → StopsAt (barred l) rest
implied-stops l m e [] s = tt
implied-stops l m e (c ∷ cs) s = limits l m c e s

-- those of some ranges that have no character in common with others
abbrev pub clear_of : Ranges → Ranges → Ranges
clear_of [] qs = []
clear_of (r ∷ rs) qs = cond (range_apart r qs) (r ∷ []) [] ++ clear_of rs qs

-- a limit, and none of these either; of a limit to some, those that have nothing in common with these
abbrev pub but : Limit → Ranges → Limit
but (AllBut rs) qs = AllBut (rs ++ qs)
but (Only rs) qs = Only (clear_of rs qs)

-- what is known where none of these comes either: a limit to some stays as it is
abbrev pub also : Limit → Ranges → Limit
also (AllBut rs) qs = AllBut (rs ++ qs)
also (Only rs) qs = Only rs

both_false : (a b : Bool) → (a || b) ≡ false → (a ≡ false) × (b ≡ false)
both_false true b e = absurd (cc e)
both_false false b e = (refl, e)

within-neither : (rs qs : Ranges) (c : ℕ) → within (rs ++ qs) c ≡ false → (within rs c ≡ false) × (within qs c ≡ false)
within-neither [] qs c h = (refl, h)
within-neither (r ∷ rs) qs c h =
    let p = both_false (between r c) (within (rs ++ qs) c) h in
    let q = within-neither rs qs c p.1 in
    (neither (between r c) (within rs c) p.0 q.0, q.1)

within-none : (rs qs : Ranges) (c : ℕ) → within rs c ≡ false → within qs c ≡ false → within (rs ++ qs) c ≡ false
within-none [] qs c h k = k
within-none (r ∷ rs) qs c h k = let p = both_false (between r c) (within rs c) h in neither (between r c) (within (rs ++ qs) c) p.0 (within-none rs qs c p.1 k)

clear_of-first : (r : ℕ × ℕ) (rs qs : Ranges) (c : ℕ) → (within (clear_of rs qs) c ≡ true → (within rs c ≡ true) × (within qs c ≡ false))
    → (b : Bool) → range_apart r qs ≡ b → within (cond b (r ∷ []) [] ++ clear_of rs qs) c ≡ true → (within (r ∷ rs) c ≡ true) × (within qs c ≡ false)
clear_of-first r rs qs c more true e h = elim (either (between r c) (within (clear_of rs qs) c) h) [
  | inl i ↦ (first_true (between r c) (within rs c) i, outside_all r qs c e i)
  | inr i ↦ let k = more i in (second_true (between r c) (within rs c) k.0, k.1)
]
clear_of-first r rs qs c more false e h = let k = more h in (second_true (between r c) (within rs c) k.0, k.1)

clear_of-in : (rs qs : Ranges) (c : ℕ) → within (clear_of rs qs) c ≡ true → (within rs c ≡ true) × (within qs c ≡ false)
clear_of-in [] qs c h = absurd (cc h)
clear_of-in (r ∷ rs) qs c h = clear_of-first r rs qs c (clear_of-in rs qs c) (range_apart r qs) refl h

but-keeps : (l : Limit) (qs : Ranges) (c : ℕ) → barred (but l qs) c ≡ false → (barred l c ≡ false) × (within qs c ≡ false)
but-keeps (AllBut rs) qs c h = within-neither rs qs c h
but-keeps (Only rs) qs c h = let i = clear_of-in rs qs c (not_false (within (clear_of rs qs) c) h) in (ap not i.0, i.1)

-- where a limit is kept and none of these comes, each is so
pub but-stops : (l : Limit) (qs : Ranges) (rest : List ℕ) → StopsAt (barred (but l qs)) rest → StopsAt (barred l) rest × StopsAt (within qs) rest
but-stops l qs [] s = (tt, tt)
but-stops l qs (c ∷ cs) s = but-keeps l qs c s

-- and where each is so, both are known
pub also-stops : (l : Limit) (qs : Ranges) (rest : List ℕ) → StopsAt (barred l) rest → StopsAt (within qs) rest → StopsAt (barred (also l qs)) rest
also-stops l qs [] s t = tt
also-stops (AllBut rs) qs (c ∷ cs) s t = within-none rs qs c s t
also-stops (Only rs) qs (c ∷ cs) s t = s
