-- Which words `repeated` takes, by those of its items.
-- Main laws: repeated-one, repeated-given, repeated-over, repeated-never_empty, repeated-each, repeated-ends. Read first: ListWords.antt.
use Rattle.std.proofs.Common.{
  ◌≡◌,
  ℕ,
  suc,
  ◌≤◌,
  ◌<◌,
  nat_lt,
  Bool,
  true,
  false,
  not,
  cond,
  Option,
  Some,
  None,
  List,
  [],
  ◌∷◌,
  ◌++◌,
  length,
  refl,
  sym,
  ◌∙◌,
  ap,
  subst,
  arith,
  append_assoc,
  ◌⊎◌,
  inl,
  inr,
}
use Rattle.std.proofs.lemmas.Bool.Decides.{nat_tests}
use Rattle.chumsky_parser.specs.Ending.{Ending, At, Nowhere, Refused, Ender, EndsOrRefused, DoesNotEnd}
use Rattle.chumsky_parser.specs.Language.{Begins, TakesOnly, GivesOnly, TakesEach, EndsFurther}
use Rattle.chumsky_parser.specs.ItemsLanguage.{One, Over, ListFrom, GoesOn}
use Rattle.chumsky_parser.specs.ProgressLaws.{both-true}
use Rattle.chumsky_items.specs.Repeating.{at_cap, has_an_item}
use Rattle.chumsky_items.specs.ListWords.{overs, one_or, unless_few, repeated_next, Under, Enough, IsExact, RepeatedWord, RepeatedEnd, RepeatedFollow}

pub under-cap : (most : Option ℕ) (k : ℕ) → at_cap most k ≡ false → Under most k
under-cap None k e = tt
under-cap (Some m) k e = grind (arith, nat_tests)

pub cap-under : (most : Option ℕ) (k : ℕ) → Under most k → at_cap most k ≡ false
cap-under None k u = refl
cap-under (Some m) k u = grind (arith, nat_tests)

pub cap-enough : (least : ℕ) (most : Option ℕ) (k : ℕ) → at_cap most k ≡ true → Enough least most k
cap-enough least None k e = absurd (cc e)
cap-enough least (Some m) k e = let l : m ≤ k = grind (arith, nat_tests) in inr l

pub least-enough : (least : ℕ) (most : Option ℕ) (k : ℕ) → nat_lt k least ≡ false → Enough least most k
least-enough least None k e = grind (arith, nat_tests)
least-enough least (Some m) k e = let l : least ≤ k = grind (arith, nat_tests) in inl l

pub enough-least : (least : ℕ) (most : Option ℕ) (k : ℕ) → Enough least most k → at_cap most k ≡ false → nat_lt k least ≡ false
enough-least least None k l e = grind (arith, nat_tests)
enough-least least (Some m) k (inl l) e = grind (arith, nat_tests)
enough-least least (Some m) k (inr l) e = grind (arith, nat_tests)

pub exact-full : (least : ℕ) (most : Option ℕ) (k : ℕ) → IsExact least most → Enough least most k → at_cap most k ≡ true
exact-full least None k i n = absurd i
exact-full least (Some m) k i (inl l) = grind (arith, nat_tests)
exact-full least (Some m) k i (inr l) = grind (arith, nat_tests)

module _ {Tok : Type 0} where
  overs_one : (P : Type 0) (x : Ending (List Tok)) (rest : List Tok) → overs x ≡ At (One rest) → P
  overs_one P (At r) rest e = absurd (cc e)
  overs_one P Nowhere rest e = absurd (cc e)
  overs_one P Refused rest e = absurd (cc e)

  overs_over : (x : Ending (List Tok)) (rest : List Tok) → overs x ≡ At (Over rest) → x ≡ At rest
  overs_over (At r) rest e = cc e
  overs_over Nowhere rest e = absurd (cc e)
  overs_over Refused rest e = absurd (cc e)

  overs_refused : (x : Ending (List Tok)) → overs x ≡ Refused → x ≡ Refused
  overs_refused (At r) e = absurd (cc e)
  overs_refused Nowhere e = absurd (cc e)
  overs_refused Refused e = refl

  -- a step with an item is not at the cap, and its item ends there
  pub one_is : (c : Bool) (d x y : Ending (List Tok)) (rest : List Tok) → cond c (overs d) (one_or x y) ≡ At (One rest) → (c ≡ false) × (x ≡ At rest)
  one_is true d x y rest e = overs_one _ d rest e
  one_is false d (At r) y rest e = (refl, cc e)
  one_is false d Nowhere y rest e = overs_one _ y rest e
  one_is false d Refused y rest e = absurd (cc e)

  -- one without is at the cap, or its item fails
  pub over_is : (c : Bool) (d x y : Ending (List Tok)) (rest : List Tok) → cond c (overs d) (one_or x y) ≡ At (Over rest) → ((c ≡ true) × (d ≡ At rest)) ⊎ ((c ≡ false) × (y ≡ At rest))
  over_is true d x y rest e = inl (refl, overs_over d rest e)
  over_is false d (At r) y rest e = absurd (cc e)
  over_is false d Nowhere y rest e = inr (refl, overs_over y rest e)
  over_is false d Refused y rest e = absurd (cc e)

  -- one that is refused is refused by one of the parts
  pub refused_is : (c : Bool) (d x y : Ending (List Tok)) → (d ≡ Refused → ⊥) → (x ≡ Refused → ⊥) → (y ≡ Refused → ⊥) → cond c (overs d) (one_or x y) ≡ Refused → ⊥
  refused_is true d x y f g h e = f (overs_refused d e)
  refused_is false d (At r) y f g h e = cc e
  refused_is false d Nowhere y f g h e = h (overs_refused y e)
  refused_is false d Refused y f g h e = g refl

  -- an item ends there, or the list does, unless a part is refused
  pub one_each : (x y : Ending (List Tok)) (rest : List Tok) → EndsOrRefused x rest → EndsOrRefused (one_or x y) (One rest)
  one_each x y rest (inl e) = rw e (inl refl)
  one_each x y rest (inr e) = rw e (inr refl)

  pub overs_each : (x : Ending (List Tok)) (rest : List Tok) → EndsOrRefused x rest → EndsOrRefused (overs x) (Over rest)
  overs_each x rest (inl e) = rw e (inl refl)
  overs_each x rest (inr e) = rw e (inr refl)

  pub over_each : (x y : Ending (List Tok)) (rest : List Tok) → DoesNotEnd x → EndsOrRefused y rest → EndsOrRefused (one_or x y) (Over rest)
  over_each (At r) y rest n e = absurd n
  over_each Nowhere y rest n e = overs_each y rest e
  over_each Refused y rest n e = inr refl

  pub few_at : (few : Bool) (ts rest : List Tok) → unless_few few ts ≡ At rest → (few ≡ false) × (ts ≡ rest)
  few_at true ts rest e = absurd (cc e)
  few_at false ts rest e = (refl, cc e)

  pub few_not_refused : (few : Bool) (ts : List Tok) → unless_few few ts ≡ Refused → ⊥
  few_not_refused true ts e = cc e
  few_not_refused false ts e = cc e

module _ {Tok : Type 0} (f : Ender Tok) (least : ℕ) (most : Option ℕ) where
  pub repeated-further : EndsFurther f → (k : ℕ) (ts rest : List Tok) → repeated_next f least most k ts ≡ At (One rest) → length rest < length ts
  repeated-further h k ts rest e = let i = one_is (at_cap most k) (At ts) (f ts) (unless_few (nat_lt k least) ts) rest e in h ts rest i.1

  pub repeated-one : (P : List Tok → Type 0) → TakesOnly f P → (k : ℕ) (ts rest : List Tok) → repeated_next f least most k ts ≡ At (One rest) → Begins (RepeatedWord most P k) ts rest
  repeated-one P h k ts rest e =
      let i = one_is (at_cap most k) (At ts) (f ts) (unless_few (nat_lt k least) ts) rest e in
      let b = h.taken ts rest i.1 in
      record { word = b.word; all = b.all; is = (under-cap most k i.0, b.is) }

  pub repeated-given : {V : Type 0} (value of : List Tok → V → Type 0) → GivesOnly f value of
      → (k : ℕ) (ts rest : List Tok) (v : V) → repeated_next f least most k ts ≡ At (One rest) → value ts v
      → Begins (λ w. RepeatedWord most (λ u. of u v) k w) ts rest
  repeated-given value of h k ts rest v e j =
      let i = one_is (at_cap most k) (At ts) (f ts) (unless_few (nat_lt k least) ts) rest e in
      let b = h.given ts rest v i.1 j in
      record { word = b.word; all = b.all; is = (under-cap most k i.0, b.is) }

  pub repeated-over : (k : ℕ) (ts rest : List Tok) → repeated_next f least most k ts ≡ At (Over rest) → Begins (RepeatedEnd least most k) ts rest
  repeated-over k ts rest e = elim (over_is (at_cap most k) (At ts) (f ts) (unless_few (nat_lt k least) ts) rest e) [
    | inl i ↦ let z : ts ≡ rest = cc i.1 in record { word = []; all = z; is = (cap-enough least most k i.0, refl) }
    | inr i ↦ let j = few_at (nat_lt k least) ts rest i.1 in record { word = []; all = j.1; is = (least-enough least most k j.0, refl) }
  ]

  -- a list with an item at least is not over at once
  pub repeated-never_empty : has_an_item least most ≡ true → (ts rest : List Tok) → repeated_next f least most 0 ts ≡ At (Over rest) → ⊥
  repeated-never_empty h ts rest e =
      let t = both-true (nat_lt 0 least) (not (at_cap most 0)) h in
      elim (over_is (at_cap most 0) (At ts) (f ts) (unless_few (nat_lt 0 least) ts) rest e) [
        | inl i ↦ let z : false ≡ true = subst (λ c. not c ≡ true) i.0 t.1 in cc z
        | inr i ↦ let j = few_at (nat_lt 0 least) ts rest i.1 in cc (t.0, j.0)
      ]

  pub repeated-decided : (k : ℕ) (ts : List Tok) → (f ts ≡ Refused → ⊥) → repeated_next f least most k ts ≡ Refused → ⊥
  repeated-decided k ts h e = refused_is (at_cap most k) (At ts) (f ts) (unless_few (nat_lt k least) ts) (λ z. cc z) h (few_not_refused (nat_lt k least) ts) e

  module _ (P fits : List Tok → Type 0) (h : TakesEach f P fits) where
    goes_on_fits : ((w rest : List Tok) → P w → fits rest → fits (w ++ rest))
        → (k : ℕ) (items : List (List Tok)) (w rest : List Tok)
        → ListFrom (λ j u (v : List Tok). RepeatedWord most P j u) (RepeatedEnd least most) k items w → fits rest
        → fits (w ++ rest)
    goes_on_fits again k [] w rest i y = subst (λ z. fits (z ++ rest)) (sym i.1) y
    goes_on_fits again k (v ∷ vs) w rest i y =
        let g : fits (i.second ++ rest) = goes_on_fits again (suc k) vs i.second rest i.is_second y in
        let e : i.first ++ (i.second ++ rest) ≡ w ++ rest = sym (append_assoc i.first i.second rest) ∙ ap (λ u. u ++ rest) (sym i.all) in
        subst fits e (again i.first (i.second ++ rest) i.is_first.1 g)

    pub repeated-each : ((w rest : List Tok) → P w → fits rest → fits (w ++ rest)) → (k : ℕ) (w rest : List Tok)
        → RepeatedWord most P k w
        → GoesOn (RepeatedWord most P) (RepeatedEnd least most) (RepeatedFollow f fits least most) (suc k) rest
        → EndsOrRefused (repeated_next f least most k (w ++ rest)) (One rest)
    repeated-each again k w rest i g =
        let y : fits rest = subst fits (sym g.all) (goes_on_fits again (suc k) g.is.items g.words g.rest g.is.are g.fits.0) in
        let c : at_cap most k ≡ false = cap-under most k i.0 in
        rw c (one_each (f (w ++ rest)) (unless_few (nat_lt k least) (w ++ rest)) rest (h.each w rest i.1 y))

    ended_each : (k : ℕ) (rest : List Tok) → Enough least most k → RepeatedFollow f fits least most rest → (c : Bool)
        → at_cap most k ≡ c
        → EndsOrRefused (cond c (overs (At rest)) (one_or (f rest) (unless_few (nat_lt k least) rest))) (Over rest)
    ended_each k rest n y true d = inl refl
    ended_each k rest n (y, inl i) false d = let z : at_cap most k ≡ true = exact-full least most k i n in absurd (cc (d, z))
    ended_each k rest n (y, inr e) false d = let z : nat_lt k least ≡ false = enough-least least most k n d in rw z (over_each (f rest) (At rest) rest e (inl refl))

    pub repeated-ends : (k : ℕ) (w rest : List Tok) → RepeatedEnd least most k w → RepeatedFollow f fits least most rest → EndsOrRefused (repeated_next f least most k (w ++ rest)) (Over rest)
    repeated-ends k w rest i y = let e : w ≡ [] = i.1 in let z = ended_each k rest i.0 y (at_cap most k) refl in rw e z
