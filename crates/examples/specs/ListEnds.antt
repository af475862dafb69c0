-- Where items ran one after another, each from where the one before it ended: what each took and gave, and where they end.
-- Main words: Took, Goes. Main laws: list-took, list-went, list-goes, then_at, literal_at. Read first: ListWords.antt of chumsky_items.
use Rattle.std.proofs.Common.{◌≡◌, ℕ, zero, suc, ◌≤◌, ◌<◌, nat_lt, nat_eq, cond, Bool, true, false, Option, Some, None, List, [], ◌∷◌, ◌++◌, length, refl, sym, ◌∙◌, ap, subst, arith, inl, inr}
use Rattle.std.specs.Prelude.{⊤, ◌⊎◌}
use Rattle.std.proofs.lemmas.Bool.Decides.{nat_tests}
use Rattle.chumsky_parser.specs.Ending.{Ending, At, Nowhere, Refused, Ender, and_then, or_else, EndsOrRefused, DoesNotEnd}
use Rattle.chumsky_parser.specs.Language.{EndsFurther}
use Rattle.chumsky_parser.specs.ItemsLanguage.{Stepped, One, Over, stepped_on, list_until, list_ends, OfOne, IsOver, GivesFrom}
use Rattle.chumsky_primitive.specs.PrimitiveLanguage.{literal_ends}
use Rattle.chumsky_items.specs.ListWords.{overs, one_or, unless_few, repeated_next}

-- items with these values were taken one after another, from these tokens to those, where none more is
pub data Took {Tok V : Type 0} (f : Ender Tok) (value : List Tok → V → Type 0) : List V → List Tok → List Tok → Type 0 where
  none : {ts : List Tok} → f ts ≡ Nowhere → Took f value [] ts ts
  more : {v : V} {vs : List V} {ts mid rest : List Tok} → f ts ≡ At mid → value ts v → Took f value vs mid rest → Took f value (v ∷ vs) ts rest

-- items end so one after another, unless one is refused, from these tokens to those, where none more ends
pub data Goes {Tok : Type 0} (f : Ender Tok) : List Tok → List Tok → Type 0 where
  stops : {ts : List Tok} → DoesNotEnd (f ts) → Goes f ts ts
  steps : {ts mid rest : List Tok} → EndsOrRefused (f ts) mid → length mid < length ts → Goes f mid rest → Goes f ts rest

-- what ends in turn
pub then_at : {X Y : Type 0} (next : X → Ending Y) (x : Ending X) (y : Y) → and_then next x ≡ At y → (mid : X) × (x ≡ At mid) × (next mid ≡ At y)
then_at next (At mid) y e = (mid, refl, e)
then_at next Nowhere y e = absurd (cc e)
then_at next Refused y e = absurd (cc e)

-- where a fixed token ends
pub literal_at : (m : ℕ) (ts rest : List ℕ) → literal_ends nat_eq (m ∷ []) ts ≡ At rest → ts ≡ m ∷ rest
literal_at m [] rest e = absurd (cc e)
literal_at m (c ∷ cs) rest e = by_test (nat_eq m c) refl e
  where
    by_test : (b : Bool) → nat_eq m c ≡ b → cond b (At cs) Nowhere ≡ At rest → c ∷ cs ≡ m ∷ rest
    by_test true d z = let q : cs ≡ rest = cc z in let h : c ≡ m = grind (arith, nat_tests) in cc (q, h)
    by_test false d z = absurd (cc z)

over_stays : {Tok : Type 0} (few : Bool) (ts rest : List Tok) (on : List Tok → Ending (List Tok)) → stepped_on on (overs (unless_few few ts)) ≡ At rest → ts ≡ rest
over_stays true ts rest on e = absurd (cc e)
over_stays false ts rest on e = cc e

over_none : {Tok : Type 0} (few : Bool) (ts : List Tok) (P : List Tok → Type 0) → OfOne (overs (unless_few few ts)) P → ⊥
over_none true ts P h = h
over_none false ts P h = h

module _ {Tok V : Type 0} (f : Ender Tok) (value : List Tok → V → Type 0) (least : ℕ) where
  abbrev Gives : ℕ → List V → List Tok → Type 0
  Gives = GivesFrom (repeated_next f least None) (λ k. value)

  step_took : (k : ℕ) (ts rest : List Tok) (vs : List V) (on : List Tok → Ending (List Tok)) → ((mid : List Tok) (us : List V) → on mid ≡ At rest → Gives (suc k) us mid → Took f value us mid rest)
      → (x : Ending (List Tok)) → f ts ≡ x → stepped_on on (one_or x (unless_few (nat_lt k least) ts)) ≡ At rest → Gives k vs ts → Took f value vs ts rest
  step_took k ts rest [] on h (At mid) d e g = absurd (subst (λ y. IsOver (one_or y (unless_few (nat_lt k least) ts))) d g)
  step_took k ts rest (v ∷ vs) on h (At mid) d e g =
      let i = subst (λ y. OfOne (one_or y (unless_few (nat_lt k least) ts)) (λ r. value ts v × Gives (suc k) vs r)) d g in
      more d i.0 (h mid vs e i.1)
  step_took k ts rest [] on h Nowhere d e g = subst (λ z. Took f value [] ts z) (over_stays (nat_lt k least) ts rest on e) (none d)
  step_took k ts rest (v ∷ vs) on h Nowhere d e g =
      let i = subst (λ y. OfOne (one_or y (unless_few (nat_lt k least) ts)) (λ r. value ts v × Gives (suc k) vs r)) d g in
      absurd (over_none (nat_lt k least) ts (λ r. value ts v × Gives (suc k) vs r) i)
  step_took k ts rest vs on h Refused d e g = absurd (cc e)

  until_took : (n k : ℕ) (ts rest : List Tok) (vs : List V) → list_until (repeated_next f least None) n k ts ≡ At rest → Gives k vs ts → Took f value vs ts rest
  until_took zero k ts rest vs e g = step_took k ts rest vs (λ r. Refused) (λ mid us z i. absurd (cc z)) (f ts) refl e g
  until_took (suc n) k ts rest vs e g = step_took k ts rest vs (list_until (repeated_next f least None) n (suc k)) (λ mid us z i. until_took n (suc k) mid rest us z i) (f ts) refl e g

  -- where a list ends, its items were taken
  pub list-took : (ts rest : List Tok) (vs : List V) → list_ends (repeated_next f least None) ts ≡ At rest → GivesFrom (repeated_next f least None) (λ k. value) 0 vs ts → Took f value vs ts rest
  list-took ts rest vs e g = until_took (length ts) 0 ts rest vs e g

-- whatever they give
module _ {Tok : Type 0} (f : Ender Tok) (least : ℕ) where
  abbrev AnyTook : List Tok → List Tok → Type 0
  AnyTook ts rest = (us : List (Unit {0})) × Took f (λ (t : List Tok) (v : Unit {0}). ⊤) us ts rest

  step_went : (k : ℕ) (ts rest : List Tok) (on : List Tok → Ending (List Tok)) → ((mid : List Tok) → on mid ≡ At rest → AnyTook mid rest)
      → (x : Ending (List Tok)) → f ts ≡ x → stepped_on on (one_or x (unless_few (nat_lt k least) ts)) ≡ At rest → AnyTook ts rest
  step_went k ts rest on h (At mid) d e = let i = h mid e in (tt ∷ i.0, more d tt i.1)
  step_went k ts rest on h Nowhere d e = ([], subst (λ z. Took f (λ (t : List Tok) (v : Unit {0}). ⊤) [] ts z) (over_stays (nat_lt k least) ts rest on e) (none d))
  step_went k ts rest on h Refused d e = absurd (cc e)

  until_went : (n k : ℕ) (ts rest : List Tok) → list_until (repeated_next f least None) n k ts ≡ At rest → AnyTook ts rest
  until_went zero k ts rest e = step_went k ts rest (λ r. Refused) (λ mid z. absurd (cc z)) (f ts) refl e
  until_went (suc n) k ts rest e = step_went k ts rest (list_until (repeated_next f least None) n (suc k)) (λ mid z. until_went n (suc k) mid rest z) (f ts) refl e

  pub list-went : (ts rest : List Tok) → list_ends (repeated_next f least None) ts ≡ At rest → (us : List (Unit {0})) × Took f (λ (t : List Tok) (v : Unit {0}). ⊤) us ts rest
  list-went ts rest e = until_went (length ts) 0 ts rest e

  one_step : (n k : ℕ) (ts mid rest : List Tok) → EndsOrRefused (f ts) mid → length mid < length ts → length ts ≤ n → ((m : ℕ) → length mid ≤ m → EndsOrRefused (list_until (repeated_next f least None) m (suc k) mid) rest)
      → EndsOrRefused (list_until (repeated_next f least None) n k ts) rest
  one_step zero k ts mid rest i l r h = absurd (omega (arith, l, r))
  one_step (suc n) k ts mid rest (inl e) l r h = rw e (h n (omega (arith, l, r)))
  one_step (suc n) k ts mid rest (inr e) l r h = rw e (inr refl)

  stopped : (n k : ℕ) (ts : List Tok) → nat_lt k least ≡ false → (x : Ending (List Tok)) → f ts ≡ x → DoesNotEnd x → EndsOrRefused (list_until (repeated_next f least None) n k ts) ts
  stopped zero k ts l (At r) d h = absurd h
  stopped (suc n) k ts l (At r) d h = absurd h
  stopped zero k ts l Nowhere d h = rw (d, l) (inl refl)
  stopped (suc n) k ts l Nowhere d h = rw (d, l) (inl refl)
  stopped zero k ts l Refused d h = rw d (inr refl)
  stopped (suc n) k ts l Refused d h = rw d (inr refl)

  until_goes : (n k : ℕ) (ts rest : List Tok) → least ≤ k → length ts ≤ n → Goes f ts rest → EndsOrRefused (list_until (repeated_next f least None) n k ts) rest
  until_goes n k ts _ b r (stops h) = let l : nat_lt k least ≡ false = grind (arith, nat_tests) in stopped n k ts l (f ts) refl h
  until_goes n k ts rest b r (steps {mid = mid} i l g) = one_step n k ts mid rest i l r (λ m s. until_goes m (suc k) mid rest (omega (arith, b)) s g)

module _ {Tok : Type 0} (f : Ender Tok) where
  -- where items end so, a list of any number of them does
  pub list-goes : (ts rest : List Tok) → Goes f ts rest → EndsOrRefused (list_ends (repeated_next f 0 None) ts) rest
  list-goes ts rest g = until_goes f 0 (length ts) 0 ts rest (omega arith) (omega arith) g
