-- Which words a list takes, and with which items, by which its steps do.
-- Main laws: list-only, list-further, list-given, list-each, list-decided. Read first: ItemsLanguage.antt.
use Rattle.std.proofs.Common.{◌≡◌, ℕ, zero, suc, ◌≤◌, ◌<◌, Option, List, [], ◌∷◌, ◌++◌, length, refl, sym, ◌∙◌, ap, subst, arith, append_assoc, inl, inr}
use Rattle.std.specs.Prelude.{⊤}
use Rattle.chumsky_parser.specs.Ending.{Ending, At, Nowhere, Refused, EndsOrRefused}
use Rattle.chumsky_parser.specs.FurtherLaws.{fewer-below}
use Rattle.chumsky_parser.specs.Language.{Begins, TakesOnly, EndsFurther, TakesEach, NeverRefusedBelow, IsBelow}
use Rattle.chumsky_parser.specs.Words.{Joined}
use Rattle.chumsky_parser.specs.WordsLaws.{keeps_tokens}
use Rattle.chumsky_parser.specs.ItemsLanguage.{Stepped, One, Over, stepped_on, list_until, list_ends, OfOne, IsOver, GivesFrom, ListFrom, IsListFrom, GoesOn}

begins_both : {Tok : Type 0} (P Q : List Tok → Type 0) (ts mid rest : List Tok) → Begins P ts mid → Begins Q mid rest → Begins (Joined P Q) ts rest
begins_both P Q ts mid rest b c =
    let e : b.word ++ (c.word ++ rest) ≡ (b.word ++ c.word) ++ rest = sym (append_assoc b.word c.word rest) in
    record { word = b.word ++ c.word; all = b.all ∙ ap (λ t. b.word ++ t) c.all ∙ e; is = record { first = b.word; second = c.word; all = refl; is_first = b.is; is_second = c.is } }

module _ {Tok : Type 0} (next : ℕ → List Tok → Ending (Stepped Tok)) where
  module _ (word last : ℕ → List Tok → Type 0)
      (one : (k : ℕ) (ts rest : List Tok) → next k ts ≡ At (One rest) → Begins (word k) ts rest)
      (over : (k : ℕ) (ts rest : List Tok) → next k ts ≡ At (Over rest) → Begins (last k) ts rest) where
    ended_only : (k : ℕ) (ts rest : List Tok) → next k ts ≡ At (Over rest) → Begins (IsListFrom word last k) ts rest
    ended_only k ts rest e = let b = over k ts rest e in record { word = b.word; all = b.all; is = record { items = []; are = b.is } }

    more_only : (k : ℕ) (ts mid rest : List Tok) → next k ts ≡ At (One mid) → Begins (IsListFrom word last (suc k)) mid rest → Begins (IsListFrom word last k) ts rest
    more_only k ts mid rest e c =
        let b = begins_both (word k) (IsListFrom word last (suc k)) ts mid rest (one k ts mid e) c in
        let j = b.is in
        record {
          word = b.word;
          all = b.all;
          is =
              record {
                items = j.first ∷ j.is_second.items;
                are = record { first = j.first; second = j.second; all = j.all; is_first = j.is_first; is_second = j.is_second.are };
              };
        }

    step_only : (k : ℕ) (ts rest : List Tok) (more : List Tok → Ending (List Tok)) → ((mid : List Tok) → more mid ≡ At rest → Begins (IsListFrom word last (suc k)) mid rest)
        → (t : Ending (Stepped Tok)) → next k ts ≡ t → stepped_on more t ≡ At rest → Begins (IsListFrom word last k) ts rest
    step_only k ts rest more h (At (One mid)) d e = more_only k ts mid rest d (h mid e)
    step_only k ts rest more h (At (Over mid)) d e = let z : mid ≡ rest = cc e in ended_only k ts rest (d ∙ ap (λ r. At (Over r)) z)
    step_only k ts rest more h Nowhere d e = absurd (cc e)
    step_only k ts rest more h Refused d e = absurd (cc e)

    until_only : (n k : ℕ) (ts rest : List Tok) → list_until next n k ts ≡ At rest → Begins (IsListFrom word last k) ts rest
    until_only zero k ts rest e = step_only k ts rest _ (λ mid z. absurd (cc z)) (next k ts) refl e
    until_only (suc n) k ts rest e = step_only k ts rest _ (λ mid z. until_only n (suc k) mid rest z) (next k ts) refl e

    -- where a list ends, it took words of its items and of its end
    pub list-only : TakesOnly (list_ends next) (IsListFrom word last 0)
    list-only = record { taken = λ ts rest e. until_only (length ts) 0 ts rest e }

    module _ (further : (k : ℕ) (ts rest : List Tok) → next k ts ≡ At (One rest) → length rest < length ts) (never_empty : (ts rest : List Tok) → next 0 ts ≡ At (Over rest) → ⊥) where
      first_further : (ts rest : List Tok) (more : List Tok → Ending (List Tok)) → ((mid : List Tok) → more mid ≡ At rest → length rest ≤ length mid)
          → (t : Ending (Stepped Tok)) → next 0 ts ≡ t → stepped_on more t ≡ At rest → length rest < length ts
      first_further ts rest more h (At (One mid)) d e = let a : length mid < length ts = further 0 ts mid d in let b : length rest ≤ length mid = h mid e in omega (arith, a, b)
      first_further ts rest more h (At (Over mid)) d e = absurd (never_empty ts mid d)
      first_further ts rest more h Nowhere d e = absurd (cc e)
      first_further ts rest more h Refused d e = absurd (cc e)

      until_further : (n : ℕ) (ts rest : List Tok) → list_until next n 0 ts ≡ At rest → length rest < length ts
      until_further zero ts rest e = first_further ts rest _ (λ mid z. absurd (cc z)) (next 0 ts) refl e
      until_further (suc n) ts rest e =
          first_further ts rest _ (λ mid z. keeps_tokens (list_until next n 1) (IsListFrom word last 1) (record { taken = λ us r. until_only n 1 us r }) mid rest z) (next 0 ts) refl e

      -- a list that has an item wherever it ends takes a token there
      pub list-further : EndsFurther (list_ends next)
      list-further = λ ts rest e. until_further (length ts) ts rest e

  module _ {V : Type 0} (value : ℕ → List Tok → V → Type 0) (stands_for : ℕ → List Tok → V → Type 0) (last : ℕ → List Tok → Type 0)
      (given : (k : ℕ) (ts rest : List Tok) (v : V) → next k ts ≡ At (One rest) → value k ts v → Begins (λ w. stands_for k w v) ts rest)
      (over : (k : ℕ) (ts rest : List Tok) → next k ts ≡ At (Over rest) → Begins (last k) ts rest) where
    step_given : (k : ℕ) (ts rest : List Tok) (vs : List V) (more : List Tok → Ending (List Tok))
        →
        ((mid : List Tok) (us : List V) → more mid ≡ At rest → GivesFrom next value (suc k) us mid
        → Begins (ListFrom stands_for last (suc k) us) mid rest)
        → (t : Ending (Stepped Tok)) → next k ts ≡ t → stepped_on more t ≡ At rest → GivesFrom next value k vs ts → Begins (ListFrom stands_for last k vs) ts rest
    step_given k ts rest [] more h (At (One mid)) d e g = absurd (subst IsOver d g)
    step_given k ts rest (v ∷ vs) more h (At (One mid)) d e g =
        let i = subst (λ t. OfOne t (λ r. value k ts v × GivesFrom next value (suc k) vs r)) d g in
        begins_both (λ w. stands_for k w v) (ListFrom stands_for last (suc k) vs) ts mid rest (given k ts mid v d i.0) (h mid vs e i.1)
    step_given k ts rest [] more h (At (Over mid)) d e g = let z : mid ≡ rest = cc e in over k ts rest (d ∙ ap (λ r. At (Over r)) z)
    step_given k ts rest (v ∷ vs) more h (At (Over mid)) d e g = absurd (subst (λ t. OfOne t (λ r. value k ts v × GivesFrom next value (suc k) vs r)) d g)
    step_given k ts rest vs more h Nowhere d e g = absurd (cc e)
    step_given k ts rest vs more h Refused d e g = absurd (cc e)

    until_given : (n k : ℕ) (ts rest : List Tok) (vs : List V) → list_until next n k ts ≡ At rest → GivesFrom next value k vs ts → Begins (ListFrom stands_for last k vs) ts rest
    until_given zero k ts rest vs e g = step_given k ts rest vs _ (λ mid us z i. absurd (cc z)) (next k ts) refl e g
    until_given (suc n) k ts rest vs e g = step_given k ts rest vs _ (λ mid us z i. until_given n (suc k) mid rest us z i) (next k ts) refl e g

    -- the items that it gives are those of a word of the list
    pub list-given : (ts rest : List Tok) (vs : List V) → list_ends next ts ≡ At rest → GivesFrom next value 0 vs ts → Begins (ListFrom stands_for last 0 vs) ts rest
    list-given ts rest vs e g = until_given (length ts) 0 ts rest vs e g

  module _ (further : (k : ℕ) (ts rest : List Tok) → next k ts ≡ At (One rest) → length rest < length ts) where
    module _ (word last : ℕ → List Tok → Type 0) (follow : List Tok → Type 0)
        (each : (k : ℕ) (w rest : List Tok) → word k w → GoesOn word last follow (suc k) rest
        → EndsOrRefused (next k (w ++ rest)) (One rest))
        (ends : (k : ℕ) (w rest : List Tok) → last k w → follow rest → EndsOrRefused (next k (w ++ rest)) (Over rest)) where
      until_ended : (n k : ℕ) (ts rest : List Tok) → EndsOrRefused (next k ts) (Over rest) → EndsOrRefused (list_until next n k ts) rest
      until_ended zero k ts rest (inl e) = rw e (inl refl)
      until_ended zero k ts rest (inr e) = rw e (inr refl)
      until_ended (suc n) k ts rest (inl e) = rw e (inl refl)
      until_ended (suc n) k ts rest (inr e) = rw e (inr refl)

      until_refused : (n k : ℕ) (ts : List Tok) → next k ts ≡ Refused → list_until next n k ts ≡ Refused
      until_refused zero k ts e = rw e refl
      until_refused (suc n) k ts e = rw e refl

      until_each : (n k : ℕ) (items : List (List Tok)) (w rest : List Tok) → length (w ++ rest) ≤ n
          → ListFrom (λ j u (v : List Tok). word j u) last k items w → follow rest
          → EndsOrRefused (list_until next n k (w ++ rest)) rest
      until_each n k [] w rest l i f = until_ended n k (w ++ rest) rest (ends k w rest i f)
      until_each n k (v ∷ vs) w rest l i f =
          let z : w ++ rest ≡ i.first ++ (i.second ++ rest) = ap (λ u. u ++ rest) i.all ∙ append_assoc i.first i.second rest in
          let d : EndsOrRefused (next k (i.first ++ (i.second ++ rest))) (One (i.second ++ rest)) =
          each k i.first (i.second ++ rest) i.is_first
          (record { words = i.second; rest = rest; all = refl; is = record { items = vs; are = i.is_second }; fits = f })
          in
          elim d [
            | inl x ↦
                let e : next k (w ++ rest) ≡ At (One (i.second ++ rest)) = ap (next k) z ∙ x in
                by_room n l e (further k (w ++ rest) (i.second ++ rest) e) (λ m q. until_each m (suc k) vs i.second rest q i.is_second f)
            | inr x ↦ inr (until_refused n k (w ++ rest) (ap (next k) z ∙ x))
          ]
        where
          by_room : {u : List Tok} (n : ℕ) → length (w ++ rest) ≤ n → next k (w ++ rest) ≡ At (One u)
              → length u < length (w ++ rest)
              → ((m : ℕ) → length u ≤ m → EndsOrRefused (list_until next m (suc k) u) rest)
              → EndsOrRefused (list_until next n k (w ++ rest)) rest
          by_room zero l e p h = absurd (omega (arith, l, p))
          by_room (suc n) l e p h = rw e (h n (omega (arith, l, p)))

      -- each word of a list is taken, unless it is refused
      pub list-each : TakesEach (list_ends next) (IsListFrom word last 0) follow
      list-each = record { each = λ w rest i f. until_each (length (w ++ rest)) 0 i.items w rest (omega arith) i.are f }

    module _ (bound : Option ℕ) (h : (k : ℕ) (ts : List Tok) → IsBelow bound (length ts) → next k ts ≡ Refused → ⊥) where
      step_decided : (k : ℕ) (ts : List Tok) → IsBelow bound (length ts) → (more : List Tok → Ending (List Tok))
          → ((rest : List Tok) → length rest < length ts → more rest ≡ Refused → ⊥) → (t : Ending (Stepped Tok))
          → next k ts ≡ t → stepped_on more t ≡ Refused → ⊥
      step_decided k ts b more g (At (One rest)) d e = g rest (further k ts rest d) e
      step_decided k ts b more g (At (Over rest)) d e = cc e
      step_decided k ts b more g Nowhere d e = cc e
      step_decided k ts b more g Refused d e = h k ts b d

      until_decided : (n k : ℕ) (ts : List Tok) → length ts ≤ n → IsBelow bound (length ts) → list_until next n k ts ≡ Refused → ⊥
      until_decided zero k ts l b e = step_decided k ts b _ (λ rest p z. omega (arith, p, l)) (next k ts) refl e
      until_decided (suc n) k ts l b e =
          step_decided k ts b _
          (λ rest p z. until_decided n (suc k) rest (omega (arith, p, l))
          (fewer-below bound (length rest) (length ts) (omega (arith, p)) b) z)
          (next k ts) refl e

      -- where each step on so short a text is known to end or to fail, so is the list
      pub list-decided : NeverRefusedBelow bound (list_ends next)
      list-decided ts b e = until_decided (length ts) 0 ts (omega arith) b e
