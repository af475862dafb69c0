-- Values with fixed text between each two, one at least, as `item.separated_by(just(separator)).at_least(1)` takes them; and such a
-- list behind a text that opens it, where there is one.
-- Main words: Separated, AreSeparated, SeparatedOf, if_any, heard_if_any, told_if_any. Main laws: list-separated, separated-list, separated-front.
-- Read first: InTurn.antt; ListWords.antt of chumsky_items.
use Rattle.std.proofs.Common.{◌≡◌, ℕ, suc, nat_eq, false, Option, Some, None, List, [], ◌∷◌, ◌++◌, append_assoc, refl, sym, ◌∙◌, ap, subst, arith, inl, inr}
use Rattle.std.proofs.lemmas.List.{append-nil, append_cancel_left}
use Rattle.std.specs.Prelude.{⊤, ◌⊎◌, map}
use Rattle.std.specs.declared.vec.Vec.{Vec}
use Rattle.chumsky_parser.specs.ItemsLanguage.{ListFrom, IsListFrom}
use Rattle.chumsky_parser.specs.Words.{Joined}
use Rattle.chumsky_primitive.specs.Literals.{equals-same, same-equals}
use Rattle.chumsky_primitive.specs.PrimitiveLanguage.{Equals}
use Rattle.chumsky_combinator.specs.OptionalLanguage.{MaybeOf}
use Rattle.chumsky_items.specs.ListLanguage.{Holding}
use Rattle.chumsky_items.specs.ListWords.{SeparatedWord, SeparatedEnd}
use Rattle.chumsky_exact.specs.InTurn.{Is, IfAny, Turn}
use Rattle.chumsky_exact.specs.Lexemes.{spells_is}

-- a text is these values: one alone; or one, the separator, and then values
pub data Separated {Tok V : Type 0} (of : List Tok → V → Type 0) (separator : List Tok) : List Tok → List V → Type 0 where
  last_one : {w : List Tok} {v : V} → of w v → Separated of separator w (v ∷ [])
  more_of_them : {w rest : List Tok} {v : V} {vs : List V} → of w v → Separated of separator rest vs → Separated of separator (w ++ (separator ++ rest)) (v ∷ vs)

-- the words of such a list, where those of items are of some V; what is collected of one; and its words, where those of items have P
abbrev pub SeparatedFrom : {V : Type 0} → (List ℕ → V → Type 0) → List ℕ → ℕ → List V → List ℕ → Type 0
SeparatedFrom of separator = ListFrom (λ k u v. SeparatedWord (Equals nat_eq separator) false None (λ z. of z v) k u) (SeparatedEnd (Equals nat_eq separator) false false 1 None)

abbrev pub SeparatedOf : {V A : Type 0} → (List ℕ → V → Type 0) → List ℕ → List ℕ → Vec V A → Type 0
SeparatedOf of separator = Holding (SeparatedFrom of separator 0) (λ vs v. v.items ≡ vs)

abbrev pub AreSeparated : (List ℕ → Type 0) → List ℕ → List ℕ → Type 0
AreSeparated P separator = IsListFrom (SeparatedWord (Equals nat_eq separator) false None P) (SeparatedEnd (Equals nat_eq separator) false false 1 None) 0

-- the values of such words are those of the text, as they are shown
module _ {V X : Type 0} (of : List ℕ → V → Type 0) (Shown : List ℕ → X → Type 0) (shown : V → X) (each : (w : List ℕ) (v : V) → of w v → Shown w (shown v)) (separator : List ℕ) where
  after_first : (k : ℕ) (w rest : List ℕ) (v : V) (vs : List V) → of w v → SeparatedFrom of separator (suc k) vs rest → Separated Shown separator (w ++ rest) (map shown (v ∷ vs))
  after_first k w rest v [] i l = subst (λ z. Separated Shown separator z (shown v ∷ [])) (sym (append-nil w) ∙ ap (λ z. w ++ z) (sym l.1)) (last_one (each w v i))
  after_first k w rest v (u ∷ us) i l =
      let j = l.is_first.1 in
      let a = append_assoc j.first j.second l.second in
      let s : j.first ≡ separator = equals-same separator j.first j.is_first in
      let e : separator ++ (j.second ++ l.second) ≡ rest = cc (l.all, j.all, a, s) in
      subst (λ z. Separated Shown separator (w ++ z) (map shown (v ∷ u ∷ us))) e (more_of_them (each w v i) (after_first (suc k) j.second l.second u us j.is_second l.is_second))

  pub list-separated : (vs : List V) (w : List ℕ) → SeparatedFrom of separator 0 vs w → Separated Shown separator w (map shown vs)
  list-separated [] w l = absurd (omega (arith, l.0))
  list-separated (v ∷ vs) w l = subst (λ z. Separated Shown separator z (map shown (v ∷ vs))) (sym l.all) (after_first 0 l.first l.second v vs l.is_first.1 l.is_second)

-- and such values are a word of the list
module _ {X : Type 0} (Shown : List ℕ → X → Type 0) (P : List ℕ → Type 0) (each : (w : List ℕ) (x : X) → Shown w x → P w) (separator : List ℕ) where
  led : (w : List ℕ) (x : X) → Shown w x → Joined (Equals nat_eq separator) P (separator ++ w)
  led w x i = record { first = separator; second = w; all = refl; is_first = same-equals separator; is_second = each w x i }

  led_list : {w : List ℕ} {xs : List X} (k : ℕ) → Separated Shown separator w xs
      → IsListFrom (SeparatedWord (Equals nat_eq separator) false None P) (SeparatedEnd (Equals nat_eq separator) false false 1 None) (suc k) (separator ++ w)
  led_list k (last_one {w} {v} i) = record {
    items = w ∷ [];
    are = record { first = separator ++ w; second = []; all = sym (append-nil (separator ++ w)); is_first = (tt, led w v i); is_second = (omega arith, refl) };
  }
  led_list k (more_of_them {w} {rest} {v} i l) =
      let r = led_list (suc k) l in
      record {
        items = w ∷ r.items;
        are = record { first = separator ++ w; second = separator ++ rest; all = sym (append_assoc separator w (separator ++ rest)); is_first = (tt, led w v i); is_second = r.are };
      }

  pub separated-list : {w : List ℕ} {xs : List X} → Separated Shown separator w xs → AreSeparated P separator w
  separated-list (last_one {w} {v} i) = record { items = w ∷ []; are = record { first = w; second = []; all = sym (append-nil w); is_first = (tt, each w v i); is_second = (omega arith, refl) } }
  separated-list (more_of_them {w} {rest} {v} i l) =
      let r = led_list 0 l in
      record { items = w ∷ r.items; are = record { first = w; second = separator ++ rest; all = refl; is_first = (tt, each w v i); is_second = r.are } }

-- where one item alone is at the front of a text, before what may follow it, as the separator may, one list is at the front of a text
-- before what may follow an item and begins with no separator
module _ {V : Type 0} (of : List ℕ → V → Type 0) (separator : List ℕ) (Fits Over : List ℕ → Type 0) (over_fits : (rest : List ℕ) → Over rest → Fits rest)
    (separator_fits : (rest : List ℕ) → Fits (separator ++ rest)) (not_over : (rest : List ℕ) → Over (separator ++ rest) → ⊥)
    (one : (w u x y : List ℕ) (v t : V) → of w v → of u t → Fits x → Fits y → w ++ x ≡ u ++ y → (v ≡ t) × (x ≡ y)) where
  longer : (w rest x : List ℕ) → (w ++ (separator ++ rest)) ++ x ≡ w ++ (separator ++ (rest ++ x))
  longer w rest x = append_assoc w (separator ++ rest) x ∙ ap (λ z. w ++ z) (append_assoc separator rest x)

  pub separated-front : {w u : List ℕ} {vs ts : List V} → Separated of separator w vs → Separated of separator u ts → (x y : List ℕ) → Over x → Over y → w ++ x ≡ u ++ y → (vs ≡ ts) × (x ≡ y)
  separated-front (last_one {w} {v} i) (last_one {w = u} {v = t} j) x y p q e =
      let r = one w u x y v t i j (over_fits x p) (over_fits y q) e in
      (ap (λ z. z ∷ []) r.0, r.1)
  separated-front (last_one {w} {v} i) (more_of_them {w = u} {rest} {v = t} j m) x y p q e =
      let r = one w u x (separator ++ (rest ++ y)) v t i j (over_fits x p) (separator_fits (rest ++ y)) (e ∙ longer u rest y) in
      absurd (not_over (rest ++ y) (subst Over r.1 p))
  separated-front (more_of_them {w} {rest} {v} i l) (last_one {w = u} {v = t} j) x y p q e =
      let r = one w u (separator ++ (rest ++ x)) y v t i j (separator_fits (rest ++ x)) (over_fits y q) (sym (longer w rest x) ∙ e) in
      absurd (not_over (rest ++ x) (subst Over (sym r.1) q))
  separated-front (more_of_them {w} {rest} {v} {vs} i l) (more_of_them {w = u} {rest = others} {v = t} {vs = ts} j m) x y p q e =
      let r = one w u (separator ++ (rest ++ x)) (separator ++ (others ++ y)) v t i j (separator_fits (rest ++ x)) (separator_fits (others ++ y)) (sym (longer w rest x) ∙ e ∙ longer u others y) in
      let s = separated-front l m x y p q (append_cancel_left separator (rest ++ x) (others ++ y) r.1) in
      let a : v ≡ t = r.0 in
      let b : vs ≡ ts = s.0 in
      (cc (a, b), s.1)

-- what is collected of a list that may be absent, as it is shown
abbrev pub if_any : {V X A : Type 0} → (V → X) → Option (Vec V A) → List X
if_any shown None = []
if_any shown (Some v) = map shown v.items

abbrev AreAny : {X : Type 0} → List X → Type 0
AreAny [] = ⊥
AreAny (x ∷ xs) = ⊤

some_values : {X : Type 0} {Shown : List ℕ → X → Type 0} {separator w : List ℕ} {xs : List X} → Separated Shown separator w xs → AreAny xs
some_values (last_one i) = tt
some_values (more_of_them i l) = tt

some_if_any : {X : Type 0} {Shown : List ℕ → X → Type 0} {opening separator w : List ℕ} (xs : List X) → Joined (Is opening) (λ u. Separated Shown separator u xs) w
    → IfAny opening (Separated Shown separator) xs w
some_if_any [] j = absurd (some_values j.is_second)
some_if_any (x ∷ xs) j = j

-- what a word says where such a list stands behind a text that opens it, or is absent; and what it is where the text says so
module _ {V X A : Type 0} (of : List ℕ → V → Type 0) (Shown : List ℕ → X → Type 0) (shown : V → X) (each : (w : List ℕ) (v : V) → of w v → Shown w (shown v)) (opening separator : List ℕ) where
  abbrev pub HeardIfAny : Option (Vec V A) → List ℕ → Type 0
  HeardIfAny o w = MaybeOf (λ u v. Joined (Equals nat_eq opening) (λ z. SeparatedOf of separator z v) u) w o

  pub if_any_is : (o : Option (Vec V A)) (w : List ℕ) → HeardIfAny o w → IfAny opening (Separated Shown separator) (if_any shown o) w
  if_any_is None w e = e
  if_any_is (Some v) w j =
      let l = subst (λ vs. Separated Shown separator j.second (map shown vs)) (sym j.is_second.held) (list-separated of Shown shown each separator j.is_second.items j.second j.is_second.is) in
      some_if_any (map shown v.items) (record { first = j.first; second = j.second; all = j.all; is_first = equals-same opening j.first j.is_first; is_second = l })

  abbrev pub heard_if_any : Option (Vec V A) → Turn ℕ
  heard_if_any o = record { from = HeardIfAny o; to = IfAny opening (Separated Shown separator) (if_any shown o); gives = if_any_is o }

module _ {X : Type 0} (Shown : List ℕ → X → Type 0) (P : List ℕ → Type 0) (each : (w : List ℕ) (x : X) → Shown w x → P w) (opening separator : List ℕ) where
  pub is_if_any : (xs : List X) (w : List ℕ) → IfAny opening (Separated Shown separator) xs w → Joined (Equals nat_eq opening) (AreSeparated P separator) w ⊎ (w ≡ [])
  is_if_any [] w e = inr e
  is_if_any (x ∷ xs) w j =
      let l = separated-list Shown P each separator j.is_second in
      inl (record { first = j.first; second = j.second; all = j.all; is_first = spells_is opening j.first j.is_first; is_second = l })

  abbrev pub told_if_any : List X → Turn ℕ
  told_if_any xs = record { from = IfAny opening (Separated Shown separator) xs; to = λ w. Joined (Equals nat_eq opening) (AreSeparated P separator) w ⊎ (w ≡ []); gives = is_if_any xs }
