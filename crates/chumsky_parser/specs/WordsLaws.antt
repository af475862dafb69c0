-- Which words sequences and choices take, from those of their parts, and which values they give.
-- Main laws: then-takes_only, then-gives_only, then_or_refused, then-takes_each, or-takes_only, or-gives_only, or-takes_each, whole-taken, takes-none, keeps_tokens. Read first: Words.antt.
use Rattle.std.proofs.Common.{◌≡◌, ◌+◌, ◌-◌, ◌≤◌, List, [], ◌∷◌, ◌++◌, length, refl, sym, ◌∙◌, ap, subst, arith, append_assoc, ◌⊎◌, inl, inr}
use Rattle.std.specs.Prelude.{⊤}
use Rattle.std.proofs.lemmas.List.{append-nil}
use Rattle.std.proofs.Math.Seq.{take-append_seam}
use Rattle.chumsky_parser.specs.Ending.{Ending, At, Nowhere, Refused, Ender, and_then, or_else, Ends, EndsOrRefused, DoesNotEnd}
use Rattle.chumsky_parser.specs.Language.{Begins, TakesOnly, GivesOnly, TakesEach}
use Rattle.chumsky_parser.specs.Words.{then_ends, either_ends, ElseValue, Joined, taken_of}

-- what is said of where a part ends, where that is known
pub ends_at : {X : Type 0} (x : Ending X) (y : X) (P : X → Type 0) → x ≡ At y → Ends x P → P y
ends_at x y P e h = rw e at h

-- words of parts that ran one after another
pub joined : {Tok : Type 0} (f g : Ender Tok) (P Q : List Tok → Type 0) (ts rest : List Tok) → then_ends f g ts ≡ At rest
    → ((mid : List Tok) → f ts ≡ At mid → Begins P ts mid) → ((mid : List Tok) → f ts ≡ At mid → g mid ≡ At rest → Begins Q mid rest) → Begins (Joined P Q) ts rest
joined {Tok} f g P Q ts rest e p q = by_first (f ts) refl e
  where
    by_first : (x : Ending (List Tok)) → f ts ≡ x → and_then g x ≡ At rest → Begins (Joined P Q) ts rest
    by_first Nowhere d h = absurd (cc h)
    by_first Refused d h = absurd (cc h)
    by_first (At mid) d h =
        let a = p mid d in
        let b = q mid d h in
        let z : a.word ++ (b.word ++ rest) ≡ (a.word ++ b.word) ++ rest = sym (append_assoc a.word b.word rest) in
        record { word = a.word ++ b.word; all = a.all ∙ ap (λ t. a.word ++ t) b.all ∙ z; is = record { first = a.word; second = b.word; all = refl; is_first = a.is; is_second = b.is } }

module _ {Tok : Type 0} (f g : Ender Tok) (P Q : List Tok → Type 0) (h : TakesOnly f P) (k : TakesOnly g Q) where
  -- `then` and its kin
  pub then-takes_only : TakesOnly (then_ends f g) (Joined P Q)
  then-takes_only = record { taken = λ ts rest e. joined f g P Q ts rest e (λ mid d. h.taken ts mid d) (λ mid d c. k.taken mid rest c) }

  -- `or`
  pub or-takes_only : TakesOnly (either_ends f g) (λ w. P w ⊎ Q w)
  or-takes_only = record { taken = λ ts rest e. by_first ts rest (f ts) refl e }
    where
      by_first : (ts rest : List Tok) (x : Ending (List Tok)) → f ts ≡ x → or_else x (g ts) ≡ At rest → Begins (λ w. P w ⊎ Q w) ts rest
      by_first ts rest Nowhere d e = let b = k.taken ts rest e in record { word = b.word; all = b.all; is = inr b.is }
      by_first ts rest Refused d e = absurd (cc e)
      by_first ts rest (At r) d e = let b = h.taken ts rest (d ∙ e) in record { word = b.word; all = b.all; is = inl b.is }

module _ {Tok V W : Type 0} (f g : Ender Tok) (va : List Tok → V → Type 0) (vb : List Tok → W → Type 0) where
  -- `first.then(second)`
  pub then-gives_only : (ma : List Tok → V → Type 0) (mb : List Tok → W → Type 0) → GivesOnly f va ma → GivesOnly g vb mb
      → GivesOnly {V = V × W} (then_ends f g) (λ ts v. va ts v.0 × Ends (f ts) (λ rest. vb rest v.1)) (λ w v. Joined (λ u. ma u v.0) (λ u. mb u v.1) w)
  then-gives_only ma mb h k = record {
    given = λ ts rest v e i. joined f g (λ u. ma u v.0) (λ u. mb u v.1) ts rest e (λ mid d. h.given ts mid v.0 d i.0) (λ mid d c. k.given mid rest v.1 c (ends_at (f ts) mid (λ r. vb r v.1) d i.1));
  }

  -- `first.ignore_then(second)`
  pub ignore_then-gives_only : (P : List Tok → Type 0) (mb : List Tok → W → Type 0) → TakesOnly f P → GivesOnly g vb mb
      → GivesOnly (then_ends f g) (λ ts v. Ends (f ts) (λ rest. vb rest v)) (λ w v. Joined P (λ u. mb u v) w)
  ignore_then-gives_only P mb h k = record {
    given = λ ts rest v e i. joined f g P (λ u. mb u v) ts rest e (λ mid d. h.taken ts mid d) (λ mid d c. k.given mid rest v c (ends_at (f ts) mid (λ r. vb r v) d i));
  }

  -- `first.then_ignore(second)`
  pub then_ignore-gives_only : (ma : List Tok → V → Type 0) (Q : List Tok → Type 0) → GivesOnly f va ma → TakesOnly g Q
      → GivesOnly (then_ends f g) va (λ w v. Joined (λ u. ma u v) Q w)
  then_ignore-gives_only ma Q h k = record {
    given = λ ts rest v e i. joined f g (λ u. ma u v) Q ts rest e (λ mid d. h.given ts mid v d i) (λ mid d c. k.taken mid rest c);
  }

module _ {Tok V : Type 0} (f g : Ender Tok) (va vb ma mb : List Tok → V → Type 0) (h : GivesOnly f va ma) (k : GivesOnly g vb mb) where
  -- `or`
  pub or-gives_only : GivesOnly (either_ends f g) (λ ts v. ElseValue (f ts) (va ts v) (vb ts v)) (λ w v. ma w v ⊎ mb w v)
  or-gives_only = record { given = λ ts rest v e i. by_first ts rest v (f ts) refl e i }
    where
      by_first : (ts rest : List Tok) (v : V) (x : Ending (List Tok)) → f ts ≡ x → or_else x (g ts) ≡ At rest → ElseValue x (va ts v) (vb ts v) → Begins (λ w. ma w v ⊎ mb w v) ts rest
      by_first ts rest v Nowhere d e i = let b = k.given ts rest v e i in record { word = b.word; all = b.all; is = inr b.is }
      by_first ts rest v Refused d e i = absurd i
      by_first ts rest v (At r) d e i = let b = h.given ts rest v (d ∙ e) i in record { word = b.word; all = b.all; is = inl b.is }

module _ {Tok W : Type 0} (f : Ender Tok) (P : List Tok → Type 0) (h : TakesOnly f P) where
  -- a value that has nothing to do with the tokens: `to`
  pub to-gives_only : (copies : W → Type 0) → GivesOnly f (λ ts. copies) (λ w v. P w × copies v)
  to-gives_only copies = record { given = λ ts rest v e i. let b = h.taken ts rest e in record { word = b.word; all = b.all; is = (b.is, i) } }

module _ {Tok V W : Type 0} (f : Ender Tok) (va ma : List Tok → V → Type 0) (h : GivesOnly f va ma) where
  -- a value made of the value: `map`
  pub map-gives_only : (maps : V → W → Type 0) → GivesOnly f (λ ts w. (v : V) × va ts v × maps v w) (λ u w. (v : V) × ma u v × maps v w)
  map-gives_only maps = record { given = λ ts rest w e i. let b = h.given ts rest i.0 e i.1 in record { word = b.word; all = b.all; is = (i.0, b.is, i.2) } }

  -- another shape of the value
  pub regrouped-gives_only : (g : W → V) → GivesOnly f (λ ts w. va ts (g w)) (λ u w. ma u (g w))
  regrouped-gives_only g = record { given = λ ts rest w e i. let b = h.given ts rest (g w) e i in record { word = b.word; all = b.all; is = b.is } }

-- what follows ends there, unless the first or it is refused
pub then_or_refused : {X Y : Type 0} (next : X → Ending Y) (x : Ending X) (mid : X) (y : Y) → EndsOrRefused x mid → EndsOrRefused (next mid) y → EndsOrRefused (and_then next x) y
then_or_refused next x mid y (inl e) k = rw e k
then_or_refused next x mid y (inr e) k = rw e (inr refl)

-- one word after another is taken, where the second fits after the first
pub then-takes_each : {Tok : Type 0} (f g : Ender Tok) (P Q ff fg : List Tok → Type 0) → TakesEach f P ff → TakesEach g Q fg → ((w rest : List Tok) → Q w → fg rest → ff (w ++ rest))
    → TakesEach (then_ends f g) (Joined P Q) fg
then-takes_each f g P Q ff fg h k c = record {
  each = λ w rest i j.
      let e : w ++ rest ≡ i.first ++ (i.second ++ rest) = ap (λ u. u ++ rest) i.all ∙ append_assoc i.first i.second rest in
      let a : EndsOrRefused (f (i.first ++ (i.second ++ rest))) (i.second ++ rest) = h.each i.first (i.second ++ rest) i.is_first (c i.second rest i.is_second j) in
      rw e (then_or_refused g (f (i.first ++ (i.second ++ rest))) (i.second ++ rest) rest a (k.each i.second rest i.is_second j));
}

-- the first of two ends there, unless it is refused; or the second does, where the first doesn't end
pub first_or_refused : {X : Type 0} (x other : Ending X) (y : X) → EndsOrRefused x y → EndsOrRefused (or_else x other) y
first_or_refused x other y (inl e) = rw e (inl refl)
first_or_refused x other y (inr e) = rw e (inr refl)

pub second_or_refused : {X : Type 0} (x other : Ending X) (y : X) → DoesNotEnd x → EndsOrRefused other y → EndsOrRefused (or_else x other) y
second_or_refused (At z) other y n e = absurd n
second_or_refused Nowhere other y n e = e
second_or_refused Refused other y n e = inr refl

-- a word of the first, or one of the second that the first leaves
pub or-takes_each : {Tok : Type 0} (f g : Ender Tok) (P Q ff fg : List Tok → Type 0) → TakesEach f P ff → TakesEach g Q fg → ((w rest : List Tok) → Q w → fg rest → DoesNotEnd (f (w ++ rest)))
    → TakesEach (either_ends f g) (λ w. P w ⊎ Q w) (λ rest. ff rest × fg rest)
or-takes_each f g P Q ff fg h k c = record {
  each = λ w rest i j. elim i [
    | inl p ↦ first_or_refused (f (w ++ rest)) (g (w ++ rest)) rest (h.each w rest p j.0)
    | inr q ↦ second_or_refused (f (w ++ rest)) (g (w ++ rest)) rest (c w rest q j.1) (k.each w rest q j.1)
  ];
}

-- what is known never to be refused ends there
pub ends-unless : {X : Type 0} {x : Ending X} {y : X} → EndsOrRefused x y → (x ≡ Refused → ⊥) → x ≡ At y
ends-unless (inl e) n = e
ends-unless (inr e) n = absurd (n e)

-- a word that nothing follows is taken whole, unless it is refused
pub whole-taken : {Tok : Type 0} (f : Ender Tok) (P fits : List Tok → Type 0) → TakesEach f P fits → (ts : List Tok) → P ts → fits [] → EndsOrRefused (f ts) []
whole-taken f P fits h ts p n = subst (λ q. EndsOrRefused (f q) []) (append-nil ts) (h.each ts [] p n)

-- a parser that takes words gives no token back
pub keeps_tokens : {Tok : Type 0} (f : Ender Tok) (P : List Tok → Type 0) → TakesOnly f P → (ts rest : List Tok) → f ts ≡ At rest → length rest ≤ length ts
keeps_tokens f P h ts rest e =
    let b = h.taken ts rest e in
    let l : length ts ≡ length (b.word ++ rest) = ap length b.all in
    let k : length rest ≤ length (b.word ++ rest) = at_end b.word rest in
    omega (arith, l, k)
  where
    at_end : {Tok : Type 0} (ws rest : List Tok) → length rest ≤ length (ws ++ rest)
    at_end [] rest = omega arith
    at_end (w ∷ ws) rest = let k = at_end ws rest in omega (arith, k)

-- the tokens before the rest of a word are the word
pub taken_word : {Tok : Type 0} (ts rest word : List Tok) → ts ≡ word ++ rest → taken_of ts rest ≡ word
taken_word ts rest word e = subst (λ t. taken_of t rest ≡ word) (sym e) (let l = front_length word rest in rw l (take-append_seam word rest))
  where
    front_length : {Tok : Type 0} (ws rest : List Tok) → length (ws ++ rest) - length rest ≡ length ws
    front_length ws rest = let k = lengths ws rest in omega (arith, k)
      where
        lengths : {Tok : Type 0} (ws rest : List Tok) → length (ws ++ rest) ≡ length ws + length rest
        lengths [] rest = omega arith
        lengths (w ∷ ws) rest = let k = lengths ws rest in omega (arith, k)

-- what takes only such words ends nowhere on a text that begins with none
pub takes-none : {Tok : Type 0} {f : Ender Tok} {P : List Tok → Type 0} → TakesOnly f P → (ts : List Tok) → ((w rest : List Tok) → P w → ts ≡ w ++ rest → ⊥) → DoesNotEnd (f ts)
takes-none {Tok} {f} {P} h ts n = by_end (f ts) refl
  where
    by_end : (x : Ending (List Tok)) → f ts ≡ x → DoesNotEnd x
    by_end (At rest) e = let b = h.taken ts rest e in absurd (n b.word rest b.is b.all)
    by_end Nowhere e = tt
    by_end Refused e = tt

-- nothing: it takes the empty word, whatever follows
pub empty-takes_only : {Tok : Type 0} → TakesOnly {Tok = Tok} (λ ts. At ts) (λ w. w ≡ [])
empty-takes_only = record { taken = λ ts rest e. let z : ts ≡ rest = cc e in record { word = []; all = z; is = refl } }

pub empty-takes_each : {Tok : Type 0} → TakesEach {Tok = Tok} (λ ts. At ts) (λ w. w ≡ []) (λ rest. ⊤)
empty-takes_each = record { each = λ w rest e i. rw e (inl refl) }
