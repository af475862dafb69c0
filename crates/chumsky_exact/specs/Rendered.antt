-- Lists as they are written: the words of the items, and a separator between each two.
-- Main words: joined_by, Written, all_words. Main laws: separated-written, written-separated, repeated-written, written-repeated, tokens-written, written-tokens. Read first: ListWords.antt.
use Rattle.std.proofs.Common.{◌≡◌, ℕ, zero, suc, ◌+◌, ◌≤◌, Bool, true, false, None, List, [], ◌∷◌, ◌++◌, length, refl, sym, ◌∙◌, ap, subst, arith, append_assoc, inl, inr}
use Rattle.std.specs.Prelude.{⊤, ◌⊎◌, map}
use Rattle.chumsky_parser.specs.Words.{IsOne, AllPass}
use Rattle.chumsky_parser.specs.ItemsLanguage.{ListFrom, IsListFrom}
use Rattle.chumsky_items.specs.ListWords.{RepeatedWord, RepeatedEnd, SeparatedWord, SeparatedEnd}

-- P of each
abbrev pub OfEach : {V : Type 0} → (V → Type 0) → List V → Type 0
OfEach P [] = ⊤
OfEach P (v ∷ vs) = P v × OfEach P vs

module _ {Tok V : Type 0} (word : V → List Tok) (separator : List Tok) where
  -- a separator and a word, for each
  abbrev pub each_led : List V → List Tok
  each_led [] = []
  each_led (v ∷ vs) = separator ++ (word v ++ each_led vs)

  -- the words, with a separator between each two
  abbrev pub joined_by : List V → List Tok
  joined_by [] = []
  joined_by (v ∷ vs) = word v ++ each_led vs

  -- so written; or with one separator more at the end, where it may trail
  abbrev pub Written : Bool → List V → List Tok → Type 0
  Written true [] w = w ≡ []
  Written true (v ∷ vs) w = (w ≡ joined_by (v ∷ vs)) ⊎ (w ≡ joined_by (v ∷ vs) ++ separator)
  Written false vs w = w ≡ joined_by vs

  -- what is written after a word
  abbrev pub WrittenAfter : Bool → List V → List Tok → Type 0
  WrittenAfter true vs w = (w ≡ each_led vs) ⊎ (w ≡ each_led vs ++ separator)
  WrittenAfter false vs w = w ≡ each_led vs

  after_word : (t : Bool) (v : V) (vs : List V) (w r : List Tok) → w ≡ word v ++ r → WrittenAfter t vs r → Written t (v ∷ vs) w
  after_word true v vs w r e (inl i) = inl (e ∙ ap (λ z. word v ++ z) i)
  after_word true v vs w r e (inr i) = let z = append_assoc (word v) (each_led vs) separator in inr (e ∙ ap (λ z. word v ++ z) i ∙ sym z)
  after_word false v vs w r e i = e ∙ ap (λ z. word v ++ z) i

  pub word_after : (t : Bool) (v : V) (vs : List V) (w : List Tok) → Written t (v ∷ vs) w → (r : List Tok) × (w ≡ word v ++ r) × WrittenAfter t vs r
  word_after true v vs w (inl e) = (each_led vs, e, inl refl)
  word_after true v vs w (inr e) = (each_led vs ++ separator, e ∙ append_assoc (word v) (each_led vs) separator, inr refl)
  word_after false v vs w e = (each_led vs, e, refl)

  after_led : (t : Bool) (v : V) (vs : List V) (w r : List Tok) → w ≡ (separator ++ word v) ++ r → WrittenAfter t vs r → WrittenAfter t (v ∷ vs) w
  after_led t v vs w r e i = by_trail t i
    where
      led : (q : List Tok) → r ≡ q → w ≡ separator ++ (word v ++ q)
      led q g = e ∙ ap (λ z. (separator ++ word v) ++ z) g ∙ append_assoc separator (word v) q

      by_trail : (t : Bool) → WrittenAfter t vs r → WrittenAfter t (v ∷ vs) w
      by_trail true (inl i) = inl (led (each_led vs) i)
      by_trail true (inr i) =
          let a : word v ++ (each_led vs ++ separator) ≡ (word v ++ each_led vs) ++ separator = sym (append_assoc (word v) (each_led vs) separator) in
          let b : separator ++ ((word v ++ each_led vs) ++ separator) ≡ (separator ++ (word v ++ each_led vs)) ++ separator = sym (append_assoc separator (word v ++ each_led vs) separator) in
          inr (led (each_led vs ++ separator) i ∙ ap (λ z. separator ++ z) a ∙ b)
      by_trail false i = led (each_led vs) i

  pub led_after : (t : Bool) (v : V) (vs : List V) (w : List Tok) → WrittenAfter t (v ∷ vs) w → (r : List Tok) × (w ≡ (separator ++ word v) ++ r) × WrittenAfter t vs r
  led_after t v vs w i = by_trail t i
    where
      by_trail : (t : Bool) → WrittenAfter t (v ∷ vs) w → (r : List Tok) × (w ≡ (separator ++ word v) ++ r) × WrittenAfter t vs r
      by_trail true (inl e) = (each_led vs, e ∙ sym (append_assoc separator (word v) (each_led vs)), inl refl)
      by_trail true (inr e) =
          let f : (separator ++ word v) ++ each_led vs ≡ separator ++ (word v ++ each_led vs) = append_assoc separator (word v) (each_led vs) in
          let z : ((separator ++ word v) ++ each_led vs) ++ separator ≡ (separator ++ word v) ++ (each_led vs ++ separator) = append_assoc (separator ++ word v) (each_led vs) separator in
          (each_led vs ++ separator, e ∙ ap (λ q. q ++ separator) (sym f) ∙ z, inr refl)
      by_trail false e = (each_led vs, e ∙ sym (append_assoc separator (word v) (each_led vs)), refl)

module _ {Tok V : Type 0} (word : V → List Tok) (separator : List Tok) (least : ℕ) (Good : V → Type 0) where
  module _ (S : List Tok → Type 0) (of : List Tok → V → Type 0) (of_word : (w : List Tok) (v : V) → of w v → (w ≡ word v) × Good v) (is_separator : (w : List Tok) → S w → w ≡ separator) where
    later_written : (t : Bool) (k : ℕ) (vs : List V) (w : List Tok) → ListFrom (λ j u v. SeparatedWord S false None (λ z. of z v) j u) (SeparatedEnd S false t least None) (suc k) vs w
        → OfEach Good vs × WrittenAfter word separator t vs w × (least ≤ suc k + length vs)
    later_written false k [] w i = let l : least ≤ suc k = i.0 in (tt, i.1, omega (arith, l))
    later_written true k [] w (n, inl e) = (tt, inl e, omega (arith, n))
    later_written true k [] w (n, inr s) = (tt, inr (is_separator w s), omega (arith, n))
    later_written t k (v ∷ vs) w i =
        let j = i.is_first.1 in
        let a = of_word j.second v j.is_second in
        let s : j.first ≡ separator = is_separator j.first j.is_first in
        let h = later_written t (suc k) vs i.second i.is_second in
        let e : w ≡ (separator ++ word v) ++ i.second = cc (i.all, j.all, s, a.0) in
        let l : least ≤ suc (suc k) + length vs = h.2 in
        ((a.1, h.0), after_led word separator t v vs w i.second e h.1, omega (arith, l))

    -- what a list of `separated_by` takes is so written
    pub separated-written : (t : Bool) (vs : List V) (w : List Tok) → ListFrom (λ j u v. SeparatedWord S false None (λ z. of z v) j u) (SeparatedEnd S false t least None) 0 vs w
        → OfEach Good vs × Written word separator t vs w × (least ≤ length vs)
    separated-written true [] w i = (tt, i.1, i.0)
    separated-written false [] w i = (tt, i.1, i.0)
    separated-written t (v ∷ vs) w i =
        let a = of_word i.first v i.is_first.1 in
        let h = later_written t zero vs i.second i.is_second in
        let e : w ≡ word v ++ i.second = cc (i.all, a.0) in
        let l : least ≤ 1 + length vs = h.2 in
        ((a.1, h.0), after_word word separator t v vs w i.second e h.1, omega (arith, l))

  -- and what is so written is a word of that list
  module _ (S P : List Tok → Type 0) (spelled : (v : V) → Good v → P (word v)) (is_separator : S separator) where
    abbrev IsWord : ℕ → List Tok → List Tok → Type 0
    IsWord j u v = SeparatedWord S false None P j u

    later_separated : (t : Bool) (k : ℕ) (vs : List V) (w : List Tok) → OfEach Good vs → WrittenAfter word separator t vs w → least ≤ suc k + length vs → ListFrom IsWord (SeparatedEnd S false t least None) (suc k) (map word vs) w
    later_separated false k [] w g e l = (omega (arith, l), e)
    later_separated true k [] w g (inl e) l = (omega (arith, l), inl e)
    later_separated true k [] w g (inr e) l = (omega (arith, l), inr (subst S (sym e) is_separator))
    later_separated t k (v ∷ vs) w g e l =
        let r = led_after word separator t v vs w e in
        record { first = separator ++ word v; second = r.0; all = r.1; is_first = (tt, record { first = separator; second = word v; all = refl; is_first = is_separator; is_second = spelled v g.0 }); is_second = later_separated t (suc k) vs r.0 g.1 r.2 (omega (arith, l)) }

    pub written-separated : (t : Bool) (vs : List V) (w : List Tok) → OfEach Good vs → Written word separator t vs w → least ≤ length vs → IsListFrom (SeparatedWord S false None P) (SeparatedEnd S false t least None) 0 w
    written-separated true [] w g e l = record { items = []; are = (l, e) }
    written-separated false [] w g e l = record { items = []; are = (l, e) }
    written-separated t (v ∷ vs) w g e l =
        let r = word_after word separator t v vs w e in
        record { items = map word (v ∷ vs); are = record { first = word v; second = r.0; all = r.1; is_first = (tt, spelled v g.0); is_second = later_separated t zero vs r.0 g.1 r.2 (omega (arith, l)) } }

-- where the items have more to them than is written
module _ {Tok V X : Type 0} (word : X → List Tok) (separator : List Tok) (shown : V → X) where
  each_led-map : (vs : List V) → each_led (λ v. word (shown v)) separator vs ≡ each_led word separator (map shown vs)
  each_led-map [] = refl
  each_led-map (v ∷ vs) = ap (λ z. separator ++ (word (shown v) ++ z)) (each_led-map vs)

  pub written-map : (t : Bool) (vs : List V) (w : List Tok) → Written (λ v. word (shown v)) separator t vs w → Written word separator t (map shown vs) w
  written-map true [] w e = e
  written-map true (v ∷ vs) w (inl e) = inl (e ∙ ap (λ z. word (shown v) ++ z) (each_led-map vs))
  written-map true (v ∷ vs) w (inr e) = inr (e ∙ ap (λ z. (word (shown v) ++ z) ++ separator) (each_led-map vs))
  written-map false [] w e = e
  written-map false (v ∷ vs) w e = e ∙ ap (λ z. word (shown v) ++ z) (each_led-map vs)

pub each-map : {V X : Type 0} (Good : X → Type 0) (shown : V → X) (vs : List V) → OfEach (λ v. Good (shown v)) vs → OfEach Good (map shown vs)
each-map Good shown [] g = tt
each-map Good shown (v ∷ vs) g = (g.0, each-map Good shown vs g.1)

-- one word after another
module _ {Tok V : Type 0} (word : V → List Tok) where
  abbrev pub all_words : List V → List Tok
  all_words [] = []
  all_words (v ∷ vs) = word v ++ all_words vs

  module _ (least : ℕ) (Good : V → Type 0) where
    written_from : (of : List Tok → V → Type 0) → ((w : List Tok) (v : V) → of w v → (w ≡ word v) × Good v) → (k : ℕ) (vs : List V) (w : List Tok) → ListFrom (λ j u v. RepeatedWord None (λ z. of z v) j u) (RepeatedEnd least None) k vs w
        → OfEach Good vs × (w ≡ all_words vs) × (least ≤ k + length vs)
    written_from of h k [] w i = let l : least ≤ k = i.0 in (tt, i.1, omega (arith, l))
    written_from of h k (v ∷ vs) w i =
        let a = h i.first v i.is_first.1 in
        let r = written_from of h (suc k) vs i.second i.is_second in
        let l : least ≤ suc k + length vs = r.2 in
        ((a.1, r.0), cc (i.all, a.0, r.1), omega (arith, l))

    -- what a list of `repeated` takes is so written
    pub repeated-written : (of : List Tok → V → Type 0) → ((w : List Tok) (v : V) → of w v → (w ≡ word v) × Good v) → (vs : List V) (w : List Tok) → ListFrom (λ j u v. RepeatedWord None (λ z. of z v) j u) (RepeatedEnd least None) 0 vs w
        → OfEach Good vs × (w ≡ all_words vs) × (least ≤ length vs)
    repeated-written of h vs w i = let r = written_from of h 0 vs w i in let l : least ≤ 0 + length vs = r.2 in (r.0, r.1, omega (arith, l))

    module _ (P : List Tok → Type 0) (spelled : (v : V) → Good v → P (word v)) where
      words_from : (k : ℕ) (vs : List V) → OfEach Good vs → least ≤ k + length vs → ListFrom (λ j u (v : List Tok). RepeatedWord None P j u) (RepeatedEnd least None) k (map word vs) (all_words vs)
      words_from k [] g l = (omega (arith, l), refl)
      words_from k (v ∷ vs) g l = record { first = word v; second = all_words vs; all = refl; is_first = (tt, spelled v g.0); is_second = words_from (suc k) vs g.1 (omega (arith, l)) }

      -- and what is so written is a word of that list
      pub written-repeated : (vs : List V) → OfEach Good vs → least ≤ length vs → IsListFrom (RepeatedWord None P) (RepeatedEnd least None) 0 (all_words vs)
      written-repeated vs g l = record { items = map word vs; are = words_from 0 vs g (omega (arith, l)) }

-- tokens one by one
module _ {Tok : Type 0} (test : Tok → Bool) (least : ℕ) where
  ones_are : (ts : List Tok) → all_words (λ t. t ∷ []) ts ≡ ts
  ones_are [] = refl
  ones_are (t ∷ ts) = ap (λ z. t ∷ z) (ones_are ts)

  each_passes : (ts : List Tok) → OfEach (λ t. test t ≡ true) ts → AllPass test ts
  each_passes [] h = tt
  each_passes (t ∷ ts) h = (h.0, each_passes ts h.1)

  passes_each : (ts : List Tok) → AllPass test ts → OfEach (λ t. test t ≡ true) ts
  passes_each [] h = tt
  passes_each (t ∷ ts) h = (h.0, passes_each ts h.1)

  one_is : (w : List Tok) (v : Tok) → IsOne test (λ t. v ≡ t) w → (w ≡ v ∷ []) × (test v ≡ true)
  one_is w v i = (cc (i.all, i.is), ap test i.is ∙ i.passes)

  -- tokens that are collected are those of the word
  pub tokens-written : (ts w : List Tok) → ListFrom (λ j u v. RepeatedWord None (λ z. IsOne test (λ t. v ≡ t) z) j u) (RepeatedEnd least None) 0 ts w → (ts ≡ w) × AllPass test w × (least ≤ length w)
  tokens-written ts w i =
      let h = repeated-written (λ t. t ∷ []) least (λ t. test t ≡ true) (λ z v. IsOne test (λ t. v ≡ t) z) one_is ts w i in
      let e : ts ≡ w = sym (h.1 ∙ ones_are ts) in
      let l : least ≤ length ts = h.2 in
      let n : length ts ≡ length w = ap length e in
      (e, subst (AllPass test) e (each_passes ts h.0), omega (arith, l, n))

  -- and tokens that pass are such a word
  pub written-tokens : (w : List Tok) → AllPass test w → least ≤ length w → IsListFrom (RepeatedWord None (IsOne test (λ t. ⊤))) (RepeatedEnd least None) 0 w
  written-tokens w h l =
      subst (IsListFrom (RepeatedWord None (IsOne test (λ t. ⊤))) (RepeatedEnd least None) 0) (ones_are w)
      (written-repeated (λ t. t ∷ []) least (λ t. test t ≡ true) (IsOne test (λ t. ⊤)) (λ t p. record { token = t; all = refl; passes = p; is = tt }) w (passes_each w h) l)
