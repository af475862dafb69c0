-- Lists with a separator between each two items and nowhere else: what is so of each word of one, and how one is taken.
-- Main words: Takes, AreTaken. Main laws: list-each, list-taken. Read first: ListWords.antt of chumsky_items, EachWord.antt.
use Rattle.std.proofs.Common.{◌≡◌, ℕ, zero, suc, ◌<◌, ◌≤◌, false, nat_lt, None, List, [], ◌∷◌, ◌++◌, length, refl, ◌∙◌, ap, arith, append_assoc}
use Rattle.std.proofs.lemmas.Bool.Decides.{nat_tests}
use Rattle.std.proofs.lemmas.List.{append-nil, length-append}
use Rattle.chumsky_parser.specs.Ending.{Ending, At, Nowhere, Ender}
use Rattle.chumsky_parser.specs.ItemsLanguage.{Stepped, ListFrom, list_until, list_ends}
use Rattle.chumsky_items.specs.ListWords.{SeparatedWord, SeparatedEnd, lead_at, separated_next}

-- words of items with these values, after so many others, and of separators between them
abbrev ListAfter : {Tok V : Type 0} → (List Tok → Type 0) → (List Tok → V → Type 0) → ℕ → List V → List Tok → Type 0
ListAfter S of = ListFrom (λ k u v. SeparatedWord S false None (λ z. of z v) k u) (SeparatedEnd S false false 0 None)

-- where the words of items are of some P, the separator is this text, and such a list, of one item at least, is as a relation of one's
-- own says: what is so of nothing, and of each list that is as it says, is so of each list
pub list-each : {Tok V : Type 0} {S : List Tok → Type 0} {of P : List Tok → V → Type 0} {Are Q : List Tok → List V → Type 0} {s : List Tok}
    → ((w : List Tok) (v : V) → of w v → P w v) → ((w : List Tok) → S w → w ≡ s)
    → ((w : List Tok) (v : V) → P w v → Are w (v ∷ [])) → ((w ws : List Tok) (v u : V) (vs : List V) → P w v → Are ws (u ∷ vs) → Are (w ++ (s ++ ws)) (v ∷ u ∷ vs))
    → Q [] [] → ((w : List Tok) (vs : List V) → Are w vs → Q w vs)
    → (w : List Tok) (vs : List V) → ListFrom (λ k u v. SeparatedWord S false None (λ z. of z v) k u) (SeparatedEnd S false false 0 None) 0 vs w → Q w vs
list-each items fixed one more none some w [] l = rw l.1 none
list-each {Tok} {V} {S = S} {of = of} {Are = Are} {Q = Q} {s = s} items fixed one more none some w (v ∷ vs) l =
    rw l.all (some (l.first ++ l.second) (v ∷ vs) (with_first 0 l.first l.second v vs l.is_first.1 l.is_second))
  where
    with_first : (k : ℕ) (w rest : List Tok) (v : V) (vs : List V) → of w v → ListAfter S of (suc k) vs rest → Are (w ++ rest) (v ∷ vs)
    with_first k w rest v [] i r = rw (r.1, append-nil) (one w v (items w v i))
    with_first k w rest v (u ∷ vs) i r =
        let j = r.is_first.1 in
        let e : rest ≡ s ++ (j.second ++ r.second) = cc (r.all, j.all, fixed j.first j.is_first, append_assoc j.first j.second r.second) in
        rw e (more w (j.second ++ r.second) v u vs (items w v i) (with_first (suc k) j.second r.second u vs j.is_second r.is_second))

none_wanted : (k : ℕ) → nat_lt k 0 ≡ false
none_wanted k = grind (arith, nat_tests)

-- it is taken, whatever follows it
abbrev pub Takes : {Tok : Type 0} → Ender Tok → List Tok → Type 0
Takes {Tok} f w = (rest : List Tok) → f (w ++ rest) ≡ At rest

module _ {Tok : Type 0} (item separator : Ender Tok) where
  -- items that are taken, one at least, with a separator between each two that is taken and not empty
  pub data AreTaken : List Tok → Type 0 where
    last_item : (w : List Tok) → Takes item w → AreTaken w
    more_items : (w s : List Tok) {ws : List Tok} → Takes item w → 0 < length s → Takes separator s → AreTaken ws → AreTaken (w ++ (s ++ ws))

  -- a step of any number of items, with a separator between each two and nowhere else
  abbrev next : ℕ → List Tok → Ending (Stepped Tok)
  next = separated_next item separator false false 0 None

  -- after an item, which stands behind a separator where it isn't the first, the list goes on
  one_more : (k room : ℕ) (ts mid rest : List Tok) → lead_at separator false k ts ≡ At mid → item mid ≡ At rest → list_until next (suc room) k ts ≡ list_until next room (suc k) rest
  one_more k room ts mid rest e i = rw (e, i) refl

  module _ (t : Tok) (rest : List Tok) (no_item : item (t ∷ rest) ≡ Nowhere) (no_separator : separator (t ∷ rest) ≡ Nowhere) where
    ended : (k room : ℕ) → list_until next room (suc k) (t ∷ rest) ≡ At (t ∷ rest)
    ended k zero = rw (no_separator, none_wanted (suc k)) refl
    ended k (suc room) = rw (no_separator, none_wanted (suc k)) refl

    taken : {w : List Tok} → AreTaken w → (k room : ℕ) (ts : List Tok) → lead_at separator false k ts ≡ At (w ++ (t ∷ rest)) → length (w ++ (t ∷ rest)) ≤ room
        → list_until next room k ts ≡ At (t ∷ rest)
    taken {w} a k zero ts e r = absurd (omega (arith, length-append {A = Tok}, r))
    taken (last_item w i) k (suc room) ts e r = one_more k room ts (w ++ (t ∷ rest)) (t ∷ rest) e (i (t ∷ rest)) ∙ ended k room
    taken (more_items w s {ws} i l d a) k (suc room) ts e r =
        let us = ws ++ (t ∷ rest) in
        let fits : length us ≤ room = omega (arith, length-append {A = Tok}, l, r) in
        let b : (w ++ (s ++ ws)) ++ (t ∷ rest) ≡ w ++ (s ++ us) = append_assoc w (s ++ ws) (t ∷ rest) ∙ ap (λ z. w ++ z) (append_assoc s ws (t ∷ rest)) in
        one_more k room ts (w ++ (s ++ us)) (s ++ us) (e ∙ ap (λ z. At z) b) (i (s ++ us)) ∙ taken {w = ws} a (suc k) room (s ++ us) (d us) fits

    -- so the list is taken, before a token on which neither an item nor a separator ends
    pub list-taken : {w : List Tok} → AreTaken w → list_ends next (w ++ (t ∷ rest)) ≡ At (t ∷ rest)
    list-taken {w} a = taken {w = w} a 0 (length (w ++ (t ∷ rest))) (w ++ (t ∷ rest)) refl (omega arith)
