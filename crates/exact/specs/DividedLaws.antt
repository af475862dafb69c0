-- What the parser `OneOrMore` takes are values with a separator between each two.
-- Main words: divided_language. Main laws: divided-sound, divided-complete, divided-unambiguous. Read first: Divided.antt, Owned.antt, ListWords.antt of chumsky_items.
use Rattle.std.proofs.Common.{◌≡◌, ℕ, suc, None, List, [], ◌∷◌, ◌++◌, append_assoc, refl, sym, ◌∙◌, ap, subst, arith}
use Rattle.std.proofs.lemmas.List.{append-nil}
use Rattle.std.specs.Prelude.{map}
use Rattle.std.specs.declared.alloc.Global.{Global}
use Rattle.std.specs.declared.vec.Vec.{Vec}
use Rattle.chumsky_parser.specs.ItemsLanguage.{ListFrom, IsListFrom}
use Rattle.chumsky_parser.specs.Language.{Language}
use Rattle.chumsky_parser.specs.SequenceLanguage.{then_language, ignore_then_language, MayFollow}
use Rattle.chumsky_parser.specs.Words.{Joined}
use Rattle.chumsky_items.specs.ListLanguage.{collected_language}
use Rattle.chumsky_items.specs.ListWords.{RepeatedWord, RepeatedEnd}
use Rattle.chumsky_items.specs.RepeatedLanguage.{repeated_language}
use Rattle.exact.specs.Divided.{Divided, one_value, more_values}
use Rattle.exact.specs.Owned.{owned_language}

-- items of F, with one of S between each two, in one list
abbrev pub divided_language : {U V : Type 0} → Language ℕ V → Language ℕ U → Language ℕ (Vec V Global)
divided_language {U} {V} F S =
    owned_language (λ (parts : V × Vec V Global) list. list.items ≡ parts.0 ∷ parts.1.items)
    (then_language F (collected_language (repeated_language (ignore_then_language S F) 0 None) (λ xs v. v.items ≡ xs) ⊥))

module _ {U V X : Type 0} (F : Language ℕ V) (S : Language ℕ U) (IsValue : List ℕ → X → Type 0) (IsSeparator : List ℕ → Type 0) where
  -- where a word of an item stands for its value, and one of S is a separator
  module _ (shown : V → X) (each : (w : List ℕ) (v : V) → F.stands_for w v → IsValue w (shown v)) (separates : (w : List ℕ) → S.word w → IsSeparator w) where
    abbrev RestOf : ℕ → List V → List ℕ → Type 0
    RestOf = ListFrom (λ k w v. RepeatedWord None (λ u. Joined S.word (λ z. F.stands_for z v) u) k w) (RepeatedEnd 0 None)

    with_first : (k : ℕ) (w rest : List ℕ) (v : V) (vs : List V) → F.stands_for w v → RestOf k vs rest → Divided IsValue IsSeparator (w ++ rest) (map shown (v ∷ vs))
    with_first k w rest v [] i l = let e : rest ≡ [] = l.1 in subst (λ z. Divided IsValue IsSeparator z (shown v ∷ [])) (sym (append-nil w) ∙ ap (λ z. w ++ z) (sym e)) (one_value (each w v i))
    with_first k w rest v (u ∷ us) i l =
        let j = l.is_first.1 in
        let a = append_assoc j.first j.second l.second in
        let e : w ++ (j.first ++ (j.second ++ l.second)) ≡ w ++ rest = cc (l.all, j.all, a) in
        subst (λ z. Divided IsValue IsSeparator z (map shown (v ∷ u ∷ us))) e
        (more_values (each w v i) (separates j.first j.is_first) (with_first (suc k) j.second l.second u us j.is_second l.is_second))

    -- what a word stands for are values so divided
    pub divided-sound : (w : List ℕ) (list : Vec V Global) → (divided_language F S).stands_for w list → Divided IsValue IsSeparator w (map shown list.items)
    divided-sound w list s =
        let p = s.0 in
        let j = s.1 in
        let h = j.is_second in
        let r = with_first 0 j.first j.second p.0 h.items j.is_first h.is in
        let e : p.0 ∷ h.items ≡ list.items = cc (s.2, h.held) in
        subst (λ xs. Divided IsValue IsSeparator w (map shown xs)) e (subst (λ z. Divided IsValue IsSeparator z (map shown (p.0 ∷ h.items))) (sym j.all) r)

  -- where a value is written as a word of an item, and a separator is one of S
  module _ (each : (w : List ℕ) (x : X) → IsValue w x → F.word w) (separates : (w : List ℕ) → IsSeparator w → S.word w) where
    abbrev IsRest : ℕ → List ℕ → Type 0
    IsRest = IsListFrom (RepeatedWord None (Joined S.word F.word)) (RepeatedEnd 0 None)

    led : (s w : List ℕ) (x : X) → IsSeparator s → IsValue w x → Joined S.word F.word (s ++ w)
    led s w x b i = record { first = s; second = w; all = refl; is_first = separates s b; is_second = each w x i }

    rest-word : (k : ℕ) {w s : List ℕ} {xs : List X} → IsSeparator s → Divided IsValue IsSeparator w xs → IsRest k (s ++ w)
    rest-word k {s = s} b (one_value {w} {v} i) = record {
      items = (s ++ w) ∷ [];
      are = record { first = s ++ w; second = []; all = sym (append-nil (s ++ w)); is_first = (tt, led s w v b i); is_second = (omega arith, refl) };
    }
    rest-word k {s = s} b (more_values {w} {s = t} {rest} {v} i d m) =
        let r = rest-word (suc k) {s = t} d m in
        record { items = (s ++ w) ∷ r.items; are = record { first = s ++ w; second = t ++ rest; all = sym (append_assoc s w (t ++ rest)); is_first = (tt, led s w v b i); is_second = r.are } }

    -- values so divided are a word
    pub divided-complete : {w : List ℕ} {xs : List X} → Divided IsValue IsSeparator w xs → (divided_language F S).word w
    divided-complete (one_value {w} {v} i) = record { first = w; second = []; all = sym (append-nil w); is_first = each w v i; is_second = record { items = []; are = (omega arith, refl) } }
    divided-complete (more_values {w} {s} {rest} {v} i d m) = record { first = w; second = s ++ rest; all = refl; is_first = each w v i; is_second = rest-word 0 {s = s} d m }

module _ {U V : Type 0} (F : Language ℕ V) (S : Language ℕ U) (ends : (s rest : List ℕ) → S.word s → F.follow (s ++ rest)) where
  led_ends : (w rest : List ℕ) → Joined S.word F.word w → F.follow (w ++ rest)
  led_ends w rest j =
      let e : j.first ++ (j.second ++ rest) ≡ w ++ rest = sym (ap (λ z. z ++ rest) j.all ∙ append_assoc j.first j.second rest) in
      subst F.follow e (ends j.first (j.second ++ rest) j.is_first)

  abbrev RestWords : List (List ℕ) → List ℕ → Type 0
  RestWords = ListFrom (λ k u (v : List ℕ). RepeatedWord None (Joined S.word F.word) k u) (RepeatedEnd 0 None) 0

  rest_ends : (w rest : List ℕ) (items : List (List ℕ)) → RestWords items w → F.follow rest → F.follow (w ++ rest)
  rest_ends w rest [] l f = let e : w ≡ [] = l.1 in subst (λ z. F.follow (z ++ rest)) (sym e) f
  rest_ends w rest (v ∷ vs) l f =
      let e : l.first ++ (l.second ++ rest) ≡ w ++ rest = sym (ap (λ z. z ++ rest) l.all ∙ append_assoc l.first l.second rest) in
      subst F.follow e (led_ends l.first (l.second ++ rest) l.is_first.1)

  -- where a separator ends an item, and may be followed by one, no word is cut short
  pub divided-unambiguous : F.unambiguous → S.unambiguous → MayFollow S F → (divided_language F S).unambiguous
  divided-unambiguous f s may = (f, ((s, f, may), λ w rest j k. led_ends w rest j), λ w rest l k. rest_ends w rest l.items l.are k.0)
