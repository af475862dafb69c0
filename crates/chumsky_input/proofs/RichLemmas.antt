-- New patterns, as they count.
use Rattle.std.proofs.Common.{◌≡◌, Bool, true, false, cond, List, [], ◌∷◌, ◌++◌, Option, Some, None, option_map, option_to_list, map, refl, ap, sym, ◌∙◌}
use Rattle.std.specs.Global.{Vec}
use Rattle.std.specs.List.{list_any, filter_map, cons_option}
use Rattle.std.proofs.lemmas.List.{map-append}
use Rattle.std.proofs.lemmas.List.Elements.{filter_map-append}
use Rattle.chumsky_input.specs.Wanted.{Wanted, wanted_map, wanted_same}
use Rattle.chumsky_input.specs.Wanted as wanted
use Rattle.chumsky_input.specs.declared.rich.RichPattern.{RichPattern}
use Rattle.chumsky_input.specs.declared.rich.RichPattern.TheVariants as pattern
use Rattle.chumsky_input.specs.declared.rich.Rich.{Rich}
use Rattle.chumsky_input.specs.declared.rich.RichReason.TheVariants.{Expected}
use Rattle.chumsky_input.specs.Rich.{RichSeen, pattern_same, pattern_seen, pattern_wanted, wanted_pattern, add_new, rich_seen, rich_merged}

pub add_new-append : {P : Type 0} (same : P → P → Bool) (xs ys zs : List P) → add_new same xs (ys ++ zs) ≡ add_new same (add_new same xs ys) zs
add_new-append same xs [] zs = refl
add_new-append same xs (y ∷ ys) zs =
    elim (list_any (λ x. same x y) xs) as
    (λ b. cond b (add_new same xs (ys ++ zs)) (add_new same (xs ++ y ∷ []) (ys ++ zs)) ≡ add_new same
    (cond b (add_new same xs ys) (add_new same (xs ++ y ∷ []) ys)) zs)
    [ true ↦ add_new-append same xs ys zs | false ↦ add_new-append same (xs ++ y ∷ []) ys zs ]

cons_option-list : {Q : Type 0} (o : Option Q) → cons_option o [] ≡ option_to_list o
cons_option-list None = refl
cons_option-list (Some p) = refl

option_to_list-map : {P Q : Type 0} (view : P → Q) (o : Option P) → map view (option_to_list o) ≡ option_to_list (option_map view o)
option_to_list-map view None = refl
option_to_list-map view (Some p) = refl

-- a test of items that looks only at what counts of them
module _ {P Q : Type 0} (eq : P → P → Bool) (same : Q → Q → Bool) (view : P → Q) (h : (x y : P) → eq x y ≡ same (view x) (view y)) where
  list_any-map : (y : P) (xs : List P) → list_any (λ q. same q (view y)) (map view xs) ≡ list_any (λ x. eq x y) xs
  list_any-map y [] = refl
  list_any-map y (x ∷ xs) = let e = h x y in let t = list_any-map y xs in rw (e, ← t) refl

  pub map-add_new : (xs ys : List P) → map view (add_new eq xs ys) ≡ add_new same (map view xs) (map view ys)
  map-add_new xs [] = refl
  map-add_new xs (y ∷ ys) =
      let rest =
      elim (list_any (λ x. eq x y) xs) as
      (λ b. map view (cond b (add_new eq xs ys) (add_new eq (xs ++ y ∷ []) ys)) ≡ cond b
      (add_new same (map view xs) (map view ys))
      (add_new same (map view xs ++ view y ∷ []) (map view ys))) [
        | true ↦ map-add_new xs ys
        | false ↦ map-add_new (xs ++ y ∷ []) ys ∙ ap (λ zs. add_new same zs (map view ys)) (map-append view xs (y ∷ []))
      ] in
      rest ∙ ap (λ b. cond b (add_new same (map view xs) (map view ys)) (add_new same (map view xs ++ view y ∷ []) (map view ys))) (sym (list_any-map y xs))

  module _ {X : Type 0} (pick : X → Option Q) where
    picked-more : (xs : List X) (x : X) → filter_map pick (xs ++ x ∷ []) ≡ filter_map pick xs ++ option_to_list (pick x)
    picked-more xs x = filter_map-append pick xs (x ∷ []) ∙ ap (λ t. filter_map pick xs ++ t) (cons_option-list (pick x))

    -- one more item
    pub add_new-more : (ps qs : List P) (xs : List X) (x : X) (o : Option P)
        → map view ps ≡ add_new same [] (filter_map pick xs) → option_map view o ≡ pick x
        → qs ≡ add_new eq ps (option_to_list o) → map view qs ≡ add_new same [] (filter_map pick (xs ++ x ∷ []))
    add_new-more ps qs xs x o so_far shows is =
        ap (map view) is
        ∙ map-add_new ps (option_to_list o)
        ∙ ap (λ t. add_new same (map view ps) t) (option_to_list-map view o ∙ ap option_to_list shows)
        ∙ ap (λ t. add_new same t (option_to_list (pick x))) so_far
        ∙ sym (add_new-append same [] (filter_map pick xs) (option_to_list (pick x)))
        ∙ ap (add_new same []) (sym (picked-more xs x))

-- `==` of patterns looks only at what counts of their tokens
module _ {T S : Type 0} (eq : T → T → Bool) (same : S → S → Bool) (seen : T → S) (h : (x y : T) → eq x y ≡ same (seen x) (seen y)) where
  wanted_same-map : (v w : Wanted T) → wanted_same eq v w ≡ wanted_same same (wanted_map seen v) (wanted_map seen w)
  wanted_same-map (wanted.Token x) (wanted.Token y) = h x y
  wanted_same-map (wanted.Token _) _ = refl
  wanted_same-map wanted.Any (wanted.Token _) = refl
  wanted_same-map wanted.Any _ = refl
  wanted_same-map wanted.SomethingElse (wanted.Token _) = refl
  wanted_same-map wanted.SomethingElse _ = refl
  wanted_same-map wanted.NothingElse (wanted.Token _) = refl
  wanted_same-map wanted.NothingElse _ = refl
  wanted_same-map wanted.EndOfInput (wanted.Token _) = refl
  wanted_same-map wanted.EndOfInput _ = refl
  wanted_same-map (wanted.Label _) (wanted.Token _) = refl
  wanted_same-map (wanted.Label _) _ = refl

  pattern_same-seen : (p q : RichPattern T) → pattern_same eq p q ≡ wanted_same same (pattern_seen seen p) (pattern_seen seen q)
  pattern_same-seen p q = wanted_same-map (pattern_wanted p) (pattern_wanted q)

  pub patterns-add_new : (ps qs : List (RichPattern T))
      → map (pattern_seen seen) (add_new (pattern_same eq) ps qs)
      ≡ add_new (wanted_same same) (map (pattern_seen seen) ps) (map (pattern_seen seen) qs)
  patterns-add_new = map-add_new (pattern_same eq) (wanted_same same) (pattern_seen seen) pattern_same-seen

  pub patterns-more : {X : Type 0} (f : X → Wanted T) (ps qs : List (RichPattern T)) (xs : List X) (x : X) (o : Option (RichPattern T))
      → map (pattern_seen seen) ps ≡ add_new (wanted_same same) [] (filter_map (wanted_pattern seen) (map f xs))
      → option_map (pattern_seen seen) o ≡ wanted_pattern seen (f x)
      → qs ≡ add_new (pattern_same eq) ps (option_to_list o)
      → map (pattern_seen seen) qs ≡ add_new (wanted_same same) [] (filter_map (wanted_pattern seen) (map f (xs ++ x ∷ [])))
  patterns-more f ps qs xs x o so_far shows is =
      add_new-more (pattern_same eq) (wanted_same same) (pattern_seen seen) pattern_same-seen (wanted_pattern seen) ps qs (map f xs) (f x) o so_far shows is
      ∙ ap (λ t. add_new (wanted_same same) [] (filter_map (wanted_pattern seen) t)) (sym (map-append f xs (x ∷ [])))

  -- one pattern more, where it shows what was expected
  pub patterns-one : (ps qs : List (RichPattern T)) (o : Option (RichPattern T)) (ws : List (Wanted S))
      → qs ≡ add_new (pattern_same eq) ps (option_to_list o) → option_to_list (option_map (pattern_seen seen) o) ≡ ws
      → map (pattern_seen seen) qs ≡ add_new (wanted_same same) (map (pattern_seen seen) ps) ws
  patterns-one ps qs o ws is shows =
      ap (map (pattern_seen seen)) is ∙ patterns-add_new ps (option_to_list o) ∙ ap (add_new (wanted_same same) (map (pattern_seen seen) ps)) (option_to_list-map (pattern_seen seen) o ∙ shows)

  named : (ps : List (RichPattern T)) (t : T) (b : Bool) → list_any (λ x. pattern_same eq x (pattern.Token t)) ps ≡ b
      → add_new (wanted_same same) (map (pattern_seen seen) ps) (wanted.Token (seen t) ∷ [])
      ≡ cond b (map (pattern_seen seen) ps) (map (pattern_seen seen) ps ++ wanted.Token (seen t) ∷ [])
  named ps t b is =
      ap (λ c. cond c (map (pattern_seen seen) ps) (map (pattern_seen seen) ps ++ wanted.Token (seen t) ∷ []))
      (list_any-map (pattern_same eq) (wanted_same same) (pattern_seen seen) pattern_same-seen (pattern.Token t) ps ∙ is)

  -- a token that none of the patterns names, and one that some does
  pub token-added : (ps qs : List (RichPattern T)) (t u : T)
      → list_any (λ x. pattern_same eq x (pattern.Token t)) ps ≡ false → seen u ≡ seen t
      → qs ≡ ps ++ pattern.Token u ∷ []
      → map (pattern_seen seen) qs ≡ add_new (wanted_same same) (map (pattern_seen seen) ps) (wanted.Token (seen t) ∷ [])
  token-added ps qs t u none e is =
      ap (map (pattern_seen seen)) is
      ∙ map-append (pattern_seen seen) ps (pattern.Token u ∷ [])
      ∙ ap (λ s. map (pattern_seen seen) ps ++ wanted.Token s ∷ []) e
      ∙ sym (named ps t false none)

  pub token-there : (ps : List (RichPattern T)) (t : T)
      → list_any (λ x. pattern_same eq x (pattern.Token t)) ps ≡ true
      → map (pattern_seen seen) ps ≡ add_new (wanted_same same) (map (pattern_seen seen) ps) (wanted.Token (seen t) ∷ [])
  token-there ps t some = sym (named ps t true some)

  -- two errors that are not custom, and the first with the patterns ts
  pub merged-patterns : (a b : Rich T) {ps qs : Vec (RichPattern T)} {f g : Option T} (ts : Vec (RichPattern T))
      → a.reason ≡ Expected ps f → b.reason ≡ Expected qs g → ts.items ≡ add_new (pattern_same eq) ps.items qs.items
      → rich_seen seen (record { span = a.span; reason = Expected ts f }) ≡ rich_merged same (rich_seen seen a) (rich_seen seen b)
  merged-patterns a b {ps = ps} {qs = qs} {f = f} ts first second is =
      rw (first, second)
      (ap (λ t. let r : RichSeen S = record { span = a.span; found = option_map seen f; expected = t; message = None } in r)
      (ap (map (pattern_seen seen)) is ∙ patterns-add_new ps.items qs.items))
