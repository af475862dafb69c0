-- Patterns by their keys.
use Rattle.std.proofs.Common.{◌≡◌, ℕ, zero, suc, ◌+◌, ◌<◌, Bool, true, false, cond, ◌||◌, List, [], ◌∷◌, ◌++◌, length, take, get_or, Option, Some, None, is_some, refl, ap, sym, subst, ◌∙◌, arith}
use Rattle.std.specs.Prelude.{IfSome, IsSome, IsSomeAnd}
use Rattle.std.specs.List.{AllByRecursion, list_any}
use Rattle.std.specs.Ordering.{nat_cmp}
use Rattle.std.specs.BTreeMap.{BTreeMap, get, is_at, Updates}
use Rattle.std.proofs.lemmas.List.{take_more}
use Rattle.chumsky_input.specs.declared.rich.RichPattern.{RichPattern}
use Rattle.chumsky_input.specs.Rich.{add_new, pattern_same}
use Rattle.chumsky_input.specs.Keys.{pattern_key, IsKey, AreKeyed, HasKeys, PutInto}

is_none : {o : Option ℕ} → o ≡ None → is_some o ≡ true → ⊥
is_none {o} e s = let f : false ≡ true = ap is_some (sym e) ∙ s in absurd (cc)

module _ {T : Type 0} (bucket : T → ℕ) where
  some_or : (b : Bool) (v : ℕ) (o : Option ℕ) → is_some o ≡ true → is_some (cond b (Some v) o) ≡ true
  some_or true v o s = refl
  some_or false v o s = s

  -- with one key more the patterns stay keyed
  pub keyed-more : (m n : BTreeMap ℕ ℕ) (k v : ℕ) → Updates nat_cmp m n k (Some v) → (ps : List (RichPattern T)) → AreKeyed bucket m ps → AreKeyed bucket n ps
  keyed-more m n k v u [] h = tt
  keyed-more m n k v u (p ∷ ps) h = (
    subst (λ (o : Option ℕ). is_some o ≡ true) (sym (u.0 (pattern_key bucket p))) (some_or (is_at (nat_cmp k) (pattern_key bucket p)) v (get nat_cmp m (pattern_key bucket p)) h.0),
    keyed-more m n k v u ps h.1,
  )

  -- and one more of them, whose key is there
  pub keyed-append : (m : BTreeMap ℕ ℕ) (p : RichPattern T) (ps : List (RichPattern T)) → AreKeyed bucket m ps → IsSome (get nat_cmp m (pattern_key bucket p)) → AreKeyed bucket m (ps ++ p ∷ [])
  keyed-append m p [] h s = (s, tt)
  keyed-append m p (q ∷ ps) h s = (h.0, keyed-append m p ps h.1 s)

  -- the patterns, with one more where it is new
  pub keyed-new : (eq : T → T → Bool) (m : BTreeMap ℕ ℕ) (p : RichPattern T) (ps : List (RichPattern T))
      → AreKeyed bucket m ps → IsSome (get nat_cmp m (pattern_key bucket p))
      → AreKeyed bucket m (add_new (pattern_same eq) ps (p ∷ []))
  keyed-new eq m p ps h s = elim (list_any (λ x. pattern_same eq x p) ps) as (λ b. AreKeyed bucket m (cond b ps (ps ++ p ∷ []))) [ true ↦ h | false ↦ keyed-append m p ps h s ]

  -- the key that was put is there
  pub put-there : (m n : BTreeMap ℕ ℕ) (k v : ℕ) → Updates nat_cmp m n k (Some v) → (p : RichPattern T) → k ≡ pattern_key bucket p → IsSome (get nat_cmp n (pattern_key bucket p))
  put-there m n k v u p e = subst (λ (i : ℕ). is_some (get nat_cmp n i) ≡ true) e (ap is_some u.1)

  -- the patterns before place i and the one there, whose key was put
  pub keyed-next : (m n : BTreeMap ℕ ℕ) (k v i : ℕ) (p : RichPattern T) (ps : List (RichPattern T)) → i < length ps
      → p ≡ get_or ps i p → Updates nat_cmp m n k (Some v) → k ≡ pattern_key bucket p → AreKeyed bucket m (take i ps)
      → AreKeyed bucket n (take (i + 1) ps)
  keyed-next m n k v i p ps l is u e h =
      subst (λ t. AreKeyed bucket n t) (sym (take_more ps i p l ∙ ap (λ q. take i ps ++ q ∷ []) (sym is))) (keyed-append n p (take i ps) (keyed-more m n k v u (take i ps) h) (put-there m n k v u p e))

module _ {T : Type 0} (eq : T → T → Bool) (bucket : T → ℕ) where
  apart : (m : BTreeMap ℕ ℕ) (n : ℕ) (p q : RichPattern T) → IsKey eq bucket p n → get nat_cmp m n ≡ None
      → IsSome (get nat_cmp m (pattern_key bucket q)) → (b : Bool) → pattern_same eq q p ≡ b → b ≡ false
  apart m n p q k none s false is = refl
  apart m n p q k none s true is = absurd (is_none none (subst (λ (i : ℕ). is_some (get nat_cmp m i) ≡ true) (k.shared q is) s))

  none_same : (m : BTreeMap ℕ ℕ) (n : ℕ) (p : RichPattern T) (ps : List (RichPattern T)) → IsKey eq bucket p n
      → get nat_cmp m n ≡ None → AreKeyed bucket m ps → list_any (λ x. pattern_same eq x p) ps ≡ false
  none_same m n p [] k none h = refl
  none_same m n p (q ∷ ps) k none h =
      ap (λ b. b || list_any (λ x. pattern_same eq x p) ps) (apart m n p q k none h.0 (pattern_same eq q p) refl) ∙ none_same m n p ps k none h.1

  -- a pattern whose key is not there is new
  pub new-by_key : (m : BTreeMap ℕ ℕ) (n : ℕ) (p : RichPattern T) (ps : List (RichPattern T)) → IsKey eq bucket p n
      → get nat_cmp m n ≡ None → AreKeyed bucket m ps → ps ++ p ∷ [] ≡ add_new (pattern_same eq) ps (p ∷ [])
  new-by_key m n p ps k none h = sym (ap (λ b. cond b ps (ps ++ p ∷ [])) (none_same m n p ps k none h))

  -- so by the map, if there is one
  pub new-among : (places : Option (BTreeMap ℕ ℕ)) (n : ℕ) (p : RichPattern T) (ps : List (RichPattern T))
      → IsKey eq bucket p n → IsSomeAnd places (λ m. get nat_cmp m n ≡ None) → HasKeys bucket places ps
      → ps ++ p ∷ [] ≡ add_new (pattern_same eq) ps (p ∷ [])
  new-among (Some m) n p ps k none h = new-by_key m n p ps k none h
  new-among None n p ps k none h = absurd none

  -- with its key the map has those of the patterns and of one more
  pub keyed-put : (old new : Option (BTreeMap ℕ ℕ)) (n place : ℕ) (p : RichPattern T) (ps : List (RichPattern T))
      → IsKey eq bucket p n → PutInto old new n place → HasKeys bucket old ps → HasKeys bucket new (ps ++ p ∷ [])
  keyed-put (Some m) (Some n) k v p ps key u h = keyed-append bucket n p ps (keyed-more bucket m n k v u ps h) (put-there bucket m n k v u p key.own)
  keyed-put (Some m) None k v p ps key u h = absurd u
  keyed-put None new k v p ps key u h = rw u tt
