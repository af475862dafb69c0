-- The words of parts that are only looked at.
-- Main words: PartFollows, IsThere. Main laws: rewind-takes_each, not-takes_each, and_is-takes_only, and_is-takes_each. Read first: Looking.antt, Language.antt.
use Rattle.std.proofs.Common.{◌≡◌, ℕ, Option, List, [], ◌++◌, length, refl, sym, subst, inl, inr}
use Rattle.chumsky_parser.specs.Ending.{Ending, At, Nowhere, Refused, Ender, and_then, EndsOrRefused, DoesNotEnd}
use Rattle.chumsky_parser.specs.Language.{TakesOnly, GivesOnly, TakesEach, EndsFurther, NeverRefusedBelow, IsBelow, sooner}
use Rattle.chumsky_parser.specs.FurtherLaws.{sooner-below}
use Rattle.chumsky_parser.specs.WordsLaws.{then_or_refused}
use Rattle.chumsky_judge.specs.Looking.{back, unless, there_too, rewind_ends, not_ends, and_is_ends, PartFollows, IsThere, EndsAnywhereOrRefused, MayBeThere, KnownByWord}

back-at : {X : Type 0} (s r : X) (x : Ending X) → back s x ≡ At r → (s ≡ r) × ((y : X) × (x ≡ At y))
back-at s r (At y) e = (cc e, (y, refl))
back-at s r Nowhere e = absurd (cc e)
back-at s r Refused e = absurd (cc e)

back-refused : {X : Type 0} (s : X) (x : Ending X) → back s x ≡ Refused → x ≡ Refused
back-refused s (At y) e = absurd (cc e)
back-refused s Nowhere e = absurd (cc e)
back-refused s Refused e = refl

unless-at : {X : Type 0} (s r : X) (x : Ending X) → unless s x ≡ At r → (s ≡ r) × (x ≡ Nowhere)
unless-at s r (At y) e = absurd (cc e)
unless-at s r Nowhere e = (cc e, refl)
unless-at s r Refused e = absurd (cc e)

unless-refused : {X : Type 0} (s : X) (x : Ending X) → unless s x ≡ Refused → x ≡ Refused
unless-refused s (At y) e = absurd (cc e)
unless-refused s Nowhere e = absurd (cc e)
unless-refused s Refused e = refl

there-is : {X : Type 0} (x : Ending X) (y : X) → x ≡ At y → IsThere x
there-is x y e = rw e tt

there-too : {X : Type 0} (x : Ending X) (y : X) → EndsAnywhereOrRefused x → EndsOrRefused (there_too x y) y
there-too (At z) y i = inl refl
there-too Nowhere y i = absurd i
there-too Refused y i = inr refl

back-there : {X : Type 0} (s : X) (x : Ending X) (y : X) → EndsOrRefused x y → EndsOrRefused (back s x) s
back-there s x y (inl e) = rw e (inl refl)
back-there s x y (inr e) = rw e (inr refl)

unless-there : {X : Type 0} (s : X) (x : Ending X) → DoesNotEnd x → EndsOrRefused (unless s x) s
unless-there s (At y) n = absurd n
unless-there s Nowhere n = inl refl
unless-there s Refused n = inr refl

module _ {Tok V : Type 0} (f : Ender Tok) (value of : List Tok → V → Type 0) (P follow : List Tok → Type 0) where
  pub rewind-takes_only : TakesOnly (rewind_ends f) (λ w. w ≡ [])
  rewind-takes_only = record { taken = λ ts rest e. let b = back-at ts rest (f ts) e in record { word = []; all = b.0; is = refl } }

  -- the value of the word that was looked at
  pub rewind-gives_only : GivesOnly f value of → GivesOnly (rewind_ends f) value (λ w v. (w ≡ []) × ((u : List Tok) × of u v))
  rewind-gives_only h = record {
    given = λ ts rest v e i.
        let b = back-at ts rest (f ts) e in
        let k = h.given ts b.1.0 v b.1.1 i in
        record { word = []; all = b.0; is = (refl, (k.word, k.is)) };
  }

  pub rewind-takes_each : TakesEach f P follow → TakesEach (rewind_ends f) (λ w. w ≡ []) (PartFollows P follow)
  rewind-takes_each h = record {
    each = λ w rest e k.
        let d : EndsOrRefused (f rest) k.rest = subst (λ ts. EndsOrRefused (f ts) k.rest) (sym k.begins.all) (h.each k.begins.word k.rest k.begins.is k.fits) in
        rw e (back-there rest (f rest) k.rest d);
  }

  pub rewind-decided : (n : Option ℕ) → NeverRefusedBelow n f → NeverRefusedBelow n (rewind_ends f)
  rewind-decided n h ts i d = h ts i (back-refused ts (f ts) d)

module _ {Tok : Type 0} (f : Ender Tok) where
  pub not-takes_only : TakesOnly (not_ends f) (λ w. w ≡ [])
  not-takes_only = record { taken = λ ts rest e. let b = unless-at ts rest (f ts) e in record { word = []; all = b.0; is = refl } }

  pub not-gives_only : GivesOnly (not_ends f) (λ ts (u : Unit {0}). f ts ≡ Nowhere) (λ w u. w ≡ [])
  not-gives_only = record { given = λ ts rest u e i. let b = unless-at ts rest (f ts) e in record { word = []; all = b.0; is = refl } }

  pub not-takes_each : TakesEach (not_ends f) (λ w. w ≡ []) (λ rest. DoesNotEnd (f rest))
  not-takes_each = record { each = λ w rest e k. rw e (unless-there rest (f rest) k) }

  pub not-decided : (n : Option ℕ) → NeverRefusedBelow n f → NeverRefusedBelow n (not_ends f)
  not-decided n h ts i d = h ts i (unless-refused ts (f ts) d)

module _ {Tok V : Type 0} (f g : Ender Tok) (value of : List Tok → V → Type 0) (P follow : List Tok → Type 0) where
  both-at : (ts rest : List Tok) → and_is_ends f g ts ≡ At rest → (f ts ≡ At rest) × IsThere (g ts)
  both-at ts rest e = by_first (f ts) e
    where
      by_other : (x : Ending (List Tok)) (r : List Tok) → back r x ≡ At rest → (At r ≡ At rest) × IsThere x
      by_other (At y) r e = (e, tt)
      by_other Nowhere r e = absurd (cc e)
      by_other Refused r e = absurd (cc e)

      by_first : (x : Ending (List Tok)) → and_then (λ r. there_too (g ts) r) x ≡ At rest → (x ≡ At rest) × IsThere (g ts)
      by_first (At r) e = by_other (g ts) r e
      by_first Nowhere e = absurd (cc e)
      by_first Refused e = absurd (cc e)

  pub and_is-takes_only : TakesOnly f P → TakesOnly (and_is_ends f g) (λ w. P w × MayBeThere g w)
  and_is-takes_only h = record {
    taken = λ ts rest e.
        let b = both-at ts rest e in
        let k = h.taken ts rest b.0 in
        record { word = k.word; all = k.all; is = (k.is, (rest, subst (λ us. IsThere (g us)) k.all b.1)) };
  }

  pub and_is-gives_only : GivesOnly f value of → GivesOnly (and_is_ends f g) value (λ w v. of w v × MayBeThere g w)
  and_is-gives_only h = record {
    given = λ ts rest v e i.
        let b = both-at ts rest e in
        let k = h.given ts rest v b.0 i in
        record { word = k.word; all = k.all; is = (k.is, (rest, subst (λ us. IsThere (g us)) k.all b.1)) };
  }

  pub and_is-takes_each : TakesEach f P follow → KnownByWord g P follow → TakesEach (and_is_ends f g) (λ w. P w × MayBeThere g w) follow
  and_is-takes_each h known = record {
    each = λ w rest p k. then_or_refused (λ r. there_too (g (w ++ rest)) r) (f (w ++ rest)) rest rest (h.each w rest p.0 k) (there-too (g (w ++ rest)) rest (known w rest p.1.0 p.0 k p.1.1));
  }

  pub and_is-further : EndsFurther f → EndsFurther (and_is_ends f g)
  and_is-further h ts rest e = h ts rest (both-at ts rest e).0

  pub and_is-decided : (m n : Option ℕ) → NeverRefusedBelow m f → NeverRefusedBelow n g → NeverRefusedBelow (sooner m n) (and_is_ends f g)
  and_is-decided m n h k ts i d = let j = sooner-below m n (length ts) i in by_first j.0 j.1 (f ts) refl d
    where
      by_first : IsBelow m (length ts) → IsBelow n (length ts) → (x : Ending (List Tok)) → f ts ≡ x → and_then (λ r. there_too (g ts) r) x ≡ Refused → ⊥
      by_first i j (At r) q e' = k ts j (back-refused r (g ts) e')
      by_first i j Nowhere q e' = cc e'
      by_first i j Refused q e' = h ts i q
