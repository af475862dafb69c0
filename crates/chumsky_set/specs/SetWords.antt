-- Where a set ends it took a word of each part, in some order.
-- Main laws: set-covered, set-decided. Read first: SetLanguage.antt.
use Rattle.std.proofs.Common.{◌≡◌, ℕ, zero, suc, ◌≤◌, Bool, true, false, nat_lt, if◌then◌else◌, Option, Some, None}
use Rattle.std.proofs.Common.{List, [], ◌∷◌, ◌++◌, length, flat_map, IsPermutation, refl, sym, ◌∙◌, ap, subst, arith, append_assoc, append-nil}
use Rattle.std.specs.Prelude.{⊤}
use Rattle.std.proofs.lemmas.List.Sorted.{IsPermutation-refl, IsPermutation-sym, IsPermutation-trans, IsPermutation-cons, IsPermutation-middle, IsPermutation-append_left}
use Rattle.std.proofs.lemmas.Grind.{flat_map-append}
use Rattle.chumsky_parser.specs.Ending.{Ending, At, Nowhere, Refused, Ender, and_then}
use Rattle.chumsky_parser.specs.FurtherLaws.{fewer-below}
use Rattle.chumsky_parser.specs.Language.{TakesOnly, NeverRefusedBelow, IsBelow}
use Rattle.chumsky_set.specs.SetLanguage.{Places, none_taken, untaken, Passed, before, further_on, offered, round, last_pass, rounds, set_taken}

-- the words, one after another
abbrev pub joined_words : {Tok : Type 0} → List (List Tok) → List Tok
joined_words ws = flat_map (λ u. u) ws

-- none gives a token back
abbrev pub AllKeep : {Tok : Type 0} → List (Ender Tok) → Type 0
AllKeep [] = ⊤
AllKeep (f ∷ fs) = TakesOnly f (λ w. ⊤) × AllKeep fs

-- a part took this word of these tokens
pub record Took {Tok : Type 0} (f : Ender Tok) (p w : List Tok) : Type 0 where
  pub rest : List Tok
  pub ends : f p ≡ At rest
  pub all : p ≡ w ++ rest

-- a part took the first word, and of the others P
abbrev pub TookFirst : {Tok : Type 0} → Ender Tok → List Tok → (List (List Tok) → Type 0) → List (List Tok) → Type 0
TookFirst f p P [] = ⊥
TookFirst f p P (w ∷ ws) = Took f p w × P ws

-- the words that the parts took that are taken
abbrev pub WordsTaken : {Tok : Type 0} → List (Ender Tok) → Places Tok → List (List Tok) → Type 0
WordsTaken [] places ws = ws ≡ []
WordsTaken (f ∷ fs) [] ws = ⊥
WordsTaken (f ∷ fs) (None ∷ places) ws = WordsTaken fs places ws
WordsTaken (f ∷ fs) (Some p ∷ places) ws = TookFirst f p (WordsTaken fs places) ws

-- the words that all parts took
abbrev pub EachTook : {Tok : Type 0} → List (Ender Tok) → Places Tok → List (List Tok) → Type 0
EachTook [] places ws = ws ≡ []
EachTook (f ∷ fs) [] ws = ⊥
EachTook (f ∷ fs) (None ∷ places) ws = ⊥
EachTook (f ∷ fs) (Some p ∷ places) ws = TookFirst f p (EachTook fs places) ws

-- new words were taken up to the rest, so that where P was of the words before, Q is of all
record TookMore {Tok : Type 0} (P Q : List (List Tok) → Type 0) (ts rest : List Tok) : Type 0 where
  new : List (List Tok)
  all : ts ≡ joined_words new ++ rest
  took : (ws : List (List Tok)) → P ws → (us : List (List Tok)) × Q us × IsPermutation us (ws ++ new)

module _ {Tok : Type 0} where
  took_nothing : (P Q : List (List Tok) → Type 0) → ((ws : List (List Tok)) → P ws → Q ws) → (ts : List Tok) → TookMore P Q ts ts
  took_nothing P Q h ts = record { new = []; all = refl; took = λ ws i. (ws, h ws i, subst (IsPermutation ws) (sym (append-nil ws)) (IsPermutation-refl ws)) }

  took_after : {P Q R : List (List Tok) → Type 0} {ts mid rest : List Tok} → TookMore P Q ts mid → TookMore Q R mid rest → TookMore P R ts rest
  took_after {ts = ts} {mid = mid} {rest = rest} h k =
      let z : joined_words (h.new ++ k.new) ≡ joined_words h.new ++ joined_words k.new = flat_map-append (λ u. u) h.new k.new in
      record {
        new = h.new ++ k.new;
        all = h.all ∙ ap (λ t. joined_words h.new ++ t) k.all ∙ sym (append_assoc (joined_words h.new) (joined_words k.new) rest) ∙ ap (λ t. t ++ rest) (sym z);
        took = λ ws i.
            let a = h.took ws i in
            let b = k.took a.0 a.1 in
            let c : IsPermutation b.0 ((ws ++ h.new) ++ k.new) = IsPermutation-trans b.0 (a.0 ++ k.new) ((ws ++ h.new) ++ k.new) b.2 (IsPermutation-append_left k.new a.0 (ws ++ h.new) a.2) in
            (b.0, b.1, subst (IsPermutation b.0) (append_assoc ws h.new k.new) c);
      }

  module _ (f : Ender Tok) (P Q : List (List Tok) → Type 0) where
    -- a part that was taken before
    took_before : (p : List Tok) {ts rest : List Tok} → TookMore P Q ts rest → TookMore (TookFirst f p P) (TookFirst f p Q) ts rest
    took_before p h = record { new = h.new; all = h.all; took = λ ws i. by_words ws i }
      where
        by_words : (ws : List (List Tok)) → TookFirst f p P ws → (us : List (List Tok)) × TookFirst f p Q us × IsPermutation us (ws ++ h.new)
        by_words [] i = absurd i
        by_words (w ∷ ws) i = let a = h.took ws i.1 in (w ∷ a.0, (i.0, a.1), IsPermutation-cons w a.0 (ws ++ h.new) a.2)

    -- a part that is taken now
    took_now : (ts mid : List Tok) {rest : List Tok} → TakesOnly f (λ w. ⊤) → f ts ≡ At mid → TookMore P Q mid rest → TookMore P (TookFirst f ts Q) ts rest
    took_now ts mid {rest} k e h =
        let b = k.taken ts mid e in
        record {
          new = b.word ∷ h.new;
          all = b.all ∙ ap (λ t. b.word ++ t) h.all ∙ sym (append_assoc b.word (joined_words h.new) rest);
          took = λ ws i.
              let a = h.took ws i in
              let c : IsPermutation (b.word ∷ a.0) (b.word ∷ (ws ++ h.new)) = IsPermutation-cons b.word a.0 (ws ++ h.new) a.2 in (
                b.word ∷ a.0,
                (record { rest = mid; ends = e; all = b.all }, a.1),
                IsPermutation-trans (b.word ∷ a.0) (b.word ∷ (ws ++ h.new)) (ws ++ b.word ∷ h.new) c (IsPermutation-sym (ws ++ b.word ∷ h.new) (b.word ∷ (ws ++ h.new))
                    (IsPermutation-middle ws b.word h.new)),
              );
        }

  -- where a pass ended that has a part before the others
  before-at : (p : Option (List Tok)) (x : Passed Tok) (s : Places Tok × List Tok) → before p x ≡ At s → (u : Places Tok × List Tok) × (x ≡ At u) × (s ≡ (p ∷ u.0, u.1))
  before-at p (At u) s e = let z : (p ∷ u.0, u.1) ≡ s = cc e in (u, refl, sym z)
  before-at p Nowhere s e = absurd (cc e)
  before-at p Refused s e = absurd (cc e)

  before-refused : (p : Option (List Tok)) (x : Passed Tok) → before p x ≡ Refused → x ≡ Refused
  before-refused p (At u) e = absurd (cc e)
  before-refused p Nowhere e = absurd (cc e)
  before-refused p Refused e = refl

  -- what a round takes, from any tokens
  abbrev RoundTook : List (Ender Tok) → Places Tok → Type 0
  RoundTook fs places = (ts : List Tok) (s : Places Tok × List Tok) → round fs places ts ≡ At s → TookMore (WordsTaken fs places) (WordsTaken fs s.0) ts s.1

  -- and what so many rounds take up to this end, from wherever they begin
  abbrev RoundsTook : ℕ → List (Ender Tok) → Places Tok × List Tok → Type 0
  RoundsTook n fs s = (u : Places Tok × List Tok) → rounds n fs u.0 u.1 ≡ At s → TookMore (WordsTaken fs u.0) (EachTook fs s.0) u.1 s.1

  round-took : (fs : List (Ender Tok)) → AllKeep fs → (places : Places Tok) (ts : List Tok) (s : Places Tok × List Tok) → round fs places ts ≡ At s
      → TookMore (WordsTaken fs places) (WordsTaken fs s.0) ts s.1
  round-took [] k places ts s e =
      let z : ([], ts) ≡ s = cc e in
      subst (λ q. TookMore (WordsTaken [] places) (WordsTaken [] q.0) ts q.1) z (took_nothing (WordsTaken [] places) (WordsTaken [] []) (λ ws i. i) ts)
  round-took (f ∷ fs) k [] ts s e = absurd (cc e)
  round-took (f ∷ fs) k (Some p ∷ places) ts s e =
      let b = before-at (Some p) (round fs places ts) s e in
      let h = round-took fs k.1 places ts b.0 b.1 in
      subst (λ q. TookMore (WordsTaken (f ∷ fs) (Some p ∷ places)) (WordsTaken (f ∷ fs) q.0) ts q.1) (sym b.2) (took_before f (WordsTaken fs places) (WordsTaken fs b.0.0) p h)
  round-took (f ∷ fs) k (None ∷ places) ts s e = by_part (λ us u q. round-took fs k.1 places us u q) (f ts) refl e
    where
      passed : RoundTook fs places → before None (round fs places ts) ≡ At s → TookMore (WordsTaken fs places) (WordsTaken (f ∷ fs) s.0) ts s.1
      passed h e = let b = before-at None (round fs places ts) s e in subst (λ q. TookMore (WordsTaken fs places) (WordsTaken (f ∷ fs) q.0) ts q.1) (sym b.2) (h ts b.0 b.1)

      by_further : RoundTook fs places → (r : List Tok) → f ts ≡ At r → (c : Bool) → offered ts (round fs places) (if c then At r else Nowhere) ≡ At s
          → TookMore (WordsTaken fs places) (WordsTaken (f ∷ fs) s.0) ts s.1
      by_further h r d true e =
          let b = before-at (Some ts) (round fs places r) s e in
          subst (λ q. TookMore (WordsTaken fs places) (WordsTaken (f ∷ fs) q.0) ts q.1) (sym b.2) (took_now f (WordsTaken fs places) (WordsTaken fs b.0.0) ts r k.0 d (h r b.0 b.1))
      by_further h r d false e = passed h e

      by_part : RoundTook fs places → (x : Ending (List Tok)) → f ts ≡ x → offered ts (round fs places) (and_then (further_on ts) x) ≡ At s
          → TookMore (WordsTaken fs places) (WordsTaken (f ∷ fs) s.0) ts s.1
      by_part h (At r) d e = by_further h r d (nat_lt (length r) (length ts)) e
      by_part h Nowhere d e = passed h e
      by_part h Refused d e = absurd (cc e)

  -- the last pass
  last-took : (fs : List (Ender Tok)) → AllKeep fs → (places : Places Tok) (ts : List Tok) (s : Places Tok × List Tok) → last_pass fs places ts ≡ At s
      → TookMore (WordsTaken fs places) (EachTook fs s.0) ts s.1
  last-took [] k places ts s e =
      let z : ([], ts) ≡ s = cc e in
      subst (λ q. TookMore (WordsTaken [] places) (EachTook [] q.0) ts q.1) z (took_nothing (WordsTaken [] places) (EachTook [] []) (λ ws i. i) ts)
  last-took (f ∷ fs) k [] ts s e = absurd (cc e)
  last-took (f ∷ fs) k (Some p ∷ places) ts s e =
      let b = before-at (Some p) (last_pass fs places ts) s e in
      let h = last-took fs k.1 places ts b.0 b.1 in
      subst (λ q. TookMore (WordsTaken (f ∷ fs) (Some p ∷ places)) (EachTook (f ∷ fs) q.0) ts q.1) (sym b.2) (took_before f (WordsTaken fs places) (EachTook fs b.0.0) p h)
  last-took (f ∷ fs) k (None ∷ places) ts s e = by_part (λ us u q. last-took fs k.1 places us u q) (f ts) refl e
    where
      by_part : ((us : List Tok) (u : Places Tok × List Tok) → last_pass fs places us ≡ At u → TookMore (WordsTaken fs places) (EachTook fs u.0) us u.1)
          → (x : Ending (List Tok)) → f ts ≡ x → and_then (λ rest. before (Some ts) (last_pass fs places rest)) x ≡ At s
          → TookMore (WordsTaken fs places) (EachTook (f ∷ fs) s.0) ts s.1
      by_part h (At r) d e =
          let b = before-at (Some ts) (last_pass fs places r) s e in
          subst (λ q. TookMore (WordsTaken fs places) (EachTook (f ∷ fs) q.0) ts q.1) (sym b.2) (took_now f (WordsTaken fs places) (EachTook fs b.0.0) ts r k.0 d (h r b.0 b.1))
      by_part h Nowhere d e = absurd (cc e)
      by_part h Refused d e = absurd (cc e)

  -- rounds, and the last pass
  rounds-took : (n : ℕ) (fs : List (Ender Tok)) → AllKeep fs → (places : Places Tok) (ts : List Tok) (s : Places Tok × List Tok) → rounds n fs places ts ≡ At s
      → TookMore (WordsTaken fs places) (EachTook fs s.0) ts s.1
  rounds-took zero fs k places ts s e = absurd (cc e)
  rounds-took (suc n) fs k places ts s e = by_round (λ u q. rounds-took n fs k u.0 u.1 s q) (round fs places ts) refl e
    where
      by_more : RoundsTook n fs s → (u : Places Tok × List Tok) → round fs places ts ≡ At u → (c : Bool) → (if c then rounds n fs u.0 u.1 else last_pass fs u.0 u.1) ≡ At s
          → TookMore (WordsTaken fs places) (EachTook fs s.0) ts s.1
      by_more h u d true e = took_after (round-took fs k places ts u d) (h u e)
      by_more h u d false e = took_after (round-took fs k places ts u d) (last-took fs k u.0 u.1 s e)

      by_round : RoundsTook n fs s → (x : Passed Tok) → round fs places ts ≡ x
          → and_then (λ q. if nat_lt (untaken q.0) (untaken places) then rounds n fs q.0 q.1 else last_pass fs q.0 q.1) x ≡ At s
          → TookMore (WordsTaken fs places) (EachTook fs s.0) ts s.1
      by_round h (At u) d e = by_more h u d (nat_lt (untaken u.0) (untaken places)) e
      by_round h Nowhere d e = absurd (cc e)
      by_round h Refused d e = absurd (cc e)

  none_so_far : (fs : List (Ender Tok)) → WordsTaken fs (none_taken fs) []
  none_so_far [] = refl
  none_so_far (f ∷ fs) = none_so_far fs

  -- where a set ends, each part took a word, and these words one after another in some order are what was taken
  pub record Covered (fs : List (Ender Tok)) (places : Places Tok) (ts rest : List Tok) : Type 0 where
    pub words : List (List Tok)
    pub each : EachTook fs places words
    pub order : List (List Tok)
    pub moved : IsPermutation words order
    pub all : ts ≡ joined_words order ++ rest

  pub set-covered : (fs : List (Ender Tok)) → AllKeep fs → (ts : List Tok) (s : Places Tok × List Tok) → set_taken fs ts ≡ At s → Covered fs s.0 ts s.1
  set-covered fs k ts s e =
      let h = rounds-took (suc (untaken (none_taken fs))) fs k (none_taken fs) ts s e in
      let a = h.took [] (none_so_far fs) in
      record { words = a.0; each = a.1; order = h.new; moved = a.2; all = h.all }

  -- none refuses a text of fewer tokens than so many
  abbrev pub AllDecided : Option ℕ → List (Ender Tok) → Type 0
  AllDecided n [] = ⊤
  AllDecided n (f ∷ fs) = NeverRefusedBelow n f × AllDecided n fs

  shorter : (ws rest : List Tok) → length rest ≤ length (ws ++ rest)
  shorter [] rest = omega arith
  shorter (w ∷ ws) rest = let k = shorter ws rest in omega (arith, k)

  below_still : (n : Option ℕ) (ts front rest : List Tok) → ts ≡ front ++ rest → IsBelow n (length ts) → IsBelow n (length rest)
  below_still n ts front rest e i =
      let l : length ts ≡ length (front ++ rest) = ap length e in
      let k : length rest ≤ length (front ++ rest) = shorter front rest in
      fewer-below n (length rest) (length ts) (omega (arith, l, k)) i

  module _ (n : Option ℕ) where
    -- a round refuses no text that is so short, and so many rounds don't
    abbrev RoundDecided : List (Ender Tok) → Places Tok → Type 0
    RoundDecided fs places = (ts : List Tok) → IsBelow n (length ts) → round fs places ts ≡ Refused → ⊥

    abbrev RoundsDecided : ℕ → List (Ender Tok) → Type 0
    RoundsDecided m fs = (u : Places Tok × List Tok) → IsBelow n (length u.1) → rounds m fs u.0 u.1 ≡ Refused → ⊥

    round-decided : (fs : List (Ender Tok)) → AllKeep fs → AllDecided n fs → (places : Places Tok) (ts : List Tok) → IsBelow n (length ts) → round fs places ts ≡ Refused → ⊥
    round-decided [] k d places ts i e = cc e
    round-decided (f ∷ fs) k d [] ts i e = cc e
    round-decided (f ∷ fs) k d (Some p ∷ places) ts i e = round-decided fs k.1 d.1 places ts i (before-refused (Some p) (round fs places ts) e)
    round-decided (f ∷ fs) k d (None ∷ places) ts i e = by_part (λ us j q. round-decided fs k.1 d.1 places us j q) (f ts) refl e
      where
        by_further : RoundDecided fs places → (r : List Tok) → f ts ≡ At r → (c : Bool) → offered ts (round fs places) (if c then At r else Nowhere) ≡ Refused → ⊥
        by_further h r q true e = let b = k.0.taken ts r q in h r (below_still n ts b.word r b.all i) (before-refused (Some ts) (round fs places r) e)
        by_further h r q false e = h ts i (before-refused None (round fs places ts) e)

        by_part : RoundDecided fs places → (x : Ending (List Tok)) → f ts ≡ x → offered ts (round fs places) (and_then (further_on ts) x) ≡ Refused → ⊥
        by_part h (At r) q e = by_further h r q (nat_lt (length r) (length ts)) e
        by_part h Nowhere q e = h ts i (before-refused None (round fs places ts) e)
        by_part h Refused q e = d.0 ts i q

    last-decided : (fs : List (Ender Tok)) → AllKeep fs → AllDecided n fs → (places : Places Tok) (ts : List Tok) → IsBelow n (length ts) → last_pass fs places ts ≡ Refused → ⊥
    last-decided [] k d places ts i e = cc e
    last-decided (f ∷ fs) k d [] ts i e = cc e
    last-decided (f ∷ fs) k d (Some p ∷ places) ts i e = last-decided fs k.1 d.1 places ts i (before-refused (Some p) (last_pass fs places ts) e)
    last-decided (f ∷ fs) k d (None ∷ places) ts i e = by_part (λ us j q. last-decided fs k.1 d.1 places us j q) (f ts) refl e
      where
        by_part : ((us : List Tok) → IsBelow n (length us) → last_pass fs places us ≡ Refused → ⊥)
            → (x : Ending (List Tok)) → f ts ≡ x → and_then (λ rest. before (Some ts) (last_pass fs places rest)) x ≡ Refused → ⊥
        by_part h (At r) q e = let b = k.0.taken ts r q in h r (below_still n ts b.word r b.all i) (before-refused (Some ts) (last_pass fs places r) e)
        by_part h Nowhere q e = cc e
        by_part h Refused q e = d.0 ts i q

    rounds-decided : (m : ℕ) (fs : List (Ender Tok)) → AllKeep fs → AllDecided n fs → (places : Places Tok) (ts : List Tok) → IsBelow n (length ts) → rounds m fs places ts ≡ Refused → ⊥
    rounds-decided zero fs k d places ts i e = cc e
    rounds-decided (suc m) fs k d places ts i e = by_round (λ u j q. rounds-decided m fs k d u.0 u.1 j q) (round fs places ts) refl e
      where
        by_more : RoundsDecided m fs → (u : Places Tok × List Tok) → round fs places ts ≡ At u → (c : Bool) → (if c then rounds m fs u.0 u.1 else last_pass fs u.0 u.1) ≡ Refused → ⊥
        by_more h u q true e = let t = round-took fs k places ts u q in h u (below_still n ts (joined_words t.new) u.1 t.all i) e
        by_more h u q false e = let t = round-took fs k places ts u q in last-decided fs k d u.0 u.1 (below_still n ts (joined_words t.new) u.1 t.all i) e

        by_round : RoundsDecided m fs → (x : Passed Tok) → round fs places ts ≡ x
            → and_then (λ q. if nat_lt (untaken q.0) (untaken places) then rounds m fs q.0 q.1 else last_pass fs q.0 q.1) x ≡ Refused → ⊥
        by_round h (At u) q e = by_more h u q (nat_lt (untaken u.0) (untaken places)) e
        by_round h Nowhere q e = cc e
        by_round h Refused q e = round-decided fs k d places ts i q

    -- a set refuses only a text that a part may refuse
    pub set-decided : (fs : List (Ender Tok)) → AllKeep fs → AllDecided n fs → (ts : List Tok) → IsBelow n (length ts) → set_taken fs ts ≡ Refused → ⊥
    set-decided fs k d ts i e = rounds-decided (suc (untaken (none_taken fs))) fs k d (none_taken fs) ts i e
