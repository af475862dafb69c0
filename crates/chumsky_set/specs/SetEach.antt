-- The language of a set of a list of parsers, and that it accepts it.
-- Main word: each_language. Main laws: set_stored-accepts, set_each-accepts. Read first: SetLanguage.antt, SetAccepts.antt, Lists.antt.
use Rattle.std.proofs.Common.{◌≡◌, Bool, true, false, ◌&&◌, Option, Some, None, List, [], ◌∷◌, map, drop, refl, sym, subst, inl, inr}
use Rattle.std.specs.Prelude.{⊤, IsSomeAnd}
use Rattle.chumsky_input.specs.Outcome.{Meaning, Beginning}
use Rattle.chumsky_parser.specs.Chained.{Chained, Given, Asked}
use Rattle.chumsky_parser.specs.Ending.{Ending, At, and_then, Ends, Within, IfValue, Answers, Here, Reads}
use Rattle.chumsky_parser.specs.EndingLaws.{chained-here, given-here, asked-here, refuses-by, and_then_some}
use Rattle.chumsky_parser.specs.Failure.{wanting}
use Rattle.chumsky_parser.specs.Language.{Language, Described, Accepts, sooner}
use Rattle.chumsky_parser.specs.Memory.{NeverOutOfMemory}
use Rattle.chumsky_parser.specs.MemoryLaws.{given-spares, chained-spares, asked-spares}
use Rattle.chumsky_parser.specs.ProgressLaws.{both-true}
use Rattle.chumsky_set.specs.AnyOrder.{Slot, Row, Turns, Missing, Offered, with_first, all_still, still, each_part, AnyOrder}
use Rattle.chumsky_set.specs.Lists.{FormedAs, SetEach, SetStored, each_stored, only}
use Rattle.chumsky_set.specs.SetAccepts.{RowSound, RowSpares, RowDescribed, part_before-sound, any_order-spares, offered-spares, missing-spares, set-described}
use Rattle.chumsky_set.specs.SetEndings.{FitsSlot, Joins, taken-here, run-here, offered-part, RowReads, any_order-reads}
use Rattle.chumsky_set.specs.SetLanguage.{Places, none_taken, untaken, left_of, round, last_pass, set_taken, set_ends, RowLanguage, OfFirst, part_before, set_language}
use Rattle.chumsky_set.specs.SetWords.{EachTook}

abbrev pub no_items : {Tok V : Type 0} → RowLanguage Tok (List V)
no_items = record {
  said = true;
  ends = [];
  value = λ places vs. vs ≡ [];
  words = λ ws. ws ≡ [];
  stand_for = λ ws vs. (ws ≡ []) × (vs ≡ []);
  refused_from = None;
  takes_no_memory = ⊤;
}

abbrev pub item_before : {Tok V : Type 0} → Language Tok V → RowLanguage Tok (List V) → RowLanguage Tok (List V)
item_before F others = record {
  said = F.said && others.said;
  ends = F.ends ∷ others.ends;
  value = λ places vs. OfFirst (λ v us. (part_before F others).value places (v, us)) vs;
  words = (part_before F others).words;
  stand_for = λ ws vs. OfFirst (λ v us. (part_before F others).stand_for ws (v, us)) vs;
  refused_from = sooner F.refused_from others.refused_from;
  takes_no_memory = F.takes_no_memory × others.takes_no_memory;
}

-- a word of each of these, with their values in a list
abbrev pub each_language : {X Tok V : Type 0} → (X → Language Tok V) → List X → RowLanguage Tok (List V)
each_language language [] = no_items
each_language language (x ∷ xs) = item_before (language x) (each_language language xs)

-- what is taken of each is a value of the tokens at its place
abbrev pub FitsEach : {X Tok V : Type 0} → (X → Language Tok V) → List X → List (Slot V) → Places Tok → Type 0
FitsEach language [] slots places = (slots ≡ []) × (places ≡ [])
FitsEach language (x ∷ xs) [] places = ⊥
FitsEach language (x ∷ xs) (s ∷ ss) places = OfFirst (λ p ps. FitsSlot (language x).value s p × FitsEach language xs ss ps) places

first-joins : {V : Type 0} → Joins {A = V} {B = List V} with_first (λ v vs. v ∷ vs)
first-joins = record { value = value }
  where
    value : {V : Type 0} (P : V → Type 0) (Q R : List V → Type 0) → ((v : V) (vs : List V) → P v → Q vs → R (v ∷ vs)) → (v : Option V) (vs : Option (List V)) → IfValue P v → IfValue Q vs
        → IfValue R (with_first v vs)
    value P Q R f (Some v) (Some w) i j = f v w i j
    value P Q R f (Some v) None i j = tt
    value P Q R f None w i j = tt

module _ {X Tok Cx St Er V : Type 0} (meaning : X → Meaning Tok Cx St Er V) (language : X → Language Tok V) where
  -- each is as its language says
  abbrev pub EachDescribed : List X → Type 0
  EachDescribed [] = ⊤
  EachDescribed (x ∷ xs) = Described (meaning x) (language x) × EachDescribed xs

  each-described : {spare : Type 0} → ((x : X) → Accepts (meaning x) (language x) spare) → (xs : List X) → (each_language language xs).said ≡ true → EachDescribed xs
  each-described h [] s = tt
  each-described h (x ∷ xs) s = let t = both-true (language x).said (each_language language xs).said s in ((h x).described t.0, each-described h xs t.1)

  each-sound : (xs : List X) → EachDescribed xs → RowSound (each_language language xs)
  each-sound [] d = record { keep = tt; only = λ places ws e. e; given = λ places ws vs e i. (e, i); decided = tt }
  each-sound (x ∷ xs) d =
      let others = each_language language xs in
      let s = part_before-sound (meaning x) (language x) d.0 others (each-sound xs d.1) in
      record { keep = s.keep; only = s.only; given = given x others s; decided = s.decided }
    where
      given : (x : X) (others : RowLanguage Tok (List V)) → RowSound (part_before (language x) others) → (places : Places Tok) (ws : List (List Tok)) (vs : List V)
          → EachTook ((language x).ends ∷ others.ends) places ws → (item_before (language x) others).value places vs → (item_before (language x) others).stand_for ws vs
      given x others s places ws [] e i = absurd i
      given x others s places ws (v ∷ vs) e i = s.given places ws (v, vs) e i

module _ {X Tok Cx St Mk Er V : Type 0} (mark : St → Mk) (back : St → Mk → St) (safe : Type 0) (meaning : X → Meaning Tok Cx St Er V) (language : X → Language Tok V) where
  left-each : (xs : List X) (t : List (Slot V)) (places : Places Tok) → FitsEach language xs t places → all_still t ≡ untaken places
  left-each [] t places i = rw (i.0, i.1) refl
  left-each (x ∷ xs) [] places i = absurd i
  left-each (x ∷ xs) (s ∷ ss) [] i = absurd i
  left-each (x ∷ xs) (s ∷ ss) (p ∷ ps) i = let a = slot_fits (language x) s p i.0 in let b = left-each xs ss ps i.1 in cc (a, b)
    where
      slot_fits : (F : Language Tok V) (s : Slot V) (p : Option (List Tok)) → FitsSlot F.value s p → still s ≡ still p
      slot_fits F (Some v) (Some p) i = refl
      slot_fits F (Some v) None i = absurd i
      slot_fits F None (Some p) i = absurd i
      slot_fits F None None i = refl

  -- a round, part by part
  turns-pass : (xs : List X) → EachDescribed meaning language xs → (t : List (Slot V)) (places : Places Tok) → FitsEach language xs t places → (b : Beginning Tok Cx St) → Within b
      → Here (λ u. Ends (round (each_language language xs).ends places (drop b.start b.tokens.list)) (λ s. FitsEach language xs u s.0))
      (Turns (λ x. Offered mark back safe (meaning x)) xs t (Some [])) (left_of (round (each_language language xs).ends places (drop b.start b.tokens.list))) b
  turns-pass [] d t places i b w o m = given-here Er (λ (u : List (Slot V)). (u ≡ []) × ([] ≡ [])) b w (Some []) (refl, refl) o m
  turns-pass (x ∷ xs) d [] places i b w o m = absurd i
  turns-pass (x ∷ xs) d (s ∷ ss) [] i b w o m = absurd i
  turns-pass (x ∷ xs) d (Some v ∷ ss) (Some p ∷ ps) i b w o m =
      taken-here with_first (λ a u. a ∷ u) first-joins (FitsSlot (language x).value) (FitsEach language xs) (FitsEach language (x ∷ xs)) (λ a u q qs i' j. (i', j)) (Given (Some (Some v)))
      (Turns (λ y. Offered mark back safe (meaning y)) xs ss (Some [])) (round (each_language language xs).ends ps) (Some p) b w
      (given-here Er (λ s. FitsSlot (language x).value s (Some p)) b w (Some (Some v)) i.0) (λ c y. turns-pass xs d.1 ss ps i.1 c y) o m
  turns-pass (x ∷ xs) d (Some v ∷ ss) (None ∷ ps) i b w o m = absurd i.0
  turns-pass (x ∷ xs) d (None ∷ ss) (Some p ∷ ps) i b w o m = absurd i.0
  turns-pass (x ∷ xs) d (None ∷ ss) (None ∷ ps) i b w o m =
      offered-part mark back safe (meaning x) (language x).ends (language x).value d.0.reads with_first (λ a u. a ∷ u) first-joins (FitsEach language xs) (FitsEach language (x ∷ xs))
      (λ a u q qs i' j. (i', j))
      (Turns (λ y. Offered mark back safe (meaning y)) xs ss (Some [])) (round (each_language language xs).ends ps) b w (λ c y. turns-pass xs d.1 ss ps i.1 c y) o m

  -- the last pass, part by part
  turns-last : (xs : List X) → EachDescribed meaning language xs → (empty : Option (List V)) → IfValue (λ vs. vs ≡ []) empty → (t : List (Slot V)) (places : Places Tok)
      → FitsEach language xs t places
      → (b : Beginning Tok Cx St) → Within b
      → Here (λ vs. Ends (last_pass (each_language language xs).ends places (drop b.start b.tokens.list)) (λ s. (each_language language xs).value s.0 vs))
      (Turns (λ x. Missing (meaning x)) xs t empty) (left_of (last_pass (each_language language xs).ends places (drop b.start b.tokens.list))) b
  turns-last [] d empty n t places i b w o m = given-here Er (λ (vs : List V). vs ≡ []) b w empty n o m
  turns-last (x ∷ xs) d empty n [] places i b w o m = absurd i
  turns-last (x ∷ xs) d empty n (s ∷ ss) [] i b w o m = absurd i
  turns-last (x ∷ xs) d empty n (Some v ∷ ss) (Some p ∷ ps) i b w o m =
      let others = each_language language xs in
      taken-here with_first (λ a u. a ∷ u) first-joins (λ a q. IsSomeAnd q (λ ts. (language x).value ts a)) (λ u qs. others.value qs u) (λ vs qs. (item_before (language x) others).value qs vs)
      (λ a u q qs i' j. (i', j)) (Given v) (Turns (λ y. Missing (meaning y)) xs ss empty) (last_pass others.ends ps) (Some p) b w
      (given-here Er ((language x).value p) b w v i.0) (λ c y. turns-last xs d.1 empty n ss ps i.1 c y) o m
  turns-last (x ∷ xs) d empty n (Some v ∷ ss) (None ∷ ps) i b w o m = absurd i.0
  turns-last (x ∷ xs) d empty n (None ∷ ss) (Some p ∷ ps) i b w o m = absurd i.0
  turns-last (x ∷ xs) d empty n (None ∷ ss) (None ∷ ps) i b w o m =
      let others = each_language language xs in
      run-here with_first (λ a u. a ∷ u) first-joins (λ a q. IsSomeAnd q (λ ts. (language x).value ts a)) (λ u qs. others.value qs u) (λ vs qs. (item_before (language x) others).value qs vs)
      (λ a u q qs i' j. (i', j)) (meaning x) (Turns (λ y. Missing (meaning y)) xs ss empty) (last_pass others.ends ps) ((language x).ends (drop b.start b.tokens.list)) b w
      (d.0.reads.here b w) (λ c y. turns-last xs d.1 empty n ss ps i.1 c y) o m

  no_value : (c : Bool) → IfValue (λ (vs : List V). vs ≡ []) (wanting c [])
  no_value true = refl
  no_value false = tt

  only_value : (P : List V → Type 0) (c : Bool) (v : Option (List V)) → IfValue P v → IfValue P (only c v)
  only_value P true v i = i
  only_value P false v i = tt

  module _ (xs : List X) (d : EachDescribed meaning language xs) where
    -- the parts of a list
    each-reads : RowReads (each_part mark back safe meaning xs) (FitsEach language xs) (each_language language xs)
    each-reads = record {
      left = left-each xs;
      pass = λ t places i b w. turns-pass xs d t places i b w;
      last = λ t places i b w o m. elim m [
        | inl r ↦ refuses-by _ _ b.tokens.list o r
        | inr q ↦ turns-last xs d (wanting b.wanted []) (no_value b.wanted) t places i b w o q
      ];
    }

    -- the parts of an array, which run for their values
    stored-reads : RowReads (each_stored mark back safe meaning xs) (FitsEach language xs) (each_language language xs)
    stored-reads = record {
      left = left-each xs;
      pass = λ t places i b w. asked-here _ b true _ _ (turns-pass xs d t places i (record b { wanted = true }) (record { start = w.start; few = w.few }));
      last = λ t places i b w o m.
          let ts : List Tok = drop b.start b.tokens.list in
          let R : List V → Type 0 = λ vs. Ends (last_pass (each_language language xs).ends places ts) (λ s. (each_language language xs).value s.0 vs) in
          let x : Ending (List Tok) = left_of (last_pass (each_language language xs).ends places ts) in
          let part : Meaning Tok Cx St Er (List V) = Turns (λ y. Missing (meaning y)) xs t (Some []) in
          let z : Answers R (and_then (λ us. At us) x) b.tokens.list o.verdict o.end =
          chained-here R R (Asked true part) (λ v. Given (only b.wanted v)) x (λ us. At us) b w
          (asked-here R b true part x (turns-last xs d (Some []) refl t places i (record b { wanted = true }) (record { start = w.start; few = w.few })))
          (λ v c y e j. given-here Er R c y (only b.wanted v) (only_value R b.wanted v j)) o m in
          subst (λ q. Answers R q b.tokens.list o.verdict o.end) (and_then_some x) z;
    }

  none-fits : (xs : List X) → FitsEach language xs (map (λ _. None) xs) (none_taken (each_language language xs).ends)
  none-fits [] = (refl, refl)
  none-fits (x ∷ xs) = (tt, none-fits xs)

module _ {Tok Cx St Er V W : Type 0} (items : W → List V) where
  -- something that has the values, from here
  formed-here : (P : List V → Type 0) (v : Option (List V)) → IfValue P v → (c : Beginning Tok Cx St) → Within c
      → Here (λ w. P (items w)) {Er = Er} (FormedAs items v) (At (drop c.start c.tokens.list)) c
  formed-here P (Some vs) i c y o m = given-here Er (λ w. P (items w)) c y (Some m.0) (subst P (sym m.1) i) o m.2
  formed-here P None i c y o m = given-here Er (λ w. P (items w)) c y None tt o m

  formed-spares : (v : Option (List V)) → NeverOutOfMemory (FormedAs {Tok = Tok} {Cx = Cx} {St = St} {Er = Er} items v)
  formed-spares (Some vs) b o m = given-spares (Some m.0) b o m.2
  formed-spares None b o m = given-spares None b o m

  -- parts in any order, and then something that has their values
  formed-reads : {T : Type 0} {row : Row Tok Cx St Er T (List V)} {fits : T → Places Tok → Type 0} {R : RowLanguage Tok (List V)} {none : T} → RowDescribed row fits R none
      → Reads (Chained (AnyOrder row none) (FormedAs items)) (set_ends R.ends) (set_language items R).value
  formed-reads {row = row} {fits = fits} {R = R} {none = none} d = record {
    here = λ b w o q.
        let ts : List Tok = drop b.start b.tokens.list in
        let P : List V → Type 0 = λ vs. Ends (set_taken R.ends ts) (λ s. R.value s.0 vs) in
        let z : Answers (λ w. P (items w)) (and_then (λ us. At us) (set_ends R.ends ts)) b.tokens.list o.verdict o.end =
        chained-here P (λ w. P (items w)) (AnyOrder row none) (FormedAs items) (set_ends R.ends ts) (λ us. At us) b w
        ((any_order-reads row fits R d.reads none d.start).here b w) (λ v c y e i. formed-here P v i c y) o q in
        subst (λ x. Answers (λ w. P (items w)) x b.tokens.list o.verdict o.end) (and_then_some (set_ends R.ends ts)) z;
  }

-- the same language of what asks for memory
abbrev pub asking_memory : {Tok V : Type 0} → Language Tok V → Language Tok V
asking_memory F = record F { takes_no_memory = ⊥ }

module _ {X Tok Cx St Mk Er V W : Type 0} (mark : St → Mk) (back : St → Mk → St) (items : W → List V) {safe spare : Type 0} (still : spare → safe)
    {meaning : X → Meaning Tok Cx St Er V} {language : X → Language Tok V} (h : (x : X) → Accepts (meaning x) (language x) spare) where
  -- a set of the parts of an array
  pub set_stored-accepts : (xs : List X) → Accepts (SetStored mark back safe meaning items xs) (set_language items (each_language language xs)) spare
  set_stored-accepts xs = record {
    described = λ s.
        let e = each-described meaning language h xs s in
        let d : RowDescribed (each_stored mark back safe meaning xs) (FitsEach language xs) (each_language language xs) (map (λ _. None) xs) =
        record { reads = stored-reads mark back safe meaning language xs e; sound = each-sound meaning language xs e; start = none-fits mark back safe meaning language xs } in
        set-described d items (SetStored mark back safe meaning items xs) (formed-reads items d);
    moving = λ e. absurd (cc e);
    sparing = λ q t. chained-spares (AnyOrder (each_stored mark back safe meaning xs) (map (λ _. None) xs)) (FormedAs items)
        (any_order-spares (each_stored mark back safe meaning xs) (stored_spares xs q t) (map (λ _. None) xs)) (formed-spares items);
  }
    where
      pass_spares : (xs : List X) → spare → (each_language language xs).takes_no_memory → (t : List (Slot V)) → NeverOutOfMemory (Turns (λ x. Offered mark back safe (meaning x)) xs t (Some []))
      pass_spares [] q n t b o m = given-spares (Some []) b o m
      pass_spares (x ∷ xs) q n [] b o m = absurd m
      pass_spares (x ∷ xs) q n (s ∷ ss) b o m =
          chained-spares (Offered mark back safe (meaning x) s) _ (offered-spares (meaning x) ((h x).sparing q n.0) mark back safe (still q) s)
          (λ y. chained-spares (Turns (λ z. Offered mark back safe (meaning z)) xs ss (Some [])) _ (pass_spares xs q n.1 ss) (λ ys. given-spares (with_first y ys))) b o m

      last_spares : (xs : List X) → spare → (each_language language xs).takes_no_memory → (t : List (Slot V)) → NeverOutOfMemory (Turns (λ x. Missing (meaning x)) xs t (Some []))
      last_spares [] q n t b o m = given-spares (Some []) b o m
      last_spares (x ∷ xs) q n [] b o m = absurd m
      last_spares (x ∷ xs) q n (s ∷ ss) b o m =
          chained-spares (Missing (meaning x) s) _ (missing-spares (meaning x) ((h x).sparing q n.0) s)
          (λ y. chained-spares (Turns (λ z. Missing (meaning z)) xs ss (Some [])) _ (last_spares xs q n.1 ss) (λ ys. given-spares (with_first y ys))) b o m

      stored_spares : (xs : List X) → spare → (each_language language xs).takes_no_memory → RowSpares (each_stored mark back safe meaning xs)
      stored_spares xs q n = record {
        pass = λ t. asked-spares true (Turns (λ x. Offered mark back safe (meaning x)) xs t (Some [])) (pass_spares xs q n t);
        last = λ t b o m. chained-spares (Asked true (Turns (λ x. Missing (meaning x)) xs t (Some []))) _
            (asked-spares true (Turns (λ x. Missing (meaning x)) xs t (Some [])) (last_spares xs q n t)) (λ v. given-spares (only b.wanted v)) b o m;
      }

  -- a set of the parts of a list, which asks for memory for what it takes
  pub set_each-accepts : (xs : List X) → Accepts (SetEach mark back safe meaning items xs) (asking_memory (set_language items (each_language language xs))) spare
  set_each-accepts xs = record {
    described = λ s.
        let e = each-described meaning language h xs s in
        let d : RowDescribed (each_part mark back safe meaning xs) (FitsEach language xs) (each_language language xs) (map (λ _. None) xs) =
        record { reads = each-reads mark back safe meaning language xs e; sound = each-sound meaning language xs e; start = none-fits mark back safe meaning language xs } in
        let r = formed-reads items d in
        let f = set-described d items (SetEach mark back safe meaning items xs) (record { here = λ b w o m. elim m.cases [ inl x ↦ refuses-by _ _ b.tokens.list o x | inr q ↦ r.here b w o q ] }) in
        record { reads = f.reads; only = f.only; given = f.given; each = f.each; decided = f.decided; further = f.further };
    moving = λ e. absurd (cc e);
    sparing = λ q t. absurd t;
  }
