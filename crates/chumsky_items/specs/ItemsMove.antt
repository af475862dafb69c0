-- Items whose first step moves, and what is made of all of them.
-- Main laws: repeats-move, separates-move, made-move, items-move. Read first: Progress.antt of the parsers.
use Rattle.std.proofs.Common.{◌≡◌, ℕ, zero, suc, ◌+◌, ◌<◌, Bool, true, false, not, ◌&&◌, Option, Some, None, option_map, List, [], ◌∷◌, ◌++◌, nat_eq, nat_lt, nat_le, refl, subst, inl, inr}
use Rattle.std.proofs.Math.Dec.{leb-suc-zero}
use Rattle.chumsky_input.specs.declared.stop.Stop.TheVariants.{NoProgress, CountTooLarge}
use Rattle.chumsky_input.specs.Outcome.{Meaning, Beginning, Outcome, Yes, IsAnswer, EndsAfterStart}
use Rattle.chumsky_parser.specs.Chained.{Chained, Given, Asked}
use Rattle.chumsky_parser.specs.ChoiceLaws.{or_else-ends}
use Rattle.chumsky_parser.specs.Failure.{SaysNo, Stops, wanting}
use Rattle.chumsky_parser.specs.FailureLaws.{stops-ends, no-ends}
use Rattle.chumsky_parser.specs.Laws.{chained-ends, given-ends, asked-ends}
use Rattle.chumsky_parser.specs.Items.{Next, More, FromMade, Items, ItemsEnd}
use Rattle.chumsky_parser.specs.ItemsLaws.{after_step-ends, from_made-ends}
use Rattle.chumsky_parser.specs.Steps.{AllSteps, listed, unlisted}
use Rattle.chumsky_items.specs.Consumers.{Skips, CountsUp, Appends, Collected, Passes, Counts, Collects}
use Rattle.chumsky_items.specs.Exactly.{and_one, JustSo, JustSoMade, CollectsExactly}
use Rattle.chumsky_items.specs.Repeating.{Settled, Settles, Counted, Uncapped, Repeats, asks, at_cap, has_an_item, is_stuck, fits}
use Rattle.chumsky_items.specs.Separating.{Bounds, asks_after, stays, Lead, Staying, Round, Unfilled, Separates}
use Rattle.chumsky_parser.specs.Progress.{Moves, ItemsMove}
use Rattle.chumsky_parser.specs.ProgressLaws.{both-true, no-moves, asked-moves, chained-first, chained-second, chained-after, or_else-moves, given-items, remade-items}

not-true : (b : Bool) → not b ≡ true → b ≡ false
not-true true e = absurd (cc)
not-true false e = refl

module _ {Tok Cx St Er V : Type 0} where
  settled-ends : (stuck fit : Bool) (k : ℕ) (v : Option V) → EndsAfterStart (Settled {Tok = Tok} {Cx = Cx} {St = St} {Er = Er} stuck fit k v)
  settled-ends true fit k v = stops-ends NoProgress
  settled-ends false true k v = given-ends (Some (More v (k + 1)))
  settled-ends false false k v = stops-ends CountTooLarge

  counted-moves : (asked : Bool) (k start : ℕ) (item : Meaning Tok Cx St Er V) → Moves item → Moves (Counted asked k start item)
  counted-moves asked k start item h b o m y = chained-first item (Settles asked k start) h (λ v c q. settled-ends (is_stuck asked start c.start) (fits k) k v c q) b o m.run y

module _ {Tok Cx St Mk Er V : Type 0} (mark : St → Mk) (back : St → Mk → St) (safe : Type 0) (item : Meaning Tok Cx St Er V) (free : Bool) (least : ℕ) (most : Option ℕ) where
  uncapped-moves : Moves item → (capped few : Bool) (start : ℕ) → capped ≡ false → few ≡ true → nat_lt 0 least ≡ few → Moves (Uncapped mark back safe item free least most capped 0 start)
  uncapped-moves h true few start e d z = absurd (cc)
  uncapped-moves h false few start e d z = rw (z, d) (or_else-moves mark back safe _ _ (counted-moves (asks free most) 0 start item h) no-moves)

  -- the first step of `repeated` moves, where an item does and there is one
  pub repeats-move : has_an_item least most ≡ true → Moves item → ItemsMove (Given {Tok = Tok} {Cx = Cx} {St = St} {Er = Er} (Some 0)) (Repeats mark back safe item free least most)
  repeats-move e h =
      let t = both-true (nat_lt 0 least) (not (at_cap most 0)) e in
      given-items 0 (Repeats mark back safe item free least most) (λ b o m y. uncapped-moves h (at_cap most 0) true b.start (not-true _ t.1) refl t.0 b o m.step y)

module _ {Tok Cx St Mk Er U : Type 0} (mark : St → Mk) (back : St → Mk → St) (safe : Type 0) (separator : Meaning Tok Cx St Er U) where
  lead-ends : EndsAfterStart separator → (first leading : Bool) → EndsAfterStart (Lead mark back safe separator first leading)
  lead-ends h false leading = asked-ends false separator h
  lead-ends h true true = or_else-ends mark back safe _ _ (asked-ends false separator h) (given-ends None)
  lead-ends h true false = given-ends None

-- where items are wanted, no separator stays before the first
pub none-stays : (least : ℕ) (may : Bool) → nat_lt 0 least ≡ true → (may && nat_le least 0) ≡ false
none-stays zero may e = absurd (cc)
none-stays (suc n) true e = leb-suc-zero n
none-stays (suc n) false e = refl

module _ {Tok Cx St Mk Er U V : Type 0} (mark : St → Mk) (back : St → Mk → St) (safe : Type 0) (separator : Meaning Tok Cx St Er U) (item : Meaning Tok Cx St Er V) (d : Bounds) where
  staying-moves : Moves item → (stay : Bool) (start : ℕ) → stay ≡ false → Moves (Staying mark back safe stay (Counted (asks_after (nat_eq 0 0) d) 0 start item))
  staying-moves h true start e = absurd (cc)
  staying-moves h false start e = counted-moves (asks_after (nat_eq 0 0) d) 0 start item h

  round-moves : EndsAfterStart separator → Moves item → nat_lt 0 d.least ≡ true → (start : ℕ) → Moves (Round mark back safe separator item d 0 start)
  round-moves hs h e start b o m y =
      chained-second _ _ (lead-ends mark back safe separator hs (nat_eq 0 0) d.leading) (λ _. staying-moves h (stays d 0) start (none-stays d.least d.leading e)) b o m.run y

  unfilled-moves : EndsAfterStart separator → Moves item → nat_lt 0 d.least ≡ true → (full : Bool) (start : ℕ) → full ≡ false → Moves (Unfilled mark back safe separator item d full 0 start)
  unfilled-moves hs h e true start z = absurd (cc)
  unfilled-moves hs h e false start z = rw e (or_else-moves mark back safe _ _ (round-moves hs h e start) no-moves)

  -- the first step of `separated_by` moves, where an item does and there is one
  pub separates-move : has_an_item d.least d.most ≡ true → EndsAfterStart separator → Moves item
      → ItemsMove (Given {Tok = Tok} {Cx = Cx} {St = St} {Er = Er} (Some 0)) (Separates mark back safe separator item d)
  separates-move e hs h =
      let t = both-true (nat_lt 0 d.least) (not (at_cap d.most 0)) e in
      given-items 0 (Separates mark back safe separator item d) (λ b o m y. unfilled-moves hs h t.0 (at_cap d.most 0) b.start (not-true _ t.1) b o m.step y)

module _ {Tok Cx St Er S V A W : Type 0} (step : S → Meaning Tok Cx St Er (Next S V)) (more : Option A → Option V → Meaning Tok Cx St Er A) (ended : Option A → Meaning Tok Cx St Er W)
    (hs : (s : S) → EndsAfterStart (step s)) (hm : (a : Option A) (v : Option V) → EndsAfterStart (more a v)) (he : (a : Option A) → EndsAfterStart (ended a)) where
  steps-end : (room : ℕ) (a : Option A) (s : S) → EndsAfterStart (AllSteps step more ended room a s)
  steps-end room a s b o m z = from_made-ends step more ended hs hm he room a (Some s) b o (listed step more ended room a s b o m) z

  steps-move : (room : ℕ) (a : Option A) (s : S) → Moves (step s) → Moves (AllSteps step more ended room a s)
  steps-move zero a s h = chained-first (step s) _ h (after_step-ends (λ _ _. Stops CountTooLarge) (ended a) (λ _ _. stops-ends CountTooLarge) (he a))
  steps-move (suc room) a s h =
      chained-first (step s) _ h
      (after_step-ends (λ v t. Chained (more a v) (λ c. AllSteps step more ended room c t)) (ended a)
      (λ v t. chained-ends (more a v) _ (hm a v) (λ c. steps-end room c t)) (he a))

  module _ (begins : Meaning Tok Cx St Er S) (room : ℕ) (a : Option A) where
    made_after : ((b : Beginning Tok Cx St) (p : Outcome S Er St) (s : S) → begins b p → p.verdict ≡ Yes (Some s) → Moves (step s))
        → (b : Beginning Tok Cx St) (p : Outcome S Er St) (v : Option S) → Asked true begins b p → p.verdict ≡ Yes v → Moves (FromMade step more ended room a v)
    made_after x b p (Some s) m e c o k y = steps-move room a s (x (record b { wanted = true }) p s m.run e) c o (unlisted step more ended room a s c o k) y
    made_after x b p None m e c o k y = absurd k

    -- an iteration is made, and all its items are given
    pub made-move : EndsAfterStart begins → ItemsMove begins step → Moves (Chained (Asked true begins) (FromMade step more ended room a))
    made-move hb h =
        elim h.by [
          | inl x ↦ chained-first (Asked true begins) _ (asked-moves true begins x) (from_made-ends step more ended hs hm he room a)
          | inr x ↦ chained-after (Asked true begins) _ (asked-ends true begins hb) (made_after x)
        ]

  pub items-move : (begins : Meaning Tok Cx St Er S) (first : A) → EndsAfterStart begins → ItemsMove begins step → Moves (Items step more ended begins first)
  items-move begins first hb h b o m y = made-move begins m.room (wanting b.wanted first) hb h b o m.run y

module _ {Tok Cx St Er : Type 0} where
  appends-ends : {V : Type 0} (quiet : Type 0) (a : Option (List V)) (v : Option V) → EndsAfterStart (Appends {Tok = Tok} {Cx = Cx} {St = St} {Er = Er} quiet a v)
  appends-ends quiet (Some xs) (Some v) = λ b o m a. elim m [ inl r ↦ absurd (subst IsAnswer r.1 a) | inr g ↦ given-ends (Some (xs ++ v ∷ [])) b o g a ]
  appends-ends quiet (Some xs) None = given-ends None
  appends-ends quiet None v = given-ends None

module _ {Tok Cx St Er S V : Type 0} (gives : S → Meaning Tok Cx St Er (Next S V)) (begins : Meaning Tok Cx St Er S) (ends : ItemsEnd begins gives) (h : ItemsMove begins gives) where
  pub passes-move : (W : Type 0) → Moves (Passes gives begins W)
  passes-move W = items-move gives Skips (λ _. Given None) ends.step (λ _ _. given-ends None) (λ _. given-ends None) begins tt ends.begin h

  pub counts-move : Moves (Counts gives begins)
  counts-move =
      items-move (λ s. Asked false (gives s)) CountsUp Given (λ s. asked-ends false (gives s) (ends.step s)) (λ a _. given-ends (option_map (λ n. n + 1) a)) given-ends begins 0 ends.begin
      (remade-items (λ s. asked-moves false (gives s)) h)

  pub collects-move : {C : Type 0} (holds : List V → C → Type 0) (quiet : Type 0) → Moves (Collects gives begins holds quiet)
  collects-move holds quiet = items-move gives (Appends quiet) (Collected holds) ends.step (appends-ends quiet) (λ a b o m z. given-ends m.value b o m.given z) begins [] ends.begin h

module _ {Tok Cx St Er S V C : Type 0} (gives : S → Meaning Tok Cx St Er (Next S V)) (holds : List V → C → Type 0) (hs : (s : S) → EndsAfterStart (gives s)) where
  just_so-ends : (n : ℕ) (items : Option (List V)) (s : S) → EndsAfterStart (JustSo gives holds n items s)
  just_so-ends zero items s = λ b o m a. given-ends m.value b o m.given a
  just_so-ends (suc n) items s = chained-ends (gives s) _ (hs s) (after_step-ends (λ v t. JustSo gives holds n (and_one items v) t) SaysNo (λ v t. just_so-ends n (and_one items v) t) no-ends)

  just_so_made-ends : (n : ℕ) (items : Option (List V)) (s : Option S) → EndsAfterStart (JustSoMade gives holds n items s)
  just_so_made-ends n items (Some s) = just_so-ends n items s
  just_so_made-ends n items None = λ b o m. absurd m

  module _ (begins : Meaning Tok Cx St Er S) where
    just_so-after : ((b : Beginning Tok Cx St) (p : Outcome S Er St) (s : S) → begins b p → p.verdict ≡ Yes (Some s) → Moves (gives s))
        → (n : ℕ) (items : Option (List V)) (b : Beginning Tok Cx St) (p : Outcome S Er St) (v : Option S)
        → nat_lt 0 n ≡ true → Asked true begins b p → p.verdict ≡ Yes v → Moves (JustSoMade gives holds n items v)
    just_so-after x zero items b p v z m e = absurd (cc)
    just_so-after x (suc n) items b p (Some s) z m e =
        chained-first (gives s) _ (x (record b { wanted = true }) p s m.run e)
        (after_step-ends (λ v t. JustSo gives holds n (and_one items v) t) SaysNo (λ v t. just_so-ends n (and_one items v) t) no-ends)
    just_so-after x (suc n) items b p None z m e = λ c o k y. absurd k

    -- just so many items, of which there is one
    pub exactly-moves : (count : ℕ) → nat_lt 0 count ≡ true → EndsAfterStart begins → ItemsMove begins gives → Moves (CollectsExactly gives holds begins count)
    exactly-moves count z hb h b o m y =
        elim h.by as (λ _. b.start < o.end) [
          | inl x ↦ chained-first (Asked true begins) _ (asked-moves true begins x) (just_so_made-ends count (wanting b.wanted [])) b o m.run y
          | inr x ↦ chained-after (Asked true begins) _ (asked-ends true begins hb) (λ c p v k e. just_so-after x count (wanting b.wanted []) c p v z k e) b o m.run y
        ]
