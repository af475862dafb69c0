-- What moves where it succeeds: parts one after another, since one part does, and one part or another, since both do.
-- Main laws: chained-first, chained-second, sequence-moves, or-moves; of items given-items, remade-items, held-items. Read first: Progress.antt.
use Rattle.std.proofs.Common.{◌≡◌, ℕ, ◌≤◌, ◌<◌, Bool, true, false, ◌&&◌, ◌||◌, Option, Some, None, option_map, List, ◌⊎◌, inl, inr, refl, sym, ap, subst, arith}
use Rattle.chumsky_input.specs.Outcome.{Event, Meaning, Beginning, Outcome, Verdict, Yes, No, Halt, Clash, IsAnswer, EndsAfterStart}
use Rattle.chumsky_parser.specs.Chained.{from, Follows, Chained, Given, Asked, Sequence, both}
use Rattle.chumsky_parser.specs.Choice.{ElseFrom, OrElse}
use Rattle.chumsky_parser.specs.Failure.{FailsAt, Misses, SaysNo}
use Rattle.chumsky_parser.specs.Ignoring.{IgnoringFirst, IgnoringSecond, Between}
use Rattle.chumsky_parser.specs.IgnoringLaws.{ignoring_second-ends}
use Rattle.chumsky_parser.specs.Laws.{chained-ends, given-ends, asked-ends}
use Rattle.chumsky_parser.specs.Items.{Next}
use Rattle.chumsky_parser.specs.Progress.{IsYes, Moves, ItemsMove}

-- what says nothing promises nothing
pub never : {P : Type 0} → false ≡ true → P
never e = absurd (cc)

-- one of two is true
pub either-true : (a b : Bool) → (a || b) ≡ true → (a ≡ true) ⊎ (b ≡ true)
either-true true b e = inl refl
either-true false b e = inr e

pub both-true : (a b : Bool) → (a && b) ≡ true → (a ≡ true) × (b ≡ true)
both-true true b e = (refl, e)
both-true false b e = absurd (cc)

module _ {V Er : Type 0} where
  pub yes-answers : (v : Verdict V Er) → IsYes v → IsAnswer v
  yes-answers (Yes v) y = tt
  yes-answers No y = absurd y
  yes-answers (Halt s) y = absurd y
  yes-answers (Clash e) y = absurd y

module _ {V Er St : Type 0} where
  pub fails-no : {e : Event Er} {end : ℕ} {s : St} {o : Outcome V Er St} → FailsAt e end s o → IsYes o.verdict → ⊥
  fails-no f y = elim f.by [ inl h ↦ subst IsYes h.0 y | inr h ↦ subst IsYes h.0 y ]

  pub misses-no : {safe : Type 0} {e : Event Er} {end : ℕ} {s : St} {o : Outcome V Er St} → Misses safe e end s o → IsYes o.verdict → ⊥
  misses-no (inl r) y = subst IsYes r.1 y
  misses-no (inr f) y = fails-no f y

module _ {Tok Cx St Er V : Type 0} where
  pub no-moves : Moves (SaysNo {Tok = Tok} {Cx = Cx} {St = St} {Er = Er} {V = V})
  no-moves b o m y = absurd (subst IsYes (ap (λ (x : Outcome V Er St). x.verdict) m) y)

  pub asked-moves : (wanted : Bool) (part : Meaning Tok Cx St Er V) → Moves part → Moves (Asked wanted part)
  asked-moves wanted part h b o m y = h (record b { wanted = wanted }) o m.run y

module _ {Tok Cx St Er V W : Type 0} (part : Meaning Tok Cx St Er V) (next : Option V → Meaning Tok Cx St Er W) where
  first_moves : Moves part → ((v : Option V) → EndsAfterStart (next v))
      → (b : Beginning Tok Cx St) (o : Outcome W Er St) (v : Verdict V Er) (end : ℕ) (state : St)
      (events : List (Event Er)) (emitted : List Er)
      → let p : Outcome V Er St = record { verdict = v; end = end; state = state; events = events; emitted = emitted } in
      part b p → Follows v next b p o → IsYes o.verdict → b.start < o.end
  first_moves hp hn b o (Yes v) end state events emitted m f y =
      let p : Outcome V Er St = record { verdict = Yes v; end = end; state = state; events = events; emitted = emitted } in
      let first : b.start < end = hp b p m tt in
      let verdict : o.verdict ≡ f.0.verdict = ap (λ (x : Outcome W Er St). x.verdict) f.2 in
      let second : end ≤ f.0.end = hn v (from b p) f.0 f.1 (yes-answers f.0.verdict (subst IsYes verdict y)) in
      let last : o.end ≡ f.0.end = ap (λ (x : Outcome W Er St). x.end) f.2 in
      omega arith
  first_moves hp hn b o No end state events emitted m f y = absurd (subst IsYes (ap (λ (x : Outcome W Er St). x.verdict) f) y)
  first_moves hp hn b o (Halt s) end state events emitted m f y = absurd (subst IsYes (ap (λ (x : Outcome W Er St). x.verdict) f) y)
  first_moves hp hn b o (Clash e) end state events emitted m f y = absurd (subst IsYes (ap (λ (x : Outcome W Er St). x.verdict) f) y)

  second_moves : EndsAfterStart part
      → ((b : Beginning Tok Cx St) (p : Outcome V Er St) (v : Option V) → part b p → p.verdict ≡ Yes v → Moves (next v))
      → (b : Beginning Tok Cx St) (o : Outcome W Er St) (v : Verdict V Er) (end : ℕ) (state : St)
      (events : List (Event Er)) (emitted : List Er)
      → let p : Outcome V Er St = record { verdict = v; end = end; state = state; events = events; emitted = emitted } in
      part b p → Follows v next b p o → IsYes o.verdict → b.start < o.end
  second_moves hp hn b o (Yes v) end state events emitted m f y =
      let p : Outcome V Er St = record { verdict = Yes v; end = end; state = state; events = events; emitted = emitted } in
      let first : b.start ≤ end = hp b p m tt in
      let verdict : o.verdict ≡ f.0.verdict = ap (λ (x : Outcome W Er St). x.verdict) f.2 in
      let second : end < f.0.end = hn b p v m refl (from b p) f.0 f.1 (subst IsYes verdict y) in
      let last : o.end ≡ f.0.end = ap (λ (x : Outcome W Er St). x.end) f.2 in
      omega arith
  second_moves hp hn b o No end state events emitted m f y = absurd (subst IsYes (ap (λ (x : Outcome W Er St). x.verdict) f) y)
  second_moves hp hn b o (Halt s) end state events emitted m f y = absurd (subst IsYes (ap (λ (x : Outcome W Er St). x.verdict) f) y)
  second_moves hp hn b o (Clash e) end state events emitted m f y = absurd (subst IsYes (ap (λ (x : Outcome W Er St). x.verdict) f) y)

  -- the part moves
  pub chained-first : Moves part → ((v : Option V) → EndsAfterStart (next v)) → Moves (Chained part next)
  chained-first hp hn b o m y = first_moves hp hn b o m.first.verdict m.first.end m.first.state m.first.events m.first.emitted m.meant m.follows y

  -- what follows a value that the part gave moves
  pub chained-after : EndsAfterStart part → ((b : Beginning Tok Cx St) (p : Outcome V Er St) (v : Option V) → part b p → p.verdict ≡ Yes v → Moves (next v)) → Moves (Chained part next)
  chained-after hp hn b o m y = second_moves hp hn b o m.first.verdict m.first.end m.first.state m.first.events m.first.emitted m.meant m.follows y

  -- what follows moves, whatever the part gave
  pub chained-second : EndsAfterStart part → ((v : Option V) → Moves (next v)) → Moves (Chained part next)
  chained-second hp hn = chained-after hp (λ b p v m e. hn v)

module _ {Tok Cx St Er V W : Type 0} (first : Meaning Tok Cx St Er V) (second : Meaning Tok Cx St Er W) where
  pub sequence-moves : (a b : Bool) → EndsAfterStart first → EndsAfterStart second → (a ≡ true → Moves first) → (b ≡ true → Moves second) → (a || b) ≡ true → Moves (Sequence first second)
  sequence-moves a b ef es hf hs e =
      elim (either-true a b e) [
        | inl x ↦ chained-first first _ (hf x) (λ v. chained-ends second _ es (λ w. given-ends (both v w)))
        | inr x ↦ chained-second first _ ef (λ v. chained-first second _ (hs x) (λ w. given-ends (both v w)))
      ]

  pub ignoring_first-moves : (a b : Bool) → EndsAfterStart first → EndsAfterStart second → (a ≡ true → Moves first) → (b ≡ true → Moves second) → (a || b) ≡ true → Moves (IgnoringFirst first second)
  ignoring_first-moves a b ef es hf hs e =
      elim (either-true a b e) [
        | inl x ↦ chained-first _ _ (asked-moves false first (hf x)) (λ _. es)
        | inr x ↦ chained-second _ _ (asked-ends false first ef) (λ _. hs x)
      ]

  pub ignoring_second-moves : (a b : Bool) → EndsAfterStart first → EndsAfterStart second → (a ≡ true → Moves first) → (b ≡ true → Moves second) → (a || b) ≡ true → Moves (IgnoringSecond first second)
  ignoring_second-moves a b ef es hf hs e =
      elim (either-true a b e) [
        | inl x ↦ chained-first first _ (hf x) (λ v. chained-ends _ _ (asked-ends false second es) (λ _. given-ends v))
        | inr x ↦ chained-second first _ ef (λ v. chained-first _ _ (asked-moves false second (hs x)) (λ _. given-ends v))
      ]

module _ {Tok Cx St Er U V W : Type 0} (opening : Meaning Tok Cx St Er U) (part : Meaning Tok Cx St Er V) (closing : Meaning Tok Cx St Er W) where
  pub between-moves : (a b c : Bool) → EndsAfterStart opening → EndsAfterStart part → EndsAfterStart closing
      → (a ≡ true → Moves opening) → (b ≡ true → Moves part) → (c ≡ true → Moves closing) → (a || (b || c)) ≡ true
      → Moves (Between opening part closing)
  between-moves a b c eo ep ec ho hp hc e =
      ignoring_first-moves opening (IgnoringSecond part closing) a (b || c) eo (ignoring_second-ends part closing ep ec) ho (ignoring_second-moves part closing b c ep ec hp hc) e

module _ {Tok Cx St Mk Er V : Type 0} (back : St → Mk → St) (safe : Type 0) (mark : Mk) (first second : Meaning Tok Cx St Er V) where
  else_moves : Moves first → Moves second → (v : Verdict V Er) (b : Beginning Tok Cx St) (p o : Outcome V Er St)
      → first b p → ElseFrom back safe mark v second b p o → IsYes o.verdict → b.start < o.end
  else_moves hf hs (Yes v) b p o m e y = hf b o (subst (first b) (sym e) m) y
  else_moves hf hs No b p o m (inl r) y = absurd (subst IsYes r.1 y)
  else_moves hf hs No b p o m (inr k) y =
      let verdict : o.verdict ≡ k.0.verdict = ap (λ (x : Outcome V Er St). x.verdict) k.2 in
      let end : o.end ≡ k.0.end = ap (λ (x : Outcome V Er St). x.end) k.2 in
      let after : b.start < k.0.end = hs (record b { state = back p.state mark }) k.0 k.1 (subst IsYes verdict y) in
      omega arith
  else_moves hf hs (Halt s) b p o m e y = hf b o (subst (first b) (sym e) m) y
  else_moves hf hs (Clash x) b p o m e y = hf b o (subst (first b) (sym e) m) y

module _ {Tok Cx St Mk Er V : Type 0} (mark : St → Mk) (back : St → Mk → St) (safe : Type 0) where
  pub or_else-moves : (first second : Meaning Tok Cx St Er V) → Moves first → Moves second → Moves (OrElse mark back safe first second)
  or_else-moves first second hf hs b o m y =
      elim m.cases [
        | inl r ↦ absurd (subst IsYes r.1 y)
        | inr t ↦ else_moves back safe (mark b.state) first second hf hs t.attempt.verdict b t.attempt o t.meant t.then_else y
      ]

  pub or-moves : (first second : Meaning Tok Cx St Er V) (a b : Bool) → (a ≡ true → Moves first) → (b ≡ true → Moves second) → (a && b) ≡ true → Moves (OrElse mark back safe first second)
  or-moves first second a b hf hs e = let t = both-true a b e in or_else-moves first second (hf t.0) (hs t.1)

module _ {Tok Cx St Er S V : Type 0} where
  -- the one iteration that is made has a first step that moves
  pub given-items : (s : S) (gives : S → Meaning Tok Cx St Er (Next S V)) → Moves (gives s) → ItemsMove (Given {Tok = Tok} {Cx = Cx} {St = St} {Er = Er} (Some s)) gives
  given-items s gives h =
      record {
        by = inr (λ b p t m e.
            let one : p.verdict ≡ Yes (Some s) = ap (λ (x : Outcome S Er St). x.verdict) m in
            let same : s ≡ t = cc (one, e) in
            subst (λ x. Moves (gives x)) same h);
      }

  -- other steps, each of which moves where its own does
  pub remade-items : {U : Type 0} {begins : Meaning Tok Cx St Er S} {gives : S → Meaning Tok Cx St Er (Next S V)}
      {other : S → Meaning Tok Cx St Er (Next S U)}
      → ((s : S) → Moves (gives s) → Moves (other s)) → ItemsMove begins gives → ItemsMove begins other
  remade-items h k = record { by = elim k.by [ inl x ↦ inl x | inr x ↦ inr (λ b p s m e. h s (x b p s m e)) ] }

module _ {Tok Cx St Er S R V W : Type 0} (f : S → R) (begins : Meaning Tok Cx St Er S)
    (gives : S → Meaning Tok Cx St Er (Next S V)) (other : R → Meaning Tok Cx St Er (Next R W))
    (h : (s : S) → Moves (gives s) → Moves (other (f s))) where
  unwrapped : ((b : Beginning Tok Cx St) (p : Outcome S Er St) (s : S) → begins b p → p.verdict ≡ Yes (Some s) → Moves (gives s))
      → (b : Beginning Tok Cx St) (q : Outcome S Er St) (p : Outcome R Er St) (v : Verdict S Er) → begins b q
      → q.verdict ≡ v → Follows v (λ s. Given (option_map f s)) b q p → (r : R) → p.verdict ≡ Yes (Some r)
      → Moves (other r)
  unwrapped x b q p (Yes (Some s)) m d k r e =
      let whole : p.verdict ≡ k.0.verdict = ap (λ (z : Outcome R Er St). z.verdict) k.2 in
      let one : k.0.verdict ≡ Yes (Some (f s)) = ap (λ (z : Outcome R Er St). z.verdict) k.1 in
      let same : f s ≡ r = cc (whole, one, e) in
      subst (λ z. Moves (other z)) same (h s (x b q s m d))
  unwrapped x b q p (Yes None) m d k r e =
      let whole : p.verdict ≡ k.0.verdict = ap (λ (z : Outcome R Er St). z.verdict) k.2 in
      let one : k.0.verdict ≡ Yes None = ap (λ (z : Outcome R Er St). z.verdict) k.1 in
      let no : ⊥ = cc (whole, one, e) in
      absurd no
  unwrapped x b q p No m d k r e = let whole : p.verdict ≡ No = ap (λ (z : Outcome R Er St). z.verdict) k in let no : ⊥ = cc (whole, e) in absurd no
  unwrapped x b q p (Halt s) m d k r e = let whole : p.verdict ≡ Halt s = ap (λ (z : Outcome R Er St). z.verdict) k in let no : ⊥ = cc (whole, e) in absurd no
  unwrapped x b q p (Clash s) m d k r e = let whole : p.verdict ≡ Clash s = ap (λ (z : Outcome R Er St). z.verdict) k in let no : ⊥ = cc (whole, e) in absurd no

  -- an iteration that holds another
  pub held-items : ItemsMove begins gives → ItemsMove (Chained begins (λ s. Given (option_map f s))) other
  held-items k =
      record {
        by = elim k.by [
          | inl x ↦ inl (chained-first begins _ x (λ s. given-ends (option_map f s)))
          | inr x ↦ inr (λ b p r m e. unwrapped x b m.first p m.first.verdict m.meant refl m.follows r e)
        ];
      }
