-- The laws of skipping until something is found.
use Rattle.std.proofs.Common.{◌≡◌, ◌≤◌, Bool, true, false, nat_eq, Option, Some, None, [], refl, sym, ◌∙◌, ap, subst, arith, inl, inr}
use Rattle.chumsky_input.specs.Outcome.{Meaning, Beginning, Outcome, Verdict, Yes, No, Halt, Clash, IsAnswer, SameValue, SameAnswer, Alike, Agree, EndsAfterStart, Agreeing}
use Rattle.chumsky_parser.specs.Chained.{Chained, Given, Asked, retold}
use Rattle.chumsky_parser.specs.Choice.{SameEither}
use Rattle.chumsky_parser.specs.ChoiceLaws.{or_else-ends, or_else-agrees, agree-weaker}
use Rattle.chumsky_parser.specs.Failure.{SaysNo, IsWanted}
use Rattle.chumsky_parser.specs.Laws.{chained-ends, chained-agrees, given-ends, given-agrees, asked-ends, asked-agrees}
use Rattle.chumsky_recovery.specs.Turns.{Turn, Again, Last, SameTurn, AllTurns}
use Rattle.chumsky_recovery.specs.TurnsLaws.{all_turns-end, all_turns-agree}
use Rattle.chumsky_recovery.specs.Seeking.{GoesOnIf, SkipsOn, Seeks, FallsBack, MeansSkipUntil, Forgets, Unheard, GoesOn, IfQuiet, Retries, AfterSeek, RetryTurn, MeansSkipThenRetry}

module _ {Tok Cx St Er W X : Type 0} (skip : Meaning Tok Cx St Er W) where
  goes_on_if-ends : (stuck : Bool) → EndsAfterStart (GoesOnIf {Tok = Tok} {Cx = Cx} {St = St} {Er = Er} {X = X} stuck)
  goes_on_if-ends true b o m a = absurd (subst IsAnswer (ap (λ (x : Outcome (Turn X) Er St). x.verdict) m) a)
  goes_on_if-ends false b o m a = given-ends (Some Again) b o m a

  goes_on_if-agrees : (same : X → X → Type 0) (stuck other : Bool) → Agreeing (SameTurn same) (GoesOnIf {Tok = Tok} {Cx = Cx} {St = St} {Er = Er} stuck) (GoesOnIf other)
  goes_on_if-agrees same true other b c o q alike m n a z = absurd (subst IsAnswer (ap (λ (x : Outcome (Turn X) Er St). x.verdict) m) a)
  goes_on_if-agrees same false true b c o q alike m n a z = absurd (subst IsAnswer (ap (λ (x : Outcome (Turn X) Er St). x.verdict) n) z)
  goes_on_if-agrees same false false b c o q alike m n a z = given-agrees (SameTurn same) (Some Again) (Some Again) tt b c o q alike m n a z

  pub skips_on-ends : EndsAfterStart skip → EndsAfterStart (SkipsOn {X = X} skip)
  skips_on-ends h b o m a =
      chained-ends (Asked false skip) (λ _ c. GoesOnIf (nat_eq c.start b.start) c) (asked-ends false skip h)
      (λ v c q n z. goes_on_if-ends (nat_eq c.start b.start) c q n z) b o m.run a

  pub skips_on-agrees : (sw : W → W → Type 0) (same : X → X → Type 0) → Agreeing sw skip skip → Agreeing (SameTurn same) (SkipsOn skip) (SkipsOn skip)
  skips_on-agrees sw same h b c o q alike m n a z =
      chained-agrees (Asked false skip) (Asked false skip) (λ _ d. GoesOnIf (nat_eq d.start b.start) d) (λ _ d. GoesOnIf (nat_eq d.start c.start) d) sw (SameTurn same) (asked-agrees false skip sw h)
      (λ v w e d f x y l i j k t. goes_on_if-agrees same (nat_eq d.start b.start) (nat_eq f.start c.start) d f x y l i j k t) b c o q alike m.run n.run a z

module _ {Tok Cx St Mk Er V W X : Type 0} (mark : St → Mk) (back : St → Mk → St) (safe : Type 0) (until : Meaning Tok Cx St Er V) (skip : Meaning Tok Cx St Er W) where
  pub seeks-end : EndsAfterStart until → EndsAfterStart skip → EndsAfterStart (Seeks {X = X} mark back safe until skip)
  seeks-end hu hs b o m a =
      or_else-ends mark back safe (Chained (Asked false until) (λ _. Given (Some (Last None)))) (SkipsOn skip)
      (chained-ends (Asked false until) _ (asked-ends false until hu) (λ v. given-ends (Some (Last None))))
      (skips_on-ends skip hs) b o m.run a

  either_turn : (same : X → X → Type 0) (t u : Turn X) → SameEither (SameTurn same) (SameTurn same) t u → SameTurn same t u
  either_turn same t u (inl e) = e
  either_turn same t u (inr e) = e

  pub seeks-agree : (sv : V → V → Type 0) (sw : W → W → Type 0) (same : X → X → Type 0) → Agreeing sv until until
      → Agreeing sw skip skip
      → Agreeing (SameTurn same) (Seeks mark back safe until skip) (Seeks mark back safe until skip)
  seeks-agree sv sw same hu hs b c o q alike m n a z =
      agree-weaker (SameEither (SameTurn same) (SameTurn same)) (SameTurn same) (either_turn same) o q
      (or_else-agrees mark back safe (Chained (Asked false until) (λ _. Given (Some (Last None)))) (SkipsOn skip) (SameTurn same) (SameTurn same)
      (chained-agrees (Asked false until) (Asked false until) _ _ sv (SameTurn same) (asked-agrees false until sv hu) (λ v w e. given-agrees (SameTurn same) (Some (Last None)) (Some (Last None)) tt))
      (skips_on-agrees skip sw same hs) b c o q alike m.run n.run a z)

-- two values that the fallback may give
abbrev pub BothGiven : {V : Type 0} → (V → Type 0) → V → V → Type 0
BothGiven gives v w = gives v × gives w

module _ {V : Type 0} (gives : V → Type 0) where
  both_given : (w u : Bool) (v x : Option V) → IsWanted gives w v → IsWanted gives u x → SameValue (BothGiven gives) v x
  both_given true true (Some v) (Some x) h k = (h, k)
  both_given true true (Some v) None h k = tt
  both_given true false (Some v) (Some x) h k = absurd k
  both_given true false (Some v) None h k = tt
  both_given false u (Some v) x h k = absurd h
  both_given w u None x h k = tt

module _ {Tok Cx St Er V : Type 0} (gives : V → Type 0) where
  pub falls_back-ends : EndsAfterStart (FallsBack {Tok = Tok} {Cx = Cx} {St = St} {Er = Er} gives)
  falls_back-ends b o m a = given-ends m.value b o m.given a

  falls_back-agrees : Agreeing (BothGiven gives) (FallsBack {Tok = Tok} {Cx = Cx} {St = St} {Er = Er} gives) (FallsBack gives)
  falls_back-agrees b c o q alike m n a z = given-agrees (BothGiven gives) m.value n.value (both_given gives b.wanted c.wanted m.value n.value m.gave n.gave) b c o q alike m.given n.given a z

module _ {Tok Cx St Mk Er U W V : Type 0} (mark : St → Mk) (back : St → Mk → St) (safe : Type 0) (until : Meaning Tok Cx St Er U) (skip : Meaning Tok Cx St Er W) (gives : V → Type 0) where
  pub skip_until-ends : EndsAfterStart until → EndsAfterStart skip → EndsAfterStart (MeansSkipUntil mark back safe until skip gives)
  skip_until-ends hu hs b o m a =
      chained-ends (AllTurns {V = Unit {0}} (Seeks mark back safe until skip)) _
      (all_turns-end (Seeks mark back safe until skip) (seeks-end mark back safe until skip hu hs))
      (λ v. falls_back-ends gives) b o m.run a

  pub skip_until-agrees : (su : U → U → Type 0) (sw : W → W → Type 0) → Agreeing su until until
      → Agreeing sw skip skip
      → Agreeing (BothGiven gives) (MeansSkipUntil mark back safe until skip gives) (MeansSkipUntil mark back safe until skip gives)
  skip_until-agrees su sw hu hs b c o q alike m n a z =
      chained-agrees (AllTurns {V = Unit {0}} (Seeks mark back safe until skip)) (AllTurns {V = Unit {0}} (Seeks mark back safe until skip)) _ _ (λ _ _. Unit {0}) (BothGiven gives)
      (all_turns-agree (Seeks mark back safe until skip) (λ _ _. Unit {0})
      (seeks-agree mark back safe until skip su sw (λ _ _. Unit {0}) hu hs))
      (λ v w e. falls_back-agrees gives) b c o q alike m.run n.run a z

module _ {Tok Cx St Er V : Type 0} (part : Meaning Tok Cx St Er V) where
  forgets-ends : (v : Verdict V Er) (b : Beginning Tok Cx St) (p o : Outcome V Er St) → (IsAnswer p.verdict → b.start ≤ p.end) → Forgets v p o → IsAnswer o.verdict → b.start ≤ o.end
  forgets-ends (Yes v) b p o h f a =
      let on : b.start ≤ p.end = h (subst IsAnswer (ap (λ (x : Outcome V Er St). x.verdict) f) a) in
      let end : o.end ≡ p.end = ap (λ (x : Outcome V Er St). x.end) f in
      omega arith
  forgets-ends No b p o h f a = rw f (h (subst IsAnswer (ap (λ (x : Outcome V Er St). x.verdict) f) a))
  forgets-ends (Halt s) b p o h f a = rw f (h (subst IsAnswer (ap (λ (x : Outcome V Er St). x.verdict) f) a))
  forgets-ends (Clash e) b p o h f a = rw f (h (subst IsAnswer (ap (λ (x : Outcome V Er St). x.verdict) f) a))

  unheard-ends : EndsAfterStart part → EndsAfterStart (Unheard part)
  unheard-ends h b o m a = forgets-ends m.heard.verdict b m.heard o (h b m.heard m.meant) m.forgets a

  forgets-agrees : (s : V → V → Type 0) (v w : Verdict V Er) (p r o q : Outcome V Er St) → p.verdict ≡ v
      → r.verdict ≡ w → (IsAnswer p.verdict → IsAnswer r.verdict → Agree s p r) → Forgets v p o → Forgets w r q
      → IsAnswer o.verdict → IsAnswer q.verdict → Agree s o q
  forgets-agrees s (Yes v) (Yes w) p r o q e d h f k a z =
      let g : Agree s p r = h (rw e tt) (rw d tt) in
      let told : Agree s (record p { events = [] }) (record r { events = [] }) = record { answer = g.answer; end = g.end; state = g.state; events = refl; emitted = g.emitted } in
      rw (f, k) told
  forgets-agrees s (Yes v) No p r o q e d h f k a z = let no : SameAnswer s p.verdict r.verdict = (h (rw e tt) (rw d tt)).answer in absurd (rw (e, d) at no)
  forgets-agrees s No (Yes w) p r o q e d h f k a z = let no : SameAnswer s p.verdict r.verdict = (h (rw e tt) (rw d tt)).answer in absurd (rw (e, d) at no)
  forgets-agrees s No No p r o q e d h f k a z = rw (f, k) (h (rw e tt) (rw d tt))
  forgets-agrees s (Yes v) (Halt y) p r o q e d h f k a z = absurd (subst IsAnswer (ap (λ (x : Outcome V Er St). x.verdict) k ∙ d) z)
  forgets-agrees s (Yes v) (Clash y) p r o q e d h f k a z = absurd (subst IsAnswer (ap (λ (x : Outcome V Er St). x.verdict) k ∙ d) z)
  forgets-agrees s No (Halt y) p r o q e d h f k a z = absurd (subst IsAnswer (ap (λ (x : Outcome V Er St). x.verdict) k ∙ d) z)
  forgets-agrees s No (Clash y) p r o q e d h f k a z = absurd (subst IsAnswer (ap (λ (x : Outcome V Er St). x.verdict) k ∙ d) z)
  forgets-agrees s (Halt y) w p r o q e d h f k a z = absurd (subst IsAnswer (ap (λ (x : Outcome V Er St). x.verdict) f ∙ e) a)
  forgets-agrees s (Clash y) w p r o q e d h f k a z = absurd (subst IsAnswer (ap (λ (x : Outcome V Er St). x.verdict) f ∙ e) a)

  unheard-agrees : (s : V → V → Type 0) → Agreeing s part part → Agreeing s (Unheard part) (Unheard part)
  unheard-agrees s h b c o q alike m n a z = forgets-agrees s m.heard.verdict n.heard.verdict m.heard n.heard o q refl refl (h b c m.heard n.heard alike m.meant n.meant) m.forgets n.forgets a z

module _ {Tok Cx St Er V : Type 0} where
  says_no-ends : EndsAfterStart (SaysNo {Tok = Tok} {Cx = Cx} {St = St} {Er = Er} {V = V})
  says_no-ends b o m a = let e = ap (λ (x : Outcome V Er St). x.end) m in omega arith

  says_no-agrees : (s : V → V → Type 0) → Agreeing s (SaysNo {Tok = Tok} {Cx = Cx} {St = St} {Er = Er} {V = V}) SaysNo
  says_no-agrees s b c o q alike m n a z =
      let first : Outcome V Er St = record { verdict = No; end = b.start; state = b.state; events = []; emitted = [] } in
      let second : Outcome V Er St = record { verdict = No; end = c.start; state = c.state; events = []; emitted = [] } in
      let told : Agree s first second = record { answer = tt; end = alike.start; state = alike.state; events = refl; emitted = refl } in
      rw (m, n) told

module _ {Tok Cx St Mk Er V : Type 0} (mark : St → Mk) (back : St → Mk → St) (safe : Type 0) (part : Meaning Tok Cx St Er V) where
  goes_on-ends : (p : Outcome V Er St) → EndsAfterStart (GoesOn {Tok = Tok} {Cx = Cx} mark back safe p)
  goes_on-ends p b o (inl r) a = absurd (subst IsAnswer r.1 a)
  goes_on-ends p b o (inr t) a = let e = ap (λ (x : Outcome (Turn V) Er St). x.end) t in omega arith

  if_quiet-ends : (v : Verdict V Er) (p : Outcome V Er St) (b : Beginning Tok Cx St) (o : Outcome (Turn V) Er St)
      → p.verdict ≡ v → (IsAnswer p.verdict → b.start ≤ p.end) → IfQuiet mark back safe v p b o → IsAnswer o.verdict
      → b.start ≤ o.end
  if_quiet-ends (Yes v) p b o e h (inl t) a = let on : b.start ≤ p.end = h (rw e tt) in let l = ap (λ (x : Outcome (Turn V) Er St). x.end) t.1 in omega arith
  if_quiet-ends (Yes v) p b o e h (inr t) a = goes_on-ends p b o t.1 a
  if_quiet-ends No p b o e h t a = goes_on-ends p b o t a
  if_quiet-ends (Halt s) p b o e h t a = absurd (subst IsAnswer (ap (λ (x : Outcome (Turn V) Er St). x.verdict) t) a)
  if_quiet-ends (Clash s) p b o e h t a = absurd (subst IsAnswer (ap (λ (x : Outcome (Turn V) Er St). x.verdict) t) a)

  pub retries-end : EndsAfterStart part → EndsAfterStart (Retries mark back safe part)
  retries-end h b o m a = elim m.cases [ inl r ↦ absurd (subst IsAnswer r.1 a) | inr k ↦ if_quiet-ends k.0.verdict k.0 b o refl (h b k.0 k.1) k.2 a ]

  module _ (s : V → V → Type 0) where
    goes_on-agrees : (b c : Beginning Tok Cx St) (p r : Outcome V Er St) (o q : Outcome (Turn V) Er St) → Alike b c
        → Agree s p r → GoesOn mark back safe p b o → GoesOn mark back safe r c q → IsAnswer o.verdict
        → IsAnswer q.verdict → Agree (SameTurn s) o q
    goes_on-agrees b c p r o q alike g (inl m) n a z = absurd (subst IsAnswer m.1 a)
    goes_on-agrees b c p r o q alike g (inr m) (inl n) a z = absurd (subst IsAnswer n.1 z)
    goes_on-agrees b c p r o q alike g (inr m) (inr n) a z =
        let gone : back p.state (mark b.state) ≡ back r.state (mark c.state) = cc (g.state, alike.state) in
        let first : Outcome (Turn V) Er St = record { verdict = Yes (Some Again); end = b.start; state = back p.state (mark b.state); events = []; emitted = [] } in
        let second : Outcome (Turn V) Er St = record { verdict = Yes (Some Again); end = c.start; state = back r.state (mark c.state); events = []; emitted = [] } in
        let told : Agree (SameTurn s) first second = record { answer = tt; end = alike.start; state = gone; events = refl; emitted = refl } in
        rw (m, n) told

    if_quiet-agrees : (b c : Beginning Tok Cx St) (p r : Outcome V Er St) (o q : Outcome (Turn V) Er St) → Alike b c
        → (IsAnswer p.verdict → IsAnswer r.verdict → Agree s p r) → (v w : Verdict V Er) → p.verdict ≡ v
        → r.verdict ≡ w
        → IfQuiet mark back safe v p b o → IfQuiet mark back safe w r c q → IsAnswer o.verdict → IsAnswer q.verdict → Agree (SameTurn s) o q
    if_quiet-agrees b c p r o q alike h (Yes v) (Yes w) e d (inl m) (inl n) a z =
        let g : Agree s p r = h (rw e tt) (rw d tt) in
        let same : SameAnswer s p.verdict r.verdict = g.answer in
        let told : Agree (SameTurn s) (retold (Yes (Some (Last v))) p) (retold (Yes (Some (Last w))) r) =
        record { answer = rw (e, d) at same; end = g.end; state = g.state; events = g.events; emitted = g.emitted }
        in
        rw (m.1, n.1) told
    if_quiet-agrees b c p r o q alike h (Yes v) (Yes w) e d (inl m) (inr n) a z =
        let g : Agree s p r = h (rw e tt) (rw d tt) in absurd (n.0 (sym g.emitted ∙ m.0))
    if_quiet-agrees b c p r o q alike h (Yes v) (Yes w) e d (inr m) (inl n) a z =
        let g : Agree s p r = h (rw e tt) (rw d tt) in absurd (m.0 (g.emitted ∙ n.0))
    if_quiet-agrees b c p r o q alike h (Yes v) (Yes w) e d (inr m) (inr n) a z = goes_on-agrees b c p r o q alike (h (rw e tt) (rw d tt)) m.1 n.1 a z
    if_quiet-agrees b c p r o q alike h (Yes v) No e d m n a z =
        let no : SameAnswer s p.verdict r.verdict = (h (rw e tt) (rw d tt)).answer in absurd (rw (e, d) at no)
    if_quiet-agrees b c p r o q alike h No (Yes w) e d m n a z =
        let no : SameAnswer s p.verdict r.verdict = (h (rw e tt) (rw d tt)).answer in absurd (rw (e, d) at no)
    if_quiet-agrees b c p r o q alike h No No e d m n a z = goes_on-agrees b c p r o q alike (h (rw e tt) (rw d tt)) m n a z
    if_quiet-agrees b c p r o q alike h (Yes v) (Halt y) e d m n a z = absurd (subst IsAnswer (ap (λ (x : Outcome (Turn V) Er St). x.verdict) n) z)
    if_quiet-agrees b c p r o q alike h (Yes v) (Clash y) e d m n a z = absurd (subst IsAnswer (ap (λ (x : Outcome (Turn V) Er St). x.verdict) n) z)
    if_quiet-agrees b c p r o q alike h No (Halt y) e d m n a z = absurd (subst IsAnswer (ap (λ (x : Outcome (Turn V) Er St). x.verdict) n) z)
    if_quiet-agrees b c p r o q alike h No (Clash y) e d m n a z = absurd (subst IsAnswer (ap (λ (x : Outcome (Turn V) Er St). x.verdict) n) z)
    if_quiet-agrees b c p r o q alike h (Halt y) w e d m n a z = absurd (subst IsAnswer (ap (λ (x : Outcome (Turn V) Er St). x.verdict) m) a)
    if_quiet-agrees b c p r o q alike h (Clash y) w e d m n a z = absurd (subst IsAnswer (ap (λ (x : Outcome (Turn V) Er St). x.verdict) m) a)

    retries-agree : Agreeing s part part → Agreeing (SameTurn s) (Retries mark back safe part) (Retries mark back safe part)
    retries-agree h b c o q alike m n a z =
        elim m.cases [
          | inl r ↦ absurd (subst IsAnswer r.1 a)
          | inr k ↦ elim n.cases [
            | inl r ↦ absurd (subst IsAnswer r.1 z)
            | inr l ↦ if_quiet-agrees b c k.0 l.0 o q alike (h b c k.0 l.0 alike k.1 l.1) k.0.verdict l.0.verdict refl refl k.2 l.2 a z
          ]
        ]

  after_seek-ends : EndsAfterStart part → (t : Option (Turn V)) → EndsAfterStart (AfterSeek mark back safe part t)
  after_seek-ends h (Some (Last v)) = says_no-ends
  after_seek-ends h (Some Again) = retries-end h
  after_seek-ends h None = λ b o m a. absurd m

  after_seek-agrees : (s : V → V → Type 0) → Agreeing s part part → (t u : Option (Turn V))
      → SameValue (SameTurn s) t u
      → Agreeing (SameTurn s) (AfterSeek mark back safe part t) (AfterSeek mark back safe part u)
  after_seek-agrees s h (Some (Last v)) (Some (Last w)) e = says_no-agrees (SameTurn s)
  after_seek-agrees s h (Some (Last v)) (Some Again) e = absurd e
  after_seek-agrees s h (Some Again) (Some (Last w)) e = absurd e
  after_seek-agrees s h (Some Again) (Some Again) e = retries-agree s h
  after_seek-agrees s h (Some t) None e = λ b c o q alike m n a z. absurd n
  after_seek-agrees s h None u e = λ b c o q alike m n a z. absurd m

  module _ {U W : Type 0} (until : Meaning Tok Cx St Er U) (skip : Meaning Tok Cx St Er W) where
    pub retry_turn-ends : EndsAfterStart until → EndsAfterStart skip → EndsAfterStart part → EndsAfterStart (RetryTurn mark back safe until skip part)
    retry_turn-ends hu hs hp b o m a =
        chained-ends (Unheard (Seeks {X = V} mark back safe until skip)) (AfterSeek mark back safe part)
        (unheard-ends (Seeks mark back safe until skip) (seeks-end mark back safe until skip hu hs))
        (after_seek-ends hp) b o m.run a

    retry_turn-agrees : (su : U → U → Type 0) (sw : W → W → Type 0) (s : V → V → Type 0) → Agreeing su until until
        → Agreeing sw skip skip → Agreeing s part part
        → Agreeing (SameTurn s) (RetryTurn mark back safe until skip part) (RetryTurn mark back safe until skip part)
    retry_turn-agrees su sw s hu hs hp b c o q alike m n a z =
        chained-agrees (Unheard (Seeks {X = V} mark back safe until skip))
        (Unheard (Seeks {X = V} mark back safe until skip)) (AfterSeek mark back safe part)
        (AfterSeek mark back safe part) (SameTurn s) (SameTurn s)
        (unheard-agrees (Seeks mark back safe until skip) (SameTurn s) (seeks-agree mark back safe until skip su sw s hu hs)) (after_seek-agrees s hp) b c o q alike m.run n.run a z

    pub skip_then_retry-ends : EndsAfterStart until → EndsAfterStart skip → EndsAfterStart part → EndsAfterStart (MeansSkipThenRetry mark back safe until skip part)
    skip_then_retry-ends hu hs hp = all_turns-end (RetryTurn mark back safe until skip part) (retry_turn-ends hu hs hp)

    pub skip_then_retry-agrees : (su : U → U → Type 0) (sw : W → W → Type 0) (s : V → V → Type 0)
        → Agreeing su until until → Agreeing sw skip skip → Agreeing s part part
        → Agreeing s (MeansSkipThenRetry mark back safe until skip part) (MeansSkipThenRetry mark back safe until skip part)
    skip_then_retry-agrees su sw s hu hs hp = all_turns-agree (RetryTurn mark back safe until skip part) s (retry_turn-agrees su sw s hu hs hp)
