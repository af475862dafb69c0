-- What holds of one part after another, since it holds of the parts.
use Rattle.std.proofs.Common.{◌≡◌, ℕ, ◌≤◌, Bool, Option, Some, None, List, [], refl, ap, subst, arith}
use Rattle.chumsky_input.specs.Outcome.{Event, Meaning, Beginning, Outcome, Verdict, Yes, No, Halt, Clash, IsAnswer, SameValue, Alike, Agree, EndsAfterStart, Agreeing}
use Rattle.chumsky_parser.specs.Chained.{from, retold, after, both, Follows, Chained, Given, Asked, Sequence, SamePair}

module _ {Tok Cx St Er V W : Type 0} (part : Meaning Tok Cx St Er V) (next : Option V → Meaning Tok Cx St Er W) where
  chained_ends : EndsAfterStart part → ((v : Option V) → EndsAfterStart (next v))
      → (b : Beginning Tok Cx St) (o : Outcome W Er St) (v : Verdict V Er) (end : ℕ) (state : St)
      (events : List (Event Er)) (emitted : List Er)
      → let p : Outcome V Er St = record { verdict = v; end = end; state = state; events = events; emitted = emitted } in
      part b p → Follows v next b p o → IsAnswer o.verdict → b.start ≤ o.end
  chained_ends hp hn b o (Yes v) end state events emitted m f a =
      let p : Outcome V Er St = record { verdict = Yes v; end = end; state = state; events = events; emitted = emitted } in
      let first : b.start ≤ end = hp b p m tt in
      let verdict : o.verdict ≡ f.0.verdict = ap (λ (x : Outcome W Er St). x.verdict) f.2 in
      let second : end ≤ f.0.end = hn v (from b p) f.0 f.1 (subst IsAnswer verdict a) in
      let last : o.end ≡ f.0.end = ap (λ (x : Outcome W Er St). x.end) f.2 in
      omega arith
  chained_ends hp hn b o No end state events emitted m f a =
      let first : b.start ≤ end = hp b _ m tt in
      let last : o.end ≡ end = ap (λ (x : Outcome W Er St). x.end) f in
      omega arith
  chained_ends hp hn b o (Halt s) end state events emitted m f a = absurd (subst IsAnswer (ap (λ (x : Outcome W Er St). x.verdict) f) a)
  chained_ends hp hn b o (Clash e) end state events emitted m f a = absurd (subst IsAnswer (ap (λ (x : Outcome W Er St). x.verdict) f) a)

  pub chained-ends : EndsAfterStart part → ((v : Option V) → EndsAfterStart (next v)) → EndsAfterStart (Chained part next)
  chained-ends hp hn b o m a = chained_ends hp hn b o m.first.verdict m.first.end m.first.state m.first.events m.first.emitted m.meant m.follows a

module _ {Tok Cx St Er V : Type 0} where
  pub given-ends : (v : Option V) → EndsAfterStart (Given {Tok = Tok} {Cx = Cx} {St = St} {Er = Er} v)
  given-ends v b o m a = omega (arith, ap (λ (x : Outcome V Er St). x.end) m)

  pub given-agrees : (same : V → V → Type 0) (v w : Option V) → SameValue same v w
      → Agreeing same (Given {Tok = Tok} {Cx = Cx} {St = St} {Er = Er} v) (Given {Tok = Tok} {Cx = Cx} {St = St} {Er = Er} w)
  given-agrees same v w s b c o q alike m n a z =
      let e : Outcome V Er St = record { verdict = Yes v; end = b.start; state = b.state; events = []; emitted = [] } in
      let f : Outcome V Er St = record { verdict = Yes w; end = c.start; state = c.state; events = []; emitted = [] } in
      let ef : Agree same e f = record { answer = s; end = alike.start; state = alike.state; events = refl; emitted = refl } in
      rw (m, n) ef

module _ {Tok Cx St Er V W : Type 0} (part part' : Meaning Tok Cx St Er V) (next next' : Option V → Meaning Tok Cx St Er W) (sv : V → V → Type 0) (sw : W → W → Type 0) where
  -- an answer of the whole is one of the part, or of what follows it
  chained_agree : Agreeing sv part part' → ((v w : Option V) → SameValue sv v w → Agreeing sw (next v) (next' w)) → (b c : Beginning Tok Cx St) (o q : Outcome W Er St) → Alike b c
      → (v : Verdict V Er) (end : ℕ) (state : St) (events : List (Event Er)) (emitted : List Er)
      → (v' : Verdict V Er) (end' : ℕ) (state' : St) (events' : List (Event Er)) (emitted' : List Er)
      → let p : Outcome V Er St = record { verdict = v; end = end; state = state; events = events; emitted = emitted } in
      let p' : Outcome V Er St = record { verdict = v'; end = end'; state = state'; events = events'; emitted = emitted' } in
      part b p → part' c p' → Follows v next b p o → Follows v' next' c p' q → IsAnswer o.verdict → IsAnswer q.verdict → Agree sw o q
  chained_agree hp hn b c o q alike (Yes v) end state events emitted (Yes w) end' state' events' emitted' m m' f f' a a' =
      let p : Outcome V Er St = record { verdict = Yes v; end = end; state = state; events = events; emitted = emitted } in
      let p' : Outcome V Er St = record { verdict = Yes w; end = end'; state = state'; events = events'; emitted = emitted' } in
      let first : Agree sv p p' = hp b c p p' alike m m' tt tt in
      let alike2 : Alike (from b p) (from c p') = record { tokens = alike.tokens; start = first.end; context = alike.context; state = first.state } in
      let second : Agree sw f.0 f'.0 =
      hn v w first.answer (from b p) (from c p') f.0 f'.0 alike2 f.1 f'.1
      (subst IsAnswer (ap (λ (x : Outcome W Er St). x.verdict) f.2) a)
      (subst IsAnswer (ap (λ (x : Outcome W Er St). x.verdict) f'.2) a') in
      let joined : Agree sw (after p f.0) (after p' f'.0) =
      record {
        answer = second.answer;
        end = second.end;
        state = second.state;
        events = cc (first.events, second.events);
        emitted = cc (first.emitted, second.emitted);
      }
      in
      rw (f.2, f'.2) joined
  chained_agree hp hn b c o q alike (Yes v) end state events emitted No end' state' events' emitted' m m' f f' a a' = absurd (hp b c _ _ alike m m' tt tt).answer
  chained_agree hp hn b c o q alike (Yes v) end state events emitted (Halt s) end' state' events' emitted' m m' f f' a a' = absurd (subst IsAnswer (ap (λ (x : Outcome W Er St). x.verdict) f') a')
  chained_agree hp hn b c o q alike (Yes v) end state events emitted (Clash e) end' state' events' emitted' m m' f f' a a' = absurd (subst IsAnswer (ap (λ (x : Outcome W Er St). x.verdict) f') a')
  chained_agree hp hn b c o q alike No end state events emitted (Yes w) end' state' events' emitted' m m' f f' a a' = absurd (hp b c _ _ alike m m' tt tt).answer
  chained_agree hp hn b c o q alike No end state events emitted No end' state' events' emitted' m m' f f' a a' =
      let p : Outcome V Er St = record { verdict = No; end = end; state = state; events = events; emitted = emitted } in
      let p' : Outcome V Er St = record { verdict = No; end = end'; state = state'; events = events'; emitted = emitted' } in
      let first : Agree sv p p' = hp b c p p' alike m m' tt tt in
      let told : Agree sw (retold {W = W} No p) (retold No p') = record { answer = tt; end = first.end; state = first.state; events = first.events; emitted = first.emitted } in
      rw (f, f') told
  chained_agree hp hn b c o q alike No end state events emitted (Halt s) end' state' events' emitted' m m' f f' a a' = absurd (subst IsAnswer (ap (λ (x : Outcome W Er St). x.verdict) f') a')
  chained_agree hp hn b c o q alike No end state events emitted (Clash e) end' state' events' emitted' m m' f f' a a' = absurd (subst IsAnswer (ap (λ (x : Outcome W Er St). x.verdict) f') a')
  chained_agree hp hn b c o q alike (Halt s) end state events emitted v' end' state' events' emitted' m m' f f' a a' = absurd (subst IsAnswer (ap (λ (x : Outcome W Er St). x.verdict) f) a)
  chained_agree hp hn b c o q alike (Clash e) end state events emitted v' end' state' events' emitted' m m' f f' a a' = absurd (subst IsAnswer (ap (λ (x : Outcome W Er St). x.verdict) f) a)

  pub chained-agrees : Agreeing sv part part' → ((v w : Option V) → SameValue sv v w → Agreeing sw (next v) (next' w)) → Agreeing sw (Chained part next) (Chained part' next')
  chained-agrees hp hn b c o q alike m n a a' =
      chained_agree hp hn b c o q alike m.first.verdict m.first.end m.first.state m.first.events m.first.emitted
      n.first.verdict n.first.end n.first.state n.first.events n.first.emitted m.meant n.meant m.follows n.follows
      a a'

module _ {V W : Type 0} (sv : V → V → Type 0) (sw : W → W → Type 0) where
  pub both-same : (v v' : Option V) (w w' : Option W) → SameValue sv v v' → SameValue sw w w' → SameValue (SamePair sv sw) (both v w) (both v' w')
  both-same (Some v) (Some v') (Some w) (Some w') e d = (e, d)
  both-same (Some v) (Some v') (Some w) None e d = tt
  both-same (Some v) (Some v') None w' e d = tt
  both-same (Some v) None (Some w) w' e d = tt
  both-same (Some v) None None w' e d = tt
  both-same None v' w w' e d = tt

module _ {Tok Cx St Er V W : Type 0} (first : Meaning Tok Cx St Er V) (second : Meaning Tok Cx St Er W) where
  pub sequence-ends : EndsAfterStart first → EndsAfterStart second → EndsAfterStart (Sequence first second)
  sequence-ends f s = chained-ends first _ f (λ v. chained-ends second _ s (λ w. given-ends (both v w)))

  pub sequence-agrees : (sv : V → V → Type 0) (sw : W → W → Type 0) → Agreeing sv first first → Agreeing sw second second → Agreeing (SamePair sv sw) (Sequence first second) (Sequence first second)
  sequence-agrees sv sw f s =
      chained-agrees first first _ _ sv (SamePair sv sw) f
      (λ v v' e. chained-agrees second second _ _ sw (SamePair sv sw) s
      (λ w w' d. given-agrees (SamePair sv sw) (both v w) (both v' w') (both-same sv sw v v' w w' e d)))

module _ {Tok Cx St Er V : Type 0} (wanted : Bool) (part : Meaning Tok Cx St Er V) where
  pub asked-ends : EndsAfterStart part → EndsAfterStart (Asked wanted part)
  asked-ends h b o m a = h (record b { wanted = wanted }) o m.run a

  pub asked-agrees : (same : V → V → Type 0) → Agreeing same part part → Agreeing same (Asked wanted part) (Asked wanted part)
  asked-agrees same h b c o q alike m n a z =
      h (record b { wanted = wanted }) (record c { wanted = wanted }) o q (record { tokens = alike.tokens; start = alike.start; context = alike.context; state = alike.state }) m.run n.run a z
