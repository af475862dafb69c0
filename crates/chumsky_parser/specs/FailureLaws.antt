-- The laws of failures and of wanted values.
use Rattle.std.proofs.Common.{◌≡◌, ℕ, ◌≤◌, Bool, true, false, Option, Some, None, [], ◌∷◌, ap, subst, arith, inl, inr}
use Rattle.std.specs.Prelude.{⊤}
use Rattle.chumsky_input.specs.declared.stop.Stop.{Stop}
use Rattle.chumsky_input.specs.Outcome.{Event, Meaning, Outcome, No, IsAnswer, SameValue, Agree, EndsAfterStart, Agreeing}
use Rattle.chumsky_parser.specs.Failure.{IsWanted, FailsAt, Misses, SaysNo, Stops, wanting}

module _ {V Er St : Type 0} (same : V → V → Type 0) where
  fails-answer : {e : Event Er} {end : ℕ} {s : St} {o : Outcome V Er St} → FailsAt e end s o → IsAnswer o.verdict → (o.verdict ≡ No) × (o.events ≡ e ∷ [])
  fails-answer m a = elim m.by [ inl h ↦ h | inr h ↦ absurd (subst IsAnswer h.0 a) ]

  fails-agree : {e e' : Event Er} {end end' : ℕ} {s s' : St} {o q : Outcome V Er St} → e ≡ e' → end ≡ end' → s ≡ s'
      → FailsAt e end s o → FailsAt e' end' s' q → IsAnswer o.verdict → IsAnswer q.verdict → Agree same o q
  fails-agree x y w m n a z =
      let om = fails-answer m a in
      let qm = fails-answer n z in
      record { answer = rw (om.0, qm.0) tt; end = cc; state = cc; events = cc; emitted = cc }

  pub misses-agree : {safe : Type 0} {e e' : Event Er} {end end' : ℕ} {s s' : St} {o q : Outcome V Er St} → e ≡ e'
      → end ≡ end' → s ≡ s' → Misses safe e end s o → Misses safe e' end' s' q → IsAnswer o.verdict
      → IsAnswer q.verdict → Agree same o q
  misses-agree x y w (inl r) n a z = absurd (subst IsAnswer r.1 a)
  misses-agree x y w (inr m) (inl r) a z = absurd (subst IsAnswer r.1 z)
  misses-agree x y w (inr m) (inr n) a z = fails-agree x y w m n a z

  pub misses-ends : {safe : Type 0} {e : Event Er} {end p : ℕ} {s : St} {o : Outcome V Er St} → p ≤ end → Misses safe e end s o → IsAnswer o.verdict → p ≤ o.end
  misses-ends l (inl r) a = absurd (subst IsAnswer r.1 a)
  misses-ends l (inr f) a = omega (arith, f.end_at)

module _ {Tok Cx St Er V : Type 0} where
  pub stops-ends : (s : Stop) → EndsAfterStart (Stops {Tok = Tok} {Cx = Cx} {St = St} {Er = Er} {V = V} s)
  stops-ends s b o m a = absurd (subst IsAnswer (ap (λ (x : Outcome V Er St). x.verdict) m) a)

  -- a refusal is no answer
  pub stops-agrees : (n : Meaning Tok Cx St Er V) (same : V → V → Type 0) (s : Stop) → Agreeing same (Stops {Tok = Tok} {Cx = Cx} {St = St} {Er = Er} {V = V} s) n
  stops-agrees n' same s b c o q alike m n a z = absurd (subst IsAnswer (ap (λ (x : Outcome V Er St). x.verdict) m) a)

  pub no-ends : EndsAfterStart (SaysNo {Tok = Tok} {Cx = Cx} {St = St} {Er = Er} {V = V})
  no-ends b o m a = omega (arith, ap (λ (x : Outcome V Er St). x.end) m)

  pub no-agrees : (same : V → V → Type 0) → Agreeing same (SaysNo {Tok = Tok} {Cx = Cx} {St = St} {Er = Er} {V = V}) SaysNo
  no-agrees same b c o q alike m n a z =
      let ov = ap (λ (x : Outcome V Er St). x.verdict) m in
      let qv = ap (λ (x : Outcome V Er St). x.verdict) n in
      record { answer = rw (ov, qv) tt; end = cc (m, n, alike.start); state = cc (m, n, alike.state); events = cc (m, n); emitted = cc (m, n) }

-- two values, where any two that P allows are the same
pub wanted-same : {V : Type 0} (P : V → Type 0) (same : V → V → Type 0) → ((v w : V) → P v → P w → same v w) → (b c : Bool) (v w : Option V) → IsWanted P b v → IsWanted P c w → SameValue same v w
wanted-same P same h true true (Some v) (Some w) p q = h v w p q
wanted-same P same h true true (Some v) None p q = absurd q
wanted-same P same h true true None w p q = absurd p
wanted-same P same h true false (Some v) (Some w) p q = absurd q
wanted-same P same h true false (Some v) None p q = tt
wanted-same P same h true false None w p q = absurd p
wanted-same P same h false c (Some v) w p q = absurd p
wanted-same P same h false c None w p q = tt

pub wanting-same : {V : Type 0} (same : V → V → Type 0) (b c : Bool) (v : V) → same v v → SameValue same (wanting b v) (wanting c v)
wanting-same same true true v s = s
wanting-same same true false v s = tt
wanting-same same false c v s = tt

-- there is one value
abbrev pub SameUnit : Unit {0} → Unit {0} → Type 0
SameUnit x y = ⊤

-- two counts
abbrev pub SameCount : ℕ → ℕ → Type 0
SameCount i j = i ≡ j
