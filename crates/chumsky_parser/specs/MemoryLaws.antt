-- What is made of parts is never refused for memory, since they never are: sequences and choices.
-- Main laws: chained-spares, or_else-spares, run-spares. Read first: Memory.antt.
use Rattle.std.proofs.Common.{◌≡◌, ℕ, Bool, true, false, Option, Some, None, List, [], ◌∷◌, Result, inl, inr, refl, ap, subst}
use Rattle.std.specs.Prelude.{⊤}
use Rattle.chumsky_input.specs.declared.stop.Stop.{Stop}
use Rattle.chumsky_input.specs.declared.stop.Fault.{Fault}
use Rattle.chumsky_input.specs.Held.{Held}
use Rattle.chumsky_input.specs.Outcome.{Event, Meaning, Beginning, Outcome, Verdict, Yes, No, Halt, Clash}
use Rattle.chumsky_input.specs.Run.{Ran, LeavesBy, answer, begin}
use Rattle.chumsky_parser.specs.Chained.{Chained, Follows, Given, Asked, Sequence, both, from}
use Rattle.chumsky_parser.specs.Choice.{OrElse, ElseFrom}
use Rattle.chumsky_parser.specs.Copied.{GivesCopy}
use Rattle.chumsky_parser.specs.Failure.{Misses, SaysNo, Stops}
use Rattle.chumsky_parser.specs.Ignoring.{Gives, IgnoringFirst, IgnoringSecond, Between}
use Rattle.chumsky_parser.specs.Memory.{IsNotMemory, SparesMemory, NeverOutOfMemory, AnswersWithoutMemory}

module _ {V Er St : Type 0} where
  -- a failure whose error takes no memory
  pub misses-spares : {safe : Type 0} {e : Event Er} {end : ℕ} {s : St} {o : Outcome V Er St} → safe → Misses safe e end s o → SparesMemory o.verdict
  misses-spares x (inl r) = absurd (r.0 x)
  misses-spares x (inr f) = elim f.by [ inl h ↦ rw h.0 tt | inr h ↦ rw h.0 tt ]

module _ {Tok Cx St Er V : Type 0} where
  pub given-spares : (v : Option V) → NeverOutOfMemory (Given {Tok = Tok} {Cx = Cx} {St = St} {Er = Er} v)
  given-spares v b o m = rw (ap (λ (x : Outcome V Er St). x.verdict) m) tt

  pub gives-spares : (v : V) → NeverOutOfMemory (Gives {Tok = Tok} {Cx = Cx} {St = St} {Er = Er} v)
  gives-spares v b o m = rw (ap (λ (x : Outcome V Er St). x.verdict) m.given) tt

  pub no-spares : NeverOutOfMemory (SaysNo {Tok = Tok} {Cx = Cx} {St = St} {Er = Er} {V = V})
  no-spares b o m = rw (ap (λ (x : Outcome V Er St). x.verdict) m) tt

  pub stops-spares : (s : Stop) → IsNotMemory s → NeverOutOfMemory (Stops {Tok = Tok} {Cx = Cx} {St = St} {Er = Er} {V = V} s)
  stops-spares s h b o m = rw (ap (λ (x : Outcome V Er St). x.verdict) m) h

  pub asked-spares : (wanted : Bool) (part : Meaning Tok Cx St Er V) → NeverOutOfMemory part → NeverOutOfMemory (Asked wanted part)
  asked-spares wanted part h b o m = h (record b { wanted = wanted }) o m.run

  -- a copy that takes no memory
  pub copy-spares : (copies : V → Type 0) (safe : Type 0) → safe → NeverOutOfMemory (GivesCopy {Tok = Tok} {Cx = Cx} {St = St} {Er = Er} copies safe)
  copy-spares copies safe x b o m = elim m.cases [ inl r ↦ absurd (r.0.1 x) | inr c ↦ rw (ap (λ (z : Outcome V Er St). z.verdict) c.given) tt ]

module _ {Tok Cx St Er V W : Type 0} (part : Meaning Tok Cx St Er V) (next : Option V → Meaning Tok Cx St Er W) where
  follows_spare : NeverOutOfMemory part → ((v : Option V) → NeverOutOfMemory (next v))
      → (b : Beginning Tok Cx St) (o : Outcome W Er St) (p : Outcome V Er St) (u : Verdict V Er) → p.verdict ≡ u
      → part b p → Follows u next b p o → SparesMemory o.verdict
  follows_spare hp hn b o p (Yes v) e m f = rw (ap (λ (x : Outcome W Er St). x.verdict) f.2) (hn v (from b p) f.0 f.1)
  follows_spare hp hn b o p No e m f = rw (ap (λ (x : Outcome W Er St). x.verdict) f) tt
  follows_spare hp hn b o p (Halt s) e m f =
      let stops : IsNotMemory s = subst SparesMemory e (hp b p m) in
      rw (ap (λ (x : Outcome W Er St). x.verdict) f) stops
  follows_spare hp hn b o p (Clash d) e m f = rw (ap (λ (x : Outcome W Er St). x.verdict) f) tt

  -- a part, and what follows each of its values
  pub chained-spares : NeverOutOfMemory part → ((v : Option V) → NeverOutOfMemory (next v)) → NeverOutOfMemory (Chained part next)
  chained-spares hp hn b o m = follows_spare hp hn b o m.first m.first.verdict refl m.meant m.follows

module _ {Tok Cx St Er V W : Type 0} (first : Meaning Tok Cx St Er V) (second : Meaning Tok Cx St Er W) where
  pub sequence-spares : NeverOutOfMemory first → NeverOutOfMemory second → NeverOutOfMemory (Sequence first second)
  sequence-spares hf hs = chained-spares first _ hf (λ v. chained-spares second _ hs (λ w. given-spares (both v w)))

  pub ignoring_first-spares : NeverOutOfMemory first → NeverOutOfMemory second → NeverOutOfMemory (IgnoringFirst first second)
  ignoring_first-spares hf hs = chained-spares (Asked false first) _ (asked-spares false first hf) (λ _. hs)

  pub ignoring_second-spares : NeverOutOfMemory first → NeverOutOfMemory second → NeverOutOfMemory (IgnoringSecond first second)
  ignoring_second-spares hf hs = chained-spares first _ hf (λ v. chained-spares (Asked false second) _ (asked-spares false second hs) (λ _. given-spares v))

module _ {Tok Cx St Er U V W : Type 0} (opening : Meaning Tok Cx St Er U) (part : Meaning Tok Cx St Er V) (closing : Meaning Tok Cx St Er W) where
  pub between-spares : NeverOutOfMemory opening → NeverOutOfMemory part → NeverOutOfMemory closing → NeverOutOfMemory (Between opening part closing)
  between-spares ho hp hc = ignoring_first-spares opening (IgnoringSecond part closing) ho (ignoring_second-spares part closing hp hc)

module _ {Tok Cx St Mk Er V : Type 0} (mark : St → Mk) (back : St → Mk → St) (safe : Type 0) (first second : Meaning Tok Cx St Er V) where
  else_spares : safe → NeverOutOfMemory first → NeverOutOfMemory second
      → (m : Mk) (b : Beginning Tok Cx St) (o p : Outcome V Er St) (u : Verdict V Er) → first b p
      → ElseFrom back safe m u second b p o → SparesMemory o.verdict
  else_spares x hf hs m b o p (Yes v) n f = rw (ap (λ (z : Outcome V Er St). z.verdict) f) (hf b p n)
  else_spares x hf hs m b o p No n (inl r) = absurd (r.0 x)
  else_spares x hf hs m b o p No n (inr g) = rw (ap (λ (z : Outcome V Er St). z.verdict) g.2) (hs (record b { state = back p.state m }) g.0 g.1)
  else_spares x hf hs m b o p (Halt s) n f = rw (ap (λ (z : Outcome V Er St). z.verdict) f) (hf b p n)
  else_spares x hf hs m b o p (Clash e) n f = rw (ap (λ (z : Outcome V Er St). z.verdict) f) (hf b p n)

  -- one alternative or the other, where a mark and going back take no memory
  pub or_else-spares : safe → NeverOutOfMemory first → NeverOutOfMemory second → NeverOutOfMemory (OrElse mark back safe first second)
  or_else-spares x hf hs b o m = elim m.cases [ inl r ↦ absurd (r.0 x) | inr a ↦ else_spares x hf hs (mark b.state) b o a.attempt a.attempt.verdict a.meant a.then_else ]

module _ {Tok Cx St Er V : Type 0} (merged : Er → Er → Er) (safe : Type 0) where
  answer_spares : safe → (o : Outcome V Er St) (old new : Held Tok Cx St Er) (u : Verdict V Er) → SparesMemory u → LeavesBy merged safe u o old new → AnswersWithoutMemory (answer u)
  answer_spares x o old new (Yes v) h l = tt
  answer_spares x o old new No h l = tt
  answer_spares x o old new (Halt s) h l = h
  answer_spares x o old new (Clash e) h l = absurd (l.0 x)

  -- a call that shows an outcome of a meaning which is never refused for memory isn't either, where errors take none
  pub run-spares : (meaning : Meaning Tok Cx St Er V) → NeverOutOfMemory meaning → safe
      → (wanted : Bool) (old new : Held Tok Cx St Er) (result : Result (Option V) Fault)
      → Ran merged safe meaning wanted old new result → AnswersWithoutMemory result
  run-spares meaning h x wanted old new result r = rw r.answered (answer_spares x r.outcome old new r.outcome.verdict (h (begin wanted old) r.outcome r.meant) r.left)
