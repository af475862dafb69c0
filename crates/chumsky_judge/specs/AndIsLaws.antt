-- The laws of looking ahead.
use Rattle.std.proofs.Common.{◌≡◌, ℕ, ◌≤◌, false, Option, Some, None, refl, sym, ap, ◌∙◌, subst, arith, inl, inr, option_to_list}
use Rattle.chumsky_input.specs.Outcome.{Event, Meaning, Beginning, Outcome, Verdict, Yes, No, Halt, Clash, IsAnswer, SameValue, Alike, Agree, EndsAfterStart, Agreeing}
use Rattle.chumsky_input.specs.Primary.{primary}
use Rattle.chumsky_input.specs.Run.{KeepsPast}
use Rattle.chumsky_parser.specs.Chained.{Chained, Asked, Follows, from}
use Rattle.chumsky_parser.specs.Choice.{OrElse, SameEither}
use Rattle.chumsky_parser.specs.ChoiceLaws.{agree-weaker, or_else-ends, or_else-agrees}
use Rattle.chumsky_parser.specs.Failure.{SaysNo}
use Rattle.chumsky_parser.specs.FailureLaws.{no-ends, no-agrees}
use Rattle.chumsky_parser.specs.Laws.{chained-agrees, asked-ends, asked-agrees}
use Rattle.chumsky_judge.specs.Judged.{OrClash}
use Rattle.chumsky_judge.specs.JudgedLaws.{or_clash-whole, judged-ends, judged-agrees, no_as_one-ends, no_as_one-agrees}
use Rattle.chumsky_judge.specs.AndIs.{GivenAt, LooksFrom, MeansAndIs, at_start, Rewinds, MeansRewind}
use Rattle.chumsky_judge.specs.Compared.{YesStays}

module _ {Tok Cx St Er V W : Type 0} (other : Meaning Tok Cx St Er W) where
  looks_end : EndsAfterStart other → (place end : ℕ) → place ≤ end
      → (v : Option V) (b : Beginning Tok Cx St) (p : Outcome W Er St) (o : Outcome V Er St) (u : Verdict W Er)
      → p.verdict ≡ u → other (record b { wanted = false; start = place }) p
      → Follows u (λ _. GivenAt v end) (record b { start = place }) p o → IsAnswer o.verdict → place ≤ o.end
  looks_end h place end l v b p o (Yes x) e m f a =
      let at_end : f.0.end ≡ end = ap (λ (z : Outcome V Er St). z.end) f.1 in
      let whole : o.end ≡ f.0.end = ap (λ (z : Outcome V Er St). z.end) f.2 in
      omega arith
  looks_end h place end l v b p o No e m f a =
      let after : place ≤ p.end = h (record b { wanted = false; start = place }) p m (rw e tt) in
      let whole : o.end ≡ p.end = ap (λ (z : Outcome V Er St). z.end) f in
      omega arith
  looks_end h place end l v b p o (Halt s) e m f a = absurd (subst IsAnswer (ap (λ (x : Outcome V Er St). x.verdict) f) a)
  looks_end h place end l v b p o (Clash s) e m f a = absurd (subst IsAnswer (ap (λ (x : Outcome V Er St). x.verdict) f) a)

  given_at-agrees : (same : V → V → Type 0) (v w : Option V) (end : ℕ) → SameValue same v w → Agreeing same (GivenAt {Tok = Tok} {Cx = Cx} {St = St} {Er = Er} v end) (GivenAt w end)
  given_at-agrees same v w end s b c o q alike m n a z = rw (m, n) (record { answer = s; end = refl; state = alike.state; events = refl; emitted = refl })

  looks-agree : (sv : V → V → Type 0) (sw : W → W → Type 0) → Agreeing sw other other → (place : ℕ) (v w : Option V)
      → SameValue sv v w → Agreeing sv (LooksFrom place other v) (LooksFrom place other w)
  looks-agree sv sw h place v w s b c o q alike m n a z =
      let n2 : Chained (Asked false other) (λ _. GivenAt w b.start) (record c { start = place }) q =
      subst (λ x. Chained (Asked false other) (λ _. GivenAt w x) (record c { start = place }) q) (sym alike.start)
      n in
      chained-agrees (Asked false other) (Asked false other) (λ _. GivenAt v b.start) (λ _. GivenAt w b.start) sw sv (asked-agrees false other sw h) (λ _ _ _. given_at-agrees sv v w b.start s)
      (record b { start = place }) (record c { start = place }) o q (record { tokens = alike.tokens; start = refl; context = alike.context; state = alike.state }) m n2 a z

module _ {Tok Cx St Mk Er V W : Type 0} (mark : St → Mk) (back : St → Mk → St) (safe : Type 0) (part : Meaning Tok Cx St Er V) (other : Meaning Tok Cx St Er W) where
  and_is_ends : EndsAfterStart part → EndsAfterStart other
      → (b : Beginning Tok Cx St) (p o : Outcome V Er St) (u : Verdict V Er) → p.verdict ≡ u
      → OrElse mark back safe part SaysNo b p → Follows u (LooksFrom b.start other) b p o → IsAnswer o.verdict
      → b.start ≤ o.end
  and_is_ends h k b p o (Yes v) e m f a =
      let first : b.start ≤ p.end = or_else-ends mark back safe part SaysNo h no-ends b p m (rw e tt) in
      let looks = f.1 in
      let whole : o.end ≡ f.0.end = ap (λ (z : Outcome V Er St). z.end) f.2 in
      let verdict : o.verdict ≡ f.0.verdict = ap (λ (z : Outcome V Er St). z.verdict) f.2 in
      let last : b.start ≤ f.0.end = looks_end other k b.start p.end first v (from b p) looks.first f.0 looks.first.verdict refl looks.meant.run looks.follows (subst IsAnswer verdict a) in
      omega arith
  and_is_ends h k b p o No e m f a =
      let first : b.start ≤ p.end = or_else-ends mark back safe part SaysNo h no-ends b p m (rw e tt) in
      let whole : o.end ≡ p.end = ap (λ (z : Outcome V Er St). z.end) f in
      omega arith
  and_is_ends h k b p o (Halt s) e m f a = absurd (subst IsAnswer (ap (λ (x : Outcome V Er St). x.verdict) f) a)
  and_is_ends h k b p o (Clash s) e m f a = absurd (subst IsAnswer (ap (λ (x : Outcome V Er St). x.verdict) f) a)

  pub and_is-ends : EndsAfterStart part → EndsAfterStart other → EndsAfterStart (MeansAndIs mark back safe part other)
  and_is-ends h k b o m a = and_is_ends h k b m.run.first o m.run.first.verdict refl m.run.meant m.run.follows a

  either : (sv : V → V → Type 0) (v w : V) → SameEither sv sv v w → sv v w
  either sv v w (inl s) = s
  either sv v w (inr s) = s

  pub and_is-agrees : (sv : V → V → Type 0) (sw : W → W → Type 0) → Agreeing sv part part → Agreeing sw other other
      → Agreeing sv (MeansAndIs mark back safe part other) (MeansAndIs mark back safe part other)
  and_is-agrees sv sw h k b c o q alike m n a z =
      let first : Agreeing sv (OrElse mark back safe part SaysNo) (OrElse mark back safe part SaysNo) =
      λ b' c' o' q' alike' m' n' a' z'. agree-weaker (SameEither sv sv) sv (either sv) o' q' (or_else-agrees mark back safe part SaysNo sv sv h (no-agrees sv) b' c' o' q' alike' m' n' a' z') in
      let n2 : Chained (OrElse mark back safe part SaysNo) (LooksFrom b.start other) c q = subst (λ x. Chained (OrElse mark back safe part SaysNo) (LooksFrom x other) c q) (sym alike.start) n.run in
      chained-agrees (OrElse mark back safe part SaysNo) (OrElse mark back safe part SaysNo) (LooksFrom b.start other)
      (LooksFrom b.start other) sv sv first (λ v w e. looks-agree other sv sw k b.start v w e) b c o q alike m.run
      n2 a z

module _ {Tok Cx St Er V : Type 0} (merged : Er → Er → Er) where
  rewinds-end : (b : Beginning Tok Cx St) (v : Option V) (p o : Outcome V Er St) → b.start ≤ p.end → Rewinds merged b v p o → IsAnswer o.verdict → b.start ≤ o.end
  rewinds-end b v p o l (inl h) a = let e = ap (λ (x : Outcome V Er St). x.end) (or_clash-whole h.1 a) in omega arith
  rewinds-end b v p o l (inr h) a = let e = ap (λ (x : Outcome V Er St). x.end) (or_clash-whole h.1 a) in omega arith

  rewinds-agree : (sv : V → V → Type 0) (b c : Beginning Tok Cx St) (v v' : Option V) (p p' o q : Outcome V Er St)
      → Alike b c → SameValue sv v v' → Agree sv p p' → Rewinds merged b v p o → Rewinds merged c v' p' q
      → IsAnswer o.verdict → IsAnswer q.verdict → Agree sv o q
  rewinds-agree sv b c v v' p p' o q alike s g (inl h) (inl k) a z =
      rw (or_clash-whole h.1 a, or_clash-whole k.1 z) (record { answer = s; end = alike.start; state = g.state; events = refl; emitted = g.emitted })
  rewinds-agree sv b c v v' p p' o q alike s g (inr h) (inr k) a z =
      rw (or_clash-whole h.1 a, or_clash-whole k.1 z) (record { answer = s; end = alike.start; state = g.state; events = ap (λ es. option_to_list (primary merged es)) g.events; emitted = g.emitted })
  rewinds-agree sv b c v v' p p' o q alike s g (inl h) (inr k) a z =
      absurd (k.0 (subst (λ x. KeepsPast x (primary merged p'.events)) alike.start (subst (λ es. KeepsPast b.start (primary merged es)) g.events h.0)))
  rewinds-agree sv b c v v' p p' o q alike s g (inr h) (inl k) a z =
      absurd (h.0 (subst (λ x. KeepsPast x (primary merged p.events)) (sym alike.start) (subst (λ es. KeepsPast c.start (primary merged es)) (sym g.events) k.0)))

  pub rewind-ends : (part : Meaning Tok Cx St Er V) → EndsAfterStart part → EndsAfterStart (MeansRewind merged part)
  rewind-ends part h b o m a = judged-ends part _ _ h rewinds-end (no_as_one-ends merged) b o m.run a

  pub rewind-agrees : (part : Meaning Tok Cx St Er V) (sv : V → V → Type 0) → Agreeing sv part part → Agreeing sv (MeansRewind merged part) (MeansRewind merged part)
  rewind-agrees part sv h b c o q alike m n a z =
      judged-agrees part _ _ sv sv h (rewinds-agree sv) (no_as_one-agrees merged sv sv) b c o q alike m.run n.run a z
