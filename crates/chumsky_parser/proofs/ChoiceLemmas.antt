-- What an ordered choice leaves.
use Rattle.std.proofs.Common.{◌≡◌, ℕ, Bool, Option, List, ◌++◌, refl, sym, ◌∙◌, ap, subst, Result, Err, append_assoc, option_to_list, inl, inr, length, take}
use Rattle.std.proofs.Math.Seq.{take-append_seam}
use Rattle.chumsky_input.specs.declared.stop.Fault.{Fault}
use Rattle.chumsky_input.specs.declared.stop.Fault.TheVariants as fault
use Rattle.chumsky_input.specs.declared.stop.Stop.TheVariants.{Memory}
use Rattle.chumsky_input.specs.Outcome.{Event, Meaning, Outcome, Verdict, Yes, No, Halt, Clash, HasEventAt}
use Rattle.chumsky_input.specs.Held.{Held, Marks, first_stop}
use Rattle.chumsky_input.specs.Primary.{primary}
use Rattle.chumsky_input.specs.Run.{Ran, Leaves, LeavesBy, begin, answer, gone_back, marked_here}
use Rattle.chumsky_input.proofs.PrimaryLemmas.{primary-append, has_event_at-kept}
use Rattle.chumsky_parser.specs.Choice.{ElseFrom, AttemptFrom, ByMark, OrElse, StandsAt}
use Rattle.chumsky_parser.proofs.ChainedLemmas.{ran-weaker}
use Rattle.chumsky_parser.proofs.FailureLemmas.{ran-halts}

module _ {Tok Cx St Mk Er V : Type 0} (merged : Er → Er → Er) (safe : Type 0) (back : St → Mk → St) (quiet : Type 0)
    (mark : Mk) (first second : Meaning Tok Cx St Er V) (wanted : Bool) (old : Held Tok Cx St Er) where
  -- a verdict of the attempt that stands
  stands : (v : Verdict V Er) (o : Outcome V Er St) (r : Result (Option V) Fault) → r ≡ answer v → (r ≡ Err fault.Fail → ⊥) → ElseFrom back quiet mark v second (begin wanted old) o o
  stands (Yes v) o r a n = refl
  stands No o r a n = absurd (n a)
  stands (Halt s) o r a n = refl
  stands (Clash e) o r a n = refl

  pub attempt-stands : (new : Held Tok Cx St Er) (r : Result (Option V) Fault) → Ran merged safe first wanted old new r → (r ≡ Err fault.Fail → ⊥)
      → Ran merged safe (AttemptFrom back quiet mark first second) wanted old new r
  attempt-stands new r h n =
      record {
        outcome = h.outcome;
        meant = record { attempt = h.outcome; meant = h.meant; then_else = stands h.outcome.verdict h.outcome r h.answered n };
        answered = h.answered;
        state = h.state;
        left = h.left;
        same = h.same;
      }

module _ {Tok Cx St Er V : Type 0} (merged : Er → Er → Er) (safe : Type 0) (old : Held Tok Cx St Er) where
  -- of a no, after what it left
  tried : (v : Verdict V Er) (end : ℕ) (state : St) (events : List (Event Er)) (emitted : List Er) → Err fault.Fail ≡ answer v
      → let p : Outcome V Er St = record { verdict = v; end = end; state = state; events = events; emitted = emitted } in
      (mid : Held Tok Cx St Er) → LeavesBy merged safe v p old mid → Leaves merged safe p old mid × (v ≡ No)
  tried (Yes v) end state events emitted a mid l = let no : ⊥ = cc in absurd no
  tried No end state events emitted a mid l = (l, refl)
  tried (Halt s) end state events emitted a mid l = let no : ⊥ = cc in absurd no
  tried (Clash e) end state events emitted a mid l = let no : ⊥ = cc in absurd no

  back_left : (p : Outcome V Er St) (v : Verdict V Er) (q : Outcome V Er St) (mid bk new : Held Tok Cx St Er)
      → Leaves merged safe p old mid → bk.kept ≡ mid.kept → bk.emitted ≡ old.emitted → bk.stopped ≡ mid.stopped
      → LeavesBy merged safe v q bk new → LeavesBy merged safe v (record q { events = p.events ++ q.events }) old new
  back_left p (Yes _) q mid bk new t k e s l =
      record {
        end = l.end;
        kept =
            l.kept ∙ ap (λ z. primary merged (option_to_list z ++ q.events)) (k ∙ t.kept)
            ∙ primary-append merged (option_to_list old.kept ++ p.events) q.events
            ∙ ap (primary merged) (append_assoc (option_to_list old.kept) p.events q.events);
        emitted = l.emitted ∙ ap (λ z. z ++ q.emitted) e;
        stopped = l.stopped ∙ s ∙ t.stopped;
      }
  back_left p No q mid bk new t k e s l =
      record {
        end = l.end;
        kept =
            l.kept ∙ ap (λ z. primary merged (option_to_list z ++ q.events)) (k ∙ t.kept)
            ∙ primary-append merged (option_to_list old.kept ++ p.events) q.events
            ∙ ap (primary merged) (append_assoc (option_to_list old.kept) p.events q.events);
        emitted = l.emitted ∙ ap (λ z. z ++ q.emitted) e;
        stopped = l.stopped ∙ s ∙ t.stopped;
      }
  back_left p (Halt h) q mid bk new t k e s l = l ∙ ap (λ z. first_stop z h) (s ∙ t.stopped)
  back_left p (Clash x) q mid bk new t k e s l = (
    l.0,
    subst (HasEventAt x.place) (append_assoc (option_to_list old.kept) p.events q.events)
        (has_event_at-kept merged x.place (option_to_list old.kept ++ p.events) q.events (subst (λ z. HasEventAt x.place (option_to_list z ++ q.events)) (k ∙ t.kept) l.1)),
    l.2 ∙ ap (λ z. first_stop z Memory) (s ∙ t.stopped),
  )

module _ {Tok Cx St Mk Er V : Type 0} (merged : Er → Er → Er) (safe : Type 0) (back : St → Mk → St) (quiet : Type 0)
    (m : Marks Tok Mk) (first : Meaning Tok Cx St Er V) (wanted : Bool) (old mid : Held Tok Cx St Er) where
  -- the errors emitted since the mark are dropped
  cut : StandsAt m old → Ran merged safe first wanted old mid (Err fault.Fail) → take m.emitted mid.emitted ≡ old.emitted
  cut at h =
      let p = h.outcome in
      let t = tried merged safe old p.verdict p.end p.state p.events p.emitted h.answered mid h.left in
      ap (λ n. take n mid.emitted) at.emitted ∙ ap (take (length old.emitted)) t.0.emitted ∙ take-append_seam old.emitted p.emitted

  -- gone back from the first alternative, the run stands at the mark again
  pub stands_at-back : StandsAt m old → Ran merged safe first wanted old mid (Err fault.Fail) → StandsAt m (gone_back back mid m)
  stands_at-back at h = record { tokens = at.tokens ∙ sym h.same.tokens; place = refl; emitted = at.emitted ∙ ap length (sym (cut at h)) }

  -- the second alternative, gone back to the start from the first
  pub attempt-gone_back : (second : Meaning Tok Cx St Er V) (new : Held Tok Cx St Er) (r : Result (Option V) Fault) → StandsAt m old → Ran merged safe first wanted old mid (Err fault.Fail)
      → Ran merged safe second wanted (gone_back back mid m) new r → Ran merged safe (AttemptFrom back quiet m.mark first second) wanted old new r
  attempt-gone_back second new r at h k =
      let b = gone_back back mid m in
      let p = h.outcome in
      let o = k.outcome in
      let t = tried merged safe old p.verdict p.end p.state p.events p.emitted h.answered mid h.left in
      let begun : begin wanted b ≡ record (begin wanted old) { state = back p.state m.mark } = cc (h.same.tokens, h.same.context, h.state, at.place) in
      record {
        outcome = record o { events = p.events ++ o.events };
        meant = record { attempt = p; meant = h.meant; then_else = rw t.1 (inr (o, subst (λ z. second z o) begun k.meant, refl)) };
        answered = k.answered;
        state = k.state;
        left = back_left merged safe old p o.verdict o mid b new t.0 refl (cut at h) refl k.left;
        same = record { tokens = k.same.tokens ∙ h.same.tokens; context = k.same.context ∙ h.same.context };
      }

  -- the same with the run that went back, as proofs cite it
  pub attempt-after : (second : Meaning Tok Cx St Er V) (bk new : Held Tok Cx St Er) (r : Result (Option V) Fault) → StandsAt m old → Ran merged safe first wanted old mid (Err fault.Fail)
      → bk ≡ gone_back back mid m → Ran merged safe second wanted bk new r → Ran merged safe (AttemptFrom back quiet m.mark first second) wanted old new r
  attempt-after second bk new r at h e k = attempt-gone_back second new r at h (subst (λ (x : Held Tok Cx St Er). Ran merged safe second wanted x new r) e k)

  pub stands_at-after : (bk : Held Tok Cx St Er) → StandsAt m old → Ran merged safe first wanted old mid (Err fault.Fail) → bk ≡ gone_back back mid m → StandsAt m bk
  stands_at-after bk at h e = rw e (stands_at-back at h)

  -- out of memory going back
  pub attempt-unrestored : (second : Meaning Tok Cx St Er V) (new : Held Tok Cx St Er) → Ran merged safe first wanted old mid (Err fault.Fail) → new ≡ mid → (quiet → ⊥)
      → Ran merged safe (AttemptFrom back quiet m.mark first second) wanted old new (Err (fault.Stop Memory))
  attempt-unrestored second new h e may =
      let p = h.outcome in
      let t = tried merged safe old p.verdict p.end p.state p.events p.emitted h.answered mid h.left in
      rw e (ran-halts merged safe _ wanted old mid h.same t.0.stopped (λ o v s. record { attempt = p; meant = h.meant; then_else = rw t.1 (inl (may, v, s ∙ h.state)) }))

module _ {Tok Cx St Mk Er : Type 0} (mark : St → Mk) where
  -- a checkpoint that was just made
  pub stands_at-marked : (m : Marks Tok Mk) (h : Held Tok Cx St Er) → m ≡ marked_here mark h → StandsAt m h
  stands_at-marked m h e = rw e (record { tokens = refl; place = refl; emitted = refl })

module _ {Tok Cx St Mk Er V : Type 0} (merged : Er → Er → Er) (safe : Type 0) (mark : St → Mk) (quiet : Type 0) (part : Mk → Meaning Tok Cx St Er V) (wanted : Bool) (old : Held Tok Cx St Er) where
  -- what is done by a mark of the beginning
  pub ran-marked : (m : Marks Tok Mk) (new : Held Tok Cx St Er) (r : Result (Option V) Fault) → m ≡ marked_here mark old → Ran merged safe (part m.mark) wanted old new r
      → Ran merged safe (ByMark mark quiet part) wanted old new r
  ran-marked m new r e h =
      ran-weaker merged safe _ _ wanted old new r (λ o k. inr k)
      (subst (λ (x : Marks Tok Mk). Ran merged safe (part x.mark) wanted old new r) e h)

  -- out of memory at the mark
  pub ran-not_marked : (quiet → ⊥) → Ran merged safe (ByMark mark quiet part) wanted old old (Err (fault.Stop Memory))
  ran-not_marked may = ran-halts merged safe _ wanted old old (record { tokens = refl; context = refl }) refl (λ o v s. inl (may, v, s))

module _ {Tok Cx St Mk Er V : Type 0} (merged : Er → Er → Er) (safe : Type 0) (mark : St → Mk) (back : St → Mk → St)
    (quiet : Type 0) (first second : Meaning Tok Cx St Er V) (wanted : Bool) (old : Held Tok Cx St Er) where
  ran-attempt : (new : Held Tok Cx St Er) (r : Result (Option V) Fault) → Ran merged safe (AttemptFrom back quiet (mark old.state) first second) wanted old new r
      → Ran merged safe (OrElse mark back quiet first second) wanted old new r
  ran-attempt new r h = ran-weaker merged safe _ _ wanted old new r (λ o a. record { cases = inr a }) h

  pub ran-first : (new : Held Tok Cx St Er) (r : Result (Option V) Fault) → Ran merged safe first wanted old new r → (r ≡ Err fault.Fail → ⊥)
      → Ran merged safe (OrElse mark back quiet first second) wanted old new r
  ran-first new r h n = ran-attempt new r (attempt-stands merged safe back quiet (mark old.state) first second wanted old new r h n)

  pub ran-second : (m : Marks Tok Mk) (mid bk new : Held Tok Cx St Er) (r : Result (Option V) Fault) → Ran merged safe first wanted old mid (Err fault.Fail)
      → m ≡ marked_here mark old → bk ≡ gone_back back mid m → Ran merged safe second wanted bk new r → Ran merged safe (OrElse mark back quiet first second) wanted old new r
  ran-second m mid bk new r h q n l =
      let here = marked_here mark old in
      let k : Ran merged safe second wanted (gone_back back mid here) new r = subst (λ (x : Held Tok Cx St Er). Ran merged safe second wanted x new r) (n ∙ ap (gone_back back mid) q) l in
      ran-attempt new r (attempt-gone_back merged safe back quiet here first wanted old mid second new r (stands_at-marked mark here old refl) h k)

  -- out of memory at the mark, and going back
  pub ran-unmarked : (new : Held Tok Cx St Er) → new ≡ old → (quiet → ⊥) → Ran merged safe (OrElse mark back quiet first second) wanted old new (Err (fault.Stop Memory))
  ran-unmarked new e may = rw e (ran-halts merged safe _ wanted old old (record { tokens = refl; context = refl }) refl (λ o v s. record { cases = inl (may, v, s) }))

  pub ran-unrestored : (mid new : Held Tok Cx St Er) → Ran merged safe first wanted old mid (Err fault.Fail) → new ≡ mid → (quiet → ⊥)
      → Ran merged safe (OrElse mark back quiet first second) wanted old new (Err (fault.Stop Memory))
  ran-unrestored mid new h e may = ran-attempt new _ (attempt-unrestored merged safe back quiet (marked_here mark old) first wanted old mid second new h e may)

-- the same with what was found of the calls, as proofs of combinators cite them
module _ {Tok Cx St Mk Er V : Type 0} {merged : Er → Er → Er} {safe : Type 0} {mark : St → Mk} {back : St → Mk → St}
    {quiet : Type 0} {first second : Meaning Tok Cx St Er V} {wanted : Bool} {old : Held Tok Cx St Er} where
  -- the first alternative did not fail
  pub stood : {new : Held Tok Cx St Er} {r x : Result (Option V) Fault}
      → Ran merged safe first wanted old new x → x ≡ r → (r ≡ Err fault.Fail → ⊥)
      → Ran merged safe (OrElse mark back quiet first second) wanted old new r
  stood {new} {r} h e n = ran-first merged safe mark back quiet first second wanted old new r (rw e at h) n

  -- it failed, the run went back, and the second ran
  pub gone_on : {m : Marks Tok Mk} {mid bk new : Held Tok Cx St Er} {r x : Result (Option V) Fault}
      → Ran merged safe first wanted old mid x → x ≡ Err fault.Fail → m ≡ marked_here mark old
      → bk ≡ gone_back back mid m → Ran merged safe second wanted bk new r
      → Ran merged safe (OrElse mark back quiet first second) wanted old new r
  gone_on {m} {mid} {bk} {new} {r} h e s b k =
      ran-second merged safe mark back quiet first second wanted old m mid bk new r (rw e at h) s b k

  -- there was no memory for the mark
  pub unmarked : {r : Result (Option V) Fault} → r ≡ Err (fault.Stop Memory) → (quiet → ⊥)
      → Ran merged safe (OrElse mark back quiet first second) wanted old old r
  unmarked e may = rw e (ran-unmarked merged safe mark back quiet first second wanted old old refl may)

  -- there was none for going back
  pub unrestored : {mid new : Held Tok Cx St Er} {r x : Result (Option V) Fault}
      → Ran merged safe first wanted old mid x → x ≡ Err fault.Fail → (new ≡ mid) × (quiet → ⊥)
      → r ≡ Err (fault.Stop Memory) → Ran merged safe (OrElse mark back quiet first second) wanted old new r
  unrestored {mid} {new} h e b d =
      rw d (ran-unrestored merged safe mark back quiet first second wanted old mid new (rw e at h) b.0 b.1)
