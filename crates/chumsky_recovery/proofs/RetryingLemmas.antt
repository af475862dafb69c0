-- What trying a part again leaves.
use Rattle.std.proofs.Common.{◌≡◌, Bool, Option, Some, None, [], ◌++◌, refl, sym, ◌∙◌, ap, subst, arith, length, Result, Ok, Err, option_to_list, inl, inr}
use Rattle.std.proofs.lemmas.List.{append-nil, length-append, nil_from_length}
use Rattle.std.proofs.Math.Seq.{take-append_seam}
use Rattle.chumsky_input.specs.declared.stop.Fault.{Fault}
use Rattle.chumsky_input.specs.declared.stop.Fault.TheVariants as fault
use Rattle.chumsky_input.specs.declared.stop.Stop.{Stop}
use Rattle.chumsky_input.specs.declared.stop.Stop.TheVariants.{Memory}
use Rattle.chumsky_input.specs.Held.{Held, Marks}
use Rattle.chumsky_input.specs.Outcome.{Meaning, Outcome, Verdict, Yes, No, Halt, Clash}
use Rattle.chumsky_input.specs.Primary.{primary}
use Rattle.chumsky_input.specs.Run.{Ran, SameRun, LeavesBy, begin, answer, gone_back, marked_here, with_value, without_value}
use Rattle.chumsky_input.proofs.PrimaryLemmas.{kept-same}
use Rattle.chumsky_parser.specs.Chained.{Chained, retold}
use Rattle.chumsky_parser.proofs.ChainedLemmas.{chained, failed, ran-weaker}
use Rattle.chumsky_parser.proofs.FailureLemmas.{ran-halts, ran-no}
use Rattle.chumsky_judge.proofs.JudgeLemmas.{Went, went_yes, went_no}
use Rattle.chumsky_recovery.specs.Retrying.{QuietOrBack, BackOr}
use Rattle.chumsky_recovery.specs.Turns.{Turn, Again, Last, with_last, without_last}
use Rattle.chumsky_recovery.specs.Seeking.{Seeks, Forgets, Unheard, GoesOn, IfQuiet, Retries, AfterSeek, RetryTurn}
use Rattle.chumsky_recovery.proofs.RecoveredLemmas.{counted, by_value, by_none}

-- a turn that gave what counts so, if it was the last
abbrev pub turned : {A V : Type 0} → (A → Option V) → Result (Option A) Fault → Result (Option (Turn V)) Fault
turned value (Ok (Some x)) = Ok (Some (Last (value x)))
turned value (Ok None) = Ok (Some Again)
turned value (Err f) = Err f

pub turned_value : {V : Type 0} (x : Result (Option V) Fault) → turned Some x ≡ with_last x
turned_value (Ok (Some v)) = refl
turned_value (Ok None) = refl
turned_value (Err f) = refl

pub turned_none : {V : Type 0} (x : Result (Option (Unit {0})) Fault) → turned (λ _. None) x ≡ without_last {V = V} x
turned_none (Ok (Some v)) = refl
turned_none (Ok None) = refl
turned_none (Err f) = refl

module _ {Tok Cx St Er V : Type 0} (merged : Er → Er → Er) (safe : Type 0) (part : Meaning Tok Cx St Er V) (w : Bool) (old mid : Held Tok Cx St Er) where
  forgets_yes : (v : Verdict V Er) (o : Outcome V Er St) (x : Option V) → o.verdict ≡ v → Ok x ≡ answer v
      → part (begin w old) o → mid.state ≡ o.state → LeavesBy merged safe v o old mid → SameRun old mid
      → old.kept ≡ None → Ran merged safe (Unheard part) w old (record mid { kept = None }) (Ok x)
  forgets_yes (Yes y) o x e a m s l same none =
      record {
        outcome = record o { events = [] };
        meant = record { heard = o; meant = m; forgets = subst (λ v. Forgets v o (record o { events = [] })) (sym e) refl };
        answered = a ∙ ap answer (sym e);
        state = s;
        left =
            subst (λ v. LeavesBy merged safe v (record o { events = [] }) old (record mid { kept = None })) (sym e)
            (record { end = l.end; kept = sym none ∙ kept-same merged old.kept; emitted = l.emitted; stopped = l.stopped });
        same = record { tokens = same.tokens; context = same.context };
      }
  forgets_yes No o x e a m s l same none = let no : ⊥ = cc in absurd no
  forgets_yes (Halt y) o x e a m s l same none = let no : ⊥ = cc in absurd no
  forgets_yes (Clash y) o x e a m s l same none = let no : ⊥ = cc in absurd no

  -- a part that succeeded, of which what was kept is forgotten
  pub unheard-yes : (x : Option V) → Ran merged safe part w old mid (Ok x) → old.kept ≡ None → Ran merged safe (Unheard part) w old (record mid { kept = None }) (Ok x)
  unheard-yes x h none = forgets_yes h.outcome.verdict h.outcome x refl h.answered h.meant h.state h.left h.same none

  stands_err : (v : Verdict V Er) (o : Outcome V Er St) (f : Fault) → Err f ≡ answer v → Forgets v o o
  stands_err (Yes y) o f a = let no : ⊥ = cc in absurd no
  stands_err No o f a = refl
  stands_err (Halt y) o f a = refl
  stands_err (Clash y) o f a = refl

  -- one that did not
  pub unheard-err : (f : Fault) → Ran merged safe part w old mid (Err f) → Ran merged safe (Unheard part) w old mid (Err f)
  unheard-err f h =
      record {
        outcome = h.outcome;
        meant = record { heard = h.outcome; meant = h.meant; forgets = stands_err h.outcome.verdict h.outcome f h.answered };
        answered = h.answered;
        state = h.state;
        left = h.left;
        same = h.same;
      }

module _ {Tok Cx St Mk Er V : Type 0} (merged : Er → Er → Er) (safe : Type 0) (mark : St → Mk) (back : St → Mk → St)
    (quiet : Type 0) (part : Meaning Tok Cx St Er V) (w : Bool) (old : Held Tok Cx St Er) where
  abbrev Tried : Meaning Tok Cx St Er (Turn V)
  Tried = Retries mark back quiet part

  -- out of memory at the mark
  pub retries-unmarked : (new : Held Tok Cx St Er) → new ≡ old → (quiet → ⊥) → Ran merged safe Tried w old new (Err (fault.Stop Memory))
  retries-unmarked new e may = rw e (ran-halts merged safe Tried w old old (record { tokens = refl; context = refl }) refl (λ o v s. record { cases = inl (may, v, s) }))

  module _ (none : old.kept ≡ None) (m : Marks Tok Mk) (q : m ≡ marked_here mark old) (mid : Held Tok Cx St Er) where
    bare : (r : Result (Option V) Fault) → Ran merged safe part w old mid r → Ran merged safe part w (record old { kept = None }) mid r
    bare r h = subst (λ k. Ran merged safe part w (record old { kept = k }) mid r) none h

    tried : (v : Verdict V Er) (g : Went merged safe part w old mid v) (o : Outcome (Turn V) Er St) → IfQuiet mark back quiet v g.first (begin w old) o → Tried (begin w old) o
    tried v g o k = record { cases = inr (g.first, g.meant, subst (λ u. IfQuiet mark back quiet u g.first (begin w old) o) (sym g.verdict) k) }

    module _ (v : Verdict V Er) (g : Went merged safe part w old mid v) where
      same_mid : SameRun old mid
      same_mid = record { tokens = ap (λ (z : Held Tok Cx St Er). z.tokens) g.left; context = ap (λ (z : Held Tok Cx St Er). z.context) g.left }

      -- the run goes back, or its state refuses
      backs : {A : Type 0} (value : A → Option V) (new : Held Tok Cx St Er) (r : Result (Option A) Fault)
          →
          ((o : Outcome (Turn V) Er St) → GoesOn mark back quiet g.first (begin w old) o
          → IfQuiet mark back quiet v g.first (begin w old) o)
          → BackOr back quiet m mid new r → Ran merged safe Tried w old new (turned value r)
      backs value new r k (inl t) =
          let o : Outcome (Turn V) Er St = record { verdict = Yes (Some Again); end = old.place; state = back g.first.state (mark old.state); events = []; emitted = [] } in
          let left : new ≡ record old { state = back g.first.state (mark old.state); kept = None } =
          t.1 ∙ ap (gone_back back (record mid { kept = None })) q ∙ ap (λ (z : Held Tok Cx St Er). gone_back back (record z { kept = None }) (marked_here mark old)) g.left
          ∙ ap (λ es. record old { state = back g.first.state (mark old.state); kept = None; emitted = es }) (take-append_seam old.emitted g.first.emitted) in
          rw t.0 (record {
            outcome = o;
            meant = tried v g o (k o (inr refl));
            answered = refl;
            state = ap (λ (z : Held Tok Cx St Er). z.state) left;
            left = record {
              end = ap (λ (z : Held Tok Cx St Er). z.place) left;
              kept = ap (λ (z : Held Tok Cx St Er). z.kept) left ∙ sym none ∙ kept-same merged old.kept;
              emitted = ap (λ (z : Held Tok Cx St Er). z.emitted) left ∙ sym (append-nil old.emitted);
              stopped = ap (λ (z : Held Tok Cx St Er). z.stopped) left;
            };
            same = record { tokens = ap (λ (z : Held Tok Cx St Er). z.tokens) left; context = ap (λ (z : Held Tok Cx St Er). z.context) left };
          })
      backs value new r k (inr t) =
          let left = t.2 ∙ ap (λ (z : Held Tok Cx St Er). record z { kept = None }) g.left in
          rw t.0
          (ran-halts merged safe Tried w old new (record { tokens = ap (λ (z : Held Tok Cx St Er). z.tokens) left; context = ap (λ (z : Held Tok Cx St Er). z.context) left }) (ap (λ (z : Held Tok Cx St Er). z.stopped) left)
          (λ o i s. tried v g o (k o (inl (t.1, i, s ∙ ap (λ (z : Held Tok Cx St Er). z.state) left)))))

    -- nothing was emitted where as much is emitted as before
    nothing_emitted : (x : Option V) (g : Went merged safe part w old mid (Yes x)) → length mid.emitted ≡ m.emitted → g.first.emitted ≡ []
    nothing_emitted x g e =
        let here : m.emitted ≡ length old.emitted = ap (λ (z : Marks Tok Mk). z.emitted) q in
        let there : length mid.emitted ≡ length (old.emitted ++ g.first.emitted) = ap (λ (z : Held Tok Cx St Er). length z.emitted) g.left in
        let sum = length-append old.emitted g.first.emitted in
        nil_from_length g.first.emitted (omega (arith, e, here, there, sum))

    something_emitted : (x : Option V) (g : Went merged safe part w old mid (Yes x)) → (length mid.emitted ≡ m.emitted → ⊥) → g.first.emitted ≡ [] → ⊥
    something_emitted x g n e =
        n (ap (λ (z : Held Tok Cx St Er). length z.emitted) g.left ∙ ap (λ es. length (old.emitted ++ es)) e ∙ ap length (append-nil old.emitted) ∙ sym (ap (λ (z : Marks Tok Mk). z.emitted) q))

    -- an output beside which nothing was emitted
    quiet_yes : (x : Option V) (g : Went merged safe part w old mid (Yes x)) → length mid.emitted ≡ m.emitted → Ran merged safe Tried w old mid (Ok (Some (Last x)))
    quiet_yes x g e =
        let o : Outcome (Turn V) Er St = retold (Yes (Some (Last x))) g.first in
        record {
          outcome = o;
          meant = tried (Yes x) g o (inl (nothing_emitted x g e, refl));
          answered = refl;
          state = ap (λ (z : Held Tok Cx St Er). z.state) g.left;
          left = record {
            end = ap (λ (z : Held Tok Cx St Er). z.place) g.left;
            kept = ap (λ (z : Held Tok Cx St Er). z.kept) g.left ∙ ap (λ k. primary merged (option_to_list k ++ g.first.events)) (sym none);
            emitted = ap (λ (z : Held Tok Cx St Er). z.emitted) g.left;
            stopped = ap (λ (z : Held Tok Cx St Er). z.stopped) g.left;
          };
          same = same_mid (Yes x) g;
        }

    stops : (v : Verdict V Er) (p : Outcome V Er St) (s : Stop) → p.verdict ≡ v → part (begin w old) p
        → Err (fault.Stop s) ≡ answer v → mid.state ≡ p.state → LeavesBy merged safe v p old mid → SameRun old mid
        → Ran merged safe Tried w old mid (Err (fault.Stop s))
    stops (Yes x) p s e k a t l same = let no : ⊥ = cc in absurd no
    stops No p s e k a t l same = let no : ⊥ = cc in absurd no
    stops (Halt z) p s e k a t l same =
        let is : s ≡ z = cc in
        record {
          outcome = retold (Halt z) p;
          meant = record { cases = inr (p, k, subst (λ u. IfQuiet mark back quiet u p (begin w old) (retold (Halt z) p)) (sym e) refl) };
          answered = ap (λ i. Err (fault.Stop i)) is;
          state = t;
          left = l;
          same = same;
        }
    stops (Clash z) p s e k a t l same =
        let is : s ≡ Memory = cc in
        record {
          outcome = retold (Clash z) p;
          meant = record { cases = inr (p, k, subst (λ u. IfQuiet mark back quiet u p (begin w old) (retold (Clash z) p)) (sym e) refl) };
          answered = ap (λ i. Err (fault.Stop i)) is;
          state = t;
          left = l;
          same = same;
        }

    -- what is made of the part's answer
    pub retries-answers : {A : Type 0} (value : A → Option V) (new : Held Tok Cx St Er) (a : Result A Fault) (r : Result (Option A) Fault)
        → Ran merged safe part w old mid (counted value a) → QuietOrBack back quiet m mid new a r
        → Ran merged safe Tried w old new (turned value r)
    retries-answers value new (Ok x) r h (inl t) = rw (t.1, t.2) (quiet_yes (value x) (went_yes merged safe part w old mid (value x) (bare _ h)) t.0)
    retries-answers value new (Ok x) r h (inr t) =
        let g = went_yes merged safe part w old mid (value x) (bare _ h) in
        backs (Yes (value x)) g value new r (λ o j. inr (something_emitted (value x) g t.0, j)) t.1
    retries-answers value new (Err fault.Fail) r h t = backs No (went_no merged safe part w old mid (bare _ h)) value new r (λ o j. j) t
    retries-answers value new (Err (fault.Stop s)) r h t = rw (t.0, t.1) (stops h.outcome.verdict h.outcome s refl h.meant h.answered h.state h.left h.same)

module _ {Tok Cx St Mk Er U W V : Type 0} {merged : Er → Er → Er} {safe : Type 0} {mark : St → Mk}
    {back : St → Mk → St} {quiet : Type 0} {until : Meaning Tok Cx St Er U} {skip : Meaning Tok Cx St Er W}
    {part : Meaning Tok Cx St Er V} {w : Bool} {old : Held Tok Cx St Er} where
  turn : {new : Held Tok Cx St Er} {r : Result (Option (Turn V)) Fault}
      → Ran merged safe (Chained (Unheard (Seeks {X = V} mark back quiet until skip)) (AfterSeek mark back quiet part)) w old new r
      → Ran merged safe (RetryTurn mark back quiet until skip part) w old new r
  turn {new} {r} h =
      ran-weaker merged safe
      (Chained (Unheard (Seeks {X = V} mark back quiet until skip)) (AfterSeek mark back quiet part))
      (RetryTurn mark back quiet until skip part) w old new r (λ o k. record { run = k }) h

  module _ {mid : Held Tok Cx St Er} {x : Result (Option (Turn V)) Fault} (h : Ran merged safe (Seeks {X = V} mark back quiet until skip) w old mid x) where
    -- looking and skipping did not succeed
    pub retry-failed : {f : Fault} {y : Result (Option (Turn V)) Fault} → x ≡ Err f → y ≡ Err f → Ran merged safe (RetryTurn mark back quiet until skip part) w old mid y
    retry-failed {f} e d = turn (failed (unheard-err merged safe (Seeks mark back quiet until skip) w old mid f (rw e at h)) refl d)

    module _ (none : old.kept ≡ None) where
      -- it was found
      pub retry-found : {v : Option V} → x ≡ Ok (Some (Last v)) → Ran merged safe (RetryTurn mark back quiet until skip part) w old (record mid { kept = None }) (Err fault.Fail)
      retry-found {v} e = turn (chained (unheard-yes merged safe (Seeks mark back quiet until skip) w old mid (Some (Last v)) (rw e at h) none) refl ran-no)

      module _ (e : x ≡ Ok (Some Again)) where
        on : {new : Held Tok Cx St Er} {r : Result (Option (Turn V)) Fault}
            → Ran merged safe (Retries mark back quiet part) w (record mid { kept = None }) new r
            → Ran merged safe (RetryTurn mark back quiet until skip part) w old new r
        on k = turn (chained (unheard-yes merged safe (Seeks mark back quiet until skip) w old mid (Some Again) (rw e at h) none) refl k)

        pub retry-unmarked : {new : Held Tok Cx St Er} → new ≡ record mid { kept = None } → (quiet → ⊥)
            → Ran merged safe (RetryTurn mark back quiet until skip part) w old new (Err (fault.Stop Memory))
        retry-unmarked {new} n may = on (retries-unmarked merged safe mark back quiet part w (record mid { kept = None }) new n may)

        module _ {m : Marks Tok Mk} {far new : Held Tok Cx St Er} (q : m ≡ marked_here mark (record mid { kept = None })) where
          pub retry-emit : (a : Result V Fault) (r : Result (Option V) Fault)
              → Ran merged safe part w (record mid { kept = None }) far (with_value a)
              → QuietOrBack back quiet m far new a r
              → Ran merged safe (RetryTurn mark back quiet until skip part) w old new (with_last r)
          retry-emit a r k l =
              on (subst (λ y. Ran merged safe (Retries mark back quiet part) w (record mid { kept = None }) new y) (turned_value r)
              (retries-answers merged safe mark back quiet part w (record mid { kept = None }) refl m q far Some new a
              r (subst (λ y. Ran merged safe part w (record mid { kept = None }) far y) (sym (by_value a)) k) l))

          pub retry-check : (a : Result (Unit {0}) Fault) (r : Result (Option (Unit {0})) Fault)
              → Ran merged safe part w (record mid { kept = None }) far (without_value a)
              → QuietOrBack back quiet m far new a r
              → Ran merged safe (RetryTurn mark back quiet until skip part) w old new (without_last r)
          retry-check a r k l =
              on (subst (λ y. Ran merged safe (Retries mark back quiet part) w (record mid { kept = None }) new y) (turned_none r)
              (retries-answers merged safe mark back quiet part w (record mid { kept = None }) refl m q far
              (λ _. None) new a r
              (subst (λ y. Ran merged safe part w (record mid { kept = None }) far y) (sym (by_none a)) k) l))
