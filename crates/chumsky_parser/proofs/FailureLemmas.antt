-- What is left of a failure, and of a yes with nothing added.
use Rattle.std.proofs.Common.{◌≡◌, ℕ, Bool, Option, [], ◌∷◌, refl, sym, ◌∙◌, ap, subst, Ok, Err, option_to_list, inl, inr}
use Rattle.std.proofs.lemmas.List.{append-nil}
use Rattle.chumsky_input.specs.declared.stop.Fault.{Fault}
use Rattle.chumsky_input.specs.declared.stop.Fault.TheVariants as fault
use Rattle.chumsky_input.specs.declared.stop.Stop.{Stop}
use Rattle.chumsky_input.specs.declared.stop.Stop.TheVariants.{Memory}
use Rattle.chumsky_input.specs.Held.{Held, first_stop}
use Rattle.chumsky_input.specs.Outcome.{Event, Meaning, Outcome, Yes, No, Halt, Clash, HasEventAt}
use Rattle.chumsky_input.specs.Run.{Ran, SameRun, begin, Adds, Fails}
use Rattle.chumsky_input.proofs.PrimaryLemmas.{kept-same}
use Rattle.chumsky_parser.specs.Failure.{FailsAt, Misses, SaysNo, Stops}

module _ {Tok Cx St Er V : Type 0} (merged : Er → Er → Er) (safe : Type 0) (meaning : Meaning Tok Cx St Er V) (wanted : Bool) (old : Held Tok Cx St Er) where
  -- a yes, with nothing added
  pub ran-yes : (v : Option V) (end : ℕ) (state : St) → meaning (begin wanted old) (record { verdict = Yes v; end = end; state = state; events = []; emitted = [] })
      → Ran merged safe meaning wanted old (record old { place = end; state = state }) (Ok v)
  ran-yes v end state m =
      record {
        outcome = record { verdict = Yes v; end = end; state = state; events = []; emitted = [] };
        meant = m;
        answered = refl;
        state = refl;
        left = record { end = refl; kept = kept-same merged old.kept; emitted = sym (append-nil old.emitted); stopped = refl };
        same = record { tokens = refl; context = refl };
      }

  -- a refusal for memory
  pub ran-halts : (new : Held Tok Cx St Er) → SameRun old new → new.stopped ≡ old.stopped
      → ((o : Outcome V Er St) → o.verdict ≡ Halt Memory → o.state ≡ new.state → meaning (begin wanted old) o) → Ran merged safe meaning wanted old new (Err (fault.Stop Memory))
  ran-halts new same stopped m =
      record {
        outcome = record { verdict = Halt Memory; end = old.place; state = new.state; events = []; emitted = [] };
        meant = m _ refl refl;
        answered = refl;
        state = refl;
        left = ap (λ z. first_stop z Memory) stopped;
        same = same;
      }

  -- a failure with one event
  pub ran-adds : (e : Event Er) (new : Held Tok Cx St Er) (f : Fault) → Adds merged safe e old new f
      → ((o : Outcome V Er St) → FailsAt e old.place old.state o → meaning (begin wanted old) o) → Ran merged safe meaning wanted old new (Err f)
  ran-adds e new fault.Fail a m =
      record {
        outcome = record { verdict = No; end = old.place; state = old.state; events = e ∷ []; emitted = [] };
        meant = m _ (record { by = inl (refl, refl); end_at = refl; left = refl; emitted = refl });
        answered = refl;
        state = ap (λ (h : Held Tok Cx St Er). h.state) a;
        left =
            record {
              end = ap (λ (h : Held Tok Cx St Er). h.place) a;
              kept = ap (λ (h : Held Tok Cx St Er). h.kept) a;
              emitted = ap (λ (h : Held Tok Cx St Er). h.emitted) a ∙ sym (append-nil old.emitted);
              stopped = ap (λ (h : Held Tok Cx St Er). h.stopped) a;
            };
        same = record { tokens = ap (λ (h : Held Tok Cx St Er). h.tokens) a; context = ap (λ (h : Held Tok Cx St Er). h.context) a };
      }
  ran-adds e new (fault.Stop s) a m =
      record {
        outcome = record { verdict = Clash e; end = old.place; state = old.state; events = []; emitted = [] };
        meant = m _ (record { by = inr (refl, refl); end_at = refl; left = refl; emitted = refl });
        answered = ap (λ z. Err (fault.Stop z)) a.0;
        state = ap (λ (h : Held Tok Cx St Er). h.state) a.3;
        left = (a.1, subst (HasEventAt e.place) (sym (append-nil (option_to_list old.kept))) a.2, ap (λ (h : Held Tok Cx St Er). first_stop h.stopped Memory) a.3);
        same = record { tokens = ap (λ (h : Held Tok Cx St Er). h.tokens) a.3; context = ap (λ (h : Held Tok Cx St Er). h.context) a.3 };
      }

  -- an expectation that the start does not meet
  pub ran-misses : (e : Event Er) (new : Held Tok Cx St Er) (f : Fault) → Fails merged safe e old new f
      → ((o : Outcome V Er St) → Misses safe e old.place old.state o → meaning (begin wanted old) o) → Ran merged safe meaning wanted old new (Err f)
  ran-misses e new f (inl a) m = ran-adds e new f a (λ o h. m o (inr h))
  ran-misses e new f (inr l) m =
      rw l.0 (ran-halts new (record { tokens = ap (λ (h : Held Tok Cx St Er). h.tokens) l.2; context = ap (λ (h : Held Tok Cx St Er). h.context) l.2 }) (ap (λ (h : Held Tok Cx St Er). h.stopped) l.2)
      (λ o v s. m o (inl (l.1, v, s ∙ ap (λ (h : Held Tok Cx St Er). h.state) l.2))))

module _ {Tok Cx St Er V : Type 0} {merged : Er → Er → Er} {safe : Type 0} {wanted : Bool} {now : Held Tok Cx St Er} where
  pub ran-stops : (s : Stop) → Ran merged safe (Stops {V = V} s) wanted now now (Err (fault.Stop s))
  ran-stops s =
      record {
        outcome = record { verdict = Halt s; end = now.place; state = now.state; events = []; emitted = [] };
        meant = refl;
        answered = refl;
        state = refl;
        left = refl;
        same = record { tokens = refl; context = refl };
      }

  pub ran-no : Ran merged safe (SaysNo {V = V}) wanted now now (Err fault.Fail)
  ran-no =
      record {
        outcome = record { verdict = No; end = now.place; state = now.state; events = []; emitted = [] };
        meant = refl;
        answered = refl;
        state = refl;
        left = record { end = refl; kept = kept-same merged now.kept; emitted = sym (append-nil now.emitted); stopped = refl };
        same = record { tokens = refl; context = refl };
      }
