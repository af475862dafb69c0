-- A run that is made of parts, and taken apart again.
use Rattle.std.proofs.Common.{◌≡◌, Bool, Option, Some, None, List, [], Result, Ok, Err, refl, sym, subst, ap, ◌∙◌}
use Rattle.chumsky_input.specs.declared.stop.Fault.{Fault}
use Rattle.chumsky_input.specs.declared.stop.Stop.TheVariants.{Memory}
use Rattle.chumsky_input.specs.Held.{Held, first_stop}
use Rattle.chumsky_input.specs.Outcome.{Event, Meaning, Outcome, Verdict, Yes, No, Halt, Clash}
use Rattle.chumsky_input.specs.Run.{Ran, LeavesBy}
use Rattle.chumsky_parse_iter.specs.Walk.{with_next}

module _ {Tok Cx St Er V : Type 0} (merged : Er → Er → Er) (safe : Type 0) where
  left_kept_context : (v : Verdict V Er) (o : Outcome V Er St) (old new : Held Tok Cx St Er) (state : St)
      → LeavesBy merged safe v o old new
      → LeavesBy merged safe v o old (record new { context = old.context; state = state; stopped = old.stopped })
  left_kept_context (Yes _) o old new state l = record { end = l.end; kept = l.kept; emitted = l.emitted; stopped = refl }
  left_kept_context No o old new state l = record { end = l.end; kept = l.kept; emitted = l.emitted; stopped = refl }
  left_kept_context (Halt _) o old new state l = refl
  left_kept_context (Clash _) o old new state l = (l.0, l.1, refl)

module _ {Tok Cx St Er V : Type 0} {merged : Er → Er → Er} {safe : Type 0} {meaning : Meaning Tok Cx St Er V} {wanted : Bool} where
  -- a run ends under the context that it began with; where it was not refused, nothing has stopped
  ran-kept_context : {old new : Held Tok Cx St Er} {state : St} {r : Result (Option V) Fault} → Ran merged safe meaning wanted old new r → state ≡ new.state
      → Ran merged safe meaning wanted old (record new { context = old.context; state = state; stopped = old.stopped }) r
  ran-kept_context {old} {new} {state} {r} h s =
      record {
        outcome = h.outcome;
        meant = h.meant;
        answered = h.answered;
        state = s ∙ h.state;
        left = left_kept_context merged safe h.outcome.verdict h.outcome old new state h.left;
        same = record { tokens = h.same.tokens; context = refl };
      }

  -- a run that was made of parts
  pub ran-begun : {old begun new : Held Tok Cx St Er} {kept : Option (Event Er)} {emitted : List Er} {r : Result (Option V) Fault}
      → begun ≡ record old { kept = None; emitted = [] } → kept ≡ old.kept → emitted ≡ old.emitted
      → Ran merged safe meaning wanted (record begun { kept = kept; emitted = emitted }) new r
      → Ran merged safe meaning wanted old new r
  ran-begun {old} {begun} {new} {kept} {emitted} {r} b k e h =
      let whole : record begun { kept = kept; emitted = emitted } ≡ old = ap (λ (x : Held Tok Cx St Er). record x { kept = kept; emitted = emitted }) b ∙ rw (k, e) refl in
      subst (λ x. Ran merged safe meaning wanted x new r) whole h

  -- and what it left taken apart
  pub ran-parts : {old begun mid new : Held Tok Cx St Er} {kept : Option (Event Er)} {emitted : List Er} {r : Result (Option V) Fault}
      → begun ≡ record old { kept = None; emitted = [] } → kept ≡ old.kept → emitted ≡ old.emitted
      → Ran merged safe meaning wanted (record begun { kept = kept; emitted = emitted }) mid r → new.state ≡ mid.state
      → new ≡ record mid { context = old.context; state = new.state; stopped = old.stopped } → Ran merged safe meaning wanted old new r
  ran-parts {old} {begun} {mid} {new} {kept} {emitted} {r} b k e h s n = subst (λ x. Ran merged safe meaning wanted old x r) (sym n) (ran-kept_context (ran-begun b k e h) s)

  pub ran-told : {old new : Held Tok Cx St Er} {x y : Result (Option V) Fault} → Ran merged safe meaning wanted old new x → x ≡ y → Ran merged safe meaning wanted old new y
  ran-told {old} {new} {x} {y} h e = subst (λ z. Ran merged safe meaning wanted old new z) e h

pub next_err : {S V : Type 0} {f : Fault} {x : Result (Option (V × S)) Fault} → x ≡ Err f → with_next x ≡ Err f
next_err e = rw e refl
