-- What a run over an input of its own leaves, and what is told of it.
use Rattle.std.proofs.Common.{◌≡◌, ℕ, Bool, true, Option, Some, List, [], Result, Ok, Err, refl, sym, ◌∙◌, ap, subst, inl, inr, map, option_map, option_to_list}
use Rattle.std.specs.Prelude.{◌⊎◌, MatchResult}
use Rattle.std.proofs.lemmas.List.{append-nil}
use Rattle.chumsky_input.specs.declared.error.Error as error_trait
use Rattle.chumsky_input.specs.declared.inspector.Inspector as inspector_trait
use Rattle.chumsky_input.specs.declared.input.Input as input_trait
use Rattle.chumsky_input.specs.declared.stop.Stop.TheVariants.{Memory}
use Rattle.chumsky_input.specs.declared.stop.Fault.{Fault}
use Rattle.chumsky_input.specs.declared.stop.Fault.TheVariants as fault
use Rattle.chumsky_input.specs.Held.{Held, first_stop}
use Rattle.chumsky_input.specs.Aside.{brought_back, ClashesWith, SameButErrors, without_errors}
use Rattle.chumsky_input.specs.Outcome.{Event, Meaning, Outcome, Halt, Clash, HasEventAt}
use Rattle.chumsky_input.specs.Run.{Ran, Leaves, LeavesBy, answer, with_value, without_value}
use Rattle.chumsky_parser.specs.Chained.{Chained, Asked}
use Rattle.chumsky_parser.proofs.ChainedLemmas.{ran-weaker}
use Rattle.chumsky_context.specs.Within.{RunReport, held_at_start, ReportsRun, RunsWhole, event_at, outcome_of_report, verdict_of, with_errors, AddsReported, Within, MeansNestedIn}

module _ {Tok Cx St Er : Type 0} (merged : Er → Er → Er) (safe : Type 0) (old : Held Tok Cx St Er) {aside : Held Tok Cx St Er} {kept e : Option (Event Er)} where
  -- errors that were put in place of those that were set aside, which are brought back
  pub adds-reported : {E : Type 0} (r : Result (Unit {0}) E) (es : List Er) (new : Held Tok Cx St Er) → aside ≡ without_errors old → kept ≡ e
      → MatchResult r
      (λ _. new ≡ brought_back merged old.kept old.emitted (record aside { kept = kept; emitted = es }))
      (λ _. (ClashesWith safe old.kept kept ⊎ ¬ (es ≡ [])) × SameButErrors (record aside { kept = kept; emitted = es }) new)
      → AddsReported merged safe e es old new r
  adds-reported (Ok _) es new a k b = b ∙ cc (a, k)
  adds-reported (Err _) es new a k b =
      let put : record aside { kept = kept; emitted = es } ≡ record old { kept = kept; emitted = es } = cc a in
      (subst (λ z. ClashesWith safe old.kept z ⊎ ¬ (es ≡ [])) k b.0, subst (λ (z : Held Tok Cx St Er). SameButErrors z new) put b.1)

module _ {J Tok Sp Cu Er St Mk Cx : Type 0} (source : input_trait.Ghosts J Cu Tok Sp) (errors : error_trait.Ghosts Er J Tok Sp) (states : inspector_trait.Ghosts St J Mk Tok Sp) where
  -- a report, with its answer as a run's
  pub reports-value : {V : Type 0} (a : Result V Fault) (h : Held Tok Cx states.Seen errors.Seen) (r : RunReport V Er St) (s : St)
      → ReportsRun source errors states a h r → ReportsRun source errors states (with_value a) h (record { answer = with_value r.answer; error = r.error; emitted = r.emitted; state = s })
  reports-value (Ok v) h r s p = (ap with_value p.0, p.1, p.2)
  reports-value (Err fault.Fail) h r s p = (ap with_value p.0, p.1, p.2)
  reports-value (Err (fault.Stop _)) h r s p = (ap with_value p.0, p.1, p.2)

  pub reports-no_value : (V : Type 0) (a : Result (Unit {0}) Fault) (h : Held Tok Cx states.Seen errors.Seen) (r : RunReport (Unit {0}) Er St) (s : St)
      → ReportsRun source errors states a h r
      → ReportsRun source errors states (without_value {V = V} a) h
      (record { answer = without_value {V = V} r.answer; error = r.error; emitted = r.emitted; state = s })
  reports-no_value V (Ok v) h r s p = (ap (without_value {V = V}) p.0, p.1, p.2)
  reports-no_value V (Err fault.Fail) h r s p = (ap (without_value {V = V}) p.0, p.1, p.2)
  reports-no_value V (Err (fault.Stop _)) h r s p = (ap (without_value {V = V}) p.0, p.1, p.2)

  -- a run from the start of an input, whose answer is reported
  pub runs-whole : {V : Type 0} {part : Meaning Tok Cx states.Seen errors.Seen V} {wanted : Bool} {input : J}
      {context : Cx} {state : St} {begun last : Held Tok Cx states.Seen errors.Seen} {a : Result (Option V) Fault}
      {s : states.Seen} (r : RunReport (Option V) Er St)
      → begun ≡ held_at_start source errors states input context state
      → Ran errors.merged errors.takes_no_memory part wanted begun last a → ReportsRun source errors states a last r
      → states.seen r.state ≡ s → s ≡ last.state
      → RunsWhole source errors states part wanted input context state r
  runs-whole {V} {part} {wanted} {input} {context} {state} {begun} {last} {a} {s} r b h p q t =
      record { last = last; answer = a; ran = subst (λ z. Ran errors.merged errors.takes_no_memory part wanted z last a) b h; reported = p; left = q ∙ t }

-- an answer is that of its verdict
answer-verdict : {V : Type 0} (Er : Type 0) (a : Result (Option V) Fault) → a ≡ answer (verdict_of {V = V} {Er = Er} a)
answer-verdict Er (Ok v) = refl
answer-verdict Er (Err fault.Fail) = refl
answer-verdict Er (Err (fault.Stop s)) = refl

module _ {Tok Cx St Er V : Type 0} (merged : Er → Er → Er) (safe : Type 0) where
  leaves-verdict : (a : Result (Option V) Fault) (o : Outcome V Er St) (old new : Held Tok Cx St Er) → Leaves merged safe o old new → LeavesBy merged safe (verdict_of a) o old new
  leaves-verdict (Ok v) o old new l = l
  leaves-verdict (Err fault.Fail) o old new l = l
  leaves-verdict (Err (fault.Stop s)) o old new l = ap (λ z. first_stop z s) l.stopped

module _ {J Tok Sp Cu Mk Er St I Tok' Sp' Mk' Cx V : Type 0} {source : input_trait.Ghosts J Cu Tok Sp}
    {errors : error_trait.Ghosts Er J Tok Sp} {states : inspector_trait.Ghosts St J Mk Tok Sp}
    {errors' : error_trait.Ghosts Er I Tok' Sp'} {states' : inspector_trait.Ghosts St I Mk' Tok' Sp'}
    {part : Meaning Tok Cx states.Seen errors.Seen V} where
  -- a report that is told
  pub within-told : {wanted : Bool} {place : ℕ} {input : J} {state : St} {r : RunReport (Option V) Er St} (old new : Held Tok' Cx states'.Seen errors'.Seen) → states'.seen state ≡ old.state
      → RunsWhole source errors states part wanted input old.context state r
      → new ≡ with_errors errors'.merged (option_map (event_at errors'.seen place) r.error) (map errors'.seen r.emitted) (record old { state = states'.seen r.state })
      → Ran errors'.merged errors'.takes_no_memory (Within source errors states errors' states' part place (Some input)) wanted old new r.answer
  within-told {wanted} {place} {input} {state} {r} old new s w n =
      let o = outcome_of_report errors' states' place old.place r in
      record {
        outcome = o;
        meant = record { input = input; is = refl; state = state; begins = s; report = r; runs = w; does = inl refl };
        answered = answer-verdict errors'.Seen r.answer;
        state = ap (λ (z : Held Tok' Cx states'.Seen errors'.Seen). z.state) n;
        left = leaves-verdict errors'.merged errors'.takes_no_memory r.answer o old new (record {
          end = ap (λ (z : Held Tok' Cx states'.Seen errors'.Seen). z.place) n;
          kept = ap (λ (z : Held Tok' Cx states'.Seen errors'.Seen). z.kept) n;
          emitted = ap (λ (z : Held Tok' Cx states'.Seen errors'.Seen). z.emitted) n;
          stopped = ap (λ (z : Held Tok' Cx states'.Seen errors'.Seen). z.stopped) n;
        });
        same = record { tokens = ap (λ (z : Held Tok' Cx states'.Seen errors'.Seen). z.tokens) n; context = ap (λ (z : Held Tok' Cx states'.Seen errors'.Seen). z.context) n };
      }

  -- a report that there is no memory to tell
  pub within-refused : {wanted : Bool} {place : ℕ} {input : J} {state : St} {r : RunReport (Option V) Er St}
      {x : Result (Option V) Fault} (old new : Held Tok' Cx states'.Seen errors'.Seen)
      → x ≡ Err (fault.Stop Memory) → states'.seen state ≡ old.state
      → RunsWhole source errors states part wanted input old.context state r
      → ClashesWith errors'.takes_no_memory old.kept (option_map (event_at errors'.seen place) r.error) ⊎ ¬ (map errors'.seen r.emitted ≡ [])
      → SameButErrors (record old { state = states'.seen r.state }) new
      → Ran errors'.merged errors'.takes_no_memory (Within source errors states errors' states' part place (Some input)) wanted old new x
  within-refused {wanted} {place} {input} {state} {r} {x} old new e s w (inl c) n =
      record {
        outcome = record { verdict = Clash c.0; end = old.place; state = states'.seen r.state; events = []; emitted = [] };
        meant =
            record {
              input = input;
              is = refl;
              state = state;
              begins = s;
              report = r;
              runs = w;
              does = inr (inl (record { event = c.0; alone = ap option_to_list c.1; verdict = refl; before = refl; state = refl }));
            };
        answered = e;
        state = ap (λ (z : Held Tok' Cx states'.Seen errors'.Seen). z.state) n;
        left = (c.2, subst (HasEventAt c.0.place) (sym (append-nil (option_to_list old.kept))) c.3, ap (λ (z : Held Tok' Cx states'.Seen errors'.Seen). first_stop z.stopped Memory) n);
        same = record { tokens = ap (λ (z : Held Tok' Cx states'.Seen errors'.Seen). z.tokens) n; context = ap (λ (z : Held Tok' Cx states'.Seen errors'.Seen). z.context) n };
      }
  within-refused {wanted} {place} {input} {state} {r} {x} old new e s w (inr m) n =
      record {
        outcome = record { verdict = Halt Memory; end = old.place; state = states'.seen r.state; events = []; emitted = [] };
        meant = record { input = input; is = refl; state = state; begins = s; report = r; runs = w; does = inr (inr (m, refl, refl)) };
        answered = e;
        state = ap (λ (z : Held Tok' Cx states'.Seen errors'.Seen). z.state) n;
        left = ap (λ (z : Held Tok' Cx states'.Seen errors'.Seen). first_stop z.stopped Memory) n;
        same = record { tokens = ap (λ (z : Held Tok' Cx states'.Seen errors'.Seen). z.tokens) n; context = ap (λ (z : Held Tok' Cx states'.Seen errors'.Seen). z.context) n };
      }

  -- the outer part and then the inner one, told where the outer one began
  pub ran-nested_in : {outer : Meaning Tok' Cx states'.Seen errors'.Seen J} {wanted : Bool} {place : ℕ}
      {old new : Held Tok' Cx states'.Seen errors'.Seen} {x : Result (Option V) Fault}
      → place ≡ old.place
      → Ran errors'.merged errors'.takes_no_memory (Chained (Asked true outer) (Within source errors states errors' states' part place)) wanted old new x
      → Ran errors'.merged errors'.takes_no_memory (MeansNestedIn source errors states errors' states' part outer) wanted old new x
  ran-nested_in {outer} {wanted} {place} {old} {new} {x} e h =
      ran-weaker errors'.merged errors'.takes_no_memory
      (Chained (Asked true outer) (Within source errors states errors' states' part old.place))
      (MeansNestedIn source errors states errors' states' part outer) wanted old new x (λ o m. m)
      (subst (λ p. Ran errors'.merged errors'.takes_no_memory (Chained (Asked true outer) (Within source errors states errors' states' part p)) wanted old new x) e h)
