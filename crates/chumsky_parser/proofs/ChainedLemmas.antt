-- What is left of one part after another.
use Rattle.std.proofs.Common.{◌≡◌, ℕ, Bool, Option, Some, None, List, [], ◌++◌, refl, sym, ◌∙◌, ap, subst, Result, Ok, Err, append_assoc, option_to_list}
use Rattle.std.proofs.lemmas.List.{append-nil}
use Rattle.chumsky_input.specs.declared.stop.Stop.TheVariants.{Memory}
use Rattle.chumsky_input.specs.declared.stop.Fault.{Fault}
use Rattle.chumsky_input.specs.Held.{Held, first_stop}
use Rattle.chumsky_input.specs.Outcome.{Event, Meaning, Beginning, Outcome, Verdict, Yes, No, Halt, Clash, HasEventAt}
use Rattle.chumsky_input.specs.Primary.{primary}
use Rattle.chumsky_input.specs.Run.{Ran, SameRun, Leaves, LeavesBy, begin, answer, with_value, without_value}
use Rattle.chumsky_input.proofs.PrimaryLemmas.{kept-same, primary-append, has_event_at-kept}
use Rattle.chumsky_parser.specs.Chained.{from, after, Follows, Chained, Given, Asked}

module _ {Tok Cx St Er : Type 0} where
  pub same_run-trans : (old mid new : Held Tok Cx St Er) → SameRun old mid → SameRun mid new → SameRun old new
  same_run-trans old mid new p q = record { tokens = q.tokens ∙ p.tokens; context = q.context ∙ p.context }

module _ {Tok Cx St Er V W : Type 0} (merged : Er → Er → Er) (safe : Type 0) (part : Meaning Tok Cx St Er V) (next : Option V → Meaning Tok Cx St Er W) (wanted : Bool) (old : Held Tok Cx St Er) where
  chained_err : (v : Verdict V Er) (new : Held Tok Cx St Er) (end : ℕ) (state : St) (events : List (Event Er)) (emitted : List Er) (f : Fault)
      → let o : Outcome V Er St = record { verdict = v; end = end; state = state; events = events; emitted = emitted } in
      part (begin wanted old) o → Err f ≡ answer v → new.state ≡ state → LeavesBy merged safe v o old new → SameRun old new
      → Ran merged safe (Chained part next) wanted old new (Err f)
  chained_err (Yes v) new end state events emitted f m a s l same = let no : ⊥ = cc in absurd no
  chained_err No new end state events emitted f m a s l same =
      record {
        outcome = record { verdict = No; end = end; state = state; events = events; emitted = emitted };
        meant = record { first = record { verdict = No; end = end; state = state; events = events; emitted = emitted }; meant = m; follows = refl };
        answered = cc;
        state = s;
        left = record { end = l.end; kept = l.kept; emitted = l.emitted; stopped = l.stopped };
        same = same;
      }
  chained_err (Halt h) new end state events emitted f m a s l same =
      record {
        outcome = record { verdict = Halt h; end = end; state = state; events = events; emitted = emitted };
        meant = record { first = record { verdict = Halt h; end = end; state = state; events = events; emitted = emitted }; meant = m; follows = refl };
        answered = cc;
        state = s;
        left = l;
        same = same;
      }
  chained_err (Clash e) new end state events emitted f m a s l same =
      record {
        outcome = record { verdict = Clash e; end = end; state = state; events = events; emitted = emitted };
        meant = record { first = record { verdict = Clash e; end = end; state = state; events = events; emitted = emitted }; meant = m; follows = refl };
        answered = cc;
        state = s;
        left = l;
        same = same;
      }

  -- a part that did not say yes
  pub ran-chained_err : (new : Held Tok Cx St Er) (f : Fault)
      → Ran merged safe part wanted old new (Err f) → Ran merged safe (Chained part next) wanted old new (Err f)
  ran-chained_err new f r = chained_err r.outcome.verdict new r.outcome.end r.outcome.state r.outcome.events r.outcome.emitted f r.meant r.answered r.state r.left r.same

  chained_left : (p : Outcome V Er St) (q : Outcome W Er St) (v : Verdict W Er) (mid new : Held Tok Cx St Er)
      → Leaves merged safe p old mid → LeavesBy merged safe v q mid new → LeavesBy merged safe v (after p q) old new
  chained_left p q (Yes _) mid new first l =
      record {
        end = l.end;
        kept =
            l.kept ∙ ap (λ k. primary merged (option_to_list k ++ q.events)) first.kept
            ∙ primary-append merged (option_to_list old.kept ++ p.events) q.events
            ∙ ap (primary merged) (append_assoc (option_to_list old.kept) p.events q.events);
        emitted = l.emitted ∙ ap (λ es. es ++ q.emitted) first.emitted ∙ append_assoc old.emitted p.emitted q.emitted;
        stopped = l.stopped ∙ first.stopped;
      }
  chained_left p q No mid new first l =
      record {
        end = l.end;
        kept =
            l.kept ∙ ap (λ k. primary merged (option_to_list k ++ q.events)) first.kept
            ∙ primary-append merged (option_to_list old.kept ++ p.events) q.events
            ∙ ap (primary merged) (append_assoc (option_to_list old.kept) p.events q.events);
        emitted = l.emitted ∙ ap (λ es. es ++ q.emitted) first.emitted ∙ append_assoc old.emitted p.emitted q.emitted;
        stopped = l.stopped ∙ first.stopped;
      }
  chained_left p q (Halt h) mid new first l = l ∙ ap (λ z. first_stop z h) first.stopped
  chained_left p q (Clash e) mid new first l = (
    l.0,
    subst (HasEventAt e.place) (append_assoc (option_to_list old.kept) p.events q.events)
        (has_event_at-kept merged e.place (option_to_list old.kept ++ p.events) q.events (subst (λ k. HasEventAt e.place (option_to_list k ++ q.events)) first.kept l.1)),
    l.2 ∙ ap (λ z. first_stop z Memory) first.stopped,
  )

  begins : (p : Outcome V Er St) (mid : Held Tok Cx St Er) → SameRun old mid → mid.place ≡ p.end → mid.state ≡ p.state → begin wanted mid ≡ from (begin wanted old) p
  begins p mid same end state = cc (same.tokens, same.context)

  chained_ok : (v : Verdict V Er) (x : Option V) (mid : Held Tok Cx St Er) (end : ℕ) (state : St) (events : List (Event Er)) (emitted : List Er)
      → let o : Outcome V Er St = record { verdict = v; end = end; state = state; events = events; emitted = emitted } in
      part (begin wanted old) o → Ok x ≡ answer v → mid.state ≡ state → LeavesBy merged safe v o old mid → SameRun old mid
      → (new : Held Tok Cx St Er) (r : Result (Option W) Fault) → Ran merged safe (next x) wanted mid new r → Ran merged safe (Chained part next) wanted old new r
  chained_ok (Yes v) x mid end state events emitted m a s l same new r second =
      let p : Outcome V Er St = record { verdict = Yes v; end = end; state = state; events = events; emitted = emitted } in
      let xv : x ≡ v = cc in
      let q = second.outcome in
      record {
        outcome = after p q;
        meant = record { first = p; meant = m; follows = (q, subst (λ y. next y (from (begin wanted old) p) q) xv (subst (λ b. next x b q) (begins p mid same l.end s) second.meant), refl) };
        answered = second.answered;
        state = second.state;
        left = chained_left p q q.verdict mid new l second.left;
        same = same_run-trans old mid new same second.same;
      }
  chained_ok No x mid end state events emitted m a s l same new r second = let no : ⊥ = cc in absurd no
  chained_ok (Halt h) x mid end state events emitted m a s l same new r second = let no : ⊥ = cc in absurd no
  chained_ok (Clash e) x mid end state events emitted m a s l same new r second = let no : ⊥ = cc in absurd no

  -- a part that said yes, and then what follows its value
  pub ran-chained : (x : Option V) (mid new : Held Tok Cx St Er) (r : Result (Option W) Fault)
      → Ran merged safe part wanted old mid (Ok x) → Ran merged safe (next x) wanted mid new r → Ran merged safe (Chained part next) wanted old new r
  ran-chained x mid new r first second =
      chained_ok first.outcome.verdict x mid first.outcome.end first.outcome.state first.outcome.events first.outcome.emitted first.meant first.answered first.state first.left first.same new r second

module _ {Tok Cx St Er V : Type 0} {merged : Er → Er → Er} {safe : Type 0} where
  pub ran-given : {v : Option V} {wanted : Bool} {old : Held Tok Cx St Er}
      → Ran merged safe (Given v) wanted old old (Ok v)
  ran-given {v} {wanted} {old} =
      record {
        outcome = record { verdict = Yes v; end = old.place; state = old.state; events = []; emitted = [] };
        meant = refl;
        answered = refl;
        state = refl;
        left = record { end = refl; kept = kept-same merged old.kept; emitted = sym (append-nil old.emitted); stopped = refl };
        same = record { tokens = refl; context = refl };
      }

module _ {Tok Cx St Er V : Type 0} (merged : Er → Er → Er) (safe : Type 0) (m n : Meaning Tok Cx St Er V) (wanted : Bool) (old new : Held Tok Cx St Er) where
  -- under a meaning that has the first one's outcomes
  pub ran-weaker : (r : Result (Option V) Fault) → ((o : Outcome V Er St) → m (begin wanted old) o → n (begin wanted old) o) → Ran merged safe m wanted old new r → Ran merged safe n wanted old new r
  ran-weaker r h k = record { outcome = k.outcome; meant = h k.outcome k.meant; answered = k.answered; state = k.state; left = k.left; same = k.same }

module _ {Tok Cx St Er V W : Type 0} (next next' : Option V → Meaning Tok Cx St Er W) (b : Beginning Tok Cx St)
    (h : (v : Option V) (c : Beginning Tok Cx St) (o : Outcome W Er St) → c.wanted ≡ b.wanted → next v c o → next' v c o) where
  follows-weaker : (v : Verdict V Er) (p : Outcome V Er St) (o : Outcome W Er St) → Follows v next b p o → Follows v next' b p o
  follows-weaker (Yes v) p o f = (f.0, h v (from b p) f.0 refl f.1, f.2)
  follows-weaker No p o f = f
  follows-weaker (Halt s) p o f = f
  follows-weaker (Clash e) p o f = f

  -- the same of a part with more outcomes, before what has more
  pub chained-weaker : (part part' : Meaning Tok Cx St Er V) → ((o : Outcome V Er St) → part b o → part' b o) → (o : Outcome W Er St) → Chained part next b o → Chained part' next' b o
  chained-weaker part part' k o m = record { first = m.first; meant = k m.first m.meant; follows = follows-weaker m.first.verdict m.first o m.follows }

module _ {Tok Cx St Er V W : Type 0} (next : Option V → Meaning Tok Cx St Er W) (b : Beginning Tok Cx St) (o : Outcome W Er St) where
  abbrev nothing : Outcome V Er St
  nothing = record { verdict = Yes None; end = b.start; state = b.state; events = []; emitted = [] }

  -- what follows where nothing was done
  pub skipped : Chained (Given None) next b o → next None b o
  skipped m =
      let f : Follows (Yes None) next b nothing o = subst (λ (p : Outcome V Er St). Follows p.verdict next b p o) m.meant m.follows in
      subst (next None b) (sym f.2) f.1

  pub skips : (part : Meaning Tok Cx St Er V) → part b nothing → next None b o → Chained part next b o
  skips part k m = record { first = nothing; meant = k; follows = (o, m, refl) }

-- the same with what was found of the calls, as proofs of combinators cite them
module _ {Tok Cx St Er V W : Type 0} {merged : Er → Er → Er} {safe : Type 0} {part : Meaning Tok Cx St Er V} {next : Option V → Meaning Tok Cx St Er W} {wanted : Bool} {old : Held Tok Cx St Er} where
  pub failed : {new : Held Tok Cx St Er} {f : Fault} {x : Result (Option V) Fault} {y : Result (Option W) Fault}
      → Ran merged safe part wanted old new x → x ≡ Err f → y ≡ Err f → Ran merged safe (Chained part next) wanted old new y
  failed {new} {f} {x} {y} r e d = rw d (ran-chained_err merged safe part next wanted old new f (rw e at r))

  pub chained : {a : Option V} {mid new : Held Tok Cx St Er} {x : Result (Option V) Fault} {r : Result (Option W) Fault}
      → Ran merged safe part wanted old mid x → x ≡ Ok a → Ran merged safe (next a) wanted mid new r → Ran merged safe (Chained part next) wanted old new r
  chained {a} {mid} {new} {x} {r} first e second = ran-chained merged safe part next wanted old a mid new r (rw e at first) second

pub emit_err : {V : Type 0} {f : Fault} {x : Result V Fault} → x ≡ Err f → with_value x ≡ Err f
emit_err e = rw e

pub emit_ok : {V : Type 0} {v : V} {x : Result V Fault} → x ≡ Ok v → with_value x ≡ Ok (Some v)
emit_ok e = rw e

pub check_err : {V : Type 0} {f : Fault} {x : Result (Unit {0}) Fault} → x ≡ Err f → without_value {V = V} x ≡ Err f
check_err e = rw e

pub check_ok : {V : Type 0} {x : Result (Unit {0}) Fault} {u : Unit {0}} → x ≡ Ok u → without_value {V = V} x ≡ Ok None
check_ok e = rw e

module _ {Tok Cx St Er V W : Type 0} {merged : Er → Er → Er} {safe : Type 0} {part : Meaning Tok Cx St Er V}
    {next : Option V → Meaning Tok Cx St Er W} {wanted : Bool} {old new : Held Tok Cx St Er} where
  -- a last part, whose answer without a value is handed on
  pub last_check : (x : Result (Unit {0}) Fault)
      → Ran merged safe part wanted old new (without_value x)
      → ((b : Beginning Tok Cx St) (o : Outcome W Er St) → Given None b o → next None b o)
      → Ran merged safe (Chained part next) wanted old new (without_value x)
  last_check (Ok u) r h = chained r refl (ran-weaker merged safe (Given None) (next None) wanted new new (Ok None) (h (begin wanted new)) ran-given)
  last_check (Err f) r h = failed r refl refl

module _ {Tok Cx St Er V : Type 0} (merged : Er → Er → Er) (safe : Type 0) where
  pub rebased : (v : Verdict V Er) (o : Outcome V Er St) (old mid new : Held Tok Cx St Er) → mid.kept ≡ old.kept
      → mid.emitted ≡ old.emitted → mid.stopped ≡ old.stopped → LeavesBy merged safe v o mid new
      → LeavesBy merged safe v o old new
  rebased (Yes _) o old mid new k e s l =
      record {
        end = l.end;
        kept = l.kept ∙ ap (λ z. primary merged (option_to_list z ++ o.events)) k;
        emitted = l.emitted ∙ ap (λ z. z ++ o.emitted) e;
        stopped = l.stopped ∙ s;
      }
  rebased No o old mid new k e s l =
      record {
        end = l.end;
        kept = l.kept ∙ ap (λ z. primary merged (option_to_list z ++ o.events)) k;
        emitted = l.emitted ∙ ap (λ z. z ++ o.emitted) e;
        stopped = l.stopped ∙ s;
      }
  rebased (Halt h) o old mid new k e s l = l ∙ ap (λ z. first_stop z h) s
  rebased (Clash x) o old mid new k e s l = (l.0, subst (λ z. HasEventAt x.place (option_to_list z ++ o.events)) k l.1, l.2 ∙ ap (λ z. first_stop z Memory) s)

module _ {Tok Cx St Er V : Type 0} {merged : Er → Er → Er} {safe : Type 0} {meaning : Meaning Tok Cx St Er V} {wanted : Bool} where
  -- a run from where nothing has changed is one from before
  pub ran-from : {old mid new : Held Tok Cx St Er} {r : Result (Option V) Fault} → SameRun old mid
      → mid.place ≡ old.place → mid.state ≡ old.state → mid.kept ≡ old.kept → mid.emitted ≡ old.emitted
      → mid.stopped ≡ old.stopped
      → Ran merged safe meaning wanted mid new r → Ran merged safe meaning wanted old new r
  ran-from {old} {mid} {new} {r} same cursor state kept emitted stopped h =
      let begun : begin wanted mid ≡ begin wanted old = cc (same.tokens, same.context) in
      record {
        outcome = h.outcome;
        meant = subst (λ b. meaning b h.outcome) begun h.meant;
        answered = h.answered;
        state = h.state;
        left = rebased merged safe h.outcome.verdict h.outcome old mid new kept emitted stopped h.left;
        same = same_run-trans old mid new same h.same;
      }

module _ {Tok Cx St Er V : Type 0} {merged : Er → Er → Er} {safe : Type 0} {m n : Meaning Tok Cx St Er V} {wanted : Bool} where
  -- a run from a later beginning, with no event or emitted error in between
  pub ran-moved : {old mid new : Held Tok Cx St Er} {r : Result (Option V) Fault} → SameRun old mid → mid.kept ≡ old.kept → mid.emitted ≡ old.emitted → mid.stopped ≡ old.stopped
      → ((o : Outcome V Er St) → m (begin wanted mid) o → n (begin wanted old) o) → Ran merged safe m wanted mid new r → Ran merged safe n wanted old new r
  ran-moved {old} {mid} {new} {r} same kept emitted stopped f h =
      record {
        outcome = h.outcome;
        meant = f h.outcome h.meant;
        answered = h.answered;
        state = h.state;
        left = rebased merged safe h.outcome.verdict h.outcome old mid new kept emitted stopped h.left;
        same = same_run-trans old mid new same h.same;
      }

module _ {Tok Cx St Er V : Type 0} {merged : Er → Er → Er} {safe : Type 0} {part : Meaning Tok Cx St Er V} {asked wanted : Bool} where
  pub ran-asked : {old new : Held Tok Cx St Er} {r : Result (Option V) Fault} → Ran merged safe part asked old new r → Ran merged safe (Asked asked part) wanted old new r
  ran-asked h = record { outcome = h.outcome; meant = record { run = h.meant }; answered = h.answered; state = h.state; left = h.left; same = h.same }
