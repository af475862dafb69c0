-- A run whose items are asked for one after another, and then its end, is one run from its beginning.
use Rattle.std.proofs.Common.{
  ◌≡◌,
  ℕ,
  zero,
  suc,
  ◌+◌,
  ◌^◌,
  Bool,
  true,
  false,
  nat_lt,
  Option,
  Some,
  None,
  List,
  [],
  ◌∷◌,
  ◌++◌,
  length,
  refl,
  sym,
  ◌∙◌,
  ap,
  subst,
  append_assoc,
  Result,
  Ok,
  Err,
  option_to_list,
}
use Rattle.std.proofs.lemmas.List.{append-nil}
use Rattle.std.specs.Bool.{MatchBool}
use Rattle.chumsky_input.specs.declared.error.Error as error_trait
use Rattle.chumsky_input.specs.declared.inspector.Inspector as inspector_trait
use Rattle.chumsky_input.specs.declared.input.Input as input_trait
use Rattle.chumsky_input.specs.declared.stop.Stop.TheVariants.{Memory, CountTooLarge}
use Rattle.chumsky_input.specs.declared.stop.Fault.{Fault}
use Rattle.chumsky_input.specs.declared.stop.Fault.TheVariants as fault
use Rattle.chumsky_input.specs.Held.{Held, first_stop}
use Rattle.chumsky_input.specs.Outcome.{Event, Meaning, Beginning, Outcome, Verdict, Yes, No, Halt, Clash}
use Rattle.chumsky_input.specs.Primary.{primary}
use Rattle.chumsky_input.specs.Run.{Ran, LeavesBy, begin, answer, without_value}
use Rattle.chumsky_input.proofs.PrimaryLemmas.{kept-same}
use Rattle.chumsky_parser.specs.Chained.{Chained, Follows, Asked, from, after, retold}
use Rattle.chumsky_parser.specs.Failure.{SaysNo, Stops}
use Rattle.chumsky_parser.specs.Items.{Next, More, End, AfterStep}
use Rattle.chumsky_parser.proofs.ChainedLemmas.{failed, chained, ran-asked, ran-weaker, same_run-trans}
use Rattle.chumsky_parse_iter.specs.declared.parse_iter.Phase.{Phase}
use Rattle.chumsky_parse_iter.specs.declared.parse_iter.Phase.TheVariants.{Unbegun, Running, Ended, Refused}
use Rattle.chumsky_parse_iter.specs.Finish.{Closing, Succeeding, RanFor, AfterCall, WalkFrom, WalkMade, WholeWalk, Called, AnswersTheWhole}
use Rattle.chumsky_parse_iter.proofs.FinishLemmas.{answers-whole}
use Rattle.chumsky_primitive.specs.End.{MeansEnd}
use Rattle.chumsky_parse_iter.specs.Walk.{with_next, GivesCounted, GivesMade, GivesFirst, Steps, WalksOn}

module _ {Tok Cx St Er : Type 0} where
  -- a fault that stands, where nothing more is run
  abbrev pub Standing : {V : Type 0} → Fault → Meaning Tok Cx St Er V
  Standing fault.Fail = SaysNo
  Standing (fault.Stop z) = Stops z

module _ {Tok Cx St Er V : Type 0} {merged : Er → Er → Er} {safe : Type 0} (meaning : Meaning Tok Cx St Er V) (wanted : Bool) (old mid new : Held Tok Cx St Er) where
  -- a failure that stands is left as it was
  fails_on : {W : Type 0} (v : Verdict V Er) (end : ℕ) (state : St) (events : List (Event Er)) (emitted : List Er)
      → let o : Outcome V Er St = record { verdict = v; end = end; state = state; events = events; emitted = emitted } in
      meaning (begin wanted old) o → Err fault.Fail ≡ answer v → mid.state ≡ state → LeavesBy merged safe v o old mid → new.tokens ≡ old.tokens → new.context ≡ old.context
      → (q : Outcome W Er St) → SaysNo (begin false mid) q → new.state ≡ q.state → new.place ≡ q.end
      → new.kept ≡ primary merged (option_to_list mid.kept ++ q.events) → new.emitted ≡ mid.emitted ++ q.emitted
      → new.stopped ≡ mid.stopped
      → Ran merged safe meaning wanted old new (Err fault.Fail)
  fails_on {W} (Yes u) end state events emitted m a s l t c q n ns np nk ne nd = let no : ⊥ = cc in absurd no
  fails_on {W} No end state events emitted m a s l t c q n ns np nk ne nd =
      record {
        outcome = record { verdict = No; end = end; state = state; events = events; emitted = emitted };
        meant = m;
        answered = refl;
        state = ns ∙ ap (λ (z : Outcome W Er St). z.state) n ∙ s;
        left = record {
          end = np ∙ ap (λ (z : Outcome W Er St). z.end) n ∙ l.end;
          kept = nk ∙ ap (λ (z : Outcome W Er St). primary merged (option_to_list mid.kept ++ z.events)) n ∙ sym (kept-same merged mid.kept) ∙ l.kept;
          emitted = ne ∙ ap (λ (z : Outcome W Er St). mid.emitted ++ z.emitted) n ∙ append-nil mid.emitted ∙ l.emitted;
          stopped = nd ∙ l.stopped;
        };
        same = record { tokens = t; context = c };
      }
  fails_on {W} (Halt z) end state events emitted m a s l t c q n ns np nk ne nd = let no : ⊥ = cc in absurd no
  fails_on {W} (Clash z) end state events emitted m a s l t c q n ns np nk ne nd = let no : ⊥ = cc in absurd no

  -- a refusal that stands is passed on
  stops_on : (z : _) (v : Verdict V Er) (end : ℕ) (state : St) (events : List (Event Er)) (emitted : List Er)
      → let o : Outcome V Er St = record { verdict = v; end = end; state = state; events = events; emitted = emitted } in
      meaning (begin wanted old) o → Err (fault.Stop z) ≡ answer v → mid.state ≡ state
      → LeavesBy merged safe v o old mid → new.tokens ≡ old.tokens → new.context ≡ old.context
      → new.state ≡ mid.state → first_stop new.stopped z ≡ first_stop mid.stopped z
      → Ran merged safe meaning wanted old new (Err (fault.Stop z))
  stops_on z (Yes u) end state events emitted m a s l t c ns nd = let no : ⊥ = cc in absurd no
  stops_on z No end state events emitted m a s l t c ns nd = let no : ⊥ = cc in absurd no
  stops_on z (Halt y) end state events emitted m a s l t c ns nd =
      let e : z ≡ y = cc in
      record {
        outcome = record { verdict = Halt y; end = end; state = state; events = events; emitted = emitted };
        meant = m;
        answered = a;
        state = ns ∙ s;
        left = subst (λ w. first_stop new.stopped w ≡ first_stop mid.stopped w) e nd ∙ l;
        same = record { tokens = t; context = c };
      }
  stops_on z (Clash y) end state events emitted m a s l t c ns nd =
      let e : z ≡ Memory = cc in
      record {
        outcome = record { verdict = Clash y; end = end; state = state; events = events; emitted = emitted };
        meant = m;
        answered = a;
        state = ns ∙ s;
        left = (l.0, l.1, subst (λ w. first_stop new.stopped w ≡ first_stop mid.stopped w) e nd ∙ l.2);
        same = record { tokens = t; context = c };
      }

module _ {Tok Cx St Er V : Type 0} {merged : Er → Er → Er} {safe : Type 0} {meaning : Meaning Tok Cx St Er V} {wanted : Bool} {old mid new : Held Tok Cx St Er} where
  no_left : {W : Type 0} (v : Verdict W Er) (end : ℕ) (state : St) (events : List (Event Er)) (emitted : List Er)
      (h : Ran merged safe meaning wanted old mid (Err fault.Fail)) (x : Result (Option W) Fault)
      → let q : Outcome W Er St = record { verdict = v; end = end; state = state; events = events; emitted = emitted } in
      SaysNo (begin false mid) q → x ≡ answer v → new.state ≡ state → LeavesBy merged safe v q mid new → new.tokens ≡ mid.tokens → new.context ≡ mid.context
      → (x ≡ Err fault.Fail) × Ran merged safe meaning wanted old new (Err fault.Fail)
  no_left {W} (Yes u) end state events emitted h x n a s l t c = let v = ap (λ (q : Outcome W Er St). q.verdict) n in let no : ⊥ = cc in absurd no
  no_left {W} No end state events emitted h x n a s l t c =
      let o = h.outcome in (
        a,
        fails_on meaning wanted old mid new o.verdict o.end o.state o.events o.emitted h.meant h.answered h.state
            h.left (t ∙ h.same.tokens) (c ∙ h.same.context)
            (record { verdict = No; end = end; state = state; events = events; emitted = emitted }) n s l.end l.kept
            l.emitted l.stopped,
      )
  no_left {W} (Halt z) end state events emitted h x n a s l t c = let v = ap (λ (q : Outcome W Er St). q.verdict) n in let no : ⊥ = cc in absurd no
  no_left {W} (Clash z) end state events emitted h x n a s l t c = let v = ap (λ (q : Outcome W Er St). q.verdict) n in let no : ⊥ = cc in absurd no

  stop_left : {W : Type 0} (z : _) (v : Verdict W Er) (end : ℕ) (state : St) (events : List (Event Er))
      (emitted : List Er) (h : Ran merged safe meaning wanted old mid (Err (fault.Stop z)))
      (x : Result (Option W) Fault)
      → let q : Outcome W Er St = record { verdict = v; end = end; state = state; events = events; emitted = emitted } in
      Stops z (begin false mid) q → x ≡ answer v → new.state ≡ state → LeavesBy merged safe v q mid new → new.tokens ≡ mid.tokens → new.context ≡ mid.context
      → (x ≡ Err (fault.Stop z)) × Ran merged safe meaning wanted old new (Err (fault.Stop z))
  stop_left {W} z (Yes u) end state events emitted h x n a s l t c = let v = ap (λ (q : Outcome W Er St). q.verdict) n in let no : ⊥ = cc in absurd no
  stop_left {W} z No end state events emitted h x n a s l t c = let v = ap (λ (q : Outcome W Er St). q.verdict) n in let no : ⊥ = cc in absurd no
  stop_left {W} z (Halt y) end state events emitted h x n a s l t c =
      let o = h.outcome in
      let v = ap (λ (q : Outcome W Er St). q.verdict) n in
      let e : y ≡ z = cc in
      let st : state ≡ mid.state = ap (λ (w : Outcome W Er St). w.state) n in (
        a ∙ ap (λ w. Err (fault.Stop w)) e,
        stops_on meaning wanted old mid new z o.verdict o.end o.state o.events o.emitted h.meant h.answered h.state
            h.left (t ∙ h.same.tokens) (c ∙ h.same.context) (s ∙ st)
            (subst (λ w. first_stop new.stopped w ≡ first_stop mid.stopped w) e l),
      )
  stop_left {W} z (Clash y) end state events emitted h x n a s l t c = let v = ap (λ (q : Outcome W Er St). q.verdict) n in let no : ⊥ = cc in absurd no

  -- after a fault nothing more is run
  pub ran-stands : {W : Type 0} (f : Fault) {y : Result (Option V) Fault} {x : Result (Option W) Fault}
      → Ran merged safe meaning wanted old mid y → y ≡ Err f → Ran merged safe (Standing {V = W} f) false mid new x
      → (x ≡ Err f) × Ran merged safe meaning wanted old new (Err f)
  ran-stands {W} fault.Fail {y} {x} h e r = let q = r.outcome in no_left {W = W} q.verdict q.end q.state q.events q.emitted (rw e at h) x r.meant r.answered r.state r.left r.same.tokens r.same.context
  ran-stands {W} (fault.Stop z) {y} {x} h e r =
      let q = r.outcome in
      stop_left {W = W} z q.verdict q.end q.state q.events q.emitted (rw e at h) x r.meant r.answered r.state r.left
      r.same.tokens r.same.context

module _ {Tok Cx St Er S V W : Type 0} (begins : Meaning Tok Cx St Er S) (gives : S → Meaning Tok Cx St Er (Next S V))
    (next : Option (Next S V) → Meaning Tok Cx St Er W) (rest : Option S → Meaning Tok Cx St Er W)
    (on : (s : S) (c : Beginning Tok Cx St) (r : Outcome W Er St) → Chained (Asked true (gives s)) next c r → rest (Some s) c r) (b : Beginning Tok Cx St) (o : Outcome W Er St) where
  made : (q : Outcome S Er St) (s : S) (p : Outcome (Next S V) Er St) (w : Verdict (Next S V) Er) → p.verdict ≡ w → gives s (record (from b q) { wanted = true }) p → Follows w next b (after q p) o
      → (r : Outcome W Er St) × rest (Some s) (from b q) r × (o ≡ after q r)
  made q s p (Yes v) e g f = (
    after p f.0,
    on s (from b q) (after p f.0)
        (record { first = p; meant = record { run = g }; follows = subst (λ z. Follows z next (from b q) p (after p f.0)) (sym e) (f.0, f.1, refl) }),
    f.2 ∙ cc (append_assoc q.events p.events f.0.events, append_assoc q.emitted p.emitted f.0.emitted),
  )
  made q s p No e g f = (
    retold No p,
    on s (from b q) (retold No p)
        (record { first = p; meant = record { run = g }; follows = subst (λ z. Follows z next (from b q) p (retold No p)) (sym e) refl }),
    f,
  )
  made q s p (Halt h) e g f = (
    retold (Halt h) p,
    on s (from b q) (retold (Halt h) p)
        (record { first = p; meant = record { run = g }; follows = subst (λ z. Follows z next (from b q) p (retold (Halt h) p)) (sym e) refl }),
    f,
  )
  made q s p (Clash h) e g f = (
    retold (Clash h) p,
    on s (from b q) (retold (Clash h) p)
        (record { first = p; meant = record { run = g }; follows = subst (λ z. Follows z next (from b q) p (retold (Clash h) p)) (sym e) refl }),
    f,
  )

  unmade : (q : Outcome S Er St) (p : Outcome (Next S V) Er St) (w : Verdict S Er) → q.verdict ≡ w
      → begins (record b { wanted = true }) q → Follows w (GivesMade begins gives) (record b { wanted = true }) q p
      → Follows p.verdict next b p o → Chained (Asked true begins) rest b o
  unmade q p (Yes (Some s)) e m f g =
      let k : Follows f.0.verdict next b (after q f.0) o = subst (λ (z : Outcome (Next S V) Er St). Follows z.verdict next b z o) f.2 g in
      record { first = q; meant = record { run = m }; follows = subst (λ z. Follows z rest b q o) (sym e) (made q s f.0 f.0.verdict refl f.1 k) }
  unmade q p (Yes None) e m f g = absurd f.1
  unmade q p No e m f g =
      let k : o ≡ retold No q = subst (λ (z : Outcome (Next S V) Er St). Follows z.verdict next b z o) f g in
      record { first = q; meant = record { run = m }; follows = subst (λ z. Follows z rest b q o) (sym e) k }
  unmade q p (Halt h) e m f g =
      let k : o ≡ retold (Halt h) q = subst (λ (z : Outcome (Next S V) Er St). Follows z.verdict next b z o) f g in
      record { first = q; meant = record { run = m }; follows = subst (λ z. Follows z rest b q o) (sym e) k }
  unmade q p (Clash h) e m f g =
      let k : o ≡ retold (Clash h) q = subst (λ (z : Outcome (Next S V) Er St). Follows z.verdict next b z o) f g in
      record { first = q; meant = record { run = m }; follows = subst (λ z. Follows z rest b q o) (sym e) k }

  -- one part and then another, and what follows both, as one part, and then the other with what follows
  pub regrouped : Chained (Asked true (GivesFirst begins gives)) next b o → Chained (Asked true begins) rest b o
  regrouped m =
      let c = m.meant.run in
      unmade c.first m.first c.first.verdict refl c.meant.run c.follows m.follows

module _ {Tok Cx St Er S V W : Type 0} (begins : Meaning Tok Cx St Er S) (gives : S → Meaning Tok Cx St Er (Next S V))
    (next : Option (Next S V) → Meaning Tok Cx St Er W) (rest : Option S → Meaning Tok Cx St Er W)
    (on : (s : S) (c : Beginning Tok Cx St) (r : Outcome W Er St) → Chained (Asked true (Succeeding (gives s))) next c r → rest (Some s) c r) (b : Beginning Tok Cx St) (o : Outcome W Er St) where
  unmade_yes : (q : Outcome S Er St) (p : Outcome (Next S V) Er St) (u : Option (Next S V)) → p.verdict ≡ Yes u
      → (w : Verdict S Er) → q.verdict ≡ w → begins (record b { wanted = true }) q
      → Follows w (GivesMade begins gives) (record b { wanted = true }) q p → Follows p.verdict next b p o
      → Chained (Asked true (Succeeding begins)) rest b o
  unmade_yes q p u y (Yes (Some s)) e m f g =
      let k : Follows f.0.verdict next b (after q f.0) o = subst (λ (z : Outcome (Next S V) Er St). Follows z.verdict next b z o) f.2 g in
      let d : f.0.verdict ≡ Yes u = sym (ap (λ (z : Outcome (Next S V) Er St). z.verdict) f.2) ∙ y in
      record {
        first = q;
        meant = record { run = record { meant = m; value = Some s; is = e } };
        follows = subst (λ z. Follows z rest b q o) (sym e) (made begins (λ s. Succeeding (gives s)) next rest on b o q s f.0 f.0.verdict refl (record { meant = f.1; value = u; is = d }) k);
      }
  unmade_yes q p u y (Yes None) e m f g = absurd f.1
  unmade_yes q p u y No e m f g = let v = ap (λ (z : Outcome (Next S V) Er St). z.verdict) f in let no : ⊥ = cc in absurd no
  unmade_yes q p u y (Halt h) e m f g = let v = ap (λ (z : Outcome (Next S V) Er St). z.verdict) f in let no : ⊥ = cc in absurd no
  unmade_yes q p u y (Clash h) e m f g = let v = ap (λ (z : Outcome (Next S V) Er St). z.verdict) f in let no : ⊥ = cc in absurd no

  -- the same where both parts said yes
  pub regrouped_yes : Chained (Asked true (Succeeding (GivesFirst begins gives))) next b o → Chained (Asked true (Succeeding begins)) rest b o
  regrouped_yes m =
      let c = m.meant.run.meant in
      unmade_yes c.first m.first m.meant.run.value m.meant.run.is c.first.verdict refl c.meant.run c.follows m.follows

pub yes_of : {V Er : Type 0} (w : Verdict V Er) (v : Option V) → Ok v ≡ answer w → w ≡ Yes v
yes_of (Yes u) v e = cc
yes_of No v e = let no : ⊥ = cc in absurd no
yes_of (Halt z) v e = let no : ⊥ = cc in absurd no
yes_of (Clash z) v e = let no : ⊥ = cc in absurd no

module _ {Tok Cx St Er V : Type 0} {merged : Er → Er → Er} {safe : Type 0} {meaning : Meaning Tok Cx St Er V} {wanted : Bool} {old new : Held Tok Cx St Er} where
  -- a run with a value is one of an outcome that says yes
  pub ran-succeeding : {v : Option V} → Ran merged safe meaning wanted old new (Ok v) → Ran merged safe (Succeeding meaning) wanted old new (Ok v)
  ran-succeeding {v} h =
      record {
        outcome = h.outcome;
        meant = record { meant = h.meant; value = v; is = yes_of h.outcome.verdict v h.answered };
        answered = h.answered;
        state = h.state;
        left = h.left;
        same = h.same;
      }

module _ {Tok Cx St Er S V : Type 0} (begins : Meaning Tok Cx St Er S) (gives : S → Meaning Tok Cx St Er (Next S V)) (ending : Meaning Tok Cx St Er (Unit {0})) where
  -- what is left of a run: items are asked for by calls that gave this, after n items
  abbrev pub Remains : List (Option V) → ℕ → Phase S → Meaning Tok Cx St Er (Unit {0})
  Remains rs n Unbegun = WholeWalk begins gives ending rs
  Remains rs n (Running s) = WalkFrom begins gives ending rs n s
  Remains rs n Ended = ending
  Remains rs n (Refused f) = Standing f

  -- a step, and then the calls after it
  abbrev Called_on : Option V → List (Option V) → ℕ → Meaning Tok Cx St Er (Next S V) → Meaning Tok Cx St Er (Unit {0})
  Called_on r rs n step = Chained (Asked true (RanFor r step)) (AfterCall r n (WalkFrom begins gives ending rs (n + 1)) ending)

  whole_first : (r : Option V) (rs : List (Option V)) (b : Beginning Tok Cx St) (o : Outcome (Unit {0}) Er St)
      → Called_on r rs 0 (GivesFirst begins gives) b o → WholeWalk begins gives ending (r ∷ rs) b o
  whole_first (Some x) rs b o m = regrouped_yes begins gives (AfterCall (Some x) 0 (WalkFrom begins gives ending rs 1) ending) (WalkMade begins gives ending (Some x ∷ rs)) (λ s c t z. z) b o m
  whole_first None rs b o m = regrouped begins gives (AfterCall None 0 (WalkFrom begins gives ending rs 1) ending) (WalkMade begins gives ending (None ∷ rs)) (λ s c t z. z) b o m

module _ {Tok Cx St Er S V : Type 0} (merged : Er → Er → Er) (safe : Type 0) (begins : Meaning Tok Cx St Er S)
    (gives : S → Meaning Tok Cx St Er (Next S V)) (ending : Meaning Tok Cx St Er (Unit {0})) where
  module _ (rs : List (Option V)) (n : ℕ) (old mid new : Held Tok Cx St Er) (x : Result (Option (Unit {0})) Fault) where
    abbrev On : Option V → Meaning Tok Cx St Er (Next S V) → Type 0
    On r step = Ran merged safe (Called_on begins gives ending r rs n step) false old new x

    counted_on : (step : Meaning Tok Cx St Er (Next S V)) (fit : Bool) → nat_lt (n + 1) (2 ^ 64) ≡ fit
        → (s : S) (v : V) (r : Option V) (p : Phase S) (m : ℕ)
        → MatchBool fit ((r ≡ Some v) × (p ≡ Running s) × (m ≡ n + 1)) ((r ≡ None) × (p ≡ Refused (fault.Stop CountTooLarge)) × (m ≡ n))
        → Ran merged safe step true old mid (Ok (Some (More (Some v) s))) → Ran merged safe (Remains begins gives ending rs m p) false mid new x → On r step
    counted_on step true e s v r p m h k g =
        let on : Ran merged safe (WalkFrom begins gives ending rs (n + 1) s) false mid new x = rw (h.1, h.2) at g in
        let next : Ran merged safe
        (AfterCall (Some v) n (WalkFrom begins gives ending rs (n + 1)) ending (Some (More (Some v) s))) false mid
        new x =
        ran-weaker merged safe (WalkFrom begins gives ending rs (n + 1) s) _ false mid new x (λ o t. (refl, e, t))
        on in
        subst (λ q. On q step) (sym h.0) (chained (ran-asked (ran-succeeding k)) refl next)
    counted_on step false e s v r p m h k g =
        let on : Ran merged safe (Stops CountTooLarge) false mid new x = rw (h.1) at g in
        let next : Ran merged safe
        (AfterCall None n (WalkFrom begins gives ending rs (n + 1)) ending (Some (More (Some v) s))) false mid new
        x =
        ran-weaker merged safe (Stops CountTooLarge) _ false mid new x (λ o t. (e, t)) on in
        subst (λ q. On q step) (sym h.0) (chained (ran-asked k) refl next)

    -- a step, and then what is left
    steps_on : (step : Meaning Tok Cx St Er (Next S V)) (a : Result (Option (V × S)) Fault) (r : Option V) (p : Phase S) (m : ℕ)
        → Ran merged safe step true old mid (with_next a) → GivesCounted n a r p m
        → Ran merged safe (Remains begins gives ending rs m p) false mid new x → On r step
    steps_on step (Ok (Some y)) r p m h c g = counted_on step (nat_lt (n + 1) (2 ^ 64)) refl y.1 y.0 r p m c h g
    steps_on step (Ok None) r p m h c g =
        let on : Ran merged safe ending false mid new x = rw (c.1) at g in
        subst (λ q. On q step) (sym c.0) (chained (ran-asked h) refl on)
    steps_on step (Err f) r p m h c g =
        let failing : Ran merged safe (Called_on begins gives ending None rs n step) false old mid (Err f) = failed (ran-asked h) refl refl in
        let z = ran-stands f failing refl (rw (c.1) at g) in
        subst (λ q. On q step) (sym c.0) (rw (z.0) (z.1))

  -- a call of `next`, and then what is left
  walks_on : (rs : List (Option V)) (n : ℕ) (old mid new : Held Tok Cx St Er) (x : Result (Option (Unit {0})) Fault)
      (p q : Phase S) (r : Option V) (m : ℕ)
      → (p ≡ Unbegun → n ≡ 0) → WalksOn merged safe begins gives p old n r q mid m
      → Ran merged safe (Remains begins gives ending rs m q) false mid new x
      → Ran merged safe (Remains begins gives ending (r ∷ rs) n p) false old new x
  walks_on rs n old mid new x Unbegun q r m z w g =
      let e : n ≡ 0 = z refl in
      let all : Ran merged safe (Called_on begins gives ending r rs n (GivesFirst begins gives)) false old new x =
      steps_on rs n old mid new x (GivesFirst begins gives) w.answer r q m w.ran w.counted g in
      ran-weaker merged safe (Called_on begins gives ending r rs 0 (GivesFirst begins gives))
      (WholeWalk begins gives ending (r ∷ rs)) false old new x
      (λ o y. whole_first begins gives ending r rs (begin false old) o y) (rw e at all)
  walks_on rs n old mid new x (Running s) q r m z w g = steps_on rs n old mid new x (gives s) w.answer r q m w.ran w.counted g
  walks_on rs n old mid new x Ended q r m z w g = rw (w.1, w.2) at g
  walks_on rs n old mid new x (Refused f) q r m z w g = rw (w.1, w.2) at g

  begun_by : (fit : Bool) (y : V × S) (r : Option V) (q : Phase S) (n m : ℕ)
      → MatchBool fit ((r ≡ Some y.0) × (q ≡ Running y.1) × (m ≡ n + 1)) ((r ≡ None) × (q ≡ Refused (fault.Stop CountTooLarge)) × (m ≡ n))
      → q ≡ Unbegun → ⊥
  begun_by true y r q n m h e = let f = h.1 in cc
  begun_by false y r q n m h e = let f = h.1 in cc

  counted_begun : (a : Result (Option (V × S)) Fault) (n : ℕ) (r : Option V) (q : Phase S) (m : ℕ) → GivesCounted n a r q m → q ≡ Unbegun → ⊥
  counted_begun (Ok (Some y)) n r q m c e = begun_by (nat_lt (n + 1) (2 ^ 64)) y r q n m c e
  counted_begun (Ok None) n r q m c e = let f = c.1 in cc
  counted_begun (Err z) n r q m c e = let f = c.1 in cc

  -- after a call an iteration was made, or the run has ended
  begun : (p : Phase S) (old mid : Held Tok Cx St Er) (n : ℕ) (r : Option V) (q : Phase S) (m : ℕ) → WalksOn merged safe begins gives p old n r q mid m → q ≡ Unbegun → ⊥
  begun Unbegun old mid n r q m w e = counted_begun w.answer n r q m w.counted e
  begun (Running s) old mid n r q m w e = counted_begun w.answer n r q m w.counted e
  begun Ended old mid n r q m w e = let f = w.1 in cc
  begun (Refused z) old mid n r q m w e = let f = w.1 in cc

module _ {Tok Cx St Er S V T K : Type 0} {merged : Er → Er → Er} {safe : Type 0} (begins : K → Meaning Tok Cx St Er S)
    (gives : K → S → Meaning Tok Cx St Er (Next S V)) (ending : Meaning Tok Cx St Er (Unit {0}))
    (nexts : T → Option V → T → Type 0) (key : T → K) (phase : T → Phase S) (holds : T → Held Tok Cx St Er) (given : T → ℕ)
    (walks : (w : T) (r : Option V) (v : T) → nexts w r v → (key v ≡ key w) × WalksOn merged safe (begins (key w)) (gives (key w)) (phase w) (holds w) (given w) r (phase v) (holds v) (given v)) where
  -- calls of `next`, and then what is left
  pub calls : (rs : List (Option V)) (w v : T) (new : Held Tok Cx St Er) (x : Result (Option (Unit {0})) Fault) → (phase w ≡ Unbegun → given w ≡ 0) → Called nexts w rs v
      → Ran merged safe (Remains (begins (key v)) (gives (key v)) ending [] (given v) (phase v)) false (holds v) new x
      → Ran merged safe (Remains (begins (key w)) (gives (key w)) ending rs (given w) (phase w)) false (holds w) new x
  calls [] w v new x i c h = subst (λ z. Ran merged safe (Remains (begins (key z)) (gives (key z)) ending [] (given z) (phase z)) false (holds z) new x) (sym c) h
  calls (r ∷ rs) w v new x i c h =
      let u = c.0 in
      let k = walks w r u c.1 in
      let rest = calls rs u v new x (λ e. absurd (begun merged safe (begins (key w)) (gives (key w)) ending (phase w) (holds w) (holds u) (given w) r (phase u) (given u) k.1 e)) c.2 h in
      let same : Ran merged safe (Remains (begins (key w)) (gives (key w)) ending rs (given u) (phase u)) false (holds u) new x =
      subst
      (λ z. Ran merged safe (Remains (begins z) (gives z) ending rs (given u) (phase u)) false (holds u) new x)
      k.0 rest in
      walks_on merged safe (begins (key w)) (gives (key w)) ending rs (given w) (holds w) (holds u) new x (phase w) (phase u) r (given u) i k.1 same

module _ {I Tok Sp Cu Er St Mk Cx S V K : Type 0} (source : input_trait.Ghosts I Cu Tok Sp)
    (errors : error_trait.Ghosts Er I Tok Sp) (states : inspector_trait.Ghosts St I Mk Tok Sp)
    (begins : K → Meaning Tok Cx states.Seen errors.Seen S)
    (gives : K → S → Meaning Tok Cx states.Seen errors.Seen (Next S V)) where
  closing_remains : (k : K) (n : ℕ) (p : Phase S) (old new : Held Tok Cx states.Seen errors.Seen) (x : Result (Option (Unit {0})) Fault)
      → Ran errors.merged errors.takes_no_memory (Closing source errors states p) false old new x
      → Ran errors.merged errors.takes_no_memory (Remains (begins k) (gives k) (MeansEnd source errors states) [] n p) false old new x
  closing_remains k n Unbegun old new x h = h
  closing_remains k n (Running s) old new x h = h
  closing_remains k n Ended old new x h = h
  closing_remains k n (Refused fault.Fail) old new x h = h
  closing_remains k n (Refused (fault.Stop z)) old new x h = h

  module _ {T R : Type 0} (nexts : T → Option V → T → Type 0) (key : T → K) (phase : T → Phase S) (holds : T → Held Tok Cx states.Seen errors.Seen) (given : T → ℕ)
      (walks : (w : T) (r : Option V) (v : T) → nexts w r v
      → (key v ≡ key w)
      × WalksOn errors.merged errors.takes_no_memory (begins (key w)) (gives (key w)) (phase w) (holds w)
      (given w) r (phase v) (holds v) (given v))
    where
      -- what is answered at the end is answered of the whole
      pub finish-whole : (rs : List (Option V)) (w v : T) → phase w ≡ Unbegun → given w ≡ 0 → (holds w).kept ≡ None
          → (holds w).emitted ≡ [] → Called nexts w rs v
          → AnswersTheWhole source errors states (begins (key w)) (gives (key w)) R (holds w) rs (phase v) (holds v)
      finish-whole rs w v u z k e h out state result f =
          let c = f.closes in
          let x = without_value c.answer in
          let end = closing_remains (key v) (given v) (phase v) (holds v) c.mid x c.ran in
          let all = calls {merged = errors.merged} {safe = errors.takes_no_memory} begins gives (MeansEnd source errors states) nexts key phase holds given walks rs w v c.mid x (λ _. z) h end in
          let whole : Ran errors.merged errors.takes_no_memory (WholeWalk (begins (key w)) (gives (key w)) (MeansEnd source errors states) rs) false (holds w) c.mid x =
          subst (λ p. Ran errors.merged errors.takes_no_memory (Remains (begins (key w)) (gives (key w)) (MeansEnd source errors states) rs (given w) p) false (holds w) c.mid x) u all in
          answers-whole source errors states k e (record { answer = c.answer; mid = c.mid; left = c.left; ran = whole; settles = c.settles; state_is = c.state_is; found_is = c.found_is }) f.replies
