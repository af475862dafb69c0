-- What parsers of text leave.
use Rattle.std.proofs.Common.{◌≡◌, ℕ, ◌+◌, Bool, true, false, Option, Some, None, List, [], ◌∷◌, refl, sym, ◌∙◌, ap, subst, arith, Result, Ok, Err, inl, inr, option_to_list}
use Rattle.std.specs.Prelude.{slice_get, slice_range}
use Rattle.std.proofs.lemmas.List.{append-nil}
use Rattle.chumsky_input.specs.Layout.{Layout}
use Rattle.chumsky_input.specs.declared.error.Error as error_trait
use Rattle.chumsky_input.specs.declared.inspector.Inspector as inspector_trait
use Rattle.chumsky_input.specs.declared.input.Input as input_trait
use Rattle.chumsky_input.specs.declared.stop.Fault.{Fault}
use Rattle.chumsky_input.specs.declared.stop.Fault.TheVariants as fault
use Rattle.chumsky_input.specs.declared.stop.Stop.TheVariants.{Memory}
use Rattle.chumsky_input.specs.Held.{Held, first_stop}
use Rattle.chumsky_input.specs.Outcome.{Event, Meaning, Outcome, Yes, Halt, Clash, HasEventAt}
use Rattle.chumsky_input.specs.Run.{Ran, begin, Adds, Fails}
use Rattle.chumsky_input.specs.Wanted.{Wanted}
use Rattle.chumsky_parser.specs.Chained.{Chained, Given}
use Rattle.chumsky_parser.specs.Failure.{IsWanted, Misses, expects}
use Rattle.chumsky_parser.proofs.ChainedLemmas.{ran-weaker, ran-moved, ran-chained, ran-chained_err, ran-given}
use Rattle.chumsky_parser.proofs.FailureLemmas.{ran-yes, ran-misses}
use Rattle.chumsky_primitive.specs.OneOf.{passes}
use Rattle.chumsky_text.specs.Leading.{run_end, run_state, one_more, one_end, one_state, is_empty, ran_on, expected_at, EndsRun, Begins, StepsBy}
use Rattle.chumsky_text.specs.TextRun.{Cut, RunsOn, TakesOne, SpelledBy, Spells, MeansRun, AfterToken, AfterFirst, MeansBegun, MeansWord, MeansNewline, MeansKeyword, SkipsRun, MeansPadded}

none_more : {Tok : Type 0} (test : Tok → Bool) (t : Option Tok) → passes test t ≡ false → one_more test t ≡ []
none_more test None p = refl
none_more test (Some t) p = rw p refl

module _ {Tok Cx St Er : Type 0} (after : St → Tok → St) (test : Tok → Bool) where
  pub place_of : (old new : Held Tok Cx St Er) → new ≡ ran_on after test old → new.place ≡ run_end test old.tokens old.place
  place_of old new e = ap (λ (h : Held Tok Cx St Er). h.place) e

  -- at most one more token is taken
  abbrev one_on : Held Tok Cx St Er → Held Tok Cx St Er
  one_on h = record h { place = one_end test h.tokens h.place; state = one_state after test h.tokens h.place h.state }

  stepped : (r : Bool) (old new : Held Tok Cx St Er) → StepsBy after test r old new → new ≡ one_on old
  stepped true old new s =
      let more : one_more test (slice_get old.tokens.list old.place) ≡ s.0 ∷ [] = rw (s.1, s.2) refl in
      s.3 ∙ rw more refl
  stepped false old new s =
      let more : one_more test (slice_get old.tokens.list old.place) ≡ [] = none_more test (slice_get old.tokens.list old.place) s.0 in
      s.1 ∙ rw more (let z : old.place + 0 ≡ old.place = omega arith in rw z refl)

module _ {I Tok Sp Cu Er Cx St : Type 0} (source : input_trait.Ghosts I Cu Tok Sp) (errors : error_trait.Ghosts Er I Tok Sp) where
  -- at the end of a run nothing is expected
  pub ends_quietly : (what : List (Wanted Tok)) (h : Held Tok Cx St errors.Seen) → true ≡ is_empty what → EndsRun source errors what h h fault.Fail
  ends_quietly [] h e = (refl, refl)
  ends_quietly (w ∷ ws) h e = let no : ⊥ = cc in absurd no

  -- something is
  pub ends_told : (what : List (Wanted Tok)) (old new : Held Tok Cx St errors.Seen) (f : Fault) → false ≡ is_empty what
      → Fails errors.merged errors.takes_no_memory (expected_at source errors what old.tokens old.place) old new f → EndsRun source errors what old new f
  ends_told [] old new f e a = let no : ⊥ = cc in absurd no
  ends_told (w ∷ ws) old new f e a = a

  -- a stop there is one for memory
  pub ends_memory : (what : List (Wanted Tok)) (old new : Held Tok Cx St errors.Seen) (f : Fault)
      → (f ≡ fault.Fail → ⊥) → EndsRun source errors what old new f
      → EndsRun source errors what old new (fault.Stop Memory)
  ends_memory [] old new f n a = absurd (n a.0)
  ends_memory (w ∷ ws) old new fault.Fail n a = absurd (n refl)
  ends_memory (w ∷ ws) old new (fault.Stop s) n (inl a) = inl (refl, a.1, a.2, a.3)
  ends_memory (w ∷ ws) old new (fault.Stop s) n (inr a) = inr (refl, a.1, a.2)

module _ {I Tok Sp Cu Er St Mk Cx W : Type 0} (source : input_trait.Ghosts I Cu Tok Sp)
    (is : Layout Tok → ℕ → ℕ → W → Type 0) (errors : error_trait.Ghosts Er I Tok Sp)
    (states : inspector_trait.Ghosts St I Mk Tok Sp) where
  module _ (w : Bool) (old mid : Held Tok Cx states.Seen errors.Seen) (from end : ℕ) (state : states.Seen)
      (v : Option W) (k : IsWanted (is old.tokens from end) w v)
      (moved : mid ≡ record old { place = end; state = state }) where
    abbrev whole : Event errors.Seen → Outcome W errors.Seen states.Seen
    whole e = record { verdict = Yes v; end = end; state = state; events = e ∷ []; emitted = [] }

    goes : (x : Wanted Tok) (xs : List (Wanted Tok)) (new : Held Tok Cx states.Seen errors.Seen) → let e = expected_at source errors (x ∷ xs) old.tokens end in
        Fails errors.merged errors.takes_no_memory e (record old { place = end; state = state }) new fault.Fail
        → Ran errors.merged errors.takes_no_memory (Cut source is errors states (x ∷ xs) from end state) w old new (Ok v)
    goes x xs new (inl a) =
        record {
          outcome = whole (expected_at source errors (x ∷ xs) old.tokens end);
          meant = record { value = v; is_value = k; outcome = inr (inl refl) };
          answered = refl;
          state = ap (λ (h : Held Tok Cx states.Seen errors.Seen). h.state) a;
          left =
              record {
                end = ap (λ (h : Held Tok Cx states.Seen errors.Seen). h.place) a;
                kept = ap (λ (h : Held Tok Cx states.Seen errors.Seen). h.kept) a;
                emitted = ap (λ (h : Held Tok Cx states.Seen errors.Seen). h.emitted) a ∙ sym (append-nil old.emitted);
                stopped = ap (λ (h : Held Tok Cx states.Seen errors.Seen). h.stopped) a;
              };
          same = record { tokens = ap (λ (h : Held Tok Cx states.Seen errors.Seen). h.tokens) a; context = ap (λ (h : Held Tok Cx states.Seen errors.Seen). h.context) a };
        }
    goes x xs new (inr l) = let no : ⊥ = (let z = l.0 in cc) in absurd no

    halts : (x : Wanted Tok) (xs : List (Wanted Tok)) (new : Held Tok Cx states.Seen errors.Seen) → let e = expected_at source errors (x ∷ xs) old.tokens end in
        Fails errors.merged errors.takes_no_memory e (record old { place = end; state = state }) new (fault.Stop Memory)
        → Ran errors.merged errors.takes_no_memory (Cut source is errors states (x ∷ xs) from end state) w old new (Err (fault.Stop Memory))
    halts x xs new (inl a) =
        let e = expected_at source errors (x ∷ xs) old.tokens end in
        record {
          outcome = record (whole e) { verdict = Clash e; events = [] };
          meant = record { value = v; is_value = k; outcome = inr (inr (e, refl, refl)) };
          answered = refl;
          state = ap (λ (h : Held Tok Cx states.Seen errors.Seen). h.state) a.3;
          left = (a.1, subst (HasEventAt end) (sym (append-nil (option_to_list old.kept))) a.2, ap (λ (h : Held Tok Cx states.Seen errors.Seen). first_stop h.stopped Memory) a.3);
          same = record { tokens = ap (λ (h : Held Tok Cx states.Seen errors.Seen). h.tokens) a.3; context = ap (λ (h : Held Tok Cx states.Seen errors.Seen). h.context) a.3 };
        }
    halts x xs new (inr l) =
        record {
          outcome = record (whole (expected_at source errors (x ∷ xs) old.tokens end)) { verdict = Halt Memory; events = [] };
          meant = record { value = v; is_value = k; outcome = inl (l.1, refl, refl) };
          answered = refl;
          state = ap (λ (h : Held Tok Cx states.Seen errors.Seen). h.state) l.2;
          left = ap (λ (h : Held Tok Cx states.Seen errors.Seen). first_stop h.stopped Memory) l.2;
          same = record { tokens = ap (λ (h : Held Tok Cx states.Seen errors.Seen). h.tokens) l.2; context = ap (λ (h : Held Tok Cx states.Seen errors.Seen). h.context) l.2 };
        }

    -- the tokens were taken, and what would have gone on was added as an event
    cut : (what : List (Wanted Tok)) (new : Held Tok Cx states.Seen errors.Seen) → EndsRun source errors what mid new fault.Fail
        → Ran errors.merged errors.takes_no_memory (Cut source is errors states what from end state) w old new (Ok v)
    cut [] new a = rw (a.1 ∙ moved) (ran-yes errors.merged errors.takes_no_memory _ w old v end state (record { value = v; is_value = k; outcome = refl }))
    cut (x ∷ xs) new a = goes x xs new (rw moved at a)

    -- there was no memory for that event
    cut_lacks : (what : List (Wanted Tok)) (new : Held Tok Cx states.Seen errors.Seen) → EndsRun source errors what mid new (fault.Stop Memory)
        → Ran errors.merged errors.takes_no_memory (Cut source is errors states what from end state) w old new (Err (fault.Stop Memory))
    cut_lacks [] new a = let no : ⊥ = (let z = a.0 in cc) in absurd no
    cut_lacks (x ∷ xs) new a = halts x xs new (rw moved at a)

  module _ (test : Tok → Bool) (what : List (Wanted Tok)) (w : Bool)
      (old mid new : Held Tok Cx states.Seen errors.Seen) (v : Option W)
      (k : IsWanted (is old.tokens old.place mid.place) w v) (moved : mid ≡ ran_on states.after test old) where
    run_value : IsWanted (is old.tokens old.place (run_end test old.tokens old.place)) w v
    run_value = rw (place_of states.after test old mid moved) at k

    pub run_ran : EndsRun source errors what mid new fault.Fail → Ran errors.merged errors.takes_no_memory (MeansRun source is errors states test what) w old new (Ok v)
    run_ran a =
        ran-weaker errors.merged errors.takes_no_memory _ _ w old new _ (λ o m. record { run = m })
        (cut w old mid old.place (run_end test old.tokens old.place) (run_state states.after test old.tokens old.place old.state) v run_value moved what new a)

    pub run_lacks : EndsRun source errors what mid new (fault.Stop Memory) → Ran errors.merged errors.takes_no_memory (MeansRun source is errors states test what) w old new (Err (fault.Stop Memory))
    run_lacks a =
        ran-weaker errors.merged errors.takes_no_memory _ _ w old new _ (λ o m. record { run = m })
        (cut_lacks w old mid old.place (run_end test old.tokens old.place) (run_state states.after test old.tokens old.place old.state) v run_value moved what new a)

  module _ (begins : Tok → Bool) (next : Tok → ℕ → Meaning Tok Cx states.Seen errors.Seen W) (what : List (Wanted Tok)) (w : Bool) (old : Held Tok Cx states.Seen errors.Seen) where
    misses_by : (t : Option Tok) (o : Outcome W errors.Seen states.Seen) → passes begins t ≡ false
        → Misses errors.takes_no_memory (expected_at source errors what old.tokens old.place) old.place old.state o
        → AfterFirst source is errors states begins next what t (begin w old) o
    misses_by None o p m = m
    misses_by (Some t) o p m = rw p m

    -- what is there begins nothing
    pub begun_misses : (mid new : Held Tok Cx states.Seen errors.Seen) (f : Fault) → passes begins (slice_get old.tokens.list old.place) ≡ false → mid ≡ old
        → Fails errors.merged errors.takes_no_memory (expected_at source errors what mid.tokens mid.place) mid new f
        → Ran errors.merged errors.takes_no_memory (MeansBegun source is errors states begins next what) w old new (Err f)
    begun_misses mid new f p e a = ran-misses errors.merged errors.takes_no_memory _ w old _ new f (rw e at a) (λ o m. record { by_token = misses_by _ o p m })

    -- a first token was taken, and then what it leads to
    begun : {R : Type 0} {rest_after : Tok → R} {fits : R → Type 0} {r : R}
        (mid new : Held Tok Cx states.Seen errors.Seen) (b : Begins states.after begins rest_after fits old mid r)
        (x : Result (Option W) Fault)
        → Ran errors.merged errors.takes_no_memory (next b.first old.place) w mid new x
        → Ran errors.merged errors.takes_no_memory (MeansBegun source is errors states begins next what) w old new x
    begun mid new b x h =
        let n = b.taken in
        ran-moved (record { tokens = ap (λ (z : Held Tok Cx states.Seen errors.Seen). z.tokens) n; context = ap (λ (z : Held Tok Cx states.Seen errors.Seen). z.context) n })
        (ap (λ (z : Held Tok Cx states.Seen errors.Seen). z.kept) n) (ap (λ (z : Held Tok Cx states.Seen errors.Seen). z.emitted) n) (ap (λ (z : Held Tok Cx states.Seen errors.Seen). z.stopped) n)
        (λ o m. record { by_token = rw (b.there, b.passes) (rw n at m) }) h

  module _ {R : Type 0} (holds : R → Tok → Bool) (rest_after : Tok → R) (fits : R → Type 0) (begins : Tok → Bool)
      (what : List (Wanted Tok)) (w : Bool) (old mid there new : Held Tok Cx states.Seen errors.Seen) (r : R)
      (b : Begins states.after begins rest_after fits old mid r) where
    abbrev goes_on : Tok → Tok → Bool
    goes_on t = holds (rest_after t)

    tokens : mid.tokens ≡ old.tokens
    tokens = ap (λ (h : Held Tok Cx states.Seen errors.Seen). h.tokens) b.taken

    module _ (v : Option W) (k : IsWanted (is old.tokens old.place there.place) w v) where
      module _ (wants : R → List (Wanted Tok)) (moved : there ≡ ran_on states.after (holds r) mid) where
        word_value : IsWanted (is mid.tokens old.place (run_end (holds r) mid.tokens mid.place)) w v
        word_value = rw tokens (rw (place_of states.after (holds r) mid there moved, tokens) at k)

        -- a word was begun, and its run was taken
        pub word_ran : EndsRun source errors (wants r) there new fault.Fail
            → Ran errors.merged errors.takes_no_memory (MeansWord source is errors states begins goes_on what (λ t. wants (rest_after t))) w old new (Ok v)
        word_ran a =
            begun begins _ what w old mid new b (Ok v)
            (rw b.rest at (ran-weaker errors.merged errors.takes_no_memory _ (RunsOn source is errors states old.place (holds r) (wants r)) w mid new _ (λ o m. m)
            (cut w mid there old.place (run_end (holds r) mid.tokens mid.place) (run_state states.after (holds r) mid.tokens mid.place mid.state) v word_value moved (wants r) new a)))

        pub word_lacks : EndsRun source errors (wants r) there new (fault.Stop Memory)
            → Ran errors.merged errors.takes_no_memory (MeansWord source is errors states begins goes_on what (λ t. wants (rest_after t))) w old new (Err (fault.Stop Memory))
        word_lacks a =
            begun begins _ what w old mid new b _
            (rw b.rest at (ran-weaker errors.merged errors.takes_no_memory _ (RunsOn source is errors states old.place (holds r) (wants r)) w mid new _ (λ o m. m)
            (cut_lacks w mid there old.place (run_end (holds r) mid.tokens mid.place) (run_state states.after (holds r) mid.tokens mid.place mid.state) v word_value moved (wants r) new a)))

      -- an end of a line was begun, and one more token taken if it belongs to it
      pub newline_ran : (more : Bool) → there ≡ new → StepsBy states.after (holds r) more mid new
          → Ran errors.merged errors.takes_no_memory (MeansNewline source is errors states begins goes_on what) w old new (Ok v)
      newline_ran more e s =
          let on = stepped states.after (holds r) more mid new s in
          let place : there.place ≡ one_end (holds r) mid.tokens mid.place = ap (λ (h : Held Tok Cx states.Seen errors.Seen). h.place) (e ∙ on) in
          let value : IsWanted (is mid.tokens old.place (one_end (holds r) mid.tokens mid.place)) w v = rw tokens (rw (place, tokens) at k) in
          begun begins _ what w old mid new b (Ok v)
          (rw b.rest at (ran-weaker errors.merged errors.takes_no_memory _ (TakesOne source is errors states old.place (holds r)) w mid new _ (λ o m. m)
          (cut w mid new old.place (one_end (holds r) mid.tokens mid.place) (one_state states.after (holds r) mid.tokens mid.place mid.state) v value on [] new (refl, refl))))

      module _ (spells : List Tok → Bool) (moved : there ≡ ran_on states.after (holds r) mid) where
        -- a word was begun, and its run spells the keyword
        pub keyword_ran : spells (slice_range old.tokens.list old.place there.place) ≡ true
            → Ran errors.merged errors.takes_no_memory (MeansKeyword source is errors states spells begins goes_on what) w old there (Ok v)
        keyword_ran spelt =
            let end = run_end (holds r) mid.tokens mid.place in
            let value : IsWanted (is mid.tokens old.place end) w v = rw tokens (rw (place_of states.after (holds r) mid there moved, tokens) at k) in
            let spelled : spells (slice_range mid.tokens.list old.place end) ≡ true = rw tokens (rw (place_of states.after (holds r) mid there moved, tokens) at spelt) in
            begun begins _ what w old mid there b (Ok v)
            (rw b.rest at (ran-weaker errors.merged errors.takes_no_memory _ (Spells source is errors states spells old.place (holds r) what) w mid there _ (λ o m. rw spelled m)
            (cut w mid there old.place end (run_state states.after (holds r) mid.tokens mid.place mid.state) v value moved [] there (refl, refl))))

    module _ (spells : List Tok → Bool) where
      misspelled : (f : Fault) → spells (slice_range mid.tokens.list old.place (run_end (holds r) mid.tokens mid.place)) ≡ false
          → Fails errors.merged errors.takes_no_memory (expects source errors mid.tokens what None old.place (run_end (holds r) mid.tokens mid.place)) (ran_on states.after (holds r) mid) new f
          → Ran errors.merged errors.takes_no_memory (Spells source is errors states spells old.place (holds r) what) w mid new (Err f)
      misspelled f off a =
          ran-moved (record { tokens = refl; context = refl }) refl refl refl (λ o m. rw off m)
          (ran-misses errors.merged errors.takes_no_memory
          (λ b o. Misses errors.takes_no_memory
          (expects source errors mid.tokens what None old.place (run_end (holds r) mid.tokens mid.place))
          (run_end (holds r) mid.tokens mid.place)
          (run_state states.after (holds r) mid.tokens mid.place mid.state) o)
          w (ran_on states.after (holds r) mid) _ new f a (λ o m. m))

      -- a word was begun, and its run does not spell the keyword
      pub keyword_misses : (f : Fault) → there ≡ ran_on states.after (holds r) mid → spells (slice_range old.tokens.list old.place there.place) ≡ false
          → Fails errors.merged errors.takes_no_memory (expects source errors old.tokens what None old.place there.place) there new f
          → Ran errors.merged errors.takes_no_memory (MeansKeyword source is errors states spells begins goes_on what) w old new (Err f)
      keyword_misses f moved off a =
          let wrong : spells (slice_range mid.tokens.list old.place (run_end (holds r) mid.tokens mid.place)) ≡ false =
          rw tokens (rw (place_of states.after (holds r) mid there moved, tokens) at off) in
          let fails : Fails errors.merged errors.takes_no_memory
          (expects source errors mid.tokens what None old.place (run_end (holds r) mid.tokens mid.place))
          (ran_on states.after (holds r) mid) new f =
          rw (sym tokens) at (rw moved at a) in
          begun begins _ what w old mid new b (Err f) (rw b.rest at (misspelled f wrong fails))

module _ {I Tok Sp Er St Mk Cx V : Type 0} (errors : error_trait.Ghosts Er I Tok Sp)
    (states : inspector_trait.Ghosts St I Mk Tok Sp) (test : Tok → Bool)
    (part : Meaning Tok Cx states.Seen errors.Seen V) (w : Bool) (old mid : Held Tok Cx states.Seen errors.Seen)
    (moved : mid ≡ ran_on states.after test old) where
  skips : (o m : Held Tok Cx states.Seen errors.Seen) → m ≡ ran_on states.after test o → Ran errors.merged errors.takes_no_memory (SkipsRun errors states test) w o m (Ok None)
  skips o m e = rw e (ran-yes errors.merged errors.takes_no_memory _ w o None (run_end test o.tokens o.place) (run_state states.after test o.tokens o.place o.state) (record { outcome = refl }))

  pad : {new : Held Tok Cx states.Seen errors.Seen} {r : Result (Option V) Fault}
      → Ran errors.merged errors.takes_no_memory (Chained part (λ v. Chained (SkipsRun errors states test) (λ _. Given v))) w mid new r
      → Ran errors.merged errors.takes_no_memory (MeansPadded errors states test part) w old new r
  pad {new} {r} h =
      ran-weaker errors.merged errors.takes_no_memory _ _ w old new r (λ o m. record { run = m })
      (ran-chained errors.merged errors.takes_no_memory (SkipsRun errors states test)
      (λ _. Chained part (λ v. Chained (SkipsRun errors states test) (λ _. Given v))) w old None mid new r
      (skips old mid moved) h)

  pub padded_failed : {new : Held Tok Cx states.Seen errors.Seen} {x y : Result (Option V) Fault} {f : Fault} → Ran errors.merged errors.takes_no_memory part w mid new x → x ≡ Err f → y ≡ Err f
      → Ran errors.merged errors.takes_no_memory (MeansPadded errors states test part) w old new y
  padded_failed {new} {x} {y} {f} h e d = rw d (pad (ran-chained_err errors.merged errors.takes_no_memory part _ w mid new f (rw e at h)))

  pub padded_given : {there new : Held Tok Cx states.Seen errors.Seen} {x : Result (Option V) Fault} {v : Option V}
      → Ran errors.merged errors.takes_no_memory part w mid there x → x ≡ Ok v → new ≡ ran_on states.after test there
      → Ran errors.merged errors.takes_no_memory (MeansPadded errors states test part) w old new (Ok v)
  padded_given {there} {new} {x} {v} h e n =
      pad (ran-chained errors.merged errors.takes_no_memory part (λ u. Chained (SkipsRun errors states test) (λ _. Given u)) w mid v there new (Ok v) (rw e at h)
      (ran-chained errors.merged errors.takes_no_memory (SkipsRun errors states test) (λ _. Given v) w there None new new (Ok v) (skips there new n) ran-given))
