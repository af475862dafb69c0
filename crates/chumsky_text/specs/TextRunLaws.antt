-- The laws of parsers of text.
use Rattle.std.proofs.Common.{◌≡◌, ℕ, ◌≤◌, ◌<◌, ◌+◌, Bool, true, false, Option, Some, None, List, [], ◌∷◌, refl, sym, ◌∙◌, ap, subst, arith, inl, inr}
use Rattle.std.specs.Prelude.{slice_range, ◌⊎◌}
use Rattle.chumsky_input.specs.Layout.{Layout}
use Rattle.chumsky_input.specs.declared.error.Error as error_trait
use Rattle.chumsky_input.specs.declared.inspector.Inspector as inspector_trait
use Rattle.chumsky_input.specs.declared.input.Input as input_trait
use Rattle.chumsky_input.specs.Outcome.{Event, Meaning, Beginning, Outcome, Yes, No, IsAnswer, Alike, Agree, EndsAfterStart, Agreeing}
use Rattle.chumsky_input.specs.Wanted.{Wanted}
use Rattle.chumsky_parser.specs.Chained.{Chained, Given}
use Rattle.chumsky_parser.specs.Failure.{Misses}
use Rattle.chumsky_parser.specs.FailureLaws.{misses-agree, misses-ends, wanted-same, SameUnit}
use Rattle.chumsky_parser.specs.Laws.{chained-ends, chained-agrees, given-ends, given-agrees}
use Rattle.chumsky_judge.specs.JudgedLaws.{or_lacks-whole}
use Rattle.chumsky_text.specs.Leading.{run_end, run_state, one_end, one_state, expected_at}
use Rattle.chumsky_text.specs.TextRun.{EndsBy, Cut, RunsOn, TakesOne, SpelledBy, Spells, MeansRun, AfterToken, AfterFirst, MeansBegun, MeansWord, MeansNewline, MeansKeyword, SkipsRun, MeansPadded}
use Rattle.chumsky_parser.specs.Progress.{Moves}
use Rattle.chumsky_parser.specs.ProgressLaws.{chained-first, chained-second}

-- each answer is no, or ends past its start
abbrev pub NoOrMoves : {Tok Cx St Er V : Type 0} → Meaning Tok Cx St Er V → Type 0
NoOrMoves {Tok} {Cx} {St} {Er} {V} m = (b : Beginning Tok Cx St) (o : Outcome V Er St) → m b o → IsAnswer o.verdict → (o.verdict ≡ No) ⊎ (b.start < o.end)

module _ {V Er St : Type 0} {safe : Type 0} {e : Event Er} {end : ℕ} {s : St} {o : Outcome V Er St} where
  miss-no : Misses safe e end s o → IsAnswer o.verdict → o.verdict ≡ No
  miss-no (inl r) a = absurd (subst IsAnswer r.1 a)
  miss-no (inr f) a = elim f.by [ inl h ↦ h.0 | inr h ↦ absurd (subst IsAnswer h.0 a) ]

module _ {I Tok Sp Cu Er : Type 0} (source : input_trait.Ghosts I Cu Tok Sp) (errors : error_trait.Ghosts Er I Tok Sp) where
  -- the events of a run that ended
  abbrev ended : List (Wanted Tok) → Layout Tok → ℕ → List (Event errors.Seen)
  ended [] ts p = []
  ended (w ∷ ws) ts p = expected_at source errors (w ∷ ws) ts p ∷ []

  -- an answer is the whole, with its event
  ends_by-whole : {S W : Type 0} (what : List (Wanted Tok)) (ts : Layout Tok) (v : Option W) (end : ℕ) (state : S) (o : Outcome W errors.Seen S)
      → EndsBy source errors what ts (record { verdict = Yes v; end = end; state = state; events = []; emitted = [] }) o → IsAnswer o.verdict
      → o ≡ record { verdict = Yes v; end = end; state = state; events = ended what ts end; emitted = [] }
  ends_by-whole [] ts v end state o m a = m
  ends_by-whole (w ∷ ws) ts v end state o m a = or_lacks-whole m a

module _ {I Tok Sp Cu Er St Mk Cx W : Type 0} (source : input_trait.Ghosts I Cu Tok Sp)
    (is : Layout Tok → ℕ → ℕ → W → Type 0) (errors : error_trait.Ghosts Er I Tok Sp)
    (states : inspector_trait.Ghosts St I Mk Tok Sp) where
  cut-ends : (what : List (Wanted Tok)) (from end p : ℕ) (state : states.Seen) (b : Beginning Tok Cx states.Seen) (o : Outcome W errors.Seen states.Seen)
      → p ≤ end → Cut source is errors states what from end state b o → IsAnswer o.verdict → p ≤ o.end
  cut-ends what from end p state b o l m a =
      let e = ends_by-whole source errors what b.tokens m.value end state o m.outcome a in
      omega (arith, l, ap (λ (x : Outcome W errors.Seen states.Seen). x.end) e)

  pub run-ends : (test : Tok → Bool) (what : List (Wanted Tok)) → EndsAfterStart (MeansRun {Cx = Cx} source is errors states test what)
  run-ends test what b o m a = cut-ends what b.start (run_end test b.tokens b.start) b.start (run_state states.after test b.tokens b.start b.state) b o (omega arith) m.run a

  spelled-ends : (s : Bool) (from : ℕ) (test : Tok → Bool) (what : List (Wanted Tok)) → EndsAfterStart (SpelledBy {Cx = Cx} source is errors states s from test what)
  spelled-ends true from test what b o m a = cut-ends [] from (run_end test b.tokens b.start) b.start (run_state states.after test b.tokens b.start b.state) b o (omega arith) m a
  spelled-ends false from test what b o m a = misses-ends (λ x y. x ≡ y) (omega arith) m a

  module _ (begins : Tok → Bool) (next : Tok → ℕ → Meaning Tok Cx states.Seen errors.Seen W) (what : List (Wanted Tok)) (h : (t : Tok) (from : ℕ) → EndsAfterStart (next t from)) where
    token-ends : (e : Bool) (t : Tok) → EndsAfterStart (AfterToken source is errors states begins next what e t)
    token-ends true t b o m a = let l = h t b.start (record b { start = b.start + 1; state = states.after b.state t }) o m a in omega (arith, l)
    token-ends false t b o m a = misses-ends (λ x y. x ≡ y) (omega arith) m a

    first-ends : (t : Option Tok) → EndsAfterStart (AfterFirst source is errors states begins next what t)
    first-ends None b o m a = misses-ends (λ x y. x ≡ y) (omega arith) m a
    first-ends (Some t) b o m a = token-ends (begins t) t b o m a

    begun-ends : EndsAfterStart (MeansBegun source is errors states begins next what)
    begun-ends b o m a = first-ends _ b o m.by_token a

    -- an answer is no, or a token was taken
    token-moves : (e : Bool) (t : Tok) → NoOrMoves (AfterToken source is errors states begins next what e t)
    token-moves true t b o m a = let l = h t b.start (record b { start = b.start + 1; state = states.after b.state t }) o m a in inr (omega (arith, l))
    token-moves false t b o m a = inl (miss-no m a)

    first-moves : (t : Option Tok) → NoOrMoves (AfterFirst source is errors states begins next what t)
    first-moves None b o m a = inl (miss-no m a)
    first-moves (Some t) b o m a = token-moves (begins t) t b o m a

    begun-moves : NoOrMoves (MeansBegun source is errors states begins next what)
    begun-moves b o m a = first-moves _ b o m.by_token a

  module _ (begins : Tok → Bool) (goes_on : Tok → Tok → Bool) (what : List (Wanted Tok)) where
    pub word-ends : (rest_what : Tok → List (Wanted Tok)) → EndsAfterStart (MeansWord {Cx = Cx} source is errors states begins goes_on what rest_what)
    word-ends rest_what =
        begun-ends begins _ what
        (λ t from b o m a. cut-ends (rest_what t) from (run_end (goes_on t) b.tokens b.start) b.start
        (run_state states.after (goes_on t) b.tokens b.start b.state) b o (omega arith) m a)

    pub word-moves : (rest_what : Tok → List (Wanted Tok)) → NoOrMoves (MeansWord {Cx = Cx} source is errors states begins goes_on what rest_what)
    word-moves rest_what =
        begun-moves begins _ what
        (λ t from b o m a. cut-ends (rest_what t) from (run_end (goes_on t) b.tokens b.start) b.start
        (run_state states.after (goes_on t) b.tokens b.start b.state) b o (omega arith) m a)

    pub newline-moves : NoOrMoves (MeansNewline {Cx = Cx} source is errors states begins goes_on what)
    newline-moves =
        begun-moves begins _ what
        (λ t from b o m a. cut-ends [] from (one_end (goes_on t) b.tokens b.start) b.start
        (one_state states.after (goes_on t) b.tokens b.start b.state) b o (omega arith) m a)

    pub newline-ends : EndsAfterStart (MeansNewline {Cx = Cx} source is errors states begins goes_on what)
    newline-ends =
        begun-ends begins _ what
        (λ t from b o m a. cut-ends [] from (one_end (goes_on t) b.tokens b.start) b.start
        (one_state states.after (goes_on t) b.tokens b.start b.state) b o (omega arith) m a)

  pub keyword-ends : (spells : List Tok → Bool) (begins : Tok → Bool) (goes_on : Tok → Tok → Bool) (what : List (Wanted Tok))
      → EndsAfterStart (MeansKeyword {Cx = Cx} source is errors states spells begins goes_on what)
  keyword-ends spells begins goes_on what =
      begun-ends begins _ what
      (λ t from b o m a. spelled-ends
      (spells (slice_range b.tokens.list from (run_end (goes_on t) b.tokens b.start))) from (goes_on t) what b
      o m a)

  pub keyword-moves : (spells : List Tok → Bool) (begins : Tok → Bool) (goes_on : Tok → Tok → Bool) (what : List (Wanted Tok))
      → NoOrMoves (MeansKeyword {Cx = Cx} source is errors states spells begins goes_on what)
  keyword-moves spells begins goes_on what =
      begun-moves begins _ what
      (λ t from b o m a. spelled-ends
      (spells (slice_range b.tokens.list from (run_end (goes_on t) b.tokens b.start))) from (goes_on t) what b
      o m a)

  module _ (same : W → W → Type 0) (one : (ts : Layout Tok) (i j : ℕ) (v w : W) → is ts i j v → is ts i j w → same v w) where
    cut-agree : (what : List (Wanted Tok)) (from from' end end' : ℕ) (state state' : states.Seen) → from ≡ from' → end ≡ end' → state ≡ state'
        → Agreeing same (Cut {Cx = Cx} source is errors states what from end state) (Cut source is errors states what from' end' state')
    cut-agree what from from' end end' state state' s t u b c o q alike m n a z =
        let there : is b.tokens from end ≡ is c.tokens from' end' = cc (alike.tokens, s, t) in
        let v = wanted-same (is b.tokens from end) same (λ x y. one b.tokens from end x y) b.wanted c.wanted m.value n.value m.is_value (rw there n.is_value) in
        let e : Outcome W errors.Seen states.Seen = record { verdict = Yes m.value; end = end; state = state; events = ended source errors what b.tokens end; emitted = [] } in
        let f : Outcome W errors.Seen states.Seen = record { verdict = Yes n.value; end = end'; state = state'; events = ended source errors what c.tokens end'; emitted = [] } in
        let ef : Agree same e f = record { answer = v; end = t; state = u; events = cc (alike.tokens, t); emitted = refl } in
        rw (ends_by-whole source errors what b.tokens m.value end state o m.outcome a, ends_by-whole source errors what c.tokens n.value end' state' q n.outcome z) ef

    runs-agree : (from from' : ℕ) (test : Tok → Bool) (what : List (Wanted Tok)) → from ≡ from'
        → Agreeing same (RunsOn {Cx = Cx} source is errors states from test what) (RunsOn source is errors states from' test what)
    runs-agree from from' test what s b c o q alike m n a z =
        cut-agree what from from' (run_end test b.tokens b.start) (run_end test c.tokens c.start)
        (run_state states.after test b.tokens b.start b.state)
        (run_state states.after test c.tokens c.start c.state)
        s (cc (alike.tokens, alike.start)) (cc (alike.tokens, alike.start, alike.state)) b c o q alike m n a z

    one-agree : (from from' : ℕ) (test : Tok → Bool) → from ≡ from' → Agreeing same (TakesOne {Cx = Cx} source is errors states from test) (TakesOne source is errors states from' test)
    one-agree from from' test s b c o q alike m n a z =
        cut-agree [] from from' (one_end test b.tokens b.start) (one_end test c.tokens c.start)
        (one_state states.after test b.tokens b.start b.state)
        (one_state states.after test c.tokens c.start c.state)
        s (cc (alike.tokens, alike.start)) (cc (alike.tokens, alike.start, alike.state)) b c o q alike m n a z

    spelled-agree : (e : Bool) (from from' : ℕ) (test : Tok → Bool) (what : List (Wanted Tok)) → from ≡ from'
        → Agreeing same (SpelledBy {Cx = Cx} source is errors states e from test what) (SpelledBy source is errors states e from' test what)
    spelled-agree true from from' test what s b c o q alike m n a z = runs-agree from from' test [] s b c o q alike m n a z
    spelled-agree false from from' test what s b c o q alike m n a z =
        misses-agree same (cc (alike.tokens, alike.start, s)) (cc (alike.tokens, alike.start))
        (cc (alike.tokens, alike.start, alike.state)) m n a z

    pub run-agrees : (test : Tok → Bool) (what : List (Wanted Tok)) → Agreeing same (MeansRun {Cx = Cx} source is errors states test what) (MeansRun source is errors states test what)
    run-agrees test what b c o q alike m n a z = runs-agree b.start c.start test what alike.start b c o q alike m.run n.run a z

    module _ (begins : Tok → Bool) (next : Tok → ℕ → Meaning Tok Cx states.Seen errors.Seen W)
        (what : List (Wanted Tok))
        (h : (t : Tok) (from from' : ℕ) → from ≡ from' → Agreeing same (next t from) (next t from')) where
      token-agree : (e : Bool) (t : Tok) → Agreeing same (AfterToken source is errors states begins next what e t) (AfterToken source is errors states begins next what e t)
      token-agree true t b c o q alike m n a z =
          h t b.start c.start alike.start (record b { start = b.start + 1; state = states.after b.state t }) (record c { start = c.start + 1; state = states.after c.state t }) o q
          (record { tokens = alike.tokens; start = ap (λ p. p + 1) alike.start; context = alike.context; state = ap (λ s. states.after s t) alike.state }) m n a z
      token-agree false t b c o q alike m n a z = misses-agree same (cc (alike.tokens, alike.start)) alike.start alike.state m n a z

      first-agree : (t : Option Tok) → Agreeing same (AfterFirst source is errors states begins next what t) (AfterFirst source is errors states begins next what t)
      first-agree None b c o q alike m n a z = misses-agree same (cc (alike.tokens, alike.start)) alike.start alike.state m n a z
      first-agree (Some t) b c o q alike m n a z = token-agree (begins t) t b c o q alike m n a z

      begun-agrees : Agreeing same (MeansBegun source is errors states begins next what) (MeansBegun source is errors states begins next what)
      begun-agrees b c o q alike m n a z = first-agree _ b c o q alike m.by_token (rw (alike.tokens, alike.start) n.by_token) a z

    pub word-agrees : (begins : Tok → Bool) (goes_on : Tok → Tok → Bool) (what : List (Wanted Tok)) (rest_what : Tok → List (Wanted Tok))
        → Agreeing same (MeansWord {Cx = Cx} source is errors states begins goes_on what rest_what)
        (MeansWord source is errors states begins goes_on what rest_what)
    word-agrees begins goes_on what rest_what = begun-agrees begins _ what (λ t from from' s. runs-agree from from' (goes_on t) (rest_what t) s)

    pub newline-agrees : (begins : Tok → Bool) (goes_on : Tok → Tok → Bool) (what : List (Wanted Tok))
        → Agreeing same (MeansNewline {Cx = Cx} source is errors states begins goes_on what)
        (MeansNewline source is errors states begins goes_on what)
    newline-agrees begins goes_on what = begun-agrees begins _ what (λ t from from' s. one-agree from from' (goes_on t) s)

    pub keyword-agrees : (spells : List Tok → Bool) (begins : Tok → Bool) (goes_on : Tok → Tok → Bool) (what : List (Wanted Tok))
        → Agreeing same (MeansKeyword {Cx = Cx} source is errors states spells begins goes_on what)
        (MeansKeyword source is errors states spells begins goes_on what)
    keyword-agrees spells begins goes_on what = begun-agrees begins _ what (λ t from from' s b c o q alike m n a z.
        let e : spells (slice_range b.tokens.list from (run_end (goes_on t) b.tokens b.start))
        ≡ spells (slice_range c.tokens.list from' (run_end (goes_on t) c.tokens c.start)) =
        cc (alike.tokens, alike.start, s) in
        spelled-agree (spells (slice_range b.tokens.list from (run_end (goes_on t) b.tokens b.start))) from from' (goes_on t) what s b c o q alike m (rw e n) a z)

module _ {I Tok Sp Er St Mk Cx V : Type 0} (errors : error_trait.Ghosts Er I Tok Sp)
    (states : inspector_trait.Ghosts St I Mk Tok Sp) (test : Tok → Bool)
    (part : Meaning Tok Cx states.Seen errors.Seen V) where
  pub skips-ends : EndsAfterStart (SkipsRun {Cx = Cx} errors states test)
  skips-ends b o m a = omega (arith, ap (λ (x : Outcome (Unit {0}) errors.Seen states.Seen). x.end) m.outcome)

  skips-agree : Agreeing SameUnit (SkipsRun {Cx = Cx} errors states test) (SkipsRun {Cx = Cx} errors states test)
  skips-agree b c o q alike m n a z =
      let e : Outcome (Unit {0}) errors.Seen states.Seen =
      record {
        verdict = Yes None;
        end = run_end test b.tokens b.start;
        state = run_state states.after test b.tokens b.start b.state;
        events = [];
        emitted = [];
      }
      in
      let f : Outcome (Unit {0}) errors.Seen states.Seen =
      record {
        verdict = Yes None;
        end = run_end test c.tokens c.start;
        state = run_state states.after test c.tokens c.start c.state;
        events = [];
        emitted = [];
      }
      in
      let ef : Agree SameUnit e f = record { answer = tt; end = cc (alike.tokens, alike.start); state = cc (alike.tokens, alike.start, alike.state); events = refl; emitted = refl } in
      rw (m.outcome, n.outcome) ef

  pub padded-ends : EndsAfterStart part → EndsAfterStart (MeansPadded errors states test part)
  padded-ends h b o m a =
      chained-ends (SkipsRun errors states test) (λ _. Chained part (λ v. Chained (SkipsRun errors states test) (λ _. Given v))) skips-ends
      (λ _. chained-ends part (λ v. Chained (SkipsRun errors states test) (λ _. Given v)) h (λ v. chained-ends (SkipsRun errors states test) (λ _. Given v) skips-ends (λ _. given-ends v))) b o m.run a

  pub padded-agrees : (same : V → V → Type 0) → Agreeing same part part → Agreeing same (MeansPadded errors states test part) (MeansPadded errors states test part)
  padded-agrees same h b c o q alike m n a z =
      chained-agrees (SkipsRun errors states test) (SkipsRun errors states test)
      (λ _. Chained part (λ v. Chained (SkipsRun errors states test) (λ _. Given v)))
      (λ _. Chained part (λ v. Chained (SkipsRun errors states test) (λ _. Given v))) SameUnit same skips-agree
      (λ _ _ _. chained-agrees part part (λ v. Chained (SkipsRun errors states test) (λ _. Given v)) (λ v. Chained (SkipsRun errors states test) (λ _. Given v)) same same h
      (λ v w s. chained-agrees (SkipsRun errors states test) (SkipsRun errors states test) (λ _. Given v)
      (λ _. Given w) SameUnit same skips-agree (λ _ _ _. given-agrees same v w s)))
      b c o q alike m.run n.run a z

module _ {I Tok Sp Er St Mk Cx : Type 0} (errors : error_trait.Ghosts Er I Tok Sp) (states : inspector_trait.Ghosts St I Mk Tok Sp) (test : Tok → Bool) where
  skips-end : EndsAfterStart (SkipsRun {Cx = Cx} errors states test)
  skips-end b o m a = omega (arith, ap (λ (x : Outcome (Unit {0}) errors.Seen states.Seen). x.end) m.outcome)

  -- a part between two runs of tokens
  pub padded-moves : {V : Type 0} (part : Meaning Tok Cx states.Seen errors.Seen V) → Moves part → Moves (MeansPadded errors states test part)
  padded-moves part h b o m y =
      chained-second (SkipsRun errors states test) _ skips-end (λ _. chained-first part _ h (λ v. chained-ends (SkipsRun errors states test) (λ _. Given v) skips-end (λ _. given-ends v))) b o m.run y
