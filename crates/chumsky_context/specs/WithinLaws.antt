-- The laws of runs over the whole of an input that another part gave.
use Rattle.std.proofs.Common.{◌≡◌, ℕ, Bool, true, Option, Some, None, List, [], ◌∷◌, Result, Ok, Err, refl, sym, ◌∙◌, ap, subst, inl, inr, map, option_map, option_to_list, arith}
use Rattle.chumsky_input.specs.Layout.{Layout}
use Rattle.chumsky_input.specs.declared.error.Error as error_trait
use Rattle.chumsky_input.specs.declared.inspector.Inspector as inspector_trait
use Rattle.chumsky_input.specs.declared.input.Input as input_trait
use Rattle.chumsky_input.specs.declared.stop.Fault.{Fault}
use Rattle.chumsky_input.specs.declared.stop.Fault.TheVariants as fault
use Rattle.chumsky_input.specs.Primary.{primary}
use Rattle.chumsky_input.specs.Held.{Held}
use Rattle.chumsky_input.specs.Run.{begin, answer, LeavesBy}
use Rattle.chumsky_input.specs.Outcome.{Meaning, Beginning, Outcome, Verdict, Yes, No, Halt, Clash, IsAnswer, SameValue, SameAnswer, Agree, EndsAfterStart, Agreeing}
use Rattle.chumsky_parser.specs.Chained.{Asked}
use Rattle.chumsky_parser.specs.Laws.{chained-ends, chained-agrees, asked-ends, asked-agrees}
use Rattle.chumsky_parser.specs.Progress.{Moves}
use Rattle.chumsky_parser.specs.ProgressLaws.{asked-moves, chained-first}
use Rattle.chumsky_context.specs.Within.{RunReport, verdict_of, held_at_start, ReportsRun, event_at, outcome_of_report, OrOutOfMemory, Within, RunsWhole, MeansNestedIn, SameOverBoth}

module _ {V Er St : Type 0} where
  -- an outcome that is an answer is told as it is
  answer-told : (whole o : Outcome V Er St) → OrOutOfMemory whole o → IsAnswer o.verdict → o ≡ whole
  answer-told whole o (inl e) a = e
  answer-told whole o (inr (inl c)) a = absurd (subst IsAnswer c.verdict a)
  answer-told whole o (inr (inr r)) a = absurd (subst IsAnswer r.1 a)

-- the same values behind an option, and in a list, where each of them is the same
option-same : {A B C : Type 0} (f : A → B) (g : A → C) → ((x y : A) → f x ≡ f y → g x ≡ g y) → (a b : Option A) → option_map f a ≡ option_map f b → option_map g a ≡ option_map g b
option-same f g h (Some x) (Some y) e = ap Some (h x y cc)
option-same f g h (Some x) None e = let no : ⊥ = cc in absurd no
option-same f g h None (Some y) e = let no : ⊥ = cc in absurd no
option-same f g h None None e = refl

list-same : {A B C : Type 0} (f : A → B) (g : A → C) → ((x y : A) → f x ≡ f y → g x ≡ g y) → (a b : List A) → map f a ≡ map f b → map g a ≡ map g b
list-same f g h (x ∷ xs) (y ∷ ys) e =
    let first : g x ≡ g y = h x y cc in
    let rest : map g xs ≡ map g ys = list-same f g h xs ys cc in
    cc (first, rest)
list-same f g h (x ∷ xs) [] e = let no : ⊥ = cc in absurd no
list-same f g h [] (y ∷ ys) e = let no : ⊥ = cc in absurd no
list-same f g h [] [] e = refl

module _ {V Er : Type 0} (same : V → V → Type 0) (Er' : Type 0) where
  -- answers of the same verdicts
  answer-same : (v w : Verdict V Er) (a b : Result (Option V) Fault) → a ≡ answer v → b ≡ answer w → IsAnswer v
      → IsAnswer w → SameAnswer same v w → SameAnswer same (verdict_of {Er = Er'} a) (verdict_of {Er = Er'} b)
  answer-same (Yes v) (Yes w) a b e d x y s = rw (e, d) s
  answer-same (Yes v) No a b e d x y s = absurd s
  answer-same No (Yes w) a b e d x y s = absurd s
  answer-same No No a b e d x y s = rw (e, d) tt
  answer-same (Halt s) w a b e d x y z = absurd x
  answer-same (Clash s) w a b e d x y z = absurd x
  answer-same v (Halt s) a b e d x y z = absurd y
  answer-same v (Clash s) a b e d x y z = absurd y

module _ {J Tok Sp Cu Er : Type 0} (source : input_trait.Ghosts J Cu Tok Sp) (errors : error_trait.Ghosts Er J Tok Sp) where
  -- the error that is reported of an outcome
  abbrev last_of : {V S : Type 0} → Verdict V errors.Seen → Layout Tok → Outcome V errors.Seen S → Option errors.Seen
  last_of (Yes _) ts o = option_map (λ e. e.error) (primary errors.merged o.events)
  last_of No ts o = option_map (λ e. e.error) (primary errors.merged o.events)
  last_of (Halt _) ts o = None
  last_of (Clash _) ts o = None

  -- what is reported of an answer
  record Tallies {V St S : Type 0} (v : Verdict V errors.Seen) (o : Outcome V errors.Seen S) (ts : Layout Tok) (r : RunReport (Option V) Er St) : Type 0 where
    is_answer : IsAnswer v
    answered : r.answer ≡ answer v
    error : option_map errors.seen r.error ≡ last_of v ts o
    emitted : map errors.seen r.emitted ≡ o.emitted

  -- of outcomes that agree the same error is reported
  last-same : {V S : Type 0} (same : V → V → Type 0) (v w : Verdict V errors.Seen) (ts us : Layout Tok) (o q : Outcome V errors.Seen S)
      → IsAnswer v → IsAnswer w → SameAnswer same v w → ts ≡ us → o.end ≡ q.end → o.events ≡ q.events
      → last_of v ts o ≡ last_of w us q
  last-same same (Yes v) (Yes w) ts us o q a z s t e es = cc es
  last-same same (Yes v) No ts us o q a z s t e es = absurd s
  last-same same No (Yes w) ts us o q a z s t e es = absurd s
  last-same same No No ts us o q a z s t e es = cc es
  last-same same (Halt x) w ts us o q a z s t e es = absurd a
  last-same same (Clash x) w ts us o q a z s t e es = absurd a
  last-same same v (Halt x) ts us o q a z s t e es = absurd z
  last-same same v (Clash x) ts us o q a z s t e es = absurd z

module _ {J Tok Sp Cu Er St Mk Cx V : Type 0} (source : input_trait.Ghosts J Cu Tok Sp) (errors : error_trait.Ghosts Er J Tok Sp) (states : inspector_trait.Ghosts St J Mk Tok Sp) where
  -- an outcome that is an answer, and a report of it
  record AnswersWithin (part : Meaning Tok Cx states.Seen errors.Seen V) (b : Beginning Tok Cx states.Seen) (r : RunReport (Option V) Er St) : Type 0 where
    outcome : Outcome V errors.Seen states.Seen
    meant : part b outcome
    is_answer : IsAnswer outcome.verdict
    answered : r.answer ≡ answer outcome.verdict
    error : option_map errors.seen r.error ≡ last_of source errors outcome.verdict b.tokens outcome
    emitted : map errors.seen r.emitted ≡ outcome.emitted
    state : states.seen r.state ≡ outcome.state

  tallies : (X : Type 0) (v : Verdict V errors.Seen) (a : Result (Option V) Fault)
      (o : Outcome V errors.Seen states.Seen) (input : J) (context : Cx) (state : St)
      (last : Held Tok Cx states.Seen errors.Seen) (r : RunReport (Option V) Er St)
      → a ≡ answer v → LeavesBy errors.merged errors.takes_no_memory v o (held_at_start source errors states input context state) last → last.tokens ≡ source.tokens input
      → ReportsRun source errors states a last r → IsAnswer (verdict_of {Er = X} r.answer) → Tallies source errors v o (source.tokens input) r
  tallies X (Yes v) (Ok x) o input context state last r e l t p q =
      record { is_answer = tt; answered = p.0 ∙ e; error = p.1 ∙ ap (option_map (λ e. e.error)) l.kept; emitted = p.2 ∙ l.emitted }
  tallies X (Yes v) (Err f) o input context state last r e l t p q = let no : ⊥ = cc in absurd no
  tallies X No (Ok x) o input context state last r e l t p q = let no : ⊥ = cc in absurd no
  tallies X No (Err fault.Fail) o input context state last r e l t p q =
      record { is_answer = tt; answered = p.0; error = p.1 ∙ ap (option_map (λ e. e.error)) l.kept; emitted = p.2 ∙ l.emitted }
  tallies X No (Err (fault.Stop s)) o input context state last r e l t p q = let no : ⊥ = cc in absurd no
  tallies X (Halt s) (Ok x) o input context state last r e l t p q = let no : ⊥ = cc in absurd no
  tallies X (Halt s) (Err fault.Fail) o input context state last r e l t p q = let no : ⊥ = cc in absurd no
  tallies X (Halt s) (Err (fault.Stop z)) o input context state last r e l t p q = absurd (subst (λ a. IsAnswer (verdict_of {Er = X} a)) p.0 q)
  tallies X (Clash s) (Ok x) o input context state last r e l t p q = let no : ⊥ = cc in absurd no
  tallies X (Clash s) (Err fault.Fail) o input context state last r e l t p q = let no : ⊥ = cc in absurd no
  tallies X (Clash s) (Err (fault.Stop z)) o input context state last r e l t p q = absurd (subst (λ a. IsAnswer (verdict_of {Er = X} a)) p.0 q)

  -- a run that is reported to answer
  answers : (X : Type 0) (part : Meaning Tok Cx states.Seen errors.Seen V) (wanted : Bool) (input : J) (context : Cx) (state : St) (r : RunReport (Option V) Er St)
      → RunsWhole source errors states part wanted input context state r → IsAnswer (verdict_of {Er = X} r.answer)
      → AnswersWithin part (begin wanted (held_at_start source errors states input context state)) r
  answers X part wanted input context state r w q =
      let o = w.ran.outcome in
      let t = tallies X o.verdict w.answer o input context state w.last r w.ran.answered w.ran.left w.ran.same.tokens w.reported q in
      record { outcome = o; meant = w.ran.meant; is_answer = t.is_answer; answered = t.answered; error = t.error; emitted = t.emitted; state = w.left ∙ w.ran.state }

module _ {J Tok Sp Cu Mk Er St I Tok' Sp' Mk' Cx V : Type 0} (source : input_trait.Ghosts J Cu Tok Sp)
    (errors : error_trait.Ghosts Er J Tok Sp) (states : inspector_trait.Ghosts St J Mk Tok Sp)
    (errors' : error_trait.Ghosts Er I Tok' Sp') (states' : inspector_trait.Ghosts St I Mk' Tok' Sp')
    (inner : Meaning Tok Cx states.Seen errors.Seen V) (outer : Meaning Tok' Cx states'.Seen errors'.Seen J) where
  within-ends : (place : ℕ) (v : Option J) → EndsAfterStart (Within source errors states errors' states' inner place v)
  within-ends place v b o m a =
      let e : o.end ≡ b.start = ap (λ (x : Outcome V errors'.Seen states'.Seen). x.end) (answer-told _ o m.does a) in
      omega (arith, e)

  pub nested_in-ends : EndsAfterStart outer → EndsAfterStart (MeansNestedIn source errors states errors' states' inner outer)
  nested_in-ends f b o m a = chained-ends (Asked true outer) (Within source errors states errors' states' inner b.start) (asked-ends true outer f) (λ v. within-ends b.start v) b o m a

  pub nested_in-moves : Moves outer → Moves (MeansNestedIn source errors states errors' states' inner outer)
  nested_in-moves h b o m y = chained-first (Asked true outer) (Within source errors states errors' states' inner b.start) (asked-moves true outer h) (λ v. within-ends b.start v) b o m y

  -- reports of outcomes that agree are told alike
  told-agrees : (sv : V → V → Type 0) (sj : J → J → Type 0) → SameOverBoth source errors states errors' states' sj → (place place' end end' : ℕ) → place ≡ place' → end ≡ end'
      → (b c : Beginning Tok Cx states.Seen) (r r' : RunReport (Option V) Er St) → b.tokens ≡ c.tokens
      → (x : AnswersWithin source errors states inner b r) (y : AnswersWithin source errors states inner c r')
      → Agree sv x.outcome y.outcome → Agree sv (outcome_of_report errors' states' place end r) (outcome_of_report errors' states' place' end' r')
  told-agrees sv sj count place place' end end' p e b c r r' ts x y h =
      let error : option_map errors.seen r.error ≡ option_map errors.seen r'.error =
      x.error
      ∙ last-same source errors sv x.outcome.verdict y.outcome.verdict b.tokens c.tokens x.outcome y.outcome
      x.is_answer y.is_answer h.answer ts h.end h.events
      ∙ sym y.error in
      let event : option_map (event_at errors'.seen place) r.error ≡ option_map (event_at errors'.seen place) r'.error =
      option-same errors.seen (event_at errors'.seen place)
      (λ a z s. ap (λ q. record { place = place; error = q }) (count.same_errors a z s)) r.error r'.error
      error in
      record {
        answer = answer-same sv errors'.Seen x.outcome.verdict y.outcome.verdict r.answer r'.answer x.answered y.answered x.is_answer y.is_answer h.answer;
        end = e;
        state = count.same_states r.state r'.state (x.state ∙ h.state ∙ sym y.state);
        events = ap option_to_list event ∙ ap (λ q. option_to_list (option_map (event_at errors'.seen q) r'.error)) p;
        emitted = list-same errors.seen errors'.seen count.same_errors r.emitted r'.emitted (x.emitted ∙ h.emitted ∙ sym y.emitted);
      }

  within-agrees : (sv : V → V → Type 0) (sj : J → J → Type 0) → SameOverBoth source errors states errors' states' sj
      → Agreeing sv inner inner → (place place' : ℕ) → place ≡ place' → (v w : Option J) → SameValue sj v w
      → Agreeing sv (Within source errors states errors' states' inner place v) (Within source errors states errors' states' inner place' w)
  within-agrees sv sj count f place place' p v w s b c o q alike m n a z =
      let om = answer-told _ o m.does a in
      let qn = answer-told _ q n.does z in
      let x = answers source errors states errors'.Seen inner b.wanted m.input b.context m.state m.report m.runs (subst (λ (y : Outcome V errors'.Seen states'.Seen). IsAnswer y.verdict) om a) in
      let y = answers source errors states errors'.Seen inner c.wanted n.input c.context n.state n.report n.runs (subst (λ (y : Outcome V errors'.Seen states'.Seen). IsAnswer y.verdict) qn z) in
      let same : sj m.input n.input = subst (λ u. SameValue sj u (Some n.input)) m.is (subst (SameValue sj v) n.is s) in
      let tokens = count.same_tokens m.input n.input same in
      let state : states.seen m.state ≡ states.seen n.state = count.same_states_within m.state n.state (m.begins ∙ alike.state ∙ sym n.begins) in
      let h = f _ _ x.outcome y.outcome (record { tokens = tokens; start = refl; context = alike.context; state = state }) x.meant y.meant x.is_answer y.is_answer in
      let told = told-agrees sv sj count place place' b.start c.start p alike.start _ _ m.report n.report tokens x y h in
      rw (om, qn) told

  pub nested_in-agrees : (sv : V → V → Type 0) (sj : J → J → Type 0) → SameOverBoth source errors states errors' states' sj → Agreeing sv inner inner → Agreeing sj outer outer
      → Agreeing sv (MeansNestedIn source errors states errors' states' inner outer) (MeansNestedIn source errors states errors' states' inner outer)
  nested_in-agrees sv sj count f g b c o q alike m n a z =
      chained-agrees (Asked true outer) (Asked true outer) (Within source errors states errors' states' inner b.start)
      (Within source errors states errors' states' inner c.start) sj sv (asked-agrees true outer sj g)
      (λ v w s. within-agrees sv sj count f b.start c.start alike.start v w s) b c o q alike m n a z
