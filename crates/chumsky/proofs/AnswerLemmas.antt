-- What a whole run answers.
use Rattle.std.proofs.Common.{◌≡◌, ℕ, Bool, true, false, Option, Some, None, List, [], ◌∷◌, ◌++◌, refl, sym, ◌∙◌, ap, subst, Result, Ok, Err, option_to_list, inl, inr, map, IfOk}
use Rattle.chumsky_input.specs.Layout.{Layout}
use Rattle.chumsky_input.specs.declared.error.Error as error_trait
use Rattle.chumsky_input.specs.declared.inspector.Inspector as inspector_trait
use Rattle.chumsky_input.specs.declared.input.Input as input_trait
use Rattle.chumsky_input.specs.declared.stop.Stop.{Stop}
use Rattle.chumsky_input.specs.declared.stop.Fault.{Fault}
use Rattle.chumsky_input.specs.declared.stop.Fault.TheVariants as fault
use Rattle.chumsky_input.specs.Held.{Held}
use Rattle.chumsky_input.specs.Outcome.{Event, Meaning, Outcome, Verdict, Yes, No, Halt, Clash, HasEventAt, Agreeing, Agree, SameValue, SameAnswer, IsAnswer}
use Rattle.chumsky_input.specs.Primary.{primary}
use Rattle.chumsky_input.specs.Run.{Ran, LeavesBy, begin, answer, with_value, without_value, final_error}
use Rattle.chumsky_parser.specs.Language.{Language}
use Rattle.chumsky_parser.specs.declared.result.ParseResult.{ParseResult}
use Rattle.chumsky.specs.Accepted.{AnswersText}
use Rattle.chumsky.specs.Answer.{IsOutput, Reports, Answers, Parses, WholeRun}
use Rattle.chumsky_parser.specs.Settled.{SettlesAs, reported}
use Rattle.chumsky_parser.specs.FailureLaws.{SameUnit}
use Rattle.chumsky_primitive.specs.EndLaws.{end-agrees}
use Rattle.chumsky_parser.specs.Laws.{chained-agrees, given-agrees, asked-agrees}

-- an answer, as a result of the meaning
abbrev pub told : {V W : Type 0} → (W → Option V) → Result W Fault → Result (Option V) Fault
told gives (Ok w) = Ok (gives w)
told gives (Err f) = Err f

pub told-with : {V : Type 0} (a : Result V Fault) → with_value a ≡ told Some a
told-with (Ok v) = refl
told-with (Err f) = refl

pub told-without : {V : Type 0} (a : Result (Unit {0}) Fault) → without_value {V = V} a ≡ told (λ _. None) a
told-without (Ok v) = refl
told-without (Err f) = refl

module _ {I Tok Sp Cu Er St Mk Cx V W : Type 0} (source : input_trait.Ghosts I Cu Tok Sp)
    (errors : error_trait.Ghosts Er I Tok Sp) (states : inspector_trait.Ghosts St I Mk Tok Sp) (gives : W → Option V)
    (ts : Layout Tok) (before mid after : Held Tok Cx states.Seen errors.Seen) where
  -- what is made of what is settled
  abbrev pub Replies : Result (Option W) Stop → Result (ParseResult W Er) Stop → Type 0
  Replies (Ok out) r = (parsed : ParseResult W Er) × (r ≡ Ok parsed) × (parsed.output ≡ out) × (map errors.seen parsed.errors.items ≡ after.emitted)
  Replies (Err e) r = r ≡ Err e

  reports : (v : Verdict V errors.Seen) (end : ℕ) (state : states.Seen) (events : List (Event errors.Seen))
      (emitted : List errors.Seen) (a : Result W Fault) (s : Result (Option W) Stop)
      (r : Result (ParseResult W Er) Stop)
      → let o : Outcome V errors.Seen states.Seen = record { verdict = v; end = end; state = state; events = events; emitted = emitted } in
      told gives a ≡ answer v → LeavesBy errors.merged errors.takes_no_memory v o before mid → SettlesAs errors.expectation source.span_between a mid after s → Replies s r
      → before.kept ≡ None → before.emitted ≡ [] → mid.tokens ≡ ts → Answers source errors (λ v w. v ≡ gives w) ts o r
  reports (Yes v) end state events emitted (Ok x) s r a l t p k e i =
      let q = rw t.0 at p in
      rw q.1 (record { output = rw q.2 cc; errors_are = q.3 ∙ ap (λ (h : Held Tok Cx states.Seen errors.Seen). h.emitted) t.1 ∙ l.emitted ∙ ap (λ z. z ++ emitted) e })
  reports (Yes v) end state events emitted (Err f) s r a l t p k e i = let no : ⊥ = cc in absurd no
  reports No end state events emitted (Ok x) s r a l t p k e i = let no : ⊥ = cc in absurd no
  reports No end state events emitted (Err fault.Fail) s r a l (inl t) p k e i =
      let kept : mid.kept ≡ primary errors.merged events = l.kept ∙ ap (λ z. primary errors.merged (option_to_list z ++ events)) k in
      let last : final_error errors.expectation source.span_between mid.kept mid.tokens mid.place
      ≡ final_error errors.expectation source.span_between (primary errors.merged events) ts end =
      cc (kept, i, l.end) in
      let q = rw t.0 at p in
      rw q.1 (record {
        output = rw q.2 tt;
        errors_are =
            q.3 ∙ ap (λ (h : Held Tok Cx states.Seen errors.Seen). h.emitted) t.1
            ∙ ap (λ z. z ++ final_error errors.expectation source.span_between mid.kept mid.tokens mid.place ∷ [])
            (l.emitted ∙ ap (λ z. z ++ emitted) e)
            ∙ ap (λ z. emitted ++ z ∷ []) last;
      })
  reports No end state events emitted (Err fault.Fail) s r a l (inr t) p k e i = rw (rw t.0 at p) refl
  reports No end state events emitted (Err (fault.Stop z)) s r a l t p k e i = let no : ⊥ = cc in absurd no
  reports (Halt z) end state events emitted (Ok x) s r a l t p k e i = let no : ⊥ = cc in absurd no
  reports (Halt z) end state events emitted (Err fault.Fail) s r a l t p k e i = let no : ⊥ = cc in absurd no
  reports (Halt z) end state events emitted (Err (fault.Stop y)) s r a l t p k e i = rw (rw t.0 at p) cc
  reports (Clash x) end state events emitted (Ok y) s r a l t p k e i = let no : ⊥ = cc in absurd no
  reports (Clash x) end state events emitted (Err fault.Fail) s r a l t p k e i = let no : ⊥ = cc in absurd no
  reports (Clash x) end state events emitted (Err (fault.Stop y)) s r a l t p k e i =
      rw (rw t.0 at p) (cc, l.0, subst (λ z. HasEventAt x.place (option_to_list z ++ events)) k l.1)

  settled_state : (a : Result W Fault) (s : Result (Option W) Stop) → SettlesAs errors.expectation source.span_between a mid after s → after.state ≡ mid.state
  settled_state (Ok v) s t = ap (λ (h : Held Tok Cx states.Seen errors.Seen). h.state) t.1
  settled_state (Err fault.Fail) s (inl t) = ap (λ (h : Held Tok Cx states.Seen errors.Seen). h.state) t.1
  settled_state (Err fault.Fail) s (inr t) = t.1
  settled_state (Err (fault.Stop z)) s t = ap (λ (h : Held Tok Cx states.Seen errors.Seen). h.state) t.1

module _ {V W : Type 0} (same : V → V → Type 0) (gives : W → Option V) where
  output_same : {Es : Type 0} (u v : Verdict V Es) (out : Option W) → SameAnswer same u v → IsAnswer u → IsOutput (λ v w. v ≡ gives w) v out → IsOutput (λ v w. SameValue same v (gives w)) u out
  output_same (Yes u) (Yes v) (Some w) s a i = rw (sym i) s
  output_same (Yes u) (Yes v) None s a i = i
  output_same (Yes u) No out s a i = absurd s
  output_same (Yes u) (Halt z) out s a i = absurd i
  output_same (Yes u) (Clash z) out s a i = absurd i
  output_same No (Yes v) out s a i = absurd s
  output_same No No (Some w) s a i = i
  output_same No No None s a i = tt
  output_same No (Halt z) out s a i = absurd i
  output_same No (Clash z) out s a i = absurd i
  output_same (Halt z) v out s a i = absurd a
  output_same (Clash z) v out s a i = absurd a

  answers_output : {Es : Type 0} (v : Verdict V Es) (w : Option W) → IsOutput (λ v w. v ≡ gives w) v w → IsAnswer v
  answers_output (Yes v) w i = tt
  answers_output No w i = tt
  answers_output (Halt z) w i = absurd i
  answers_output (Clash z) w i = absurd i

module _ {I Tok Sp Cu Er St V W : Type 0} (source : input_trait.Ghosts I Cu Tok Sp) (errors : error_trait.Ghosts Er I Tok Sp) (same : V → V → Type 0) (gives : W → Option V) (ts : Layout Tok) where
  -- what is reported of an outcome is reported of one that agrees
  errors_same : (u v : Verdict V errors.Seen) (other o : Outcome V errors.Seen St) (out : Option W)
      → SameAnswer same u v → IsAnswer u → IsOutput (λ v w. v ≡ gives w) v out → other.end ≡ o.end
      → other.events ≡ o.events → other.emitted ≡ o.emitted
      → reported errors.expectation source.span_between v ts o errors.merged ≡ reported errors.expectation source.span_between u ts other errors.merged
  errors_same (Yes u) (Yes v) other o out s a i e d m = sym m
  errors_same (Yes u) No other o out s a i e d m = absurd s
  errors_same (Yes u) (Halt z) other o out s a i e d m = absurd i
  errors_same (Yes u) (Clash z) other o out s a i e d m = absurd i
  errors_same No (Yes v) other o out s a i e d m = absurd s
  errors_same No No other o out s a i e d m = rw (e, d, m) refl
  errors_same No (Halt z) other o out s a i e d m = absurd i
  errors_same No (Clash z) other o out s a i e d m = absurd i
  errors_same (Halt z) v other o out s a i e d m = absurd a
  errors_same (Clash z) v other o out s a i e d m = absurd a

  pub reports_same : (other o : Outcome V errors.Seen St) (new : St) (r : Result (ParseResult W Er) Stop)
      → (IsAnswer o.verdict → Agree same other o) → IsAnswer other.verdict → new ≡ o.state
      → Answers source errors (λ v w. v ≡ gives w) ts o r
      → IfOk r (λ parsed. Reports source errors (λ v w. SameValue same v (gives w)) ts other parsed × (new ≡ other.state))
  reports_same other o new (Ok parsed) h a n p =
      let g = h (answers_output same gives o.verdict parsed.output p.output) in (
        record {
          output = output_same same gives other.verdict o.verdict parsed.output g.answer a p.output;
          errors_are = p.errors_are ∙ errors_same other.verdict o.verdict other o parsed.output g.answer a p.output g.end g.events g.emitted;
        },
        n ∙ sym g.state,
      )
  reports_same other o new (Err e) h a n p = tt

module _ {I Tok Sp Cu Er St Mk Cx V W : Type 0} (source : input_trait.Ghosts I Cu Tok Sp)
    (errors : error_trait.Ghosts Er I Tok Sp) (states : inspector_trait.Ghosts St I Mk Tok Sp) (gives : W → Option V)
    (ts : Layout Tok) (before mid after : Held Tok Cx states.Seen errors.Seen) where
  pub parses : {is_default : Cx → Type 0} {steady : Type 0} {same : V → V → Type 0} {language : Language Tok V}
      {meaning : Meaning Tok Cx states.Seen errors.Seen V} {wanted : Bool} {context : Cx} {old new : states.Seen}
      (a : Result W Fault) {x : Result (Option V) Fault} (s : Result (Option W) Stop)
      {r : Result (ParseResult W Er) Stop}
      → before ≡ record { tokens = ts; place = 0; context = context; state = old; kept = None; emitted = []; stopped = None } → is_default context
      → Ran errors.merged errors.takes_no_memory meaning wanted before mid x → x ≡ told gives a → SettlesAs errors.expectation source.span_between a mid after s → new ≡ after.state
      → Replies source errors states gives ts before mid after s r → (steady → Agreeing same meaning meaning)
      →
      ((o : Outcome V errors.Seen states.Seen)
      → meaning (record { wanted = wanted; tokens = ts; start = 0; context = context; state = old }) o
      → Answers source errors (λ v w. v ≡ gives w) ts o r → language.said ≡ true
      → AnswersText gives language ts.list (errors.takes_no_memory × states.takes_no_memory) r)
      → Parses source errors states is_default steady same language gives meaning wanted ts old new r
  parses {is_default} {steady} {same} {language} {meaning} {wanted} {context} {old} {new} a {x} s {r} b d h e t n p ag reads =
      let o = h.outcome in
      let begun : begin wanted before ≡ record { wanted = wanted; tokens = ts; start = 0; context = context; state = old } = ap (begin wanted) b in
      let meant : meaning (record { wanted = wanted; tokens = ts; start = 0; context = context; state = old }) o = subst (λ z. meaning z o) begun h.meant in
      let state : new ≡ o.state = n ∙ settled_state source errors states gives ts before mid after a s t ∙ h.state in
      let answered : Answers source errors (λ v w. v ≡ gives w) ts o r =
      reports source errors states gives ts before mid after o.verdict o.end o.state o.events o.emitted a s r (sym e ∙ h.answered) h.left t p
      (ap (λ (z : Held Tok Cx states.Seen errors.Seen). z.kept) b)
      (ap (λ (z : Held Tok Cx states.Seen errors.Seen). z.emitted) b)
      (h.same.tokens ∙ ap (λ (z : Held Tok Cx states.Seen errors.Seen). z.tokens) b) in
      record {
        context = context;
        context_is = d;
        outcome = o;
        meant = meant;
        state = state;
        answered = answered;
        reads = reads o meant answered;
        agreed =
            λ y w other m z. reports_same source errors same gives ts other o new r
            (λ q. ag y _ _ other o (record { tokens = refl; start = refl; context = refl; state = refl }) m meant z q)
            z state answered;
      }

module _ {I Tok Sp Cu Er St Mk Cx : Type 0} (source : input_trait.Ghosts I Cu Tok Sp) (errors : error_trait.Ghosts Er I Tok Sp) (states : inspector_trait.Ghosts St I Mk Tok Sp) where
  pub whole-agrees : {V : Type 0} (same : V → V → Type 0) (part : Meaning Tok Cx states.Seen errors.Seen V)
      → Agreeing same part part
      → Agreeing same (WholeRun source errors states part) (WholeRun source errors states part)
  whole-agrees {V} same part h =
      chained-agrees part part _ _ same same h
      (λ v w e. chained-agrees _ _ _ _ SameUnit same
      (asked-agrees false _ SameUnit (end-agrees source errors states)) (λ _ _ _. given-agrees same v w e))
