-- What a whole run that gave its items one after another is answered.
use Rattle.std.proofs.Common.{
  ◌≡◌,
  ℕ,
  zero,
  suc,
  ◌+◌,
  ◌^◌,
  Bool,
  true,
  false,
  nat_lt,
  Option,
  Some,
  None,
  List,
  [],
  ◌∷◌,
  ◌++◌,
  length,
  refl,
  sym,
  ◌∙◌,
  ap,
  subst,
  Result,
  Ok,
  Err,
  option_to_list,
  inl,
  inr,
  map,
}
use Rattle.std.specs.Bool.{MatchBool}
use Rattle.chumsky_input.specs.Layout.{Layout}
use Rattle.chumsky_input.specs.declared.error.Error as error_trait
use Rattle.chumsky_input.specs.declared.inspector.Inspector as inspector_trait
use Rattle.chumsky_input.specs.declared.input.Input as input_trait
use Rattle.chumsky_input.specs.declared.stop.Stop.{Stop}
use Rattle.chumsky_input.specs.declared.stop.Stop.TheVariants.{CountTooLarge}
use Rattle.chumsky_input.specs.declared.stop.Fault.{Fault}
use Rattle.chumsky_input.specs.declared.stop.Fault.TheVariants as fault
use Rattle.chumsky_input.specs.Held.{Held}
use Rattle.chumsky_input.specs.Outcome.{Event, Meaning, Outcome, Verdict, Yes, No, Halt, Clash, HasEventAt}
use Rattle.chumsky_input.specs.Primary.{primary}
use Rattle.chumsky_input.specs.Run.{Ran, LeavesBy, begin, answer, without_value, final_error}
use Rattle.chumsky_parser.specs.Chained.{Chained, Asked}
use Rattle.chumsky_parser.specs.Failure.{SaysNo, Stops}
use Rattle.chumsky_parser.specs.Items.{Next, More, End, AfterStep}
use Rattle.chumsky_parser.specs.declared.result.ParseResult.{ParseResult}
use Rattle.chumsky_parser.proofs.ChainedLemmas.{failed, chained, ran-asked}
use Rattle.chumsky_parser.proofs.FailureLemmas.{ran-stops, ran-no}
use Rattle.chumsky_primitive.specs.End.{MeansEnd}
use Rattle.chumsky_parse_iter.specs.declared.parse_iter.Phase.{Phase}
use Rattle.chumsky_parse_iter.specs.declared.parse_iter.Phase.TheVariants.{Unbegun, Running, Ended, Refused}
use Rattle.chumsky_parser.specs.Settled.{SettlesAs, reported, RefusesBy}
use Rattle.chumsky_parse_iter.specs.Finish.{Closing, ClosesWith, Replies, Finishes, AnswersBeside, AnswersWhole}
use Rattle.chumsky_parse_iter.specs.Walk.{with_next, GivesCounted, GivesMade, GivesFirst, Steps, WalksOn}

module _ {I Tok Sp Cu Er St Cx R : Type 0} (source : input_trait.Ghosts I Cu Tok Sp)
    (errors : error_trait.Ghosts Er I Tok Sp) (out : R) (ts : Layout Tok)
    (before mid after : Held Tok Cx St errors.Seen) where
  settled_state : (a : Result (Unit {0}) Fault) (s : Result (Option (Unit {0})) Stop) → SettlesAs errors.expectation source.span_between a mid after s → after.state ≡ mid.state
  settled_state (Ok v) s t = ap (λ (h : Held Tok Cx St errors.Seen). h.state) t.1
  settled_state (Err fault.Fail) s (inl t) = ap (λ (h : Held Tok Cx St errors.Seen). h.state) t.1
  settled_state (Err fault.Fail) s (inr t) = t.1
  settled_state (Err (fault.Stop z)) s t = ap (λ (h : Held Tok Cx St errors.Seen). h.state) t.1

  answers : (v : Verdict (Unit {0}) errors.Seen) (end : ℕ) (state : St) (events : List (Event errors.Seen))
      (emitted : List errors.Seen) (a : Result (Unit {0}) Fault) (s : Result (Option (Unit {0})) Stop)
      (r : Result (ParseResult R Er) Stop)
      → let o : Outcome (Unit {0}) errors.Seen St = record { verdict = v; end = end; state = state; events = events; emitted = emitted } in
      without_value a ≡ answer v → LeavesBy errors.merged errors.takes_no_memory v o before mid → SettlesAs errors.expectation source.span_between a mid after s → Replies errors out after.emitted s r
      → before.kept ≡ None → before.emitted ≡ [] → mid.tokens ≡ ts → AnswersBeside source errors out ts o r
  answers (Yes v) end state events emitted (Ok x) s r a l t p k e i =
      let q = rw t.0 at p in
      rw q.1 (record { answers = tt; output = q.2; errors_are = q.3 ∙ ap (λ (h : Held Tok Cx St errors.Seen). h.emitted) t.1 ∙ l.emitted ∙ ap (λ z. z ++ emitted) e })
  answers (Yes v) end state events emitted (Err f) s r a l t p k e i = let no : ⊥ = cc in absurd no
  answers No end state events emitted (Ok x) s r a l t p k e i = let no : ⊥ = cc in absurd no
  answers No end state events emitted (Err fault.Fail) s r a l (inl t) p k e i =
      let kept : mid.kept ≡ primary errors.merged events = l.kept ∙ ap (λ z. primary errors.merged (option_to_list z ++ events)) k in
      let last : final_error errors.expectation source.span_between mid.kept mid.tokens mid.place
      ≡ final_error errors.expectation source.span_between (primary errors.merged events) ts end =
      cc (kept, i, l.end) in
      let q = rw t.0 at p in
      rw q.1 (record {
        answers = tt;
        output = q.2;
        errors_are =
            q.3 ∙ ap (λ (h : Held Tok Cx St errors.Seen). h.emitted) t.1
            ∙ ap (λ z. z ++ final_error errors.expectation source.span_between mid.kept mid.tokens mid.place ∷ [])
            (l.emitted ∙ ap (λ z. z ++ emitted) e)
            ∙ ap (λ z. emitted ++ z ∷ []) last;
      })
  answers No end state events emitted (Err fault.Fail) s r a l (inr t) p k e i = rw (rw t.0 at p) refl
  answers No end state events emitted (Err (fault.Stop z)) s r a l t p k e i = let no : ⊥ = cc in absurd no
  answers (Halt z) end state events emitted (Ok x) s r a l t p k e i = let no : ⊥ = cc in absurd no
  answers (Halt z) end state events emitted (Err fault.Fail) s r a l t p k e i = let no : ⊥ = cc in absurd no
  answers (Halt z) end state events emitted (Err (fault.Stop y)) s r a l t p k e i = rw (rw t.0 at p) cc
  answers (Clash x) end state events emitted (Ok y) s r a l t p k e i = let no : ⊥ = cc in absurd no
  answers (Clash x) end state events emitted (Err fault.Fail) s r a l t p k e i = let no : ⊥ = cc in absurd no
  answers (Clash x) end state events emitted (Err (fault.Stop y)) s r a l t p k e i =
      rw (rw t.0 at p) (cc, l.0, subst (λ z. HasEventAt x.place (option_to_list z ++ events)) k l.1)

module _ {I Tok Sp Cu Er St Mk Cx R : Type 0} (source : input_trait.Ghosts I Cu Tok Sp) (errors : error_trait.Ghosts Er I Tok Sp) (states : inspector_trait.Ghosts St I Mk Tok Sp) where
  -- a run that closes from its beginning is answered as an outcome of the whole
  pub answers-whole : {meaning : Meaning Tok Cx states.Seen errors.Seen (Unit {0})}
      {start : Held Tok Cx states.Seen errors.Seen} {out : R} {state : states.Seen} {found : List errors.Seen}
      {closed : Result (Option (Unit {0})) Stop} {r : Result (ParseResult R Er) Stop}
      → start.kept ≡ None → start.emitted ≡ [] → ClosesWith source errors states meaning start state found closed
      → Replies errors out found closed r → AnswersWhole source errors meaning start out state r
  answers-whole {meaning} {start} {out} {state} {found} {closed} {r} k e c p =
      let o = c.ran.outcome in
      record {
        outcome = o;
        meant = c.ran.meant;
        state_is = c.state_is ∙ settled_state source errors out start.tokens start c.mid c.left c.answer closed c.settles ∙ c.ran.state;
        answered =
            answers source errors out start.tokens start c.mid c.left o.verdict o.end o.state o.events o.emitted
            c.answer closed r c.ran.answered c.ran.left c.settles
            (subst (λ z. Replies errors out z closed r) c.found_is p) k e c.ran.same.tokens;
      }

module _ {I Tok Sp Cu Er St Mk Cx S : Type 0} (source : input_trait.Ghosts I Cu Tok Sp)
    (errors : error_trait.Ghosts Er I Tok Sp) (states : inspector_trait.Ghosts St I Mk Tok Sp)
    {old : Held Tok Cx states.Seen errors.Seen} where
  -- a fault stands, and nothing is done
  pub closes-refused : (f : Fault) (phase : Phase S) → phase ≡ Refused f → Ran errors.merged errors.takes_no_memory (Closing source errors states phase) false old old (Err f)
  closes-refused fault.Fail phase e = rw e ran-no
  closes-refused (fault.Stop z) phase e = rw e (ran-stops z)

  -- the end of input was asked for
  pub closes-asked : {new : Held Tok Cx states.Seen errors.Seen} (phase : Phase S) {x : Result (Option (Unit {0})) Fault}
      → ((f : Fault) → phase ≡ Refused f → ⊥)
      → Ran errors.merged errors.takes_no_memory (MeansEnd source errors states) false old new x
      → Ran errors.merged errors.takes_no_memory (Closing source errors states phase) false old new x
  closes-asked Unbegun n h = h
  closes-asked (Running s) n h = h
  closes-asked Ended n h = h
  closes-asked (Refused f) n h = absurd (n f refl)
