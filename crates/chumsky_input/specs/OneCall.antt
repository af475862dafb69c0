-- What one call of an `InputRef` does, from how it stood before, `old`, to how it stands after, `new`.
-- Read first: Held.antt, Run.antt, Aside.antt.
use Rattle.std.specs.Prelude.{◌≡◌, ℕ, ◌⊎◌, ◌++◌, [], List, Option, None, Result, MatchResult, map, option_map}
use Rattle.std.specs.Global.{Vec}
use Rattle.chumsky_input.specs.declared.error.Error as error_trait
use Rattle.chumsky_input.specs.declared.inspector.Inspector as inspector_trait
use Rattle.chumsky_input.specs.declared.input.Input as input_trait
use Rattle.chumsky_input.specs.declared.aside.Aside.{Aside}
use Rattle.chumsky_input.specs.declared.input_ref.InputRef.{InputRef}
use Rattle.chumsky_input.specs.declared.input_ref.Located.{Located}
use Rattle.chumsky_input.specs.declared.input_ref.Checkpoint.{Checkpoint}
use Rattle.chumsky_input.specs.declared.stop.Fault.{Fault}
use Rattle.chumsky_input.specs.declared.stop.Failure.{Failure}
use Rattle.chumsky_input.specs.declared.util.MaybeRef.{MaybeRef}
use Rattle.chumsky_input.specs.Maybe.{maybe_value}
use Rattle.chumsky_input.specs.Wanted.{Wanted}
use Rattle.chumsky_input.specs.Held.{Held, held, marks, located}
use Rattle.chumsky_input.specs.Run.{took, next_token, TookValue, LacksToken, TokenMayLack, gone_back, with_emitted, with_last, final_error, Adds, Fails}
use Rattle.chumsky_input.specs.Aside.{kept_after, brought_back, failure_seen, ClashesWith, SameButErrors, HandsOut}

module _ {I X Tok Sp Cu Er St Cx Mk : Type 0} (source : input_trait.Ghosts I Cu Tok Sp) (errors : error_trait.Ghosts Er I Tok Sp) (states : inspector_trait.Ghosts St I Mk Tok Sp) where
  -- what counts of the run
  abbrev view : InputRef I X Cu Tok Sp Er St Cx Mk → Held Tok Cx states.Seen errors.Seen
  view inp = held source errors states inp

  -- the next token, if there is one, is taken, and the state is told of it
  abbrev pub Advances : InputRef I X Cu Tok Sp Er St Cx Mk → InputRef I X Cu Tok Sp Er St Cx Mk → Type 0
  Advances old new = view new ≡ took states.after (view old) (next_token (view old))

  -- the next token is taken by value; or there is no memory for one, and nothing has changed
  abbrev pub TakesNext : {S A : Type 0} → (Tok → S) → (Tok → Type 0) → InputRef I X Cu Tok Sp Er St Cx Mk → InputRef I X Cu Tok Sp Er St Cx Mk → Result (Option Tok) A → Type 0
  TakesNext seen safe old new result = MatchResult result (λ o. TookValue seen states.after (view old) (view new) o) (λ _. LacksToken safe (view old) (view new))

  -- the next token by value; or there may be no memory for one
  abbrev pub PeeksNext : {S A : Type 0} → (Tok → S) → (Tok → Type 0) → InputRef I X Cu Tok Sp Er St Cx Mk → Result (Option Tok) A → Type 0
  PeeksNext seen safe inp result = MatchResult result (λ o. option_map seen o ≡ option_map seen (next_token (view inp))) (λ _. TokenMayLack safe (view inp))

  -- the run stands where the checkpoint was taken; or its state refused, and nothing has changed
  abbrev pub GoesBack : {V A : Type 0} → Checkpoint Cu Mk → InputRef I X Cu Tok Sp Er St Cx Mk → InputRef I X Cu Tok Sp Er St Cx Mk → Result V A → Type 0
  GoesBack to old new result = MatchResult result (λ _. view new ≡ gone_back states.back (view old) (marks source states to)) (λ _. (view new ≡ view old) × ¬ states.takes_no_memory)

  -- a failure at one cursor, over the span to another, where these were expected and that was found
  abbrev pub FailsExpecting : List (Wanted Tok) → Option (MaybeRef Tok) → Cu → Cu → InputRef I X Cu Tok Sp Er St Cx Mk → InputRef I X Cu Tok Sp Er St Cx Mk → Fault → Type 0
  FailsExpecting es found from to old new fault =
      let span = source.span_between (source.cursor_tokens from) (source.place from) (source.place to) in
      Fails errors.merged errors.takes_no_memory (record { place = source.place from; error = errors.expectation es (option_map maybe_value found) span }) (view old) (view new) fault

  -- a failure at a place, over a span, where these were expected and that was found
  abbrev pub FailsWith : List (Wanted Tok) → Option (MaybeRef Tok) → ℕ → Sp → InputRef I X Cu Tok Sp Er St Cx Mk → InputRef I X Cu Tok Sp Er St Cx Mk → Fault → Type 0
  FailsWith es found place span old new fault =
      Fails errors.merged errors.takes_no_memory (record { place = place; error = errors.expectation es (option_map maybe_value found) span }) (view old) (view new) fault

  -- a failure with an error at a place
  abbrev pub AddsEvent : ℕ → Er → InputRef I X Cu Tok Sp Er St Cx Mk → InputRef I X Cu Tok Sp Er St Cx Mk → Fault → Type 0
  AddsEvent place error old new fault = Adds errors.merged errors.takes_no_memory (record { place = place; error = errors.seen error }) (view old) (view new) fault

  -- the error is emitted last; or nothing has changed
  abbrev pub EmitsError : {V A : Type 0} → Er → InputRef I X Cu Tok Sp Er St Cx Mk → InputRef I X Cu Tok Sp Er St Cx Mk → Result V A → Type 0
  EmitsError error old new result = MatchResult result (λ _. view new ≡ with_emitted (view old) (errors.seen error)) (λ _. view new ≡ view old)

  -- what counts of the last error of a failure: the one that is kept, or where there is none that of an empty expectation
  abbrev pub last_seen : InputRef I X Cu Tok Sp Er St Cx Mk → errors.Seen
  last_seen inp = final_error errors.expectation source.span_between (view inp).kept (view inp).tokens (view inp).place

  -- the last error is emitted and no longer kept; or it is lost, and nothing else has changed
  abbrev pub EmitsLast : {V A : Type 0} → InputRef I X Cu Tok Sp Er St Cx Mk → InputRef I X Cu Tok Sp Er St Cx Mk → Result V A → Type 0
  EmitsLast old new result = MatchResult result (λ _. view new ≡ with_last errors.expectation source.span_between (view old)) (λ _. view new ≡ record (view old) { kept = None })

  -- the last error is handed out, and the older one kept in its place; or there is no memory for it
  abbrev pub HandsOutLast : Option (Located Er) → InputRef I X Cu Tok Sp Er St Cx Mk → InputRef I X Cu Tok Sp Er St Cx Mk → Failure Er → Type 0
  HandsOutLast older old new failure =
      HandsOut errors.takes_no_memory (final_error errors.expectation source.span_between)
      (option_map (located errors.seen) older) (view old) (view new) (failure_seen errors.seen failure)

  -- the older error counts as kept before the one that is kept; or the two clash, and neither is
  abbrev pub KeepsBefore : {V A : Type 0} → Option (Located Er) → InputRef I X Cu Tok Sp Er St Cx Mk → InputRef I X Cu Tok Sp Er St Cx Mk → Result V A → Type 0
  KeepsBefore older old new result =
      let event = option_map (located errors.seen) older in
      MatchResult result (λ _. view new ≡ kept_after errors.merged event (view old)) (λ _. ClashesWith errors.takes_no_memory event (view old).kept × (view new ≡ record (view old) { kept = None }))

  -- the older errors stand before those that were emitted; or there were some, and the older ones alone are left
  abbrev pub EmitsBefore : {V A : Type 0} → Vec Er → InputRef I X Cu Tok Sp Er St Cx Mk → InputRef I X Cu Tok Sp Er St Cx Mk → Result V A → Type 0
  EmitsBefore older old new result =
      let seen = map errors.seen older.items in
      MatchResult result (λ _. view new ≡ record (view old) { emitted = seen ++ (view old).emitted }) (λ _. (¬ ((view old).emitted ≡ [])) × (view new ≡ record (view old) { emitted = seen }))

  -- what was set aside stands before what is held; or there was something to join it to, and nothing has changed but the errors
  abbrev pub BringsBack : {V A : Type 0} → Aside Er → InputRef I X Cu Tok Sp Er St Cx Mk → InputRef I X Cu Tok Sp Er St Cx Mk → Result V A → Type 0
  BringsBack older old new result =
      let kept = option_map (located errors.seen) older.kept in
      MatchResult result
      (λ _. view new ≡ brought_back errors.merged kept (map errors.seen older.emitted.items) (view old))
      (λ _. (ClashesWith errors.takes_no_memory kept (view old).kept ⊎ (¬ ((view old).emitted ≡ []))) ×
      SameButErrors (view old) (view new))
