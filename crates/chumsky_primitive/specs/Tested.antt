-- What is done about a token once it is tested: it is taken, or gone back from.
-- Read first: OneOf.antt.
use Rattle.std.specs.Prelude.{◌≡◌, Option, Result, MatchResult, option_map}
use Rattle.chumsky_input.specs.declared.error.Error as error_trait
use Rattle.chumsky_input.specs.declared.inspector.Inspector as inspector_trait
use Rattle.chumsky_input.specs.declared.input.Input as input_trait
use Rattle.chumsky_input.specs.declared.input_ref.InputRef.{InputRef}
use Rattle.chumsky_input.specs.declared.util.MaybeRef.{MaybeRef}
use Rattle.chumsky_input.specs.Held.{held}
use Rattle.chumsky_input.specs.Maybe.{maybe_value}
use Rattle.chumsky_primitive.specs.Just.{told}
use Rattle.chumsky_primitive.specs.OneOf.{gone_back_from, StaysAt}

module _ {I X Tok Sp Cu Er St Cx Mk : Type 0} (source : input_trait.Ghosts I Cu Tok Sp) (errors : error_trait.Ghosts Er I Tok Sp) (states : inspector_trait.Ghosts St I Mk Tok Sp) where
  -- the cursor moves past the token, and the state is told of it
  abbrev pub MovesPast : Tok → Cu → InputRef I X Cu Tok Sp Er St Cx Mk → InputRef I X Cu Tok Sp Er St Cx Mk → Type 0
  MovesPast token past old new =
      let before = held source errors states old in
      held source errors states new ≡ record before { tokens = source.cursor_tokens past; place = source.place past; state = states.after before.state token }

  -- the state is told of what was found, if it is a token
  abbrev pub TellsState : Option (MaybeRef Tok) → InputRef I X Cu Tok Sp Er St Cx Mk → InputRef I X Cu Tok Sp Er St Cx Mk → Type 0
  TellsState found old new =
      let before = held source errors states old in
      held source errors states new ≡ record before { state = told states.after (option_map maybe_value found) before.state }

  -- the state is told of what was found, and the run goes back from it; or there is no memory for that
  abbrev pub GoesBackFrom : {V A : Type 0} → Option (MaybeRef Tok) → InputRef I X Cu Tok Sp Er St Cx Mk → InputRef I X Cu Tok Sp Er St Cx Mk → Result V A → Type 0
  GoesBackFrom found old new result =
      let token = option_map maybe_value found in
      let before = held source errors states old in
      let after = held source errors states new in
      MatchResult result (λ _. after ≡ gone_back_from states.after states.mark states.back token before) (λ _. StaysAt states.takes_no_memory states.after token before after)
