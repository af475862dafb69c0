-- The items of a run, one step after another.
use Rattle.std.specs.Prelude.{◌≡◌, ℕ, ◌+◌, ◌^◌, true, false, nat_lt, Option, Some, None, [], Result, Ok, Err, map, option_map, ⊤}
use Rattle.std.specs.Bool.{MatchBool}
use Rattle.chumsky_input.specs.declared.error.Error as error_trait
use Rattle.chumsky_input.specs.declared.inspector.Inspector as inspector_trait
use Rattle.chumsky_input.specs.declared.input.Input as input_trait
use Rattle.chumsky_input.specs.declared.stop.Fault.{Fault}
use Rattle.chumsky_input.specs.declared.stop.Fault.TheVariants as fault
use Rattle.chumsky_input.specs.declared.stop.Stop.TheVariants.{CountTooLarge}
use Rattle.chumsky_input.specs.declared.aside.Aside.{Aside}
use Rattle.chumsky_input.specs.Held.{Held, located}
use Rattle.chumsky_input.specs.Outcome.{Meaning}
use Rattle.chumsky_input.specs.Run.{Ran}
use Rattle.chumsky_input.specs.Words.{Does}
use Rattle.chumsky_parser.specs.declared.iter.IterParserDebug.{IterParserDebug}
use Rattle.chumsky_parser.specs.Chained.{Chained, Asked}
use Rattle.chumsky_parser.specs.Items.{Next, More, End}
use Rattle.chumsky_parse_iter.specs.declared.parse_iter.Parts.{Parts}
use Rattle.chumsky_parse_iter.specs.declared.parse_iter.Phase.{Phase}
use Rattle.chumsky_parse_iter.specs.declared.parse_iter.Phase.TheVariants.{Unbegun, Running, Ended, Refused}

module _ {I Tok Sp Cu Er St Mk Cx : Type 0} (source : input_trait.Ghosts I Cu Tok Sp) (errors : error_trait.Ghosts Er I Tok Sp) (states : inspector_trait.Ghosts St I Mk Tok Sp) where
  -- what a run holds that is made of a cursor, errors, a state and a context
  abbrev pub held_of : Cu → Aside Er → St → Cx → Held Tok Cx states.Seen errors.Seen
  held_of cursor found state context =
      record {
        tokens = source.cursor_tokens cursor;
        place = source.place cursor;
        context = context;
        state = states.seen state;
        kept = option_map (located errors.seen) found.kept;
        emitted = map errors.seen found.emitted.items;
        stopped = None;
      }

  -- what one holds between its steps
  abbrev pub held_in : Parts Cu Er St Cx → Held Tok Cx states.Seen errors.Seen
  held_in p = held_of p.cursor p.errors p.state p.context

-- what a step answers, with the iteration that goes on
abbrev pub with_next : {S V : Type 0} → Result (Option (V × S)) Fault → Result (Option (Next S V)) Fault
with_next (Ok (Some x)) = Ok (Some (More (Some x.0) x.1))
with_next (Ok None) = Ok (Some End)
with_next (Err f) = Err f

-- what is given of the answer after n items: an item that can still be counted, and else none; and where the run stands then
abbrev pub GivesCounted : {S V : Type 0} → ℕ → Result (Option (V × S)) Fault → Option V → Phase S → ℕ → Type 0
GivesCounted n (Ok (Some x)) r p m =
    MatchBool (nat_lt (n + 1) (2 ^ 64))
    ((r ≡ Some x.0) × (p ≡ Running x.1) × (m ≡ n + 1))
    ((r ≡ None) × (p ≡ Refused (fault.Stop CountTooLarge)) × (m ≡ n))
GivesCounted n (Ok None) r p m = (r ≡ None) × (p ≡ Ended) × (m ≡ n)
GivesCounted n (Err f) r p m = (r ≡ None) × (p ≡ Refused f) × (m ≡ n)

-- before the first step the parser may be run, and then its iteration may be asked
abbrev pub MayStep : {S : Type 0} → Type 0 → (S → Type 0) → Option S → Type 0
MayStep ready may None = ready
MayStep ready may (Some s) = may s

-- the same of where a run stands: after an end, a failure and a refusal nothing is asked
abbrev pub MayWalk : {S : Type 0} → Type 0 → (S → Type 0) → Phase S → Type 0
MayWalk ready may Unbegun = ready
MayWalk ready may (Running s) = may s
MayWalk ready may Ended = ⊤
MayWalk ready may (Refused f) = ⊤

module _ {Tok Cx St Er S V : Type 0} (begins : Meaning Tok Cx St Er S) (gives : S → Meaning Tok Cx St Er (Next S V)) where
  -- the step of an iteration that was made
  abbrev pub GivesMade : Option S → Meaning Tok Cx St Er (Next S V)
  GivesMade (Some s) = gives s
  GivesMade None = λ b o. ⊥

  -- an iteration is made, and asked for its first item
  abbrev pub GivesFirst : Meaning Tok Cx St Er (Next S V)
  GivesFirst = Chained (Asked true begins) GivesMade

  -- the first step, or one of an iteration that was made
  abbrev pub StepOf : Option S → Meaning Tok Cx St Er (Next S V)
  StepOf None = GivesFirst
  StepOf (Some s) = gives s

module _ {Tok Cx St Er S V : Type 0} (merged : Er → Er → Er) (safe : Type 0) where
  -- a step that is run, and what is given of its answer
  pub record Steps (step : Meaning Tok Cx St Er (Next S V)) (old : Held Tok Cx St Er) (n : ℕ) (r : Option V) (p : Phase S) (new : Held Tok Cx St Er) (m : ℕ) : Type 0 where
    pub answer : Result (Option (V × S)) Fault
    pub ran : Ran merged safe step true old new (with_next answer)
    pub counted : GivesCounted n answer r p m

  module _ (begins : Meaning Tok Cx St Er S) (gives : S → Meaning Tok Cx St Er (Next S V)) where
    -- one call of `next`, after n items: after an end, a failure and a refusal nothing is done
    abbrev pub WalksOn : Phase S → Held Tok Cx St Er → ℕ → Option V → Phase S → Held Tok Cx St Er → ℕ → Type 0
    WalksOn Unbegun old n r p new m = Steps (GivesFirst begins gives) old n r p new m
    WalksOn (Running s) old n r p new m = Steps (gives s) old n r p new m
    WalksOn Ended old n r p new m = (r ≡ None) × (p ≡ Ended) × (new ≡ old) × (m ≡ n)
    WalksOn (Refused f) old n r p new m = (r ≡ None) × (p ≡ Refused f) × (new ≡ old) × (m ≡ n)

module _ {I Tok Sp Er St Mk Cx S V : Type 0} (begins : Does I Tok Sp Er St Mk Cx S) (gives : IterParserDebug → S → Does I Tok Sp Er St Mk Cx (Next S V)) where
  -- an iteration is made, and asked for its first item
  abbrev pub DoesFirstStep : Does I Tok Sp Er St Mk Cx (Next S V)
  DoesFirstStep errors states = GivesFirst (begins errors states) (λ s. gives (record { nonconsumption_is_ok = false }) s errors states)

  -- the first step, or one of an iteration that was made
  abbrev pub DoesStep : Option S → Does I Tok Sp Er St Mk Cx (Next S V)
  DoesStep iteration errors states = StepOf (begins errors states) (λ s. gives (record { nonconsumption_is_ok = false }) s errors states) iteration

module _ {I Tok Sp Cu Er St Mk Cx : Type 0} (source : input_trait.Ghosts I Cu Tok Sp) (errors : error_trait.Ghosts Er I Tok Sp) (states : inspector_trait.Ghosts St I Mk Tok Sp) where
  -- a step run under a context, from a cursor, errors and a state to others
  abbrev pub RunsFrom : {S V : Type 0} → Does I Tok Sp Er St Mk Cx (Next S V) → Cx → Cu → Aside Er → St → Cu → Aside Er → St → Result (Option (V × S)) Fault → Type 0
  RunsFrom step context cursor found state cursor' found' state' answer =
      Ran errors.merged errors.takes_no_memory (step errors states) true
      (held_of source errors states cursor found state context)
      (held_of source errors states cursor' found' state' context) (with_next answer)

  -- a step run from what a run holds between its steps to what it holds then
  abbrev pub RunsBetween : {S V : Type 0} → Does I Tok Sp Er St Mk Cx (Next S V) → Parts Cu Er St Cx → Parts Cu Er St Cx → Result (Option (V × S)) Fault → Type 0
  RunsBetween step old new answer = Ran errors.merged errors.takes_no_memory (step errors states) true (held_in source errors states old) (held_in source errors states new) (with_next answer)

  -- a run holds what it does at the start of this input: a default context, this state, and no error
  abbrev pub BeginsWhole : (Cx → Type 0) → I → St → Parts Cu Er St Cx → Type 0
  BeginsWhole is_default input state parts =
      (context : Cx) × is_default context
      ×
      (held_in source errors states parts ≡
      record {
        tokens = source.tokens input;
        place = 0;
        context = context;
        state = states.seen state;
        kept = None;
        emitted = [];
        stopped = None;
      })
