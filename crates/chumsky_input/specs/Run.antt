-- What a run leaves, of one outcome.
use Rattle.std.specs.Prelude.{◌≡◌, ℕ, ◌+◌, ◌<◌, Bool, Option, Some, None, List, [], ◌∷◌, ◌++◌, Result, Ok, Err, length, option_to_list, slice_get, take, ◌⊎◌}
use Rattle.chumsky_input.specs.Layout.{Layout}
use Rattle.chumsky_input.specs.declared.error.Error as error_trait
use Rattle.chumsky_input.specs.declared.inspector.Inspector as inspector_trait
use Rattle.chumsky_input.specs.declared.input.Input as input_trait
use Rattle.chumsky_input.specs.declared.input_ref.InputRef.{InputRef}
use Rattle.chumsky_input.specs.declared.stop.Stop.TheVariants.{Memory}
use Rattle.chumsky_input.specs.declared.stop.Fault.{Fault}
use Rattle.chumsky_input.specs.declared.stop.Fault.TheVariants as fault
use Rattle.chumsky_input.specs.Outcome.{Event, Beginning, Outcome, Meaning, Verdict, Yes, No, Halt, Clash, HasEventAt}
use Rattle.chumsky_input.specs.Primary.{primary}
use Rattle.chumsky_input.specs.Held.{Held, Marks, PassesOn, held}
use Rattle.chumsky_input.specs.Wanted.{Wanted}

-- the answer of a call, by verdict
abbrev pub answer : {V Er : Type 0} → Verdict V Er → Result (Option V) Fault
answer (Yes v) = Ok v
answer No = Err fault.Fail
answer (Halt s) = Err (fault.Stop s)
answer (Clash _) = Err (fault.Stop Memory)

-- what a call that gives a value answers, and one that gives none
abbrev pub with_value : {V : Type 0} → Result V Fault → Result (Option V) Fault
with_value (Ok v) = Ok (Some v)
with_value (Err e) = Err e

abbrev pub without_value : {V : Type 0} → Result (Unit {0}) Fault → Result (Option V) Fault
without_value (Ok _) = Ok None
without_value (Err e) = Err e

module _ {Tok Cx St Er : Type 0} where
  abbrev pub begin : Bool → Held Tok Cx St Er → Beginning Tok Cx St
  begin wanted h = record { wanted = wanted; tokens = h.tokens; start = h.place; context = h.context; state = h.state }

  -- the token that comes next; none at the end of input
  abbrev pub next_token : Held Tok Cx St Er → Option Tok
  next_token h = slice_get h.tokens.list h.place

  -- a token is taken, where there is one
  abbrev pub took : (St → Tok → St) → Held Tok Cx St Er → Option Tok → Held Tok Cx St Er
  took after h None = h
  took after h (Some t) = record h { place = h.place + 1; state = after h.state t }

  -- a token is taken by value
  abbrev pub TookValue : {S : Type 0} → (Tok → S) → (St → Tok → St) → Held Tok Cx St Er → Held Tok Cx St Er → Option Tok → Type 0
  TookValue seen after old new None = (slice_get old.tokens.list old.place ≡ None) × (new ≡ old)
  TookValue seen after old new (Some v) = (t : Tok) × (slice_get old.tokens.list old.place ≡ Some t) × (seen v ≡ seen t) × (new ≡ took after old (Some t))

  -- a token is there, and to have it by value may take memory
  abbrev pub TokenMayLack : (Tok → Type 0) → Held Tok Cx St Er → Type 0
  TokenMayLack safe h = (t : Tok) × (slice_get h.tokens.list h.place ≡ Some t) × (safe t → ⊥)

  -- that of a token there is no memory for nothing is taken
  abbrev pub LacksToken : (Tok → Type 0) → Held Tok Cx St Er → Held Tok Cx St Er → Type 0
  LacksToken safe old new = (new ≡ old) × TokenMayLack safe old

  -- a checkpoint here, and back to one
  abbrev pub marked_here : {Mk : Type 0} → (St → Mk) → Held Tok Cx St Er → Marks Tok Mk
  marked_here mark h = record { tokens = h.tokens; place = h.place; emitted = length h.emitted; mark = mark h.state }

  abbrev pub gone_back : {Mk : Type 0} → (St → Mk → St) → Held Tok Cx St Er → Marks Tok Mk → Held Tok Cx St Er
  gone_back back h c = record h { place = c.place; state = back h.state c.mark; emitted = take c.emitted h.emitted }

  -- one more emitted error
  abbrev pub with_emitted : Held Tok Cx St Er → Er → Held Tok Cx St Er
  with_emitted h e = record h { emitted = h.emitted ++ e ∷ [] }

  -- one more event
  abbrev pub added : (Er → Er → Er) → Held Tok Cx St Er → Event Er → Held Tok Cx St Er
  added merged h e = record h { kept = primary merged (option_to_list h.kept ++ e ∷ []) }

  -- the same tokens and the same context
  pub record SameRun (old new : Held Tok Cx St Er) : Type 0 where
    pub tokens : new.tokens ≡ old.tokens
    pub context : new.context ≡ old.context

module _ {Tok Cx St Er : Type 0} (merged : Er → Er → Er) (safe : Type 0) where
  -- a failure with one event: it is added, or there is no memory to merge it with the one that is kept
  abbrev pub Adds : Event Er → Held Tok Cx St Er → Held Tok Cx St Er → Fault → Type 0
  Adds e old new fault.Fail = new ≡ added merged old e
  Adds e old new (fault.Stop s) = (s ≡ Memory) × (safe → ⊥) × HasEventAt e.place (option_to_list old.kept) × (new ≡ record old { kept = None })

  -- the same, of an error that is built: or there is no memory to build it
  abbrev pub Fails : Event Er → Held Tok Cx St Er → Held Tok Cx St Er → Fault → Type 0
  Fails e old new f = Adds e old new f ⊎ ((f ≡ fault.Stop Memory) × (safe → ⊥) × (new ≡ old))

module _ {Tok Cx St Er V : Type 0} (merged : Er → Er → Er) (safe : Type 0) where
  -- where the cursor, the kept error and the emitted errors stand after an answer; and nothing has stopped
  pub record Leaves (o : Outcome V Er St) (old new : Held Tok Cx St Er) : Type 0 where
    pub end : new.place ≡ o.end
    pub kept : new.kept ≡ primary merged (option_to_list old.kept ++ o.events)
    pub emitted : new.emitted ≡ old.emitted ++ o.emitted
    pub stopped : new.stopped ≡ old.stopped

  abbrev pub LeavesBy : Verdict V Er → Outcome V Er St → Held Tok Cx St Er → Held Tok Cx St Er → Type 0
  LeavesBy (Yes _) o old new = Leaves o old new
  LeavesBy No o old new = Leaves o old new
  LeavesBy (Halt s) o old new = PassesOn s old new
  LeavesBy (Clash e) o old new = (safe → ⊥) × HasEventAt e.place (option_to_list old.kept ++ o.events) × PassesOn Memory old new

  -- one outcome of the meaning, which the answer and what is left show
  pub record Ran (meaning : Meaning Tok Cx St Er V) (wanted : Bool) (old new : Held Tok Cx St Er) (result : Result (Option V) Fault) : Type 0 where
    pub outcome : Outcome V Er St
    pub meant : meaning (begin wanted old) outcome
    pub answered : result ≡ answer outcome.verdict
    pub state : new.state ≡ outcome.state
    pub left : LeavesBy outcome.verdict outcome old new
    pub same : SameRun old new

module _ {I X Tok Sp Cu Er St Cx Mk V : Type 0} (source : input_trait.Ghosts I Cu Tok Sp) (errors : error_trait.Ghosts Er I Tok Sp) (states : inspector_trait.Ghosts St I Mk Tok Sp) where
  -- the run from `old` to `new`, asked for a value or not, shows one outcome of the meaning
  abbrev pub Runs : Meaning Tok Cx states.Seen errors.Seen V → Bool → InputRef I X Cu Tok Sp Er St Cx Mk → InputRef I X Cu Tok Sp Er St Cx Mk → Result (Option V) Fault → Type 0
  Runs meaning wanted old new result = Ran errors.merged errors.takes_no_memory meaning wanted (held source errors states old) (held source errors states new) result

-- an event is kept that lies past this place
abbrev pub KeepsPast : {Er : Type 0} → ℕ → Option (Event Er) → Type 0
KeepsPast p None = ⊥
KeepsPast p (Some k) = p < k.place

module _ {Tok Sp Er : Type 0} (expectation : List (Wanted Tok) → Option Tok → Sp → Er) (span : Layout Tok → ℕ → ℕ → Sp) where
  -- the last error of a failure that kept this event, and of one that kept none, with its end
  abbrev pub final_error : Option (Event Er) → Layout Tok → ℕ → Er
  final_error (Some e) ts end = e.error
  final_error None ts end = expectation [] None (span ts end end)

  abbrev pub with_last : {Cx St : Type 0} → Held Tok Cx St Er → Held Tok Cx St Er
  with_last h = record h { kept = None; emitted = h.emitted ++ final_error h.kept h.tokens h.place ∷ [] }
