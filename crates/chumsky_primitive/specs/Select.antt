-- A token that a closure picks.
use Rattle.std.specs.Prelude.{◌≡◌, ◌+◌, Option, Some, None, [], ◌∷◌, ◌⊎◌, is_some, slice_get}
use Rattle.std.specs.Borrow.{Bor, MutBor}
use Rattle.std.specs.Fn.{Shared}
use Rattle.chumsky_input.specs.declared.error.Error as error_trait
use Rattle.chumsky_input.specs.declared.inspector.Inspector as inspector_trait
use Rattle.chumsky_input.specs.declared.input.Input as input_trait
use Rattle.chumsky_input.specs.declared.input_ref.InputRef.{InputRef}
use Rattle.chumsky_input.specs.declared.input_ref.Checkpoint.{Checkpoint}
use Rattle.chumsky_input.specs.declared.map_extra.MapExtra.{MapExtra}
use Rattle.chumsky_input.specs.declared.util.MaybeRef.{MaybeRef}
use Rattle.chumsky_input.specs.Maybe.{maybe_value}
use Rattle.chumsky_input.specs.declared.stop.Stop.TheVariants.{Memory}
use Rattle.chumsky_input.specs.declared.stop.Fault.{Fault}
use Rattle.chumsky_input.specs.declared.stop.Fault.TheVariants as fault
use Rattle.chumsky_input.specs.Extra.{Shown, MayAnswer}
use Rattle.chumsky_input.specs.Held.{Held, Marks, held, marks}
use Rattle.chumsky_input.specs.Run.{Fails, gone_back}
use Rattle.chumsky_input.specs.Wanted as wanted
use Rattle.chumsky_input.specs.Outcome.{Meaning, Beginning, Outcome, Yes}
use Rattle.chumsky_parser.specs.Failure.{Refuses, Misses, expects, wanting}

-- what a closure answers to a token and what it is shown, and the state that it leaves
abbrev pub Picks : Type 0 → Type 0 → Type 0 → Type 0 → Type 1
Picks Tok Cx St V = Tok → Shown Tok Cx St → Option V → St → Type 0

module _ {I X Cu Tok Sp Er St Cx Mk F V : Type 0} (source : input_trait.Ghosts I Cu Tok Sp) (states : inspector_trait.Ghosts St I Mk Tok Sp) where
  -- by a closure that is given a token which counts as the one that is there
  pub record PicksValue {S : Type 0} (seen : Tok → S)
      (calls : Shared F (Tok × (MutBor (MapExtra I X Cu Tok Sp Er St Cx Mk) × Unit {0}))
      (Option V × (MutBor (MapExtra I X Cu Tok Sp Er St Cx Mk) × Unit {0})))
      (f : F) (t : Tok) (x : Shown Tok Cx states.Seen) (r : Option V) (s : states.Seen) : Type 0 where
    pub token : Tok
    pub counts : seen token ≡ seen t
    pub answers : MayAnswer source states calls f token x r s

  -- by one that is given a reference to it
  pub record PicksRef
      (calls : Shared F (Bor Tok × (MutBor (MapExtra I X Cu Tok Sp Er St Cx Mk) × Unit {0}))
      (Option V × (MutBor (MapExtra I X Cu Tok Sp Er St Cx Mk) × Unit {0})))
      (f : F) (t : Tok) (x : Shown Tok Cx states.Seen) (r : Option V) (s : states.Seen) : Type 0 where
    pub token : Bor Tok
    pub is_there : token.now ≡ t
    pub answers : MayAnswer source states calls f token x r s

module _ {Tok Cx St V : Type 0} (picks : Picks Tok Cx St V) where
  -- to each token and each extra one verdict, and one state
  abbrev pub PicksAlike : Type 0
  PicksAlike = (t : Tok) (x : Shown Tok Cx St) (r r' : Option V) (s s' : St) → picks t x r s → picks t x r' s' → (is_some r ≡ is_some r') × (s ≡ s')

  -- two values that the closure answers to one token and one extra
  pub record SamePicked (v w : V) : Type 0 where
    pub token : Tok
    pub shown : Shown Tok Cx St
    pub state : St
    pub other_state : St
    pub first : picks token shown (Some v) state
    pub second : picks token shown (Some w) other_state

-- what is shown of the token at the start, once it is taken
abbrev pub over : {Tok Cx St : Type 0} → (St → Tok → St) → Tok → Beginning Tok Cx St → Shown Tok Cx St
over after t b = record { tokens = b.tokens; from = b.start; to = b.start + 1; context = b.context; state = after b.state t }

module _ {I Tok Sp Cu Er St Mk Cx V : Type 0} (source : input_trait.Ghosts I Cu Tok Sp) (safe : Tok → Type 0)
    (errors : error_trait.Ghosts Er I Tok Sp) (states : inspector_trait.Ghosts St I Mk Tok Sp) where
  -- a picked token is taken; from another the run goes back to the start, and fails there
  abbrev pub MeansAnswer : Tok → Option V → states.Seen → Meaning Tok Cx states.Seen errors.Seen V
  MeansAnswer t (Some v) s b o = o ≡ record { verdict = Yes (wanting b.wanted v); end = b.start + 1; state = s; events = []; emitted = [] }
  MeansAnswer t None s b o =
      Refuses (states.takes_no_memory → ⊥) s o
      ⊎ Misses errors.takes_no_memory
      (expects source errors b.tokens (wanted.SomethingElse ∷ []) (Some t) b.start (b.start + 1)) b.start
      (states.back s (states.mark b.state)) o

  module _ (picks : Picks Tok Cx states.Seen V) where
    -- some answer of the closure to the token
    pub record Picked (t : Tok) (b : Beginning Tok Cx states.Seen) (o : Outcome V errors.Seen states.Seen) : Type 0 where
      pub answer : Option V
      pub state : states.Seen
      pub picked : picks t (over states.after t b) answer state
      pub outcome : MeansAnswer t answer state b o

    abbrev pub MeansSelectAt : Option Tok → Meaning Tok Cx states.Seen errors.Seen V
    MeansSelectAt (Some t) b o = Refuses (safe t → ⊥) (states.after b.state t) o ⊎ Picked t b o
    MeansSelectAt None b o = Misses errors.takes_no_memory (expects source errors b.tokens (wanted.SomethingElse ∷ []) None b.start b.start) b.start b.state o

    pub record MeansSelect (b : Beginning Tok Cx states.Seen) (o : Outcome V errors.Seen states.Seen) : Type 0 where
      pub by_token : Refuses (states.takes_no_memory → ⊥) b.state o ⊎ MeansSelectAt (slice_get b.tokens.list b.start) b o

module _ {I Tok Sp Cu Er St Mk Cx : Type 0} (source : input_trait.Ghosts I Cu Tok Sp) (errors : error_trait.Ghosts Er I Tok Sp) (states : inspector_trait.Ghosts St I Mk Tok Sp) where
  -- the run goes back from a token to the checkpoint before it, and fails there; or there is no memory to go back, and nothing is done
  abbrev pub MissesFrom : Marks Tok states.Marked → Tok → Held Tok Cx states.Seen errors.Seen → Held Tok Cx states.Seen errors.Seen → Fault → Type 0
  MissesFrom before t old new f =
      ((new ≡ old) × (states.takes_no_memory → ⊥) × (f ≡ fault.Stop Memory))
      ⊎ Fails errors.merged errors.takes_no_memory
      (expects source errors before.tokens (wanted.SomethingElse ∷ []) (Some t) before.place old.place)
      (gone_back states.back old before) new f

module _ {I X Tok Sp Cu Er St Cx Mk : Type 0} (source : input_trait.Ghosts I Cu Tok Sp) (errors : error_trait.Ghosts Er I Tok Sp) (states : inspector_trait.Ghosts St I Mk Tok Sp) where
  -- the same of what a run is lent: from the token that was found back to the checkpoint before it
  abbrev pub MissesToken : Checkpoint Cu Mk → MaybeRef Tok → InputRef I X Cu Tok Sp Er St Cx Mk → InputRef I X Cu Tok Sp Er St Cx Mk → Fault → Type 0
  MissesToken before found old new result = MissesFrom source errors states (marks source states before) (maybe_value found) (held source errors states old) (held source errors states new) result
