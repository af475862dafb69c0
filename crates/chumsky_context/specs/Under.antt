-- Runs under another context.
-- Main words: UnderValue, UnderMade, IgnoringUnder, SequenceUnder; BeginsUnder, GivesUnder; RunsUnderContext. Laws: UnderLaws.antt.
use Rattle.std.specs.Prelude.{◌≡◌, Bool, true, Option, Some, None, Result, map, option_map}
use Rattle.chumsky_input.specs.declared.error.Error as error_trait
use Rattle.chumsky_input.specs.declared.inspector.Inspector as inspector_trait
use Rattle.chumsky_input.specs.declared.input.Input as input_trait
use Rattle.chumsky_input.specs.declared.aside.Aside.{Aside}
use Rattle.chumsky_input.specs.declared.input_ref.InputRef.{InputRef}
use Rattle.chumsky_input.specs.declared.stop.Fault.{Fault}
use Rattle.chumsky_input.specs.Held.{Held, located}
use Rattle.chumsky_input.specs.Outcome.{Meaning, Beginning, Outcome}
use Rattle.chumsky_input.specs.Run.{Ran, Runs}
use Rattle.chumsky_input.specs.Words.{Does}
use Rattle.chumsky_parser.specs.Chained.{Chained, Given, Asked, both}
use Rattle.chumsky_parser.specs.Items.{Next}
use Rattle.chumsky_context.specs.Carried.{Carried}

module _ {I Tok Sp Cu Er St Mk Cx : Type 0} (source : input_trait.Ghosts I Cu Tok Sp) (errors : error_trait.Ghosts Er I Tok Sp) (states : inspector_trait.Ghosts St I Mk Tok Sp) where
  -- what a run holds that is made of these parts: a cursor, errors, a state and a context
  abbrev pub held_from_parts : Cu → Aside Er → St → Cx → Held Tok Cx states.Seen errors.Seen
  held_from_parts cursor found state context =
      record {
        tokens = source.cursor_tokens cursor;
        place = source.place cursor;
        context = context;
        state = states.seen state;
        kept = option_map (located errors.seen) found.kept;
        emitted = map errors.seen found.emitted.items;
        stopped = None;
      }

  -- a run under a context that is made of a cursor, errors and a state, and comes to others of them, shows one outcome of what is done
  abbrev pub RunsFromParts : {V : Type 0} → Does I Tok Sp Er St Mk Cx V → Bool → Cx → Cu × Aside Er × St → Cu × Aside Er × St → Result (Option V) Fault → Type 0
  RunsFromParts does wanted context old new result =
      Ran errors.merged errors.takes_no_memory (does errors states) wanted (held_from_parts old.0 old.1 old.2 context) (held_from_parts new.0 new.1 new.2 context) result

module _ {Tok Cx V St : Type 0} where
  -- the same beginning, under a context
  abbrev pub begun_under : V → Beginning Tok Cx St → Beginning Tok V St
  begun_under v b = record { wanted = b.wanted; tokens = b.tokens; start = b.start; context = v; state = b.state }

module _ {Tok Cx St Er V W : Type 0} where
  -- the part with v as its context; without a value there is no outcome
  abbrev pub RunsUnder : Meaning Tok V St Er W → Option V → Meaning Tok Cx St Er W
  RunsUnder part (Some v) b o = part (begun_under v b) o
  RunsUnder part None b o = ⊥

  -- the same, as a record
  pub record UnderValue (part : Meaning Tok V St Er W) (v : Option V) (b : Beginning Tok Cx St) (o : Outcome W Er St) : Type 0 where
    pub runs : RunsUnder part v b o

  -- the part under a context that is made of the present one
  pub record UnderMade (makes : Cx → V → Type 0) (part : Meaning Tok V St Er W) (b : Beginning Tok Cx St) (o : Outcome W Er St) : Type 0 where
    pub context : V
    pub made : makes b.context context
    pub runs : part (begun_under context b) o

  -- the first part for its value, and then the second under that value
  abbrev pub IgnoringUnder : Meaning Tok Cx St Er V → Meaning Tok V St Er W → Meaning Tok Cx St Er W
  IgnoringUnder first second = Chained (Asked true first) (UnderValue second)

  -- the first part for its value, and then the second under that value, for both values
  abbrev pub SequenceUnder : Meaning Tok Cx St Er V → Meaning Tok V St Er W → Meaning Tok Cx St Er (V × W)
  SequenceUnder first second = Chained (Asked true first) (λ v. Chained (UnderValue second v) (λ w. Given (both v w)))

module _ {Tok Cx St Er V S : Type 0} where
  -- an iteration is made under the value, and given beside it
  abbrev pub MadeUnder : Meaning Tok V St Er S → Option V → Meaning Tok Cx St Er (V × S)
  MadeUnder begins v = Chained (UnderValue begins v) (λ s. Given (both v s))

  -- the first part for its value, and then an iteration of the second is made under that value, beside it
  abbrev pub BeginsUnder : Meaning Tok Cx St Er V → Meaning Tok V St Er S → Meaning Tok Cx St Er (V × S)
  BeginsUnder first begins = Chained first (MadeUnder begins)

-- a step of the second part under the value that lies beside its iteration; the value stays
abbrev pub GivesUnder : {Tok Cx St Er V S W : Type 0} → (S → Meaning Tok V St Er (Next S W)) → V × S → Meaning Tok Cx St Er (Next (V × S) W)
GivesUnder gives s = Carried (λ t. (s.0, t)) (UnderValue (gives s.1) (Some s.0))

-- iterations that are alike, beside equal values
abbrev pub AlikeUnder : {V S : Type 0} → (S → S → Type 0) → V × S → V × S → Type 0
AlikeUnder alike s t = (s.0 ≡ t.0) × alike s.1 t.1

-- outputs that are the same are equal
abbrev pub SameAreEqual : {V : Type 0} → (V → V → Type 0) → Type 0
SameAreEqual {V} same = (v w : V) → same v w → v ≡ w

module _ {I X Tok Sp Cu Er St Cx Mk V W : Type 0} (source : input_trait.Ghosts I Cu Tok Sp) (errors : error_trait.Ghosts Er I Tok Sp) (states : inspector_trait.Ghosts St I Mk Tok Sp) where
  -- a run shows one outcome of what is done with v as its context
  abbrev pub RunsUnderContext : V → Does I Tok Sp Er St Mk V W → Bool → InputRef I X Cu Tok Sp Er St Cx Mk → InputRef I X Cu Tok Sp Er St Cx Mk → Result (Option W) Fault → Type 0
  RunsUnderContext v does wanted old new result = Runs source errors states (UnderValue (does errors states) (Some v)) wanted old new result
