-- One more part after an answer.
-- Main words: EmitsBeside, ChecksBeside.
use Rattle.std.specs.Prelude.{◌≡◌, true, false, Result, Ok, Err}
use Rattle.chumsky_input.specs.declared.stop.Fault.{Fault}
use Rattle.chumsky_input.specs.declared.error.Error as error_trait
use Rattle.chumsky_input.specs.declared.inspector.Inspector as inspector_trait
use Rattle.chumsky_input.specs.declared.input.Input as input_trait
use Rattle.chumsky_input.specs.declared.input_ref.InputRef.{InputRef}
use Rattle.chumsky_input.specs.Words.{Does}
use Rattle.chumsky_input.specs.Held.{Held, held}
use Rattle.chumsky_input.specs.Outcome.{Meaning}
use Rattle.chumsky_input.specs.Run.{Ran, with_value, without_value}

-- an answer with a value before its own
abbrev pub paired : {V W : Type 0} → V → Result W Fault → Result (V × W) Fault
paired v (Ok w) = Ok (v, w)
paired v (Err f) = Err f

module _ {Tok Cx St Er W : Type 0} (merged : Er → Er → Er) (safe : Type 0) (meaning : Meaning Tok Cx St Er W) where
  -- where there is a value the part is run, else nothing is done
  abbrev pub RanAfter : {V : Type 0} → Result V Fault → Held Tok Cx St Er → Held Tok Cx St Er → Result (V × W) Fault → Type 0
  RanAfter (Ok v) old new r = (s : Result W Fault) × Ran merged safe meaning true old new (with_value s) × (r ≡ paired v s)
  RanAfter (Err f) old new r = (new ≡ old) × (r ≡ Err f)

  abbrev pub CheckedAfter : Result (Unit {0}) Fault → Held Tok Cx St Er → Held Tok Cx St Er → Result (Unit {0}) Fault → Type 0
  CheckedAfter (Ok _) old new r = Ran merged safe meaning false old new (without_value r)
  CheckedAfter (Err f) old new r = (new ≡ old) × (r ≡ Err f)

module _ {I X Tok Sp Cu Er St Cx Mk W : Type 0} (source : input_trait.Ghosts I Cu Tok Sp) (errors : error_trait.Ghosts Er I Tok Sp) (states : inspector_trait.Ghosts St I Mk Tok Sp) where
  -- the run from `old` to `new` is that of the part after an answer, whose value is given before the part's
  abbrev pub EmitsBeside : {V : Type 0} → Does I Tok Sp Er St Mk Cx W → Result V Fault → InputRef I X Cu Tok Sp Er St Cx Mk → InputRef I X Cu Tok Sp Er St Cx Mk → Result (V × W) Fault → Type 0
  EmitsBeside part before old new result = RanAfter errors.merged errors.takes_no_memory (part errors states) before (held source errors states old) (held source errors states new) result

  -- the same without values
  abbrev pub ChecksBeside : Does I Tok Sp Er St Mk Cx W → Result (Unit {0}) Fault → InputRef I X Cu Tok Sp Er St Cx Mk → InputRef I X Cu Tok Sp Er St Cx Mk → Result (Unit {0}) Fault → Type 0
  ChecksBeside part before old new result = CheckedAfter errors.merged errors.takes_no_memory (part errors states) before (held source errors states old) (held source errors states new) result
