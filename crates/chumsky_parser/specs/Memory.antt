-- What is never refused for memory.
-- Main words: NeverOutOfMemory, ItemsNeverOutOfMemory. Laws: MemoryLaws.antt.
use Rattle.std.specs.Prelude.{⊤, Result, Ok, Err}
use Rattle.chumsky_input.specs.declared.stop.Stop.{Stop}
use Rattle.chumsky_input.specs.declared.stop.Stop.TheVariants.{Memory, NoProgress, TooDeep, CountTooLarge}
use Rattle.chumsky_input.specs.declared.stop.Fault.{Fault}
use Rattle.chumsky_input.specs.declared.stop.Fault.TheVariants as fault
use Rattle.chumsky_input.specs.Outcome.{Meaning, Beginning, Outcome, Verdict, Yes, No, Halt, Clash}
use Rattle.chumsky_parser.specs.Items.{Next}

-- a refusal for something else
abbrev pub IsNotMemory : Stop → Type 0
IsNotMemory Memory = ⊥
IsNotMemory NoProgress = ⊤
IsNotMemory TooDeep = ⊤
IsNotMemory CountTooLarge = ⊤

-- no refusal for memory. A clash is one too, but only of errors whose merge may take memory
abbrev pub SparesMemory : {V Er : Type 0} → Verdict V Er → Type 0
SparesMemory (Yes v) = ⊤
SparesMemory No = ⊤
SparesMemory (Halt s) = IsNotMemory s
SparesMemory (Clash e) = ⊤

-- no outcome is a refusal for memory
abbrev pub NeverOutOfMemory : {Tok Cx St Er V : Type 0} → Meaning Tok Cx St Er V → Type 0
NeverOutOfMemory {Tok} {Cx} {St} {Er} {V} m = (b : Beginning Tok Cx St) (o : Outcome V Er St) → m b o → SparesMemory o.verdict

-- no iteration is refused for memory, and no step of one
pub record ItemsNeverOutOfMemory {Tok Cx St Er S V : Type 0} (begins : Meaning Tok Cx St Er S) (gives : S → Meaning Tok Cx St Er (Next S V)) : Type 0 where
  pub begin : NeverOutOfMemory begins
  pub step : (s : S) → NeverOutOfMemory (gives s)

-- an answer of a call that is no refusal for memory
abbrev pub AnswersWithoutMemory : {V : Type 0} → Result V Fault → Type 0
AnswersWithoutMemory (Ok v) = ⊤
AnswersWithoutMemory (Err fault.Fail) = ⊤
AnswersWithoutMemory (Err (fault.Stop s)) = IsNotMemory s
