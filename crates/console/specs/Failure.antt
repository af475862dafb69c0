-- What is said where a program gives no answer, and the statuses.
use Rattle.std.specs.Prelude.{ℕ, Bool, true, false, List, ◌++◌, Result, Ok, Err, codes}
use Rattle.chumsky_input.specs.declared.stop.Stop.{Stop}
use Rattle.chumsky_input.specs.declared.stop.Stop.TheVariants as Why
use Rattle.chumsky_rules.specs.declared.errors.BuildError.TheVariants as building
use Rattle.chumsky_rules.specs.declared.errors.RecursiveError.{RecursiveError}
use Rattle.chumsky_rules.specs.declared.errors.RecursiveError.TheVariants as rules
use Rattle.console.specs.declared.failure.Failure.{Failure}
use Rattle.console.specs.declared.failure.Failure.TheVariants.{Words, Unreadable, NotUtf8, Unwritable, NoGrammar, Refused}

-- rules that get no memory are a refusal
abbrev pub failure_of_rules : RecursiveError → Failure
failure_of_rules rules.Declare = Refused Why.Memory
failure_of_rules (rules.Build building.Memory) = Refused Why.Memory
failure_of_rules (rules.Build (building.ForeignNode n)) = NoGrammar
failure_of_rules (rules.Build (building.ForeignRule n)) = NoGrammar
failure_of_rules (rules.Define error) = NoGrammar

abbrev pub failure_text : Failure → List ℕ
failure_text Words = codes "wrong words"
failure_text Unreadable = codes "cannot read input"
failure_text NotUtf8 = codes "input is not UTF-8"
failure_text Unwritable = codes "cannot write output"
failure_text NoGrammar = codes "refused: no grammar"
failure_text (Refused Why.Memory) = codes "refused: out of memory"
failure_text (Refused Why.TooDeep) = codes "refused: too deep"
failure_text (Refused Why.NoProgress) = codes "refused: no progress"
failure_text (Refused Why.CountTooLarge) = codes "refused: too many"

-- what people are told: of wrong words, how the program is called
abbrev pub complaint : List ℕ → Failure → List ℕ
complaint usage Words = codes "usage: " ++ usage
complaint usage Unreadable = failure_text Unreadable
complaint usage NotUtf8 = failure_text NotUtf8
complaint usage Unwritable = failure_text Unwritable
complaint usage NoGrammar = failure_text NoGrammar
complaint usage (Refused stop) = failure_text (Refused stop)

-- 2 for wrong words, input or output, and 3 for a refusal
abbrev pub failure_status : Failure → ℕ
failure_status Words = 2
failure_status Unreadable = 2
failure_status NotUtf8 = 2
failure_status Unwritable = 2
failure_status NoGrammar = 3
failure_status (Refused stop) = 3

-- 0 for a text that is accepted, and 1 for one that isn't
abbrev pub status_of : Result Bool Failure → ℕ
status_of (Ok true) = 0
status_of (Ok false) = 1
status_of (Err failure) = failure_status failure
