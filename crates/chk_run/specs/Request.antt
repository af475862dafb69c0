-- The words of the program.
use Rattle.std.specs.Prelude.{ℕ, List, [], ◌∷◌, codes, ⊤}
use Rattle.chk_run.specs.declared.grammar.Answer.{Answer}
use Rattle.chk_run.specs.declared.grammar.Answer.TheVariants.{Parsed, Checked}
use Rattle.chk_run.specs.declared.grammar.Command.{Command}
use Rattle.chk_run.specs.declared.grammar.Command.TheVariants.{Parse, Check}
use Rattle.chk_run.specs.declared.request.Grammar.{Grammar}
use Rattle.chk_run.specs.declared.request.Grammar.TheVariants as grammar

abbrev pub command_text : Command → List ℕ
command_text Parse = codes "parse"
command_text Check = codes "check"

abbrev pub grammar_text : Grammar → List ℕ
grammar_text grammar.Ab = codes "ab"
grammar_text grammar.List = codes "list"
grammar_text grammar.Loops = codes "loops"
grammar_text grammar.Settings = codes "settings"

-- the words that ask for a command and a grammar
abbrev pub request_text : Command × Grammar → List (List ℕ)
request_text request = command_text request.0 ∷ grammar_text request.1 ∷ []

-- an answer to a command
abbrev pub IsAnswerTo : {O : Type 0} → Command → Answer O → Type 0
IsAnswerTo Parse (Parsed parsed) = ⊤
IsAnswerTo Check (Checked parsed) = ⊤
IsAnswerTo Parse (Checked parsed) = ⊥
IsAnswerTo Check (Parsed parsed) = ⊥
