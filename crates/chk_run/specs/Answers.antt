-- What is printed of a text, by what was asked for, and why there may be no answer.
-- Main words: Answers, FailsFor. Read first: Request.antt, Ab.antt, Lines.antt.
use Rattle.std.specs.Prelude.{◌≡◌, ℕ, List, [], ◌∷◌, ◌++◌, ◌⊎◌, Option, IfSome, codes, ⊤}
use Rattle.std.specs.Option.{option_map}
use Rattle.std.specs.Borrow.{Bor}
use Rattle.std.specs.declared.alloc.Global.{Global}
use Rattle.std.specs.declared.vec.Vec.{Vec}
use Rattle.std.specs.Str.{chars, IsUtf8}
use Rattle.std.specs.Io.KnownBytes.{Appends}
use Rattle.chumsky_input.specs.declared.rich.Rich.{Rich}
use Rattle.chumsky_input.specs.declared.stop.Stop.TheVariants as Why
use Rattle.chumsky.specs.Accepted.{IsExactly}
use Rattle.chk_run.specs.declared.grammar.Command.{Command}
use Rattle.chk_run.specs.declared.grammar.Command.TheVariants.{Parse, Check}
use Rattle.chk_run.specs.declared.request.Grammar.{Grammar}
use Rattle.chk_run.specs.declared.request.Grammar.TheVariants as grammar
use Rattle.chk_run.specs.declared.run.Failure.{Failure}
use Rattle.chk_run.specs.declared.run.Failure.TheVariants as failure
use Rattle.chk_run.specs.declared.show.Refusal.{Refusal}
use Rattle.chk_run.specs.declared.show.Refusal.TheVariants as reason
use Rattle.chk_run.specs.Request.{request_text}
use Rattle.chk_run.specs.Ab.{IsAb}
use Rattle.chk_run.specs.Checked.{HasValue}
use Rattle.chk_run.specs.Numbers.{IsNumbers, numbers_of}
use Rattle.chk_run.specs.Decided.{LacksRoom}
use Rattle.chk_run.specs.Lines.{Tells, pair_text, count_text}
use Rattle.chk_run.specs.Show.{items_text, refusal_text}

-- the line of a text that is accepted: of `ab` there is one just where the text is two characters of `ab`, and of `list` just where
-- it is of numbers in brackets
abbrev pub IsLineOf : Command → Grammar → List ℕ → Option (List ℕ) → Type 0
IsLineOf Parse grammar.Ab cs line = (output : Option (ℕ × ℕ)) × IsExactly IsAb cs output × (line ≡ option_map pair_text output)
IsLineOf Check grammar.Ab cs line = (output : Option (Unit {0})) × IsExactly (HasValue IsAb) cs output × (line ≡ option_map (λ _. codes "ok") output)
IsLineOf Parse grammar.List cs line = (output : Option (Vec (Bor (List ℕ)) Global)) × IsExactly IsNumbers cs (option_map numbers_of output) × (line ≡ option_map (λ v. items_text v.items) output)
IsLineOf Check grammar.List cs line = (output : Option (Unit {0})) × IsExactly (HasValue IsNumbers) cs output × (line ≡ option_map (λ _. codes "ok") output)
IsLineOf Parse grammar.Loops cs line = IfSome line (λ l. (count : ℕ) × (l ≡ count_text count))
IsLineOf Check grammar.Loops cs line = IfSome line (λ l. l ≡ codes "ok")
IsLineOf Parse grammar.Settings cs line = IfSome line (λ l. (text : List ℕ) × (l ≡ codes "ok" ++ text))
IsLineOf Check grammar.Settings cs line = IfSome line (λ l. l ≡ codes "ok")

-- what is printed of a text by a grammar, and the status that goes with it
pub record TellsOf (command : Command) (which : Grammar) (cs : List ℕ) (old new : Option (List ℕ)) (status : ℕ) : Type 0 where
  pub errors : List (Rich ℕ)
  pub line : Option (List ℕ)
  pub told : Tells old new errors line status
  pub is : IsLineOf command which cs line

-- runs of `ab` and of `list` are refused for memory alone, and those by rules for want of room
abbrev pub MayRefuse : Grammar → Refusal → Type 0
MayRefuse grammar.Ab refusal = refusal ≡ reason.Run Why.Memory
MayRefuse grammar.List refusal = refusal ≡ reason.Run Why.Memory
MayRefuse grammar.Loops refusal = LacksRoom refusal
MayRefuse grammar.Settings refusal = LacksRoom refusal

-- why what is asked for can't be told: the output can't be written, or it is as it was and the run is refused
abbrev pub TellFails : {W : Type 0} → Grammar → W → W → Failure → Type 0
TellFails which old new failure.Usage = ⊥
TellFails which old new failure.Unreadable = ⊥
TellFails which old new failure.NotUtf8 = ⊥
TellFails which old new (failure.Refused refusal) = (new ≡ old) × MayRefuse which refusal
TellFails which old new failure.Unwritable = ⊤

-- why the input can't be read
abbrev pub ReadFails : Option (List ℕ) → Failure → Type 0
ReadFails known failure.Usage = ⊥
ReadFails known failure.Unreadable = ⊤
ReadFails known failure.NotUtf8 = IfSome known (λ bytes. IsUtf8 bytes → ⊥)
ReadFails known (failure.Refused refusal) = refusal ≡ reason.Run Why.Memory
ReadFails known failure.Unwritable = ⊥

module _ (words : List (List ℕ)) (known : Option (List ℕ)) where
  -- the words ask for a command and a grammar, and what is printed is of the whole input
  pub record Answers (old new : Option (List ℕ)) (status : ℕ) : Type 0 where
    pub command : Command
    pub which : Grammar
    pub asked : words ≡ request_text (command, which)
    pub text : List ℕ
    pub whole : IfSome known (λ bytes. text ≡ bytes)
    pub told : TellsOf command which (chars text) old new status

  -- the input gets no memory, or the grammar that the words ask for is refused
  abbrev pub IsRefused : Refusal → Type 0
  IsRefused refusal = (refusal ≡ reason.Run Why.Memory) ⊎ ((command : Command) × (which : Grammar) × (words ≡ request_text (command, which)) × MayRefuse which refusal)

  -- why there is no answer; but where the output can't be written, it is as it was
  abbrev pub FailsFor : {W : Type 0} → W → W → Failure → Type 0
  FailsFor old new failure.Usage = (new ≡ old) × ((request : Command × Grammar) → words ≡ request_text request → ⊥)
  FailsFor old new failure.Unreadable = new ≡ old
  FailsFor old new failure.NotUtf8 = (new ≡ old) × IfSome known (λ bytes. IsUtf8 bytes → ⊥)
  FailsFor old new (failure.Refused refusal) = (new ≡ old) × IsRefused refusal
  FailsFor old new failure.Unwritable = ⊤

-- what people are told of a failure, on a line
abbrev pub complaint : Failure → List ℕ
complaint failure.Usage = codes "usage: chk parse|check|show|draw NAME"
complaint failure.Unreadable = codes "cannot read input"
complaint failure.NotUtf8 = codes "input is not UTF-8"
complaint (failure.Refused refusal) = []
complaint failure.Unwritable = []

-- such a failure is told on a line of its own
abbrev pub IsComplaint : Failure → Type 0
IsComplaint failure.Usage = ⊤
IsComplaint failure.Unreadable = ⊤
IsComplaint failure.NotUtf8 = ⊤
IsComplaint (failure.Refused refusal) = ⊥
IsComplaint failure.Unwritable = ⊥

-- a failure that is told, and how the outputs are left
pub record Complains (words : List (List ℕ)) (known : Option (List ℕ)) {W : Type 0} (old new : W) (err_old err_new : Option (List ℕ)) : Type 0 where
  pub why : Failure
  pub fails : FailsFor words known old new why
  pub is : IsComplaint why
  pub told : Appends err_old err_new (complaint why ++ 10 ∷ [])

-- a refusal that is told
pub record Refuses (words : List (List ℕ)) (known : Option (List ℕ)) (old new : Option (List ℕ)) : Type 0 where
  pub why : Refusal
  pub is : IsRefused words known why
  pub told : Appends old new (codes "refused " ++ (refusal_text why ++ 10 ∷ []))
