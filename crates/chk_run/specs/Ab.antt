-- What the grammar `ab` reads.
use Rattle.std.specs.Prelude.{◌≡◌, ℕ, List, [], ◌∷◌, ◌⊎◌}
use Rattle.chumsky.specs.Accepted.{IsExactly}
use Rattle.chk_run.specs.Checked.{HasValue}
use Rattle.chk_run.specs.declared.grammar.Answer.{Answer}
use Rattle.chk_run.specs.declared.grammar.Answer.TheVariants.{Parsed, Checked}
use Rattle.chk_run.specs.declared.grammar.Command.{Command}
use Rattle.chk_run.specs.declared.grammar.Command.TheVariants.{Parse, Check}

-- an `a` and a `b`, or a `b` and any character
abbrev pub IsAb : List ℕ → ℕ × ℕ → Type 0
IsAb cs p = (cs ≡ p.0 ∷ p.1 ∷ []) × (((p.0 ≡ 97) × (p.1 ≡ 98)) ⊎ (p.0 ≡ 98))

-- the answer of a text: it is accepted just where it is of two such characters
abbrev pub AnswersAb : Command → List ℕ → Answer (ℕ × ℕ) → Type 0
AnswersAb Parse cs (Parsed parsed) = IsExactly IsAb cs parsed.output
AnswersAb Check cs (Checked parsed) = IsExactly (HasValue IsAb) cs parsed.output
AnswersAb Parse cs (Checked parsed) = ⊥
AnswersAb Check cs (Parsed parsed) = ⊥
