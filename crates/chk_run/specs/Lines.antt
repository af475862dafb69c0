-- What is printed of an answer, and the status that goes with it.
use Rattle.std.specs.Prelude.{◌≡◌, ℕ, List, [], ◌∷◌, ◌++◌, flat_map, Option, Some, None, codes, decimal}
use Rattle.std.specs.Char.{encode_utf8}
use Rattle.std.specs.Io.KnownBytes.{Appends}
use Rattle.chumsky_input.specs.declared.rich.Rich.{Rich}
use Rattle.chk_run.specs.Show.{error_text}
use Rattle.chk_run.specs.Texts.{text_bytes}
use Rattle.chk_run.specs.declared.texts.Text.{Text}

-- the lines of some errors, one after another
abbrev pub error_lines : List (Rich ℕ) → List ℕ
error_lines errors = flat_map (λ e. error_text e ++ 10 ∷ []) errors

-- the output of an answer without errors
abbrev pub alone : {O : Type 0} → List (Rich ℕ) → Option O → Option O
alone [] output = output
alone (e ∷ es) output = None

-- what the line of an output of `ab` says
abbrev pub pair_text : ℕ × ℕ → List ℕ
pair_text p = codes "ok " ++ (encode_utf8 p.0 ++ encode_utf8 p.1)

-- what the line of an output of `loops` says
abbrev pub count_text : ℕ → List ℕ
count_text n = codes "ok " ++ decimal n

-- what the line of an output of `settings` says
abbrev pub settings_text : Text → List ℕ
settings_text s = codes "ok" ++ text_bytes s

-- of an output without errors its line is printed, with status 0; else the lines of the errors, with status 1
abbrev pub Tells : Option (List ℕ) → Option (List ℕ) → List (Rich ℕ) → Option (List ℕ) → ℕ → Type 0
Tells old new [] (Some line) status = (status ≡ 0) × Appends old new (line ++ 10 ∷ [])
Tells old new [] None status = (status ≡ 1) × Appends old new []
Tells old new (e ∷ es) line status = (status ≡ 1) × Appends old new (error_lines (e ∷ es))
