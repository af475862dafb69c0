-- What moves wherever it succeeds.
-- Main words: IsYes, Moves, ItemsMove. Laws: ProgressLaws.antt.
use Rattle.std.specs.Prelude.{◌≡◌, ℕ, ◌<◌, Some, ⊤, ◌⊎◌}
use Rattle.chumsky_input.specs.Outcome.{Meaning, Beginning, Outcome, Verdict, Yes, No, Halt, Clash}
use Rattle.chumsky_parser.specs.Items.{Next}

abbrev pub IsYes : {V Er : Type 0} → Verdict V Er → Type 0
IsYes (Yes _) = ⊤
IsYes No = ⊥
IsYes (Halt _) = ⊥
IsYes (Clash _) = ⊥

-- each yes ends past its start
abbrev pub Moves : {Tok Cx St Er V : Type 0} → Meaning Tok Cx St Er V → Type 0
Moves {Tok} {Cx} {St} {Er} {V} m = (b : Beginning Tok Cx St) (o : Outcome V Er St) → m b o → IsYes o.verdict → b.start < o.end

-- making an iteration moves, or the first step of each that was made does
pub record ItemsMove {Tok Cx St Er S V : Type 0} (begins : Meaning Tok Cx St Er S) (gives : S → Meaning Tok Cx St Er (Next S V)) : Type 0 where
  pub by : Moves begins ⊎ ((b : Beginning Tok Cx St) (p : Outcome S Er St) (s : S) → begins b p → p.verdict ≡ Yes (Some s) → Moves (gives s))
