-- How a level is written.
use Rattle.std.specs.Prelude.{◌≡◌, ℕ, List, codes}
use Rattle.exact.specs.declared.level.Level.{Level}
use Rattle.exact.specs.declared.level.Level.TheVariants.{Error, Warn, Info, Debug}

abbrev pub level_text : Level → List ℕ
level_text Error = codes "level=error"
level_text Warn = codes "level=warn"
level_text Info = codes "level=info"
level_text Debug = codes "level=debug"

-- a text is that of a level
abbrev pub IsLevel : List ℕ → Level → Type 0
IsLevel cs level = cs ≡ level_text level
