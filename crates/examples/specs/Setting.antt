-- How a line of settings is written.
-- Main words: keys, switches, IsSetting. Laws: SettingLaws.antt.
use Rattle.std.specs.Prelude.{◌≡◌, ℕ, ◌<◌, ◌≤◌, Bool, true, false, List, [], ◌∷◌, ◌++◌, ◌⊎◌, nat_eq, length, codes}
use Rattle.std.specs.Str.Parse.{digits_value}
use Rattle.chumsky_parser.specs.Words.{AllPass}
use Rattle.chumsky_primitive.specs.OneOf.{among}
use Rattle.chumsky_exact.specs.Table.{Names}
use Rattle.examples.specs.declared.setting.Key.{Key}
use Rattle.examples.specs.declared.setting.Key.TheVariants.{Host, Port, User, Group, Root, Index, Log, Level, Cache, Timeout, Retries, Verbose}
use Rattle.examples.specs.declared.setting.Value.{Value}
use Rattle.examples.specs.declared.setting.Value.TheVariants.{Switch, Number}
use Rattle.examples.specs.declared.setting.Setting.{Setting}

abbrev pub keys : List (List ℕ × Key)
keys = (codes "host", Host) ∷ (codes "port", Port) ∷ (codes "user", User) ∷ (codes "group", Group) ∷ (codes "root", Root) ∷ (codes "index", Index)
    ∷ (codes "log", Log) ∷ (codes "level", Level) ∷ (codes "cache", Cache) ∷ (codes "timeout", Timeout) ∷ (codes "retries", Retries) ∷ (codes "verbose", Verbose) ∷ []

abbrev pub switches : List (List ℕ × Value)
switches = (codes "true", Switch true) ∷ (codes "false", Switch false) ∷ []

-- one to four digits that write a number
pub record IsShort (w : List ℕ) (value : Value) : Type 0 where
  pub digits : AllPass (among nat_eq (codes "0123456789")) w
  pub some : 0 < length w
  pub few : length w ≤ 4
  pub written : value ≡ Number (digits_value 10 w)

-- a text is that of a setting: a key, ` = `, and a switch or a number
pub record IsSetting (text : List ℕ) (setting : Setting) : Type 0 where
  pub key : List ℕ
  pub value : List ℕ
  pub all : text ≡ (key ++ codes " = ") ++ value
  pub is_key : Names keys key setting.key
  pub is_value : Names switches value setting.value ⊎ IsShort value setting.value
