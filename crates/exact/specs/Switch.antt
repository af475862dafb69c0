-- How a setting that is on or off is written, as `volume=on`.
use Rattle.std.specs.Prelude.{◌≡◌, ℕ, List, ◌++◌, codes}
use Rattle.exact.specs.declared.switch.Key.{Key}
use Rattle.exact.specs.declared.switch.Key.TheVariants.{Volume, Light, Alarm}
use Rattle.exact.specs.declared.switch.Switch.{Switch}
use Rattle.exact.specs.declared.switch.Switch.TheVariants.{On, Off}
use Rattle.exact.specs.declared.switch.Setting.{Setting}

abbrev pub key_text : Key → List ℕ
key_text Volume = codes "volume"
key_text Light = codes "light"
key_text Alarm = codes "alarm"

abbrev pub switch_text : Switch → List ℕ
switch_text On = codes "on"
switch_text Off = codes "off"

-- the key's text, an equals sign, and the switch's
abbrev pub setting_text : Setting → List ℕ
setting_text setting = (key_text setting.key ++ codes "=") ++ switch_text setting.switch

-- a text is that of a setting
abbrev pub IsSetting : List ℕ → Setting → Type 0
IsSetting cs setting = cs ≡ setting_text setting

-- a setting of a key and a switch
abbrev pub setting_of : Key → Switch → Setting
setting_of key switch = record { key = key; switch = switch }
