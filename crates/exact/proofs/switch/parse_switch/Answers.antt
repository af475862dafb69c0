use Rattle.std.proofs.Common.{Some, None, [], ◌∷◌, refl, rules}
use Rattle.std.specs.Prelude.{codes}
use Rattle.std.specs.Str.{chars}
use Rattle.chumsky_exact.specs.Chosen.{Lists}
use Rattle.chumsky_exact.specs.TablesInTurn.{TwoTables, answers-by_tables_in_turn}
use Rattle.exact.specs.declared.switch.Key.{Key}
use Rattle.exact.specs.declared.switch.Key.TheVariants.{Volume, Light, Alarm}
use Rattle.exact.specs.declared.switch.Switch.{Switch}
use Rattle.exact.specs.declared.switch.Switch.TheVariants.{On, Off}
use Rattle.exact.specs.Switch.{setting_text, setting_of}
use Rattle.exact.proofs.switch.parse_switch.Goals as goal

abbrev tables : TwoTables Key Switch
tables = record {
  before = None;
  firsts = (codes "volume", Volume) ∷ (codes "light", Light) ∷ (codes "alarm", Alarm) ∷ [];
  between = Some (codes "=");
  seconds = (codes "on", On) ∷ (codes "off", Off) ∷ [];
}

pub returns : goal.returns
unfolding chars
returns c =
    let a = c.parse.ensures.3.reads refl in
    let b = c.then-setting.ensures in
    let both = answers-by_tables_in_turn setting_text setting_of a tables (record { before = None; firsts = _ ∷ _ ∷ _ ∷ []; between = Some _; seconds = _ ∷ _ ∷ [] }) refl (λ v s. s) refl
    (rw (c.map_by.ensures.parser, b.first, b.second, c.then_ignore.ensures.first, c.then_ignore.ensures.second, c.choice-key.ensures, c.choice-switch.ensures)
    (rw (c.to.ensures.parser, c.to-2.ensures.parser, c.to-3.ensures.parser, c.to-4.ensures.parser, c.to-5.ensures.parser)
    (rw (c.to.ensures.value, c.to-2.ensures.value, c.to-3.ensures.value, c.to-4.ensures.value, c.to-5.ensures.value)
    (rw (c.just.ensures, c.just-2.ensures, c.just-3.ensures, c.just-4.ensures, c.just-5.ensures, c.just-6.ensures) refl))))
    (search rules) (λ v. ((v.key, v.switch), refl))
    (λ v. elim v as (λ key. Lists tables.firsts key) [ Volume ↦ search rules | Light ↦ search rules | Alarm ↦ search rules ])
    (λ v. elim v as (λ switch. Lists tables.seconds switch) [ On ↦ search rules | Off ↦ search rules ]) in
    record { exact = both.0; answered = both.1 (search rules) (search rules) }
