use Rattle.std.proofs.Common.{◌≡◌, ◌++◌, take, string_bytes}
use Rattle.std.specs.Prelude.{flat_map}
use Rattle.std.specs.Str.{chars}
use Rattle.exact.specs.Csv.{field_of}
use Rattle.exact.specs.CsvWritten.{led_text}
use Rattle.exact.proofs.print_csv.push_rest.Given as goal

abbrev pub invariant-loop-field : goal.invariant-loop-field
invariant-loop-field l = chars (string_bytes l.text) ≡ chars (string_bytes l.initial.text) ++ flat_map (λ field. led_text (field_of field)) (take l.field-index l.fields)
