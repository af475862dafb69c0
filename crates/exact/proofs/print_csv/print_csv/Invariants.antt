use Rattle.std.proofs.Common.{◌≡◌, take, flat_map, string_bytes}
use Rattle.std.specs.Str.{chars}
use Rattle.exact.specs.Csv.{record_of}
use Rattle.exact.specs.CsvWritten.{line_text}
use Rattle.exact.proofs.print_csv.print_csv.Given as goal

abbrev pub invariant-loop-fields : goal.invariant-loop-fields
invariant-loop-fields l = chars (string_bytes l.text) ≡ flat_map (λ fields. line_text (record_of fields)) (take l.fields-index l.records)
