use Rattle.std.proofs.Common.{◌≡◌, ◌++◌, string_bytes, drop, map}
use Rattle.std.specs.Str.{chars}
use Rattle.exact.specs.JsonForms.{form_of, forms_of}
use Rattle.exact.specs.JsonWritten.{elements_written, members_written}
use Rattle.exact.proofs.JsonPrintLemmas.{elements_left, members_left, forms_in}
use Rattle.exact.proofs.print_json.+push_json.Given as goal

abbrev pub invariant-loop-index : goal.invariant-loop-index
invariant-loop-index l = chars (string_bytes l.text) ++ elements_left l.index (drop l.index l.element-items) ≡ chars (string_bytes l.initial.text) ++ drop 1 (elements_written (forms_of (map form_of l.element-items)))

abbrev pub invariant-loop-place : goal.invariant-loop-place
invariant-loop-place l = chars (string_bytes l.text) ++ members_left l.place (drop l.place l.member-items) ≡ chars (string_bytes l.initial.text) ++ drop 1 (members_written (forms_in l.member-items))
