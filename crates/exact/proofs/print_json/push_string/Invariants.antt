use Rattle.std.proofs.Common.{◌≡◌, ◌++◌, string_bytes}
use Rattle.std.specs.Prelude.{flat_map}
use Rattle.std.specs.Str.{chars}
use Rattle.exact.specs.JsonWritten.{character_text}
use Rattle.exact.proofs.print_json.push_string.Given as goal

abbrev pub invariant-loop-character : goal.invariant-loop-character
invariant-loop-character l = chars (string_bytes l.text) ≡ chars (string_bytes l.initial.text) ++ flat_map character_text l.yielded
