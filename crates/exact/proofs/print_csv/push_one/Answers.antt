use Rattle.std.proofs.Common.{string_bytes}
use Rattle.std.proofs.lemmas.Str.{IsUtf8-string_bytes}
use Rattle.exact.proofs.JsonPrintLemmas.{pushed-scalar}
use Rattle.exact.proofs.print_csv.push_one.Goals as goal

pub returns : goal.returns
returns c = pushed-scalar c.args.character (string_bytes c.args.text.now) (string_bytes c.push.new.self) c.ranges.character.0 (IsUtf8-string_bytes c.args.text.now) c.in_ok-push.ensures.bytes
