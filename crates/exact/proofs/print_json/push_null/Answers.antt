use Rattle.std.proofs.Common.{string_bytes}
use Rattle.std.proofs.lemmas.Str.{IsUtf8-string_bytes}
use Rattle.exact.proofs.JsonPrintLemmas.{pushed-null}
use Rattle.exact.proofs.print_json.push_null.Goals as goal

pub returns : goal.returns
returns c = pushed-null (string_bytes c.args.text.now) (string_bytes c.push_str.new.self) (IsUtf8-string_bytes c.args.text.now) c.in_ok-push_str.ensures.bytes
