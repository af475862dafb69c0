use Rattle.std.proofs.Common.{string_bytes}
use Rattle.std.proofs.lemmas.Str.{IsUtf8-string_bytes}
use Rattle.exact.proofs.PrintLemmas.{pushed-text}
use Rattle.exact.proofs.print_csv.push_plain.Goals as goal

pub returns : goal.returns
returns c = pushed-text (string_bytes c.args.text.now) (string_bytes c.push_str.new.self) c.args.field.now (IsUtf8-string_bytes c.args.text.now) c.in_ok-push_str.ensures.bytes
