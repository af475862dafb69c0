use Rattle.std.proofs.Common.{string_bytes, ◌++◌, ◌∙◌, ap, sym}
use Rattle.std.specs.Str.{chars}
use Rattle.std.proofs.lemmas.Str.{IsUtf8-string_bytes}
use Rattle.exact.specs.JsonForms.{truth}
use Rattle.exact.specs.JsonWritten.{written}
use Rattle.exact.proofs.JsonPrintLemmas.{pushed-true, pushed-false}
use Rattle.exact.proofs.print_json.push_truth.Goals as goal

pub returns-then-holds : goal.returns-then-holds
returns-then-holds c =
    let old = string_bytes c.args.text.now in
    pushed-true old (string_bytes c.push_str.new.self) (IsUtf8-string_bytes c.args.text.now) c.in_ok-push_str.ensures.bytes ∙ ap (λ b. chars old ++ written (truth b)) (sym c.if-holds.true)

pub returns : goal.returns
returns c =
    let old = string_bytes c.args.text.now in
    pushed-false old (string_bytes c.push_str-2.new.self) (IsUtf8-string_bytes c.args.text.now) c.in_ok-push_str-2.ensures.bytes ∙ ap (λ b. chars old ++ written (truth b)) (sym c.if-holds.false)
