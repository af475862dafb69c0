use Rattle.std.proofs.Common.{◌≡◌, ◌∷◌, ◌++◌, ◌∙◌, ap, string_bytes}
use Rattle.std.specs.Str.{chars}
use Rattle.exact.specs.CsvWritten.{field_text}
use Rattle.exact.proofs.CsvPrintLemmas.{fields_printed}
use Rattle.exact.proofs.print_csv.push_fields.Goals as goal

pub returns-in_ok-push_rest-in-Some : goal.returns-in_ok-push_rest-in-Some
returns-in_ok-push_rest-in-Some c =
    let first = c.in-Some.first.now in
    let rest = c.in-Some.rest.now in
    let all : c.args.fields.now ≡ first ∷ rest = (rw c.in-Some.is at c.split_first.ensures.cases).0 in
    let old = chars (string_bytes c.args.text.now) in
    let mid = chars (string_bytes c.push_field.new.text) in
    let new = chars (string_bytes c.push_rest.new.text) in
    let p = c.in_ok-push_field-in-Some.ensures ∙ ap (λ z. old ++ field_text (chars z)) c.as_str.ensures.value in
    fields_printed c.args.fields.now rest first old mid new all p c.in_ok-push_rest-in-Some.ensures
