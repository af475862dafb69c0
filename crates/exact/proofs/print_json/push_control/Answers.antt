use Rattle.std.proofs.Common.{string_bytes, ◌∙◌, ◌/◌, ◌%◌, ap}
use Rattle.std.specs.Char.{digit_char}
use Rattle.std.specs.Str.{chars}
use Rattle.std.proofs.lemmas.Str.{IsUtf8-string_bytes}
use Rattle.exact.proofs.JsonPrintLemmas.{pushed-zeros, control_printed}
use Rattle.exact.proofs.print_json.push_control.Goals as goal

pub returns : goal.returns
returns c =
    let old = string_bytes c.args.text.now in
    let begun = string_bytes c.push_str.new.self in
    control_printed (chars old) (chars begun) (chars (string_bytes c.push_plain.new.text)) (chars (string_bytes c.push_plain-2.new.text)) c.hex_digit-high.result c.hex_digit-low.result _ _
    (pushed-zeros old begun (IsUtf8-string_bytes c.args.text.now) c.in_ok-push_str.ensures.bytes)
    c.in_ok-push_plain.ensures
    c.in_ok-push_plain-2.ensures
    (c.hex_digit-high.ensures ∙ ap (λ n. digit_char (n / 16)) c.from-number.ensures)
    (c.hex_digit-low.ensures ∙ ap (λ n. digit_char (n % 16)) c.from-number.ensures)
