use Rattle.std.proofs.Common.{◌≡◌, ◌++◌, ◌∙◌, ap, sym, subst, string_bytes}
use Rattle.std.specs.Str.{chars}
use Rattle.std.proofs.lemmas.Str.{chars-nil}
use Rattle.exact.specs.JsonForms.{form_of, IsJson}
use Rattle.exact.specs.JsonWritten.{AreNumbers, written}
use Rattle.exact.specs.JsonWrittenLaws.{written-is, json-numbers}
use Rattle.exact.specs.JsonOnce.{json-once}
use Rattle.exact.proofs.print_json.print_json.Goals as goal

pub returns : goal.returns
returns c =
    let f = form_of c.args.value.now in
    let text = chars (string_bytes c.push_json.new.text) in
    let e : text ≡ written f = c.in_ok-push_json.ensures ∙ ap (λ z. chars z ++ written f) c.new-text.ensures.bytes ∙ ap (λ z. z ++ written f) chars-nil in
    let h : AreNumbers f → IsJson text f = λ n. subst (λ z. IsJson z f) (sym e) (written-is f n) in
    record { text = e; holds = h; once = λ n other i. json-once text (form_of other) f i (h n); again = λ source i. h (json-numbers i) }
