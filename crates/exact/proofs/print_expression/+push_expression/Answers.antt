use Rattle.std.proofs.Common.{◌≡◌, ◌++◌, map, sym, ap, ◌∙◌, arith, string_bytes}
use Rattle.std.specs.Str.{chars}
use Rattle.std.proofs.lemmas.List.{drop_all}
use Rattle.std.proofs.lemmas.Str.{IsUtf8-string_bytes}
use Rattle.exact.specs.Expressions.{name, number, list, forms_of, form_of, written}
use Rattle.exact.specs.ExpressionsLaws.{form-name, form-number, form-list}
use Rattle.exact.proofs.PrintLemmas.{pushed-text, pushed-char, list_printed}
use Rattle.exact.proofs.print_expression.+push_expression.Goals as goal

pub returns-in_ok-push_str-in-Name : goal.returns-in_ok-push_str-in-Name
returns-in_ok-push_str-in-Name t c =
    let old = string_bytes c.args.text.now in
    let e : form_of c.args.expression.now ≡ name (chars c.in-Name.name.now) = ap form_of c.in-Name.is ∙ form-name c.in-Name.name in
    pushed-text old (string_bytes c.push_str.new.self) c.in-Name.name.now (IsUtf8-string_bytes c.args.text.now) c.in_ok-push_str-in-Name.ensures.bytes ∙ ap (λ f. chars old ++ written f) (sym e)

pub returns-in_ok-push_str-in-Number : goal.returns-in_ok-push_str-in-Number
returns-in_ok-push_str-in-Number t c =
    let old = string_bytes c.args.text.now in
    let e : form_of c.args.expression.now ≡ number (chars c.in-Number.number.now) = ap form_of c.in-Number.is ∙ form-number c.in-Number.number in
    pushed-text old (string_bytes c.push_str-in-Number.new.self) c.in-Number.number.now (IsUtf8-string_bytes c.args.text.now)
    c.in_ok-push_str-in-Number.ensures.bytes ∙ ap (λ f. chars old ++ written f) (sym e)

pub returns-in_ok-push-in-List-2 : goal.returns-in_ok-push-in-List-2
returns-in_ok-push-in-List-2 t c =
    let es = c.in-List.expressions.items in
    let l = c.loop-index in
    let e : form_of c.args.expression.now ≡ list (forms_of (map form_of es)) = ap form_of c.in-List.is ∙ form-list c.in-List.expressions in
    let opened = pushed-char 40 (string_bytes c.args.text.now) (string_bytes c.push.new.self) (omega arith) (IsUtf8-string_bytes c.args.text.now) c.in_ok-push-in-List.ensures.bytes in
    let closed = pushed-char 41 (string_bytes l.text) (string_bytes c.push-in-List.new.self) (omega arith) (IsUtf8-string_bytes l.text) c.in_ok-push-in-List-2.ensures.bytes in
    let i = rw c.deref-inner-items.ensures.value at l.invariant in
    let n = rw c.deref-inner-items.ensures.value at (drop_all l.index c.deref-inner-items.result.now c.loop-index-test.false) in
    list_printed l.index es (chars (string_bytes c.args.text.now)) (chars (string_bytes c.push.new.self)) (chars (string_bytes l.text)) (chars (string_bytes c.push-in-List.new.self)) opened i n closed ∙ ap (λ f. chars (string_bytes c.args.text.now) ++ written f) (sym e)
