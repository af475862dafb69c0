use Rattle.std.proofs.Common.{◌≡◌, [], ◌+◌, ◌++◌, map, drop, sym, ap, refl, ◌∙◌, string_bytes}
use Rattle.std.specs.Prelude.{codes}
use Rattle.std.specs.Str.{chars}
use Rattle.std.proofs.lemmas.List.{drop_all}
use Rattle.exact.specs.JsonForms.{null, truth, number, string, array, object, forms_of, form_of}
use Rattle.exact.specs.JsonWritten.{comma_before, string_text, written, elements_written, members_written}
use Rattle.exact.proofs.JsonPrintLemmas.{form-null, form-bool, form-number, form-string, form-array, form-object, written_as, elements_left, members_left, forms_in, elements_left-none, members_left-none, element_printed, member_printed, list_printed}
use Rattle.exact.proofs.print_json.+push_json.Goals as goal

pub returns-in-Null : goal.returns-in-Null
returns-in-Null t c =
    let f = form_of c.args.value.now in
    let e : f ≡ null = ap form_of c.in-Null.is ∙ form-null in
    written_as c.push_null.result (chars (string_bytes c.push_null.new.text)) (chars (string_bytes c.args.text.now)) null f e c.push_null.ensures

pub returns-in-Bool : goal.returns-in-Bool
returns-in-Bool t c =
    let f = form_of c.args.value.now in
    let g = truth c.in-Bool.holds in
    let e : f ≡ g = ap form_of c.in-Bool.is ∙ form-bool c.in-Bool.holds in
    written_as c.push_truth.result (chars (string_bytes c.push_truth.new.text)) (chars (string_bytes c.args.text.now)) g f e c.push_truth.ensures

pub returns-in-Number : goal.returns-in-Number
returns-in-Number t c =
    let f = form_of c.args.value.now in
    let g = number (chars c.as_str.result.now) in
    let e : f ≡ g = ap form_of c.in-Number.is ∙ form-number c.in-Number.number ∙ ap (λ z. number (chars z)) (sym c.as_str.ensures.value) in
    written_as c.push_number.result (chars (string_bytes c.push_number.new.text)) (chars (string_bytes c.args.text.now)) g f e c.push_number.ensures

pub returns-in-String : goal.returns-in-String
returns-in-String t c =
    let f = form_of c.args.value.now in
    let g = string (chars c.as_str-in-String.result.now) in
    let e : f ≡ g = ap form_of c.in-String.is ∙ form-string c.in-String.string ∙ ap (λ z. string (chars z)) (sym c.as_str-in-String.ensures.value) in
    written_as c.push_string.result (chars (string_bytes c.push_string.new.text)) (chars (string_bytes c.args.text.now)) g f e c.push_string.ensures

pub loop-index-preserved : goal.loop-index-preserved
loop-index-preserved t c =
    let i = c.loop-index.index in
    let xs = c.deref-element-items.result.now in
    element_printed i (i + 1) xs c.element-item.result (chars (string_bytes c.loop-index.text)) (chars (string_bytes c.push_comma.new.text))
    (chars (string_bytes c.push_json.new.text)) _ c.loop-index-test.true refl c.element-item.is c.loop-index.invariant
    c.in_ok-push_comma-in-Array.ensures c.in_ok-push_json-in-Array.ensures

pub loop-place-preserved : goal.loop-place-preserved
loop-place-preserved t c =
    let i = c.loop-place.place in
    let xs = c.deref-member-items.result.now in
    let m = c.member-item.result in
    let before = chars (string_bytes c.loop-place.text) ++ comma_before i in
    member_printed i (i + 1) xs m (chars (string_bytes c.loop-place.text)) (chars (string_bytes c.push_name.new.text))
    (chars (string_bytes c.push_json-in-loop-place.new.text)) _ c.loop-place-test.true refl
    c.member-item.is c.loop-place.invariant (c.in_ok-push_name-in-Object.ensures ∙ ap (λ z. before ++ (string_text (chars z) ++ codes ":")) c.as_str-in-loop-place.ensures.value)
    c.in_ok-push_json-in-Object.ensures

pub returns-in_ok-push_plain-in-Array-2 : goal.returns-in_ok-push_plain-in-Array-2
returns-in_ok-push_plain-in-Array-2 t c =
    let old = chars (string_bytes c.args.text.now) in
    let i = c.loop-index.index in
    let xs = c.deref-element-items.result.now in
    let e : form_of c.args.value.now ≡ array (forms_of (map form_of xs)) = ap form_of c.in-Array.is ∙ form-array c.in-Array.elements ∙ ap (λ z. array (forms_of (map form_of z))) (sym c.deref-element-items.ensures.value) in
    let n : drop i xs ≡ [] = drop_all i xs c.loop-index-test.false in
    let none : elements_left i (drop i xs) ≡ [] = ap (elements_left i) n ∙ elements_left-none i in
    list_printed 91 93 (elements_left i (drop i xs)) (drop 1 (elements_written (forms_of (map form_of xs)))) old
    (chars (string_bytes c.push_plain.new.text)) (chars (string_bytes c.loop-index.text)) (chars (string_bytes c.push_plain-in-Array.new.text)) c.in_ok-push_plain-in-Array.ensures
    c.loop-index.invariant none c.in_ok-push_plain-in-Array-2.ensures ∙ ap (λ f. old ++ written f) (sym e)

pub returns-in_ok-push_plain-in-Object-2 : goal.returns-in_ok-push_plain-in-Object-2
returns-in_ok-push_plain-in-Object-2 t c =
    let old = chars (string_bytes c.args.text.now) in
    let i = c.loop-place.place in
    let xs = c.deref-member-items.result.now in
    let e : form_of c.args.value.now ≡ object (forms_in xs) = ap form_of c.in-Object.is ∙ form-object c.in-Object.members ∙ ap (λ z. object (forms_in z)) (sym c.deref-member-items.ensures.value) in
    let n : drop i xs ≡ [] = drop_all i xs c.loop-place-test.false in
    let none : members_left i (drop i xs) ≡ [] = ap (members_left i) n ∙ members_left-none i in
    list_printed 123 125 (members_left i (drop i xs)) (drop 1 (members_written (forms_in xs))) old (chars (string_bytes c.push_plain-in-Object.new.text)) (chars (string_bytes c.loop-place.text)) (chars (string_bytes c.push_plain-in-Object-2.new.text)) c.in_ok-push_plain-in-Object.ensures c.loop-place.invariant none c.in_ok-push_plain-in-Object-2.ensures ∙ ap (λ f. old ++ written f) (sym e)
