use Rattle.std.proofs.Common.{◌≡◌, ◌++◌, ◌∙◌, ap, sym, refl, map-id, string_bytes, []}
use Rattle.std.specs.Prelude.{flat_map}
use Rattle.std.specs.Str.{chars}
use Rattle.std.proofs.lemmas.Iterator.{YieldsList-from_chars}
use Rattle.std.proofs.lemmas.Iterator.Consumers.{YieldsList-end}
use Rattle.std.proofs.lemmas.List.{append-nil}
use Rattle.exact.specs.JsonWritten.{character_text}
use Rattle.exact.proofs.JsonPrintLemmas.{list_printed}
use Rattle.exact.proofs.print_json.push_string.Goals as goal

pub returns : goal.returns
returns c =
    let end = YieldsList-end (YieldsList-from_chars c.args.string.now c.utf8.string cc) c.loop-character.yielded _ c.loop-character.yielded_by _ _ c.in-None.is c.next.ensures.steps in
    let whole : c.loop-character.yielded ≡ chars c.args.string.now = sym (map-id c.loop-character.yielded) ∙ end.0 in
    let old = chars (string_bytes c.args.text.now) in
    let begun = chars (string_bytes c.push_plain.new.text) in
    let left = chars (string_bytes c.loop-character.text) in
    let all = flat_map character_text (chars c.args.string.now) in
    list_printed 34 34 [] all old begun left (chars (string_bytes c.push_plain-2.new.text))
    c.in_ok-push_plain.ensures (append-nil left ∙ c.loop-character.invariant ∙ ap (λ z. begun ++ flat_map character_text z) whole) refl c.in_ok-push_plain-2.ensures
