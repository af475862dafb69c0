use Rattle.std.proofs.Common.{◌≡◌, [], ◌∷◌, ◌++◌, ◌∙◌, ap, sym, refl, map-id, string_bytes}
use Rattle.std.specs.Prelude.{flat_map}
use Rattle.std.specs.Str.{chars}
use Rattle.std.proofs.lemmas.Iterator.{YieldsList-from_chars}
use Rattle.std.proofs.lemmas.Iterator.Consumers.{YieldsList-end}
use Rattle.std.proofs.lemmas.List.{append-nil}
use Rattle.exact.specs.Csv.{doubled}
use Rattle.exact.specs.CsvWritten.{doubled-pieces}
use Rattle.exact.proofs.JsonPrintLemmas.{list_printed}
use Rattle.exact.proofs.print_csv.push_quoted.Goals as goal

pub returns : goal.returns
returns c =
    let end = YieldsList-end (YieldsList-from_chars c.args.field.now c.utf8.field cc) c.loop-character.yielded _ c.loop-character.yielded_by _ _ c.in-None.is c.next.ensures.steps in
    let whole : c.loop-character.yielded ≡ chars c.args.field.now = sym (map-id c.loop-character.yielded) ∙ end.0 in
    let old = chars (string_bytes c.args.text.now) in
    let begun = chars (string_bytes c.push_one.new.text) in
    let left = chars (string_bytes c.loop-character.text) in
    let new = chars (string_bytes c.push_one-2.new.text) in
    let all = doubled (chars c.args.field.now) in
    let pieces = ap (flat_map (λ d. doubled (d ∷ []))) whole ∙ doubled-pieces (chars c.args.field.now) in
    list_printed 34 34 [] all old begun left new c.in_ok-push_one.ensures (append-nil left ∙ c.loop-character.invariant ∙ ap (λ z. begun ++ z) pieces) refl c.in_ok-push_one-2.ensures
