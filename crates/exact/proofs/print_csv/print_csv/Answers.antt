use Rattle.std.proofs.Common.{◌≡◌, flat_map, map, sym, ap, subst, ◌∙◌, string_bytes}
use Rattle.std.specs.Str.{chars}
use Rattle.std.proofs.lemmas.List.{take_all}
use Rattle.std.proofs.lemmas.Str.{chars-nil}
use Rattle.exact.specs.Csv.{IsCsv, record_of}
use Rattle.exact.specs.CsvOnceLaws.{csv-once}
use Rattle.exact.specs.CsvWritten.{line_text, csv_text, AreWritable, csv-written, written-again}
use Rattle.exact.proofs.CsvPrintLemmas.{of-map}
use Rattle.exact.proofs.print_csv.print_csv.Goals as goal

pub loop-fields-init : goal.loop-fields-init
loop-fields-init c = ap chars c.new-text.ensures.bytes ∙ chars-nil

pub returns : goal.returns
returns c =
    let records = map record_of c.args.records.now in
    let text = chars (string_bytes c.loop-fields.text) in
    let lines = c.loop-fields.invariant ∙ ap (flat_map (λ fields. line_text (record_of fields))) (take_all c.loop-fields.fields-index c.args.records.now c.loop-fields-test.false) in
    let whole : text ≡ csv_text records = lines ∙ of-map record_of line_text c.args.records.now in
    let is : AreWritable records → IsCsv text records = λ h. subst (λ z. IsCsv z records) (sym whole) (csv-written records h) in
    record { text = whole; holds = is; once = λ h others i. csv-once text others records i (is h); again = λ source i. is (written-again source records i) }
