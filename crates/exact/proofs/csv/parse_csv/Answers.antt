use Rattle.std.proofs.Common.{◌∙◌, ap, refl}
use Rattle.std.specs.Str.{chars}
use Rattle.exact.specs.CsvOnceLaws.{csv-answers}
use Rattle.exact.proofs.csv.parse_csv.Goals as goal

pub returns : goal.returns
returns c =
    let i = c.ignore_then-line_end.ensures in
    let cr = ap (λ x. x.parser.seq) i.first ∙ ap (λ x. x.seq) c.or_not.ensures.parser ∙ c.just-2.ensures in
    let lf = ap (λ x. x.seq) i.second ∙ c.just-3.ensures in
    let r = csv-answers c.just.ensures cr lf (chars c.args.text.now) c.trimmed.ensures (c.parse.ensures.3.reads refl) in
    record { exact = r.0; read_back = r.1 }
