use Rattle.std.proofs.Common.{refl, rules, ap, ◌∙◌}
use Rattle.std.specs.Str.{chars}
use Rattle.chumsky.specs.Accepted.{Exactly}
use Rattle.chumsky.specs.AcceptedLaws.{exactly-by_words}
use Rattle.chumsky_exact.specs.ReadBack.{output-is}
use Rattle.examples.specs.Date.{IsDate}
use Rattle.examples.specs.DateLaws.{date-sound, date-complete, dash_stops}
use Rattle.examples.proofs.date.parse_date.Goals as goal

pub returns : goal.returns
returns c =
    let cs = chars c.args.text.now in
    let b = ap (λ g. g.parsers) (c.map.ensures.parser ∙ c.group.ensures) in
    let y = c.pick_by-year.ensures in
    let m = c.pick_by-month.ensures in
    let d = c.pick_by-day.ensures in
    let x1 = ap (λ t. t.1.seq) b ∙ c.just.ensures in
    let x2 = ap (λ t. t.3.seq) b ∙ c.just-2.ensures in
    let r1 = ap (λ t. t.0.parser.picked.parser.kind.radix) b ∙ ap (λ q. q.picked.parser.kind.radix) c.labelled.ensures.parser ∙ ap (λ q. q.kind.radix) y.parser ∙ c.digits.ensures in
    let r2 = ap (λ t. t.2.parser.picked.parser.kind.radix) b ∙ ap (λ q. q.picked.parser.kind.radix) c.labelled-2.ensures.parser ∙ ap (λ q. q.kind.radix) m.parser ∙ c.digits-2.ensures in
    let r3 = ap (λ t. t.4.parser.picked.parser.kind.radix) b ∙ ap (λ q. q.picked.parser.kind.radix) c.labelled-3.ensures.parser ∙ ap (λ q. q.kind.radix) d.parser ∙ c.digits-3.ensures in
    let l2 = ap (λ t. t.2.parser.picked.picker.least) b ∙ ap (λ q. q.picked.picker.least) c.labelled-2.ensures.parser ∙ ap (λ q. q.least) m.picker in
    let h2 = ap (λ t. t.2.parser.picked.picker.most) b ∙ ap (λ q. q.picked.picker.most) c.labelled-2.ensures.parser ∙ ap (λ q. q.most) m.picker in
    let l3 = ap (λ t. t.4.parser.picked.picker.least) b ∙ ap (λ q. q.picked.picker.least) c.labelled-3.ensures.parser ∙ ap (λ q. q.least) d.picker in
    let h3 = ap (λ t. t.4.parser.picked.picker.most) b ∙ ap (λ q. q.picked.picker.most) c.labelled-3.ensures.parser ∙ ap (λ q. q.most) d.picker in
    let exact : Exactly IsDate cs c.parse.result =
    exactly-by_words IsDate (c.parse.ensures.3.reads refl) refl ((((tt, tt, λ w rest h f. dash_stops _ _ x1 r1 w rest h), tt, λ w rest h f. tt), tt, λ w rest h f. dash_stops _ _ x2 r2 w rest h), tt, λ w rest h f. tt) (λ t. tt)
    (λ v w s. date-sound _ _ _ _ _ _ _ _ _ x1 x2 r1 r2 r3 l2 h2 l3 h3 cs s.0.0 s.0.2 s.0.4 v s.1 (search rules) (search rules) (search rules)) (λ v i. date-complete _ _ _ _ _ _ _ _ _ x1 x2 r1 r2 r3 l2 h2 l3 h3 cs v i) in
    record {
      exact = exact;
      month = output-is IsDate cs _ (λ v i. (i.is_month.from, i.is_month.to)) c.parse.result exact;
      day = output-is IsDate cs _ (λ v i. (i.is_day.from, i.is_day.to)) c.parse.result exact;
    }
