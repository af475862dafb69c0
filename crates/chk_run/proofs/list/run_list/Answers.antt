use Rattle.std.proofs.Common.{◌∷◌, [], refl, sym, ◌∙◌, ap}
use Rattle.std.specs.Str.{chars}
use Rattle.chumsky_parser.specs.ProgressLaws.{never}
use Rattle.chk_run.specs.Checked.{exactly-told, exactly-checked, taken-whole}
use Rattle.chk_run.specs.Numbers.{IsNumbers, numbers_of}
use Rattle.chk_run.specs.NumbersLaws.{sound-by, word-by, complete-by, comma_stops, closing_stops}
use Rattle.chk_run.proofs.list.run_list.Goals as goal

pub returns-in_ok-parse-in-Parse-clause-answered : goal.returns-in_ok-parse-in-Parse-clause-answered
unfolding chars
returns-in_ok-parse-in-Parse-clause-answered c =
    let cs = chars c.args.text.now in
    let d = c.delimited_by-parser.ensures in
    let s = c.separated_by.ensures in
    let t = c.then.ensures in
    let r = c.repeated-digits.ensures in
    let p = c.delimited_by-parser.result.parser.parser.parser.parser in
    let to_list = ap (λ z. z.parser) d.parser ∙ c.collect.ensures.parser ∙ c.allow_trailing-list.ensures in
    let to_number = ap (λ z. z.parser.parser) to_list ∙ ap (λ z. z.parser) s.parser ∙ c.to_slice-number.ensures.parser in
    let eo = ap (λ z. z.seq ∷ []) d.opening ∙ ap (λ z. z ∷ []) c.just-2.ensures in
    let ec = ap (λ z. z.separator.seq ∷ []) to_list ∙ ap (λ z. z.seq ∷ []) s.separator ∙ ap (λ z. z ∷ []) c.just.ensures in
    let el = ap (λ z. z.seq ∷ []) d.closing ∙ ap (λ z. z ∷ []) c.just-3.ensures in
    let ed = ap (λ z. chars z.first.seq.now) to_number ∙ ap (λ z. chars z.seq.now) t.first ∙ ap (λ z. chars z.now) c.one_of-2.ensures in
    let em = ap (λ z. chars z.second.parser.seq.now) to_number ∙ ap (λ z. chars z.parser.seq.now) t.second ∙ ap (λ z. chars z.seq.now) r.parser ∙ ap (λ z. chars z.now) c.one_of.ensures in
    let ef = ap (λ z. z.second.at_least) to_number ∙ ap (λ z. z.at_least) t.second ∙ r.at_least in
    let en = ap (λ z. z.second.at_most) to_number ∙ ap (λ z. z.at_most) t.second ∙ r.at_most in
    let ea = ap (λ z. z.at_least) to_list ∙ s.at_least in
    let eb = ap (λ z. z.at_most) to_list ∙ s.at_most in
    let eg = ap (λ z. z.allow_leading) to_list ∙ s.leading in
    let et = ap (λ z. z.allow_trailing) to_list in
    let a = c.parse.ensures.3.reads refl in
    let e = exactly-told a IsNumbers (λ ns i. taken-whole a refl
    (tt, (((tt, (tt, λ w rest h f. tt), λ w rest h f. tt), tt, λ w rest h f. comma_stops p.second.at_least p.second.at_most ec em w rest h, λ w rest h f. tt, λ z. never (sym eg ∙ z)), tt, λ w rest h f. closing_stops p.second.at_least p.second.at_most ec el ed em w rest h), λ w rest h f. tt)
    tt (complete-by eo ec el ed em ef en ea eb eg et cs ns i)) numbers_of (λ v i. sound-by eo ec el ed em ef en ea eb eg et cs v i.2.1) _ c.in_ok-parse-in-Parse.was in
    rw (c.in-Parse.is) e

pub returns-in_ok-check-in-Check-clause-answered : goal.returns-in_ok-check-in-Check-clause-answered
unfolding chars
returns-in_ok-check-in-Check-clause-answered c =
    let cs = chars c.args.text.now in
    let d = c.delimited_by-parser.ensures in
    let s = c.separated_by.ensures in
    let t = c.then.ensures in
    let r = c.repeated-digits.ensures in
    let p = c.delimited_by-parser.result.parser.parser.parser.parser in
    let to_list = ap (λ z. z.parser) d.parser ∙ c.collect.ensures.parser ∙ c.allow_trailing-list.ensures in
    let to_number = ap (λ z. z.parser.parser) to_list ∙ ap (λ z. z.parser) s.parser ∙ c.to_slice-number.ensures.parser in
    let eo = ap (λ z. z.seq ∷ []) d.opening ∙ ap (λ z. z ∷ []) c.just-2.ensures in
    let ec = ap (λ z. z.separator.seq ∷ []) to_list ∙ ap (λ z. z.seq ∷ []) s.separator ∙ ap (λ z. z ∷ []) c.just.ensures in
    let el = ap (λ z. z.seq ∷ []) d.closing ∙ ap (λ z. z ∷ []) c.just-3.ensures in
    let ed = ap (λ z. chars z.first.seq.now) to_number ∙ ap (λ z. chars z.seq.now) t.first ∙ ap (λ z. chars z.now) c.one_of-2.ensures in
    let em = ap (λ z. chars z.second.parser.seq.now) to_number ∙ ap (λ z. chars z.parser.seq.now) t.second ∙ ap (λ z. chars z.seq.now) r.parser ∙ ap (λ z. chars z.now) c.one_of.ensures in
    let ef = ap (λ z. z.second.at_least) to_number ∙ ap (λ z. z.at_least) t.second ∙ r.at_least in
    let en = ap (λ z. z.second.at_most) to_number ∙ ap (λ z. z.at_most) t.second ∙ r.at_most in
    let ea = ap (λ z. z.at_least) to_list ∙ s.at_least in
    let eb = ap (λ z. z.at_most) to_list ∙ s.at_most in
    let eg = ap (λ z. z.allow_leading) to_list ∙ s.leading in
    let et = ap (λ z. z.allow_trailing) to_list in
    let a = c.check.ensures.3.reads refl in
    let e = exactly-checked a IsNumbers (λ ns i. taken-whole a refl
    (tt, (((tt, (tt, λ w rest h f. tt), λ w rest h f. tt), tt, λ w rest h f. comma_stops p.second.at_least p.second.at_most ec em w rest h, λ w rest h f. tt, λ z. never (sym eg ∙ z)), tt, λ w rest h f. closing_stops p.second.at_least p.second.at_most ec el ed em w rest h), λ w rest h f. tt)
    tt (complete-by eo ec el ed em ef en ea eb eg et cs ns i)) (λ u w. word-by eo ec el ed em ef en ea eb eg et cs w) _ c.in_ok-check-in-Check.was in
    rw (c.in-Check.is) e
