use Rattle.std.proofs.Common.{◌++◌, [], refl, rules, ap, ◌∙◌, inr}
use Rattle.std.specs.Str.{chars}
use Rattle.chumsky.specs.AcceptedLaws.{exactly-by_words}
use Rattle.examples.specs.Setting.{IsSetting}
use Rattle.examples.specs.SettingLaws.{setting-sound, setting-complete, no_switch}
use Rattle.examples.proofs.setting.parse_setting.Goals as goal

pub returns : goal.returns
unfolding chars
returns c =
    let cs = chars c.args.text.now in
    let k = c.keyword.ensures in
    let s = c.switch.ensures in
    let b = c.or-value.ensures.second in
    let m = c.map_by.ensures.parser in
    let p = c.pick_by-number.ensures.parser in
    let t = c.to_slice.ensures.parser in
    let u = c.at_most-digits.ensures in
    let l = c.at_least.ensures in
    let to_list = ap (λ q. q.parser.picked.parser.parser) b ∙ ap (λ q. q.picked.parser.parser) m ∙ ap (λ q. q.parser) p ∙ t ∙ u in
    let e = ap (λ q. chars q.now) c.just.ensures in
    let d = ap (λ q. chars q.parser.seq.now) to_list ∙ ap (λ q. chars q.parser.seq.now) l ∙ ap (λ q. chars q.seq.now) c.repeated.ensures.parser ∙ ap (λ q. chars q.now) c.one_of.ensures in
    let least = ap (λ q. q.at_least) to_list ∙ ap (λ q. q.at_least) l in
    let most = ap (λ q. q.at_most) to_list in
    let said = c.parse.ensures.3.reads (rw (c.map.ensures.parser, c.group.ensures, c.or-value.ensures.first, k.said, s.said) refl) in
    let a = rw (c.map.ensures.parser, c.group.ensures, c.or-value.ensures.first) at said in
    exactly-by_words IsSetting a (rw (k.decided, s.decided) refl)
    ((k.unambiguous, tt, λ w rest h f. k.follows (w ++ rest)), (s.unambiguous, (tt, λ w rest h f. tt), λ w rest h f. s.fails (w ++ rest) (no_switch _ _ _ _ e d least most w rest h)), λ w rest h f. tt) (s.follows [], (tt, inr tt))
    (λ v w h. setting-sound _ _ _ _ e d least most _ _ _ k.names s.names cs h.0.0 h.0.2 v h.1 (search rules) (search rules) (λ n x g. g)) (λ v i. setting-complete _ _ _ _ e d least most _ _ k.each s.each cs v i)
