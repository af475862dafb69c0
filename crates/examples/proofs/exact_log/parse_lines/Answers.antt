use Rattle.std.proofs.Common.{◌++◌, refl, ap, ◌∙◌}
use Rattle.std.specs.Str.{chars}
use Rattle.chumsky.specs.AcceptedLaws.{exactly-by_words}
use Rattle.examples.specs.Log.{HoldsLog}
use Rattle.examples.specs.LogLaws.{built-sound, built-complete, built-line_stops, colon_stops, space_stops, message_stops, visible_stops, end_stops, no_end}
use Rattle.examples.proofs.exact_log.parse_lines.Goals as goal

pub returns : goal.returns
returns c =
    let cs = chars c.args.text.now in
    let s = c.separated_by.ensures in
    let l = c.line.ensures in
    let trails = c.collect.ensures.parser ∙ c.allow_trailing-lines.ensures in
    let b = ap (λ q. q.parser) trails ∙ ap (λ q. q.parser) c.allow_leading.ensures ∙ s.parser in
    let leading = ap (λ q. q.allow_leading) trails ∙ ap (λ q. q.allow_leading) c.allow_leading.ensures in
    let least = ap (λ q. q.at_least) trails ∙ ap (λ q. q.at_least) c.allow_leading.ensures ∙ s.at_least in
    let most = ap (λ q. q.at_most) trails ∙ ap (λ q. q.at_most) c.allow_leading.ensures ∙ s.at_most in
    let hour = ap (λ q. q.parser.first.first.first.first.first.first.first.picked.parser.kind.radix) b ∙ l.hour in
    let hour_from = ap (λ q. q.parser.first.first.first.first.first.first.first.picked.picker.least) b ∙ l.hour_from in
    let hour_to = ap (λ q. q.parser.first.first.first.first.first.first.first.picked.picker.most) b ∙ l.hour_to in
    let colon = ap (λ q. q.parser.first.first.first.first.first.first.second.seq) b ∙ l.colon in
    let minute = ap (λ q. q.parser.first.first.first.first.first.second.picked.parser.kind.radix) b ∙ l.minute in
    let minute_from = ap (λ q. q.parser.first.first.first.first.first.second.picked.picker.least) b ∙ l.minute_from in
    let minute_to = ap (λ q. q.parser.first.first.first.first.first.second.picked.picker.most) b ∙ l.minute_to in
    let other_colon = ap (λ q. q.parser.first.first.first.first.second.seq) b ∙ l.other_colon in
    let second = ap (λ q. q.parser.first.first.first.second.picked.parser.kind.radix) b ∙ l.second in
    let second_from = ap (λ q. q.parser.first.first.first.second.picked.picker.least) b ∙ l.second_from in
    let second_to = ap (λ q. q.parser.first.first.first.second.picked.picker.most) b ∙ l.second_to in
    let space = ap (λ q. q.parser.first.first.second.seq) b ∙ l.space in
    let other_space = ap (λ q. q.parser.second.first.seq) b ∙ l.other_space in
    let a = rw (leading, ap (λ q. q.allow_trailing) trails, least, most) at (c.parse.ensures.3.reads refl) in
    let line_stops = built-line_stops _ _ _ _ _ _ _ _ _ _ _ _ _ hour hour_from hour_to colon minute minute_from minute_to other_colon second second_from second_to space other_space in
    exactly-by_words HoldsLog a refl (
      (
        ((((((tt, tt, λ w rest h f. colon_stops _ _ colon hour w rest h), tt, λ w rest h f. tt), tt, λ w rest h f. colon_stops _ _ other_colon minute w rest h), tt, λ w rest h f. tt), tt, λ w rest h f. space_stops _ _ space second w rest h), tt, λ w rest h f. tt),
        (tt, (tt, tt, λ w rest h f. visible_stops w rest h), λ w rest h f. tt),
        λ w rest h f. message_stops _ other_space w rest h,
      ),
      tt,
      λ w rest h f. end_stops w rest h,
      λ w rest h f t. line_stops w rest h,
      λ e w rest h f. no_end (w ++ rest) (line_stops w rest h),
    )
    (λ t. tt, λ t. tt, tt, tt)
    (λ v w h. built-sound _ _ _ _ _ _ _ _ _ _ _ _ _ hour hour_from hour_to colon minute minute_from minute_to other_colon second second_from second_to space other_space cs v h)
    (λ v i. built-complete _ _ _ _ _ _ _ _ _ _ _ _ _ hour hour_from hour_to colon minute minute_from minute_to other_colon second second_from second_to space other_space cs v i)
