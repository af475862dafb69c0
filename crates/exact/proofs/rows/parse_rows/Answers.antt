use Rattle.std.proofs.Common.{refl, inr}
use Rattle.std.specs.Str.{chars}
use Rattle.chumsky_parser.specs.ProgressLaws.{never}
use Rattle.chumsky.specs.AcceptedLaws.{exactly-by_words}
use Rattle.exact.specs.Rows.{IsRows}
use Rattle.exact.specs.RowsLaws.{rows-sound, rows-complete, comma_ends}
use Rattle.exact.proofs.rows.parse_rows.Goals as goal

pub returns : goal.returns
unfolding chars
returns c =
    let cs = chars c.args.text.now in
    let s = c.separated_by-rows.ensures in
    let rows = rw (c.collect.ensures.parser, s.parser, s.separator) at
    (c.parse.ensures.3.reads (rw (c.collect.ensures.parser, s.parser, c.collect-row.ensures.parser, c.at_least-bits.ensures, c.repeated.ensures.at_most) refl)) in
    let bounds = rw (s.at_least, s.at_most, s.leading, s.trailing) at rows in
    let row = rw (c.collect-row.ensures.parser, c.at_least-bits.ensures, c.repeated.ensures.parser, c.repeated.ensures.at_most) at bounds in
    let a = rw (c.one_of.ensures, c.just.ensures) at row in
    exactly-by_words IsRows a refl ((tt, λ w rest h f. tt), tt, (λ w rest h f. (tt, inr (comma_ends w rest h))), (λ w rest h f. tt), λ z. never z) ((tt, inr tt), tt, tt, tt)
    (λ v w s. rows-sound cs v s) (λ v i. rows-complete cs v i)
