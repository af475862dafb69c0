use Rattle.std.proofs.Common.{refl}
use Rattle.std.specs.Prelude.{codes}
use Rattle.std.specs.Str.{chars}
use Rattle.chumsky_parser.specs.ProgressLaws.{never}
use Rattle.chumsky_exact.specs.InTurn.{Part}
use Rattle.chumsky_exact.specs.Lexemes.{fixed}
use Rattle.chumsky_exact.specs.Pieces.{unambiguous, may-follow}
use Rattle.chumsky_exact.specs.ReadBack.{exact-and_back}
use Rattle.exact.specs.Pairs.{IsPairs, pairs_of}
use Rattle.exact.specs.PairsLaws.{line, pairs-sound, pairs-complete, pairs-once}
use Rattle.exact.proofs.pairs.parse_pairs.Goals as goal

pub returns : goal.returns
unfolding chars
returns c =
    let cs = chars c.args.text.now in
    let s = c.separated_by.ensures in
    let p = c.then-pair.ensures in
    let n = c.then_ignore-number.ensures in
    let r = exact-and_back pairs_of IsPairs (c.parse.ensures.3.reads refl) refl
    (rw (c.collect.ensures.parser, c.allow_trailing-lines.ensures, s.parser, s.separator, s.leading) (
    rw (c.ignore_then-line.ensures.second, p.first, p.second, c.then_ignore.ensures.second, c.padded_by-sign.ensures.parser, n.first, n.second, c.then_ignore-line_end.ensures.second, c.not.ensures.parser) (
    rw (c.just.ensures, c.int.ensures, c.none_of.ensures, c.just-2.ensures) (unambiguous line refl, tt, may-follow line (Part (fixed (codes "\n"))) refl, λ w rest h f. tt, λ z. never z))))
    (rw (c.collect.ensures.parser, c.allow_trailing-lines.ensures, s.separator, c.just-2.ensures) (tt, tt, tt, tt))
    (λ v w h. (
    let lists = rw (c.collect.ensures.parser, c.allow_trailing-lines.ensures, s.parser, s.separator, s.at_least, s.at_most, s.leading) at h in
    let parts = rw (c.ignore_then-line.ensures.second, p.first, p.second, c.then_ignore.ensures.second, c.padded_by-sign.ensures.parser, n.first) at lists in
    pairs-sound cs v (rw (c.just.ensures, c.int.ensures, c.just-2.ensures) at parts)
    ))
    (pairs-once cs)
    (λ ps i. rw (c.collect.ensures.parser, c.allow_trailing-lines.ensures, s.parser, s.separator, s.at_least, s.at_most, s.leading) (
    rw (c.ignore_then-line.ensures.second, p.first, p.second, c.then_ignore.ensures.second, c.padded_by-sign.ensures.parser, n.first) (
    rw (c.just.ensures, c.int.ensures, c.just-2.ensures) (pairs-complete cs ps i)))) in
    record { exact = r.0; read_back = r.1 }
