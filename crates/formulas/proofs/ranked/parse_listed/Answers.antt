use Rattle.std.proofs.Common.{refl}
use Rattle.chumsky_pratt.specs.PrecedenceLanguageLaws.{precedence-said}
use Rattle.formulas.specs.RankedLaws.{listed-answers}
use Rattle.formulas.proofs.ranked.parse_listed.Goals as goal

pub returns : goal.returns
returns g c s =
    let p = c.pratt.result in
    let e = c.pratt.ensures in
    let t = c.or-truth.ensures in
    let reads = rw e.operators at c.parse.ensures.3.reads in
    listed-answers _ _ _ (record { t = p.atom.first.parser.seq; f = p.atom.second.parser.seq; holds = p.atom.first.value; fails = p.atom.second.value })
    (rw (e.atom, t.first, t.second, c.to.ensures.parser, c.to.ensures.value, c.just.ensures, c.to-2.ensures.parser, c.to-2.ensures.value, c.just-2.ensures) refl)
    (reads (precedence-said _ _ _ _ refl refl s))
