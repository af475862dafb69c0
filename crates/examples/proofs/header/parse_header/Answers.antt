use Rattle.std.proofs.Common.{refl, rules}
use Rattle.chumsky.specs.AcceptedLaws.{exactly-by_words}
use Rattle.examples.specs.Header.{IsHeader}
use Rattle.examples.specs.HeaderLaws.{header-sound, header-complete}
use Rattle.examples.proofs.header.parse_header.Goals as goal

pub returns : goal.returns
returns c =
    let bytes = c.args.bytes.now in
    let a = rw (c.map.ensures.parser, c.group.ensures, c.just-magic.ensures, c.one_of.ensures) at (c.parse.ensures.3.reads refl) in
    exactly-by_words IsHeader a refl ((((tt, tt, λ w rest h f. tt), tt, λ w rest h f. tt), tt, λ w rest h f. tt), tt, λ w rest h f. tt) tt (λ v w s. header-sound bytes s.0.1 s.0.2 s.0.3 s.0.4 v s.1 (search rules) (search rules) (search rules)) (λ v i. header-complete bytes v i)
