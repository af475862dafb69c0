use Rattle.std.proofs.Common.{refl}
use Rattle.std.proofs.lemmas.Option.{slice_get_read}
use Rattle.chumsky_input.proofs.PartLemmas.{token_in}
use Rattle.chumsky_input.proofs.mapped_input.take.Goals as goal

pub returns-in-Some-clause-token : goal.returns-in-Some-clause-token
returns-in-Some-clause-token g c =
    let cursor = c.args.cursor.now in
    let at = c.in-Some.ensures.lookup in
    token_in g.M.TakesApart.apart cursor.elements.now cursor.place c.in-Some.element.now c.token.result.now
    (slice_get_read cursor.elements.now _ cursor.place c.in-Some.element.now refl at.3.0 at.1) c.token.ensures
