use Rattle.std.proofs.Common.{rules}
use Rattle.chumsky_input.proofs.KeyLemmas.{keyed-next}
use Rattle.chumsky_input.proofs.many.places_of.Goals as goal

pub loop-place-preserved : goal.loop-place-preserved
loop-place-preserved g c =
    keyed-next g.T.SameClone.bucket_of c.loop-place.places c.insert.new.self c.in-Some.key c.loop-place.place
    c.loop-place.place c.index-patterns-place.result c.args.patterns.now (search rules) c.index-patterns-place.is
    c.in_ok-insert-in-Some.ensures.updates c.in-Some.ensures.own c.loop-place.invariant
