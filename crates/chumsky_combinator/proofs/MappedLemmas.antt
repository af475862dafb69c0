-- What an output mapper leaves.
use Rattle.std.proofs.Common.{Bool, Some, None, Ok}
use Rattle.chumsky_input.specs.Held.{Held}
use Rattle.chumsky_input.specs.Run.{Ran}
use Rattle.chumsky_parser.specs.Chained.{Given}
use Rattle.chumsky_combinator.specs.Mapped.{GivenBy}
use Rattle.chumsky_parser.proofs.ChainedLemmas.{ran-given, ran-weaker}

module _ {Tok Cx St Er V W : Type 0} {merged : Er → Er → Er} {safe : Type 0} {maps : V → W → Type 0} {wanted : Bool} {old : Held Tok Cx St Er} where
  pub ran-given_by : {v : V} {w : W} → maps v w → Ran merged safe (GivenBy maps (Some v)) wanted old old (Ok (Some w))
  ran-given_by {v} {w} h = ran-weaker merged safe (Given (Some w)) (GivenBy maps (Some v)) wanted old old (Ok (Some w)) (λ o m. record { by_value = (w, h, m) }) ran-given

  -- no value, and nothing made of it
  pub ran-given_none : Ran merged safe (GivenBy maps None) wanted old old (Ok None)
  ran-given_none = ran-weaker merged safe (Given None) (GivenBy maps None) wanted old old (Ok None) (λ o m. record { by_value = m }) ran-given
