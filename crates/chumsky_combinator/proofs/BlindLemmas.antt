-- Why a mapper that takes no notice of the run maps as any other.
use Rattle.std.proofs.Common.{◌∙◌, ℕ, Option, Some, None, [], ap}
use Rattle.chumsky_input.specs.Outcome.{Meaning, Beginning, Outcome, Yes}
use Rattle.chumsky_parser.specs.Showing.{GivesShown, GivenSince, GivenShown, shown_since}
use Rattle.chumsky_parser.proofs.ChainedLemmas.{chained-weaker}
use Rattle.chumsky_combinator.specs.Mapped.{GivenAs, GivenBy, Mapped}
use Rattle.chumsky_combinator.specs.MappedWith.{MappedWith}
use Rattle.chumsky_combinator.specs.Compared.{MapsBlindly, SameOutcomes}

module _ {Tok Cx St Er V W : Type 0} (gives : GivesShown Tok Cx St V W) (maps : V → W → Type 0) (blind : MapsBlindly gives maps) where
  unshown : (from : ℕ) (v : Option V) (b : Beginning Tok Cx St) (o : Outcome W Er St) → GivenSince gives from v b o → GivenAs maps v b o
  unshown from (Some v) b o m =
      let k = blind.sees v (shown_since from b) m.0 m.1 m.2 in
      (m.0, k.0, m.3 ∙ ap (λ s. record { verdict = Yes (Some m.0); end = b.start; state = s; events = []; emitted = [] }) k.1)
  unshown from None b o m = m

  showing : (from : ℕ) (v : Option V) (b : Beginning Tok Cx St) (o : Outcome W Er St) → GivenAs maps v b o → GivenSince gives from v b o
  showing from (Some v) b o m = (m.0, b.state, blind.answers v (shown_since from b) m.0 m.1, m.2)
  showing from None b o m = m

  pub mapped-blindly : (part : Meaning Tok Cx St Er V) → SameOutcomes (MappedWith gives part) (Mapped maps part)
  mapped-blindly part b o = (
    λ m. chained-weaker (GivenShown gives b.start) (GivenBy maps) b (λ v c q e k. record { by_value = unshown b.start v c q k.by_value }) part part (λ q k. k) o m.run,
    λ m. record { run = chained-weaker (GivenBy maps) (GivenShown gives b.start) b (λ v c q e k. record { by_value = showing b.start v c q k.by_value }) part part (λ q k. k) o m },
  )
