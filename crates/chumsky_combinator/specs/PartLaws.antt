-- The laws of parts.
use Rattle.chumsky_input.specs.Outcome.{Meaning, EndsAfterStart, Agreeing}
use Rattle.chumsky_parser.specs.ChoiceLaws.{agree-weaker}
use Rattle.chumsky_combinator.specs.Compared.{MeansNoMore}
use Rattle.chumsky_combinator.specs.Part.{Onward}
use Rattle.chumsky_parser.specs.Progress.{Moves}

module _ {Tok Cx St Er V : Type 0} (meaning : Meaning Tok Cx St Er V) where
  pub onward-ends : EndsAfterStart (Onward meaning)
  onward-ends b o m = m.ends

  pub onward-agrees : (same : V → V → Type 0) → Agreeing same meaning meaning → Agreeing same (Onward meaning) (Onward meaning)
  onward-agrees same h b c o q alike m n = h b c o q alike m.means n.means

  -- what means no more than something steady is steady
  pub less-agrees : (less : Meaning Tok Cx St Er V) (same alike : V → V → Type 0) → Agreeing same meaning meaning
      → MeansNoMore less meaning → ((v w : V) → same v w → alike v w) → Agreeing alike less less
  less-agrees less same alike h within weaker b c o q similar m n a z = agree-weaker same alike weaker o q (h b c o q similar (within b o m) (within c q n) a z)

module _ {Tok Cx St Er : Type 0} where
  pub onward-moves : {V : Type 0} (m : Meaning Tok Cx St Er V) → Moves m → Moves (Onward m)
  onward-moves m h b o k y = h b o k.means y
