-- The laws of output mappers.
use Rattle.std.proofs.Common.{◌≤◌, Option, Some, None, ap}
use Rattle.chumsky_input.specs.Outcome.{Meaning, Beginning, Outcome, SameValue, Alike, Agree, EndsAfterStart, Agreeing, IsAnswer}
use Rattle.chumsky_parser.specs.Laws.{chained-ends, chained-agrees, given-ends, given-agrees}
use Rattle.chumsky_parser.specs.Memory.{SparesMemory, NeverOutOfMemory}
use Rattle.chumsky_parser.specs.MemoryLaws.{chained-spares}
use Rattle.chumsky_parser.specs.Progress.{Moves}
use Rattle.chumsky_parser.specs.ProgressLaws.{chained-first}
use Rattle.chumsky_combinator.specs.Mapped.{GivenAs, GivenBy, Mapped, SameMapped}

module _ {Tok Cx St Er V W : Type 0} (maps : V → W → Type 0) where
  given_as-ends : (v : Option V) (b : Beginning Tok Cx St) (o : Outcome W Er St) → GivenAs maps v b o → IsAnswer o.verdict → b.start ≤ o.end
  given_as-ends (Some v) b o m a = given-ends (Some m.0) b o m.2 a
  given_as-ends None b o m a = given-ends None b o m a

  given_as-agrees : (same : V → V → Type 0) (v v' : Option V) → SameValue same v v'
      → (b c : Beginning Tok Cx St) (o q : Outcome W Er St) → Alike b c → GivenAs maps v b o → GivenAs maps v' c q
      → IsAnswer o.verdict → IsAnswer q.verdict → Agree (SameMapped same maps) o q
  given_as-agrees same (Some v) (Some v') e b c o q alike m n a z =
      given-agrees (SameMapped same maps) (Some m.0) (Some n.0) (record { first = v; second = v'; alike = e; from_first = m.1; from_second = n.1 }) b c o q alike m.2 n.2 a z
  given_as-agrees same (Some v) None e b c o q alike m n a z = given-agrees (SameMapped same maps) (Some m.0) None tt b c o q alike m.2 n a z
  given_as-agrees same None (Some v') e b c o q alike m n a z = given-agrees (SameMapped same maps) None (Some n.0) tt b c o q alike m n.2 a z
  given_as-agrees same None None e b c o q alike m n a z = given-agrees (SameMapped same maps) None None tt b c o q alike m n a z

  pub given_by-ends : (v : Option V) → EndsAfterStart (GivenBy {Tok = Tok} {Cx = Cx} {St = St} {Er = Er} maps v)
  given_by-ends v b o m a = given_as-ends v b o m.by_value a

  pub given_by-agrees : (same : V → V → Type 0) (v v' : Option V) → SameValue same v v' → Agreeing (SameMapped same maps) (GivenBy {Tok = Tok} {Cx = Cx} {St = St} {Er = Er} maps v) (GivenBy maps v')
  given_by-agrees same v v' e b c o q alike m n a z = given_as-agrees same v v' e b c o q alike m.by_value n.by_value a z

  pub mapped-ends : (part : Meaning Tok Cx St Er V) → EndsAfterStart part → EndsAfterStart (Mapped maps part)
  mapped-ends part h = chained-ends part _ h given_by-ends

  pub mapped-agrees : (part : Meaning Tok Cx St Er V) (same : V → V → Type 0) → Agreeing same part part → Agreeing (SameMapped same maps) (Mapped maps part) (Mapped maps part)
  mapped-agrees part same h = chained-agrees part part _ _ same (SameMapped same maps) h (given_by-agrees same)

  given_as-spares : (v : Option V) (b : Beginning Tok Cx St) (o : Outcome W Er St) → GivenAs maps v b o → SparesMemory o.verdict
  given_as-spares (Some v) b o m = rw (ap (λ (x : Outcome W Er St). x.verdict) m.2) tt
  given_as-spares None b o m = rw (ap (λ (x : Outcome W Er St). x.verdict) m) tt

  pub given_by-spares : (v : Option V) → NeverOutOfMemory (GivenBy {Tok = Tok} {Cx = Cx} {St = St} {Er = Er} maps v)
  given_by-spares v b o m = given_as-spares v b o m.by_value

  pub mapped-spares : (part : Meaning Tok Cx St Er V) → NeverOutOfMemory part → NeverOutOfMemory (Mapped maps part)
  mapped-spares part h = chained-spares part (GivenBy maps) h given_by-spares

  pub mapped-moves : (part : Meaning Tok Cx St Er V) → Moves part → Moves (Mapped maps part)
  mapped-moves part h = chained-first part _ h given_by-ends
