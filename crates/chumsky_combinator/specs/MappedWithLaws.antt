-- The laws of mappers that are shown the run.
use Rattle.std.proofs.Common.{ℕ, Option, Some, None, ap}
use Rattle.chumsky_input.specs.Outcome.{Meaning, Beginning, Outcome, EndsAfterStart, Agreeing}
use Rattle.chumsky_parser.specs.Laws.{chained-ends, chained-agrees}
use Rattle.chumsky_parser.specs.Memory.{SparesMemory, NeverOutOfMemory}
use Rattle.chumsky_parser.specs.MemoryLaws.{chained-spares}
use Rattle.chumsky_parser.specs.Progress.{Moves}
use Rattle.chumsky_parser.specs.ProgressLaws.{chained-first}
use Rattle.chumsky_parser.specs.Showing.{GivesShown, OnlyAnswers, SameShown, GivenSince, GivenShown}
use Rattle.chumsky_parser.specs.ShowingLaws.{shown-ends, shown-agrees}
use Rattle.chumsky_combinator.specs.MappedWith.{MappedWith}

module _ {Tok Cx St Er V W : Type 0} (gives : GivesShown Tok Cx St V W) where
  pub mapped_with-ends : (part : Meaning Tok Cx St Er V) → EndsAfterStart part → EndsAfterStart (MappedWith gives part)
  mapped_with-ends part h b o m a = chained-ends part (GivenShown gives b.start) h (shown-ends gives b.start) b o m.run a

  pub mapped_with-agrees : (one : OnlyAnswers gives) (same : V → V → Type 0) (part : Meaning Tok Cx St Er V)
      → Agreeing same part part → Agreeing (SameShown gives same) (MappedWith gives part) (MappedWith gives part)
  mapped_with-agrees one same part h b c o q alike m n a z =
      chained-agrees part part (GivenShown gives b.start) (GivenShown gives c.start) same (SameShown gives same) h
      (shown-agrees gives one same (SameShown gives same) (λ w w' k. k) b.start c.start alike.start) b c o q alike
      m.run n.run a z

  pub mapped_with-moves : (part : Meaning Tok Cx St Er V) → Moves part → Moves (MappedWith gives part)
  mapped_with-moves part h b o m y = chained-first part (GivenShown gives b.start) h (shown-ends gives b.start) b o m.run y

  since-spares : (from : ℕ) (v : Option V) (b : Beginning Tok Cx St) (o : Outcome W Er St) → GivenSince gives from v b o → SparesMemory o.verdict
  since-spares from (Some v) b o m = rw (ap (λ (x : Outcome W Er St). x.verdict) m.3) tt
  since-spares from None b o m = rw (ap (λ (x : Outcome W Er St). x.verdict) m) tt

  pub given_shown-spares : (from : ℕ) (v : Option V) → NeverOutOfMemory (GivenShown {Tok = Tok} {Cx = Cx} {St = St} {Er = Er} gives from v)
  given_shown-spares from v b o m = since-spares from v b o m.by_value

  pub mapped_with-spares : (part : Meaning Tok Cx St Er V) → NeverOutOfMemory part → NeverOutOfMemory (MappedWith gives part)
  mapped_with-spares part h b o m = chained-spares part (GivenShown gives b.start) h (given_shown-spares b.start) b o m.run
