-- A part in whose place something else is run where it says no, and whose error is then emitted.
-- Main word: MeansRecovered. Read first: Choice.antt and Failure.antt of the parser, Judged.antt.
use Rattle.std.specs.Prelude.{◌≡◌, ℕ, Option, [], ◌∷◌, ◌++◌, ◌⊎◌, ⊤}
use Rattle.chumsky_input.specs.Layout.{Layout}
use Rattle.chumsky_input.specs.Outcome.{Event, Meaning, Beginning, Outcome, Verdict, Yes, No, Halt, Clash}
use Rattle.chumsky_input.specs.Primary.{primary}
use Rattle.chumsky_parser.specs.Choice.{ByMark}
use Rattle.chumsky_parser.specs.Failure.{Refuses}
use Rattle.chumsky_judge.specs.Judged.{Judged, NoAsOne}
use Rattle.chumsky_judge.specs.MapErr.{YesAsOne}

-- what counts of the last error of a failure that kept this event, or none, by the tokens and the place where it ended
abbrev pub Final : Type 0 → Type 0 → Type 0
Final Tok Er = Option (Event Er) → Layout Tok → ℕ → Er

module _ {Tok Cx St Er V : Type 0} (merged : Er → Er → Er) (final : Final Tok Er) where
  -- the error that a failed part would report by itself
  abbrev pub error_of : Beginning Tok Cx St → Outcome V Er St → Er
  error_of b p = final (primary merged p.events) b.tokens p.end

  -- the help stands, and the error of the failure is emitted after its own; or memory is wanting for that
  abbrev pub Tells : Beginning Tok Cx St → Outcome V Er St → Outcome V Er St → Outcome V Er St → Type 0
  Tells b p q o = Refuses ⊤ q.state o ⊎ (o ≡ record q { emitted = q.emitted ++ error_of b p ∷ [] })

module _ {Tok Cx St Mk Er V : Type 0} (merged : Er → Er → Er) (final : Final Tok Er) (back : St → Mk → St) (safe : Type 0) (mark : Mk) where
  -- the help says no too: it is gone back from, and the failure stands, with nothing emitted; or memory is wanting to go back
  abbrev pub StillFails : Beginning Tok Cx St → Outcome V Er St → Outcome V Er St → Outcome V Er St → Type 0
  StillFails b p q o =
      Refuses (safe → ⊥) q.state o
      ⊎ (o ≡ record { verdict = No; end = b.start; state = back q.state mark; events = p.events; emitted = [] })

  -- what is made of an outcome q of the help, by its verdict, after the failure p; a stop stands
  abbrev pub Helped : Verdict V Er → Beginning Tok Cx St → Outcome V Er St → Outcome V Er St → Outcome V Er St → Type 0
  Helped (Yes v) b p q o = Tells merged final b p q o
  Helped No b p q o = StillFails b p q o
  Helped (Halt s) b p q o = o ≡ q
  Helped (Clash e) b p q o = o ≡ q

  -- a failure p is gone back from by the mark, and the help runs from the same start; or memory is wanting to go back
  abbrev pub Rescued : Meaning Tok Cx St Er V → Beginning Tok Cx St → Outcome V Er St → Outcome V Er St → Type 0
  Rescued help b p o =
      Refuses (safe → ⊥) p.state o
      ⊎ ((q : Outcome V Er St) × help (record b { state = back p.state mark }) q × Helped q.verdict b p q o)

  -- after a no the help; any other verdict stands
  abbrev pub ElseHelp : Verdict V Er → Meaning Tok Cx St Er V → Beginning Tok Cx St → Outcome V Er St → Outcome V Er St → Type 0
  ElseHelp (Yes v) help b p o = o ≡ p
  ElseHelp No help b p o = Rescued help b p o
  ElseHelp (Halt s) help b p o = o ≡ p
  ElseHelp (Clash e) help b p o = o ≡ p

  -- the part, and the help where it says no
  pub record OrHelp (part help : Meaning Tok Cx St Er V) (b : Beginning Tok Cx St) (o : Outcome V Er St) : Type 0 where
    pub attempt : Outcome V Er St
    pub meant : part b attempt
    pub then_help : ElseHelp attempt.verdict help b attempt o

module _ {Tok Cx St Mk Er V : Type 0} (merged : Er → Er → Er) (final : Final Tok Er) (mark : St → Mk) (back : St → Mk → St) (safe : Type 0) where
  -- by a mark of the beginning, the part, and the help where it says no
  pub record MarkedOrHelp (part help : Meaning Tok Cx St Er V) (b : Beginning Tok Cx St) (o : Outcome V Er St) : Type 0 where
    pub cases : ByMark mark safe (λ m. OrHelp merged final back safe m part help) b o

  -- the same, with its failures counted as one
  pub record MeansRecovered (part help : Meaning Tok Cx St Er V) (b : Beginning Tok Cx St) (o : Outcome V Er St) : Type 0 where
    pub run : Judged (MarkedOrHelp part help) (YesAsOne merged) (NoAsOne merged) b o
