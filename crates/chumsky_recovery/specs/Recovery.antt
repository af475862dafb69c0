-- What a parser with a strategy answers, by what its parser does.
-- Main words: AnswersOf, QuietIsPart, FailsAsPart, DoesAsPart, OutOnlyToTell, and the laws whose names end in In. Read first: Recovered.antt.
use Rattle.std.specs.Prelude.{◌≡◌, Option, [], ◌∷◌, ◌++◌, ◌⊎◌, option_to_list}
use Rattle.chumsky_input.specs.declared.error.Error as error_trait
use Rattle.chumsky_input.specs.declared.inspector.Inspector as inspector_trait
use Rattle.chumsky_input.specs.declared.stop.Stop.TheVariants.{Memory}
use Rattle.chumsky_input.specs.Words.{Does}
use Rattle.chumsky_input.specs.Outcome.{Meaning, Beginning, Outcome, Yes, No, Halt, Agree, IsAnswer}
use Rattle.chumsky_input.specs.Primary.{primary}
use Rattle.chumsky_judge.specs.Judged.{as_one}
use Rattle.chumsky_recovery.specs.Recovered.{Final, error_of}

module _ {Tok Cx St Mk Er V : Type 0} (merged : Er → Er → Er) (final : Final Tok Er) (mark : St → Mk) (back : St → Mk → St) (part help : Meaning Tok Cx St Er V) where
  -- the part succeeded: its outcome stands, with its events counted as one
  pub record Unneeded (b : Beginning Tok Cx St) (o : Outcome V Er St) : Type 0 where
    pub value : Option V
    pub did : Outcome V Er St
    pub meant : part b did
    pub succeeds : did.verdict ≡ Yes value
    pub is : o ≡ as_one merged did

  -- the part failed and the help succeeded: the help's outcome stands, with the error of the failure after what it emitted
  pub record Needed (b : Beginning Tok Cx St) (o : Outcome V Er St) : Type 0 where
    pub value : Option V
    pub failure : Outcome V Er St
    pub meant : part b failure
    pub fails : failure.verdict ≡ No
    pub did : Outcome V Er St
    pub helps : help (record b { state = back failure.state (mark b.state) }) did
    pub succeeds : did.verdict ≡ Yes value
    pub is : o ≡ record (as_one merged did) { emitted = did.emitted ++ error_of merged final b failure ∷ [] }

  -- both failed: the part's failure stands, at the start, with nothing emitted
  pub record InVain (b : Beginning Tok Cx St) (o : Outcome V Er St) : Type 0 where
    pub failure : Outcome V Er St
    pub meant : part b failure
    pub fails : failure.verdict ≡ No
    pub verdict : o.verdict ≡ No
    pub end : o.end ≡ b.start
    pub events : o.events ≡ option_to_list (primary merged failure.events)
    pub emitted : o.emitted ≡ []

  -- each answer of the whole is one of these three
  abbrev pub AnswersOf : Meaning Tok Cx St Er V → Type 0
  AnswersOf whole = (b : Beginning Tok Cx St) (o : Outcome V Er St) → whole b o → IsAnswer o.verdict → Unneeded b o ⊎ Needed b o ⊎ InVain b o

module _ {Tok Cx St Mk Er V : Type 0} (mark : St → Mk) (back : St → Mk → St) (part help : Meaning Tok Cx St Er V) where
  -- the part failed and the help succeeded, so that an error is to be emitted
  pub record Untold (b : Beginning Tok Cx St) : Type 0 where
    pub value : Option V
    pub failure : Outcome V Er St
    pub meant : part b failure
    pub fails : failure.verdict ≡ No
    pub did : Outcome V Er St
    pub helps : help (record b { state = back failure.state (mark b.state) }) did
    pub succeeds : did.verdict ≡ Yes value

  -- a refusal for memory is one where an error is to be emitted
  abbrev pub OutOnlyToTell : Meaning Tok Cx St Er V → Type 0
  OutOnlyToTell whole = (b : Beginning Tok Cx St) (o : Outcome V Er St) → whole b o → o.verdict ≡ Halt Memory → Untold b

module _ {Tok Cx St Er V : Type 0} (part whole : Meaning Tok Cx St Er V) where
  -- a success beside which nothing was emitted is the part's own: it has the same value, end and state
  abbrev pub QuietIsPart : Type 0
  QuietIsPart =
      (b : Beginning Tok Cx St) (o : Outcome V Er St) (v : Option V) → whole b o → o.verdict ≡ Yes v → o.emitted ≡ []
      → (p : Outcome V Er St) × part b p × (p.verdict ≡ Yes v) × (p.end ≡ o.end) × (p.state ≡ o.state) × (p.emitted ≡ [])

module _ {Tok Cx St Er V : Type 0} (merged : Er → Er → Er) (part whole : Meaning Tok Cx St Er V) where
  -- it fails only where the part does, and with the part's one event
  abbrev pub FailsAsPart : Type 0
  FailsAsPart =
      (b : Beginning Tok Cx St) (o : Outcome V Er St) → whole b o → o.verdict ≡ No
      → (p : Outcome V Er St) × part b p × (p.verdict ≡ No) × (o.events ≡ option_to_list (primary merged p.events)) × (o.emitted ≡ [])

  -- where the part may succeed, an answer of the whole is that success, with its events counted as one
  abbrev pub DoesAsPart : (V → V → Type 0) → Type 0
  DoesAsPart same = (b : Beginning Tok Cx St) (p o : Outcome V Er St) (v : Option V) → part b p → p.verdict ≡ Yes v → whole b o → IsAnswer o.verdict → Agree same (as_one merged p) o

module _ {I Tok Sp Er St Mk Cx V : Type 0} (errors : error_trait.Ghosts Er I Tok Sp) (states : inspector_trait.Ghosts St I Mk Tok Sp) (part whole : Does I Tok Sp Er St Mk Cx V) where
  abbrev pub QuietIsPartIn : Type 0
  QuietIsPartIn = QuietIsPart (part errors states) (whole errors states)

  abbrev pub FailsAsPartIn : Type 0
  FailsAsPartIn = FailsAsPart errors.merged (part errors states) (whole errors states)

  abbrev pub DoesAsPartIn : (V → V → Type 0) → Type 0
  DoesAsPartIn same = DoesAsPart errors.merged (part errors states) (whole errors states) same
