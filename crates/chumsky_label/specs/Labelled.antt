-- A part that a label names.
-- Main words: MeansLabelled, AnswersButEvents. Laws: LabelledLaws.antt. Read first: chumsky_judge's Judged.antt.
use Rattle.std.specs.Prelude.{◌≡◌, ℕ, Bool, true, false, eqb, Option, Some, None, List, Result, ◌⊎◌, ⊤, MatchResult, option_map, option_to_list, map}
use Rattle.chumsky_input.specs.declared.error.Error as error_trait
use Rattle.chumsky_input.specs.declared.input_ref.Located.{Located}
use Rattle.chumsky_input.specs.Held.{Held, located}
use Rattle.chumsky_input.specs.Aside.{kept_after, ClashesWith}
use Rattle.chumsky_input.specs.Outcome.{Event, Meaning, Beginning, Outcome, Verdict, Yes, No, IsAnswer}
use Rattle.chumsky_input.specs.Primary.{primary}
use Rattle.chumsky_parser.specs.Chained.{retold}
use Rattle.chumsky_parser.specs.Failure.{Refuses}
use Rattle.chumsky_judge.specs.Judged.{OrClash, Judged}
use Rattle.chumsky_label.specs.Labelling.{LabelsSeen}

module _ {Er : Type 0} (maps : Er → Er → Type 0) where
  abbrev pub RelabelsAt : Bool → Event Er → Option (Event Er) → Type 0
  RelabelsAt true e k = (r : Er) × maps e.error r × (k ≡ Some (record { place = e.place; error = r }))
  RelabelsAt false e k = k ≡ Some e

  -- an event at the start has another error, which is made of its own by the label; any other event stays
  abbrev pub Relabels : ℕ → Option (Event Er) → Option (Event Er) → Type 0
  Relabels start None k = k ≡ None
  Relabels start (Some e) k = RelabelsAt (eqb e.place start) e k

module _ {Tok Cx St Er V : Type 0} (merged : Er → Er → Er) (maps : Er → Er → Type 0) (free : Type 0) where
  -- the events of the part count as one, into which the label is put where it stands at the start; or there is no memory for that
  pub record LabelledAs (u : Verdict V Er) (b : Beginning Tok Cx St) (p o : Outcome V Er St) : Type 0 where
    pub says : Refuses (free → ⊥) p.state o ⊎ ((k : Option (Event Er)) × Relabels maps b.start (primary merged p.events) k × OrClash (record (retold u p) { events = option_to_list k }) o)

  -- on success and on failure
  pub record MeansLabelled (part : Meaning Tok Cx St Er V) (b : Beginning Tok Cx St) (o : Outcome V Er St) : Type 0 where
    pub run : Judged part (λ b v p o. LabelledAs (Yes v) b p o) (λ b p o. LabelledAs No b p o) b o

module _ {Tok Cx St Er : Type 0} (maps : Er → Er → Type 0) where
  pub record Relabelled (start : ℕ) (old new : Held Tok Cx St Er) : Type 0 where
    pub event : Option (Event Er)
    pub relabels : Relabels maps start old.kept event
    pub left : new ≡ record old { kept = event }

module _ {Tok Cx St Er : Type 0} (free : Type 0) where
  abbrev pub Unlabelled : Held Tok Cx St Er → Held Tok Cx St Er → Type 0
  Unlabelled old new = (free → ⊥) × (new ≡ record old { kept = None })

module _ {Tok Cx St Er : Type 0} (merged : Er → Er → Er) (maps : Er → Er → Type 0) where
  -- the event that is kept is labelled, and an older one put before it
  pub record KeepsLabelled (start : ℕ) (older : Option (Event Er)) (old new : Held Tok Cx St Er) : Type 0 where
    pub event : Option (Event Er)
    pub relabels : Relabels maps start old.kept event
    pub left : new ≡ kept_after merged older (record old { kept = event })

module _ {Tok Cx St Er : Type 0} (safe : Type 0) (maps : Er → Er → Type 0) (free : Type 0) where
  -- there was no memory for the label, or to merge the event with the older one
  abbrev pub LosesLabelled : ℕ → Option (Event Er) → Held Tok Cx St Er → Held Tok Cx St Er → Type 0
  LosesLabelled start older old new = (((free → ⊥) ⊎ ((k : Option (Event Er)) × Relabels maps start old.kept k × ClashesWith safe older k))) × (new ≡ record old { kept = None })

module _ {I Tok Sp Er Cx St E : Type 0} (errors : error_trait.Ghosts Er I Tok Sp) (labelled : Er → errors.Seen) (free : Type 0) where
  -- the label is put into the event that is kept, where that stands at the start; a refusal loses the event
  abbrev pub RelabelsOrLoses : ℕ → Result (Unit {0}) E → Held Tok Cx St errors.Seen → Held Tok Cx St errors.Seen → Type 0
  RelabelsOrLoses start result old new = MatchResult result (λ _. Relabelled (LabelsSeen errors.seen labelled) start old new) (λ _. Unlabelled free old new)

  -- and an older event is put before it
  abbrev pub KeepsOrLoses : ℕ → Option (Located Er) → Result (Unit {0}) E → Held Tok Cx St errors.Seen → Held Tok Cx St errors.Seen → Type 0
  KeepsOrLoses start older result old new =
      MatchResult result (λ _. KeepsLabelled errors.merged (LabelsSeen errors.seen labelled) start (option_map (located errors.seen) older) old new)
      (λ _. LosesLabelled errors.takes_no_memory (LabelsSeen errors.seen labelled) free start (option_map (located errors.seen) older) old new)

-- the event, if there is one, is of an error
abbrev pub IsOfError : {E S : Type 0} → (E → S) → Option (Event S) → Type 0
IsOfError seen None = ⊤
IsOfError {E} seen (Some e) = (x : E) × (seen x ≡ e.error)

-- where events stand
abbrev pub places : {Er : Type 0} → List (Event Er) → List ℕ
places es = map (λ e. e.place) es

module _ {Er V St : Type 0} (merged : Er → Er → Er) where
  -- the outcome but for its events, which count as one, where that one stood
  pub record ButEvents (p o : Outcome V Er St) : Type 0 where
    pub rest : o ≡ record p { events = o.events }
    pub place : places o.events ≡ places (option_to_list (primary merged p.events))

module _ {Tok Cx St Er V : Type 0} (merged : Er → Er → Er) (part m : Meaning Tok Cx St Er V) where
  -- each answer is one of the part, but for its events
  abbrev pub AnswersButEvents : Type 0
  AnswersButEvents = (b : Beginning Tok Cx St) (o : Outcome V Er St) → m b o → IsAnswer o.verdict → (p : Outcome V Er St) × part b p × ButEvents merged p o

  -- and to each answer of the part there is one, where the event that counts is of an error
  abbrev pub EachAnswered : {E : Type 0} → (E → Er) → Type 0
  EachAnswered seen = (b : Beginning Tok Cx St) (p : Outcome V Er St) → part b p → IsAnswer p.verdict → IsOfError seen (primary merged p.events) → (o : Outcome V Er St) × m b o × ButEvents merged p o
