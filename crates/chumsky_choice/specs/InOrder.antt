-- Which alternative of a choice stands.
use Rattle.std.specs.Prelude.{◌≡◌, List, [], ◌∷◌, ◌++◌, ◌⊎◌}
use Rattle.chumsky_input.specs.Outcome.{Meaning, Beginning, Outcome, IsAnswer, No}

module _ {Tok Cx St Mk Er V : Type 0} (back : St → Mk → St) (mark : Mk) where
  -- one alternative stands: the first, if it says yes or is the last; or it says no and is gone back from by the mark, and
  -- one of those after it stands, with the failures of both
  abbrev pub OneStands : Meaning Tok Cx St Er V → List (Meaning Tok Cx St Er V) → Meaning Tok Cx St Er V
  OneStands first [] b o = first b o
  OneStands first (next ∷ others) b o =
      (first b o × (o.verdict ≡ No → ⊥))
      ⊎
      ((p : Outcome V Er St) × (q : Outcome V Er St) × first b p × (p.verdict ≡ No) × OneStands next others
      (record b { state = back p.state mark }) q × (o ≡ record q { events = p.events ++ q.events }))

module _ {Tok Cx St Mk Er V : Type 0} (mark : St → Mk) (back : St → Mk → St) where
  -- a list that has one
  abbrev pub AnyStands : List (Meaning Tok Cx St Er V) → Meaning Tok Cx St Er V
  AnyStands [] b o = ⊥
  AnyStands (first ∷ others) b o = OneStands back (mark b.state) first others b o

  -- in each answer one of a list of alternatives stands, all gone back from by the mark of the beginning
  abbrev pub StandsByOne : Meaning Tok Cx St Er V → List (Meaning Tok Cx St Er V) → Type 0
  StandsByOne whole alternatives = (b : Beginning Tok Cx St) (o : Outcome V Er St) → whole b o → IsAnswer o.verdict → AnyStands alternatives b o

  -- the same of a list that may be empty: then the answer is no
  abbrev pub StandsByOneIfAny : Meaning Tok Cx St Er V → List (Meaning Tok Cx St Er V) → Type 0
  StandsByOneIfAny whole [] = (b : Beginning Tok Cx St) (o : Outcome V Er St) → whole b o → IsAnswer o.verdict → o.verdict ≡ No
  StandsByOneIfAny whole (first ∷ others) = StandsByOne whole (first ∷ others)
