-- By which alternative of an ordered choice two answers are the same.
-- Main words: SameByStanding, SameByOneIn.
use Rattle.std.specs.Prelude.{ℕ, zero, suc, List, [], ◌∷◌, ⊤}
use Rattle.chumsky_input.specs.declared.error.Error as error_trait
use Rattle.chumsky_input.specs.declared.inspector.Inspector as inspector_trait
use Rattle.chumsky_input.specs.Outcome.{Meaning, Beginning, Outcome, IsAnswer, SameAnswer, Alike}
use Rattle.chumsky_input.specs.Words.{Does}
use Rattle.chumsky_parser.specs.Choice.{Stands}

module _ {V : Type 0} where
  -- what the k-th of some alternatives calls the same
  abbrev pub same_of : ℕ → (V → V → Type 0) → List (V → V → Type 0) → V → V → Type 0
  same_of zero s ss v w = s v w
  same_of (suc k) s [] v w = ⊥
  same_of (suc k) s (t ∷ ts) v w = same_of k t ts v w

module _ {Tok Cx St Mk Er V : Type 0} (mark : St → Mk) (back : St → Mk → St) (safe : Type 0) where
  -- one alternative stands in both, and calls their values the same
  pub record BothStand (s : V → V → Type 0) (ss : List (V → V → Type 0)) (first : Meaning Tok Cx St Er V)
      (others : List (Meaning Tok Cx St Er V)) (b c : Beginning Tok Cx St) (o q : Outcome V Er St) : Type 0 where
    pub k : ℕ
    pub stands : Stands back safe (mark b.state) k first others b o
    pub other_stands : Stands back safe (mark c.state) k first others c q
    pub same : SameAnswer (same_of k s ss) o.verdict q.verdict

  -- so it is of any two answers from alike beginnings
  abbrev pub SameByStanding : Meaning Tok Cx St Er V → (V → V → Type 0) → List (V → V → Type 0) → Meaning Tok Cx St Er V → List (Meaning Tok Cx St Er V) → Type 0
  SameByStanding whole s ss first others =
      (b c : Beginning Tok Cx St) (o q : Outcome V Er St) → Alike b c → whole b o → whole c q → IsAnswer o.verdict
      → IsAnswer q.verdict → BothStand s ss first others b c o q

  -- of a list of alternatives, if there is one
  abbrev pub SameByStandingIfAny : Meaning Tok Cx St Er V → List (V → V → Type 0) → List (Meaning Tok Cx St Er V) → Type 0
  SameByStandingIfAny whole ss [] = ⊤
  SameByStandingIfAny whole [] (first ∷ others) = ⊥
  SameByStandingIfAny whole (s ∷ ss) (first ∷ others) = SameByStanding whole s ss first others

module _ {I Tok Sp Er St Mk Cx V : Type 0} (errors : error_trait.Ghosts Er I Tok Sp) (states : inspector_trait.Ghosts St I Mk Tok Sp) where
  -- what each of some parsers may do
  abbrev pub each_meant : List (Does I Tok Sp Er St Mk Cx V) → List (Meaning Tok Cx states.Seen errors.Seen V)
  each_meant [] = []
  each_meant (does ∷ others) = does errors states ∷ each_meant others

  -- in any two answers of the whole, from alike beginnings, one and the same alternative stands, which calls their values the same
  abbrev pub SameByOneIn : Does I Tok Sp Er St Mk Cx V → List (V → V → Type 0) → List (Does I Tok Sp Er St Mk Cx V) → Type 0
  SameByOneIn whole sames alternatives = SameByStandingIfAny states.mark states.back states.takes_no_memory (whole errors states) sames (each_meant alternatives)
