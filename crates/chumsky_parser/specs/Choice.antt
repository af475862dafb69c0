-- Ordered choice.
use Rattle.std.specs.Prelude.{◌≡◌, ℕ, zero, suc, List, [], ◌∷◌, ◌++◌, ◌⊎◌, length}
use Rattle.chumsky_input.specs.Held.{Held, Marks}
use Rattle.chumsky_input.specs.Outcome.{Meaning, Beginning, Outcome, Verdict, Yes, No, Halt, Clash}
use Rattle.chumsky_parser.specs.Failure.{Refuses}

module _ {Tok Cx St Mk Er V : Type 0} (back : St → Mk → St) (safe : Type 0) (mark : Mk) where
  -- a no is gone back from by the mark, which may want memory, and its failures come before those of what is tried next
  abbrev pub GoneOn : Outcome V Er St → Meaning Tok Cx St Er V → Meaning Tok Cx St Er V
  GoneOn p next b o = Refuses (safe → ⊥) p.state o ⊎ ((q : Outcome V Er St) × next (record b { state = back p.state mark }) q × (o ≡ record q { events = p.events ++ q.events }))

  -- after a no the second; any other verdict stands
  abbrev pub ElseFrom : Verdict V Er → Meaning Tok Cx St Er V → Beginning Tok Cx St → Outcome V Er St → Outcome V Er St → Type 0
  ElseFrom (Yes v) second b p o = o ≡ p
  ElseFrom No second b p o = GoneOn p second b o
  ElseFrom (Halt s) second b p o = o ≡ p
  ElseFrom (Clash e) second b p o = o ≡ p

  -- the first alternative, which stands unless it says no
  pub record AttemptFrom (first second : Meaning Tok Cx St Er V) (b : Beginning Tok Cx St) (o : Outcome V Er St) : Type 0 where
    pub attempt : Outcome V Er St
    pub meant : first b attempt
    pub then_else : ElseFrom attempt.verdict second b attempt o

  -- the k-th alternative stands: it says no only where it is the last, and each before it says no and is gone back from,
  -- unless memory is wanting to go back
  abbrev pub Stands : ℕ → Meaning Tok Cx St Er V → List (Meaning Tok Cx St Er V) → Meaning Tok Cx St Er V
  Stands zero first others b o = first b o × (o.verdict ≡ No → length others ≡ 0)
  Stands (suc k) first [] b o = ⊥
  Stands (suc k) first (next ∷ others) b o = (p : Outcome V Er St) × first b p × (p.verdict ≡ No) × GoneOn p (Stands k next others) b o

  -- there is a k such that the k-th alternative stands: the first that does not say no, else the last
  pub record FirstFrom (first : Meaning Tok Cx St Er V) (others : List (Meaning Tok Cx St Er V)) (b : Beginning Tok Cx St) (o : Outcome V Er St) : Type 0 where
    pub k : ℕ
    pub stands : Stands k first others b o

module _ {Tok Cx St Mk Er V : Type 0} (mark : St → Mk) (safe : Type 0) where
  -- out of memory for a mark of the beginning, or what is done by that mark
  abbrev pub ByMark : (Mk → Meaning Tok Cx St Er V) → Meaning Tok Cx St Er V
  ByMark part b o = Refuses (safe → ⊥) b.state o ⊎ part (mark b.state) b o

module _ {Tok Cx St Mk Er V : Type 0} (mark : St → Mk) (back : St → Mk → St) (safe : Type 0) where
  -- the first alternative that does not say no, else the last
  pub record OrElse (first second : Meaning Tok Cx St Er V) (b : Beginning Tok Cx St) (o : Outcome V Er St) : Type 0 where
    pub cases : ByMark mark safe (λ m. AttemptFrom back safe m first second) b o

  -- one alternative by itself; of several, by a mark, the first that does not say no, else the last
  abbrev pub OneOrFirst : Meaning Tok Cx St Er V → List (Meaning Tok Cx St Er V) → Meaning Tok Cx St Er V
  OneOrFirst first [] = first
  OneOrFirst first (next ∷ others) = ByMark mark safe (λ m. FirstFrom back safe m first (next ∷ others))

  pub record FirstOf (first : Meaning Tok Cx St Er V) (others : List (Meaning Tok Cx St Er V)) (b : Beginning Tok Cx St) (o : Outcome V Er St) : Type 0 where
    pub cases : OneOrFirst first others b o

-- the run stands where the mark was made, but for its state
pub record StandsAt {Tok Cx St Mk Er : Type 0} (m : Marks Tok Mk) (h : Held Tok Cx St Er) : Type 0 where
  pub tokens : m.tokens ≡ h.tokens
  pub place : m.place ≡ h.place
  pub emitted : m.emitted ≡ length h.emitted

-- two values that one of the two calls the same
abbrev pub SameEither : {V : Type 0} → (V → V → Type 0) → (V → V → Type 0) → V → V → Type 0
SameEither f s v w = f v w ⊎ s v w

-- two values that one of a list calls the same
abbrev pub SameByOne : {V : Type 0} → (V → V → Type 0) → List (V → V → Type 0) → V → V → Type 0
SameByOne s [] = s
SameByOne s (t ∷ ts) = SameEither s (SameByOne t ts)
