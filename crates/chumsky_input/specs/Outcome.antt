-- What a parser may do, from where it begins.
use Rattle.std.specs.Prelude.{◌≡◌, ◌≤◌, ℕ, Bool, Option, Some, None, List, [], ◌∷◌, ◌⊎◌, ⊤}
use Rattle.chumsky_input.specs.Layout.{Layout}
use Rattle.chumsky_input.specs.declared.stop.Stop.{Stop}

-- a failure: its place, and what counts of its error
pub record Event (Er : Type 0) : Type 0 where
  pub place : ℕ
  pub error : Er

-- where a run begins: whether a value is wanted, of which tokens, at which place, under which context and in which state
pub record Beginning (Tok Cx St : Type 0) : Type 0 where
  pub wanted : Bool
  pub tokens : Layout Tok
  pub start : ℕ
  pub context : Cx
  pub state : St

-- yes, with a value where one is wanted; no; a refusal; and out of memory merging that event with an earlier one at its place
pub data Verdict (V Er : Type 0) : Type 0 where
  Yes : Option V → Verdict V Er
  No : Verdict V Er
  Halt : Stop → Verdict V Er
  Clash : Event Er → Verdict V Er

-- of a refusal only its number and the state count; of a clash the events before it too
pub record Outcome (V Er St : Type 0) : Type 0 where
  pub verdict : Verdict V Er
  pub end : ℕ
  pub state : St
  pub events : List (Event Er)
  pub emitted : List Er

abbrev pub Meaning : Type 0 → Type 0 → Type 0 → Type 0 → Type 0 → Type 1
Meaning Tok Cx St Er V = Beginning Tok Cx St → Outcome V Er St → Type 0

abbrev pub HasEventAt : {Er : Type 0} → ℕ → List (Event Er) → Type 0
HasEventAt p [] = ⊥
HasEventAt p (x ∷ xs) = (x.place ≡ p) ⊎ HasEventAt p xs

-- yes or no
abbrev pub IsAnswer : {V Er : Type 0} → Verdict V Er → Type 0
IsAnswer (Yes _) = ⊤
IsAnswer No = ⊤
IsAnswer (Halt _) = ⊥
IsAnswer (Clash _) = ⊥

module _ {V : Type 0} (same : V → V → Type 0) where
  -- the same where both are there
  abbrev pub SameValue : Option V → Option V → Type 0
  SameValue (Some v) (Some w) = same v w
  SameValue (Some v) None = ⊤
  SameValue None w = ⊤

  abbrev pub SameAnswer : {Er : Type 0} → Verdict V Er → Verdict V Er → Type 0
  SameAnswer (Yes v) (Yes w) = SameValue v w
  SameAnswer (Yes v) No = ⊥
  SameAnswer (Yes v) (Halt _) = ⊤
  SameAnswer (Yes v) (Clash _) = ⊤
  SameAnswer No (Yes w) = ⊥
  SameAnswer No No = ⊤
  SameAnswer No (Halt _) = ⊤
  SameAnswer No (Clash _) = ⊤
  SameAnswer (Halt _) w = ⊤
  SameAnswer (Clash _) w = ⊤

  -- of two answers: the same verdict, end, state, events and emitted errors
  pub record Agree {Er St : Type 0} (o q : Outcome V Er St) : Type 0 where
    pub answer : SameAnswer o.verdict q.verdict
    pub end : o.end ≡ q.end
    pub state : o.state ≡ q.state
    pub events : o.events ≡ q.events
    pub emitted : o.emitted ≡ q.emitted

-- two beginnings that differ at most in whether a value is wanted
pub record Alike {Tok Cx St : Type 0} (b c : Beginning Tok Cx St) : Type 0 where
  pub tokens : b.tokens ≡ c.tokens
  pub start : b.start ≡ c.start
  pub context : b.context ≡ c.context
  pub state : b.state ≡ c.state

module _ {Tok Cx St Er V : Type 0} where
  -- no answer ends before its start
  abbrev pub EndsAfterStart : Meaning Tok Cx St Er V → Type 0
  EndsAfterStart m = (b : Beginning Tok Cx St) (o : Outcome V Er St) → m b o → IsAnswer o.verdict → b.start ≤ o.end

  -- two answers from alike beginnings agree
  abbrev pub Agreeing : (V → V → Type 0) → Meaning Tok Cx St Er V → Meaning Tok Cx St Er V → Type 0
  Agreeing same m n = (b c : Beginning Tok Cx St) (o q : Outcome V Er St) → Alike b c → m b o → n c q → IsAnswer o.verdict → IsAnswer q.verdict → Agree same o q
