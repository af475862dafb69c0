-- Where a parser ends, as a function of the tokens that are left; and which values it may give of them.
-- Main words: Ending, Ender, Reads. Laws: EndingLaws.antt.
use Rattle.std.specs.Prelude.{◌≡◌, ℕ, ◌≤◌, ◌<◌, ◌^◌, Option, Some, None, List, length, drop, ⊤, ◌⊎◌}
use Rattle.chumsky_input.specs.declared.stop.Stop.TheVariants.{Memory}
use Rattle.chumsky_input.specs.Outcome.{Meaning, Beginning, Outcome, Verdict, Yes, No, Halt, Clash}

-- how a run ends where memory is there: somewhere, with what is there; nowhere, since it fails; or it is refused
pub data Ending (X : Type 0) : Type 0 where
  At : X → Ending X
  Nowhere : Ending X
  Refused : Ending X

-- of the tokens that are left those that are left after it
abbrev pub Ender : Type 0 → Type 0
Ender Tok = List Tok → Ending (List Tok)

-- what follows, from where something ended
abbrev pub and_then : {X Y : Type 0} → (X → Ending Y) → Ending X → Ending Y
and_then next (At x) = next x
and_then next Nowhere = Nowhere
and_then next Refused = Refused

-- the other, where the first fails
abbrev pub or_else : {X : Type 0} → Ending X → Ending X → Ending X
or_else (At x) other = At x
or_else Nowhere other = other
or_else Refused other = Refused

-- P of where it ends, where it ends somewhere
abbrev pub Ends : {X : Type 0} → Ending X → (X → Type 0) → Type 0
Ends (At x) P = P x
Ends Nowhere P = ⊥
Ends Refused P = ⊥

-- it ends there, unless it is refused
abbrev pub EndsOrRefused : {X : Type 0} → Ending X → X → Type 0
EndsOrRefused e x = (e ≡ At x) ⊎ (e ≡ Refused)

-- it ends nowhere: it fails, or it is refused
abbrev pub DoesNotEnd : {X : Type 0} → Ending X → Type 0
DoesNotEnd (At x) = ⊥
DoesNotEnd Nowhere = ⊤
DoesNotEnd Refused = ⊤

-- a beginning that stands within its tokens, of which a length can be counted
pub record Within {Tok Cx St : Type 0} (b : Beginning Tok Cx St) : Type 0 where
  pub start : b.start ≤ length b.tokens.list
  pub few : length b.tokens.list < 2 ^ 64

-- P of a value, where there is one
abbrev pub IfValue : {V : Type 0} → (V → Type 0) → Option V → Type 0
IfValue P (Some v) = P v
IfValue P None = ⊤

module _ {V : Type 0} (P : V → Type 0) where
  -- a verdict, at a place of these tokens: yes where it ends there, with a value of which P; no where it fails; and a refusal
  -- is for memory, or it is refused
  abbrev pub Answers : {Tok Er : Type 0} → Ending (List Tok) → List Tok → Verdict V Er → ℕ → Type 0
  Answers x ts (Yes v) end = (x ≡ At (drop end ts)) × IfValue P v × (end ≤ length ts)
  Answers x ts No end = x ≡ Nowhere
  Answers x ts (Halt s) end = (s ≡ Memory) ⊎ (x ≡ Refused)
  Answers x ts (Clash e) end = ⊤

  -- each outcome from here is so
  abbrev pub Here : {Tok Cx St Er : Type 0} → Meaning Tok Cx St Er V → Ending (List Tok) → Beginning Tok Cx St → Type 0
  Here {St = St} {Er = Er} m x b = (o : Outcome V Er St) → m b o → Answers x b.tokens.list o.verdict o.end

-- each outcome, wherever it begins, is as this function and this relation say of the tokens that are left there
pub record Reads {Tok Cx St Er V : Type 0} (m : Meaning Tok Cx St Er V) (ends : Ender Tok) (value : List Tok → V → Type 0) : Type 0 where
  pub here : (b : Beginning Tok Cx St) → Within b → Here (value (drop b.start b.tokens.list)) m (ends (drop b.start b.tokens.list)) b
