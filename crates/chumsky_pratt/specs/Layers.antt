-- Expressions in layers, as grammars have them: each infix operator goes on from the left, all postfix operators are of one power, which
-- no infix operator exceeds, and prefix operators are stronger than all of these.
-- Main words: AreLayered, IsOfPower. Laws: LayersLaws.antt. Read first: OperatorTrees.antt.
use Rattle.std.specs.Prelude.{◌≡◌, ℕ, ◌+◌, ◌<◌, ◌≤◌, true, List, ◌++◌}
use Rattle.chumsky_pratt.specs.declared.fixity.Fixity.{Fixity}
use Rattle.chumsky_pratt.specs.declared.fixity.Fixity.TheVariants.{Prefix, Postfix, Infix}
use Rattle.chumsky_pratt.specs.declared.operands.Operands.{Operands}
use Rattle.chumsky_pratt.specs.declared.operands.Operands.TheVariants.{After, Before, Around}
use Rattle.chumsky_pratt.specs.Expression.{any_power}
use Rattle.chumsky_pratt.specs.OperatorTrees.{power_after, IsPrefix, IsPostfix, IsInfix}

-- an operator that stands so is in layers, of which this power is the highest
abbrev pub IsLayered : ℕ → Fixity → Type 0
IsLayered top (Prefix power) = top < power
IsLayered top (Postfix power) = power ≡ top
IsLayered top (Infix left right chains) = (left ≤ top) × (right ≡ left + 1) × (chains ≡ true)

-- so is each of these operators
pub record AreLayered (number : ℕ) (stands : ℕ → Fixity) (top : ℕ) : Type 0 where
  pub each : (i : ℕ) → i < number → IsLayered top (stands i)
  pub low : top < any_power

-- of which power an expression has to be for an operator after it
abbrev pub power_before : Fixity → ℕ
power_before (Prefix power) = power
power_before (Postfix power) = power
power_before (Infix left right chains) = left

module _ {Tok V : Type 0} (number : ℕ) (stands : ℕ → Fixity) (Atom : List Tok → V → Type 0) (Operator : ℕ → List Tok → Operands V × V → Type 0) where
  -- an expression of at least this power is an atom; an operator, and the operand that it asks for; one of its own power, and an operator
  -- of at least that power; or such an operator between the two that it asks for
  pub data IsOfPower : ℕ → List Tok → V → Type 0 where
    is_atom : {least : ℕ} {w : List Tok} {v : V} → Atom w v → IsOfPower least w v
    is_prefixed : {least : ℕ} {u w : List Tok} {x v : V} (i : ℕ) → i < number → IsPrefix (stands i) → Operator i u (After x, v) → IsOfPower (power_after (stands i)) w x → IsOfPower least (u ++ w) v
    is_postfixed : {least : ℕ} {u w : List Tok} {x v : V} (i : ℕ) → i < number → IsPostfix (stands i) → least ≤ power_before (stands i) → IsOfPower (power_before (stands i)) u x
        → Operator i w (Before x, v) → IsOfPower least (u ++ w) v
    is_infixed : {least : ℕ} {u s w : List Tok} {x y v : V} (i : ℕ) → i < number → IsInfix (stands i) → least ≤ power_before (stands i) → IsOfPower (power_before (stands i)) u x
        → Operator i s (Around x y, v) → IsOfPower (power_after (stands i)) w y → IsOfPower least (u ++ (s ++ w)) v
