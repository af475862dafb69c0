-- Where an expression ends, and which tree it has: operators are tried in order, from an atom or an operator before it on.
-- Main words: climb_step, climb, climbed. Laws: TreeClimbLaws.antt. Read first: OperatorTrees.antt.
use Rattle.std.specs.Prelude.{ℕ, zero, suc, Bool, true, false, Option, Some, None, List, length}
use Rattle.chumsky_parser.specs.Ending.{Ending, At, Nowhere, Refused, Ender, and_then, or_else}
use Rattle.chumsky_pratt.specs.declared.fixity.Fixity.{Fixity}
use Rattle.chumsky_pratt.specs.declared.fixity.Fixity.TheVariants.{Prefix, Postfix, Infix}
use Rattle.chumsky_pratt.specs.OperatorTrees.{OperatorTree, Atom, Prefixed, Postfixed, Infixed, is_tried, bound_of}

-- the first of so many attempts, from an index on, that doesn't fail; else this
abbrev pub first_attempt : {X : Type 0} → (ℕ → Ending X) → ℕ → ℕ → Ending X → Ending X
first_attempt attempt zero i last = last
first_attempt attempt (suc count) i last = or_else (attempt i) (first_attempt attempt count (suc i) last)

-- this, where it is to be tried
abbrev pub where_tried : {X : Type 0} → Bool → Ending X → Ending X
where_tried true x = x
where_tried false x = Nowhere

-- where a tree was read, what is left after it
abbrev pub left_after : {Tok : Type 0} → Ending (OperatorTree × List Tok) → Ending (List Tok)
left_after {Tok} x = and_then (λ (p : OperatorTree × List Tok). At p.1) x

module _ {Tok : Type 0} (number : ℕ) (stands : ℕ → Fixity) (atom : Ender Tok) (ends : ℕ → Ender Tok) where
  -- the tree, and the tokens that are left
  abbrev pub Climb : Type 0
  Climb = Ending (OperatorTree × List Tok)

  module _ (climb_operand : ℕ → List Tok → Climb) where
    -- an operator before an operand
    abbrev pub climb_before : ℕ → List Tok → Fixity → Climb
    climb_before i ts (Prefix power) = and_then (λ rest. and_then (λ p. At (Prefixed i p.0, p.1)) (climb_operand power rest)) (ends i ts)
    climb_before i ts (Postfix power) = Nowhere
    climb_before i ts (Infix left right chains) = Nowhere

    -- an operator after a tree, in an expression of at least this power
    abbrev pub climb_after : ℕ → OperatorTree → ℕ → List Tok → Fixity → Climb
    climb_after least t i ts (Prefix power) = Nowhere
    climb_after least t i ts (Postfix power) = where_tried (is_tried least (bound_of number stands t) (Postfix power)) (and_then (λ rest. At (Postfixed t i, rest)) (ends i ts))
    climb_after least t i ts (Infix left right chains) = Nowhere

    -- an operator after a tree, and the operand after it
    abbrev pub climb_between : ℕ → OperatorTree → ℕ → List Tok → Fixity → Climb
    climb_between least t i ts (Prefix power) = Nowhere
    climb_between least t i ts (Postfix power) = Nowhere
    climb_between least t i ts (Infix left right chains) =
        where_tried (is_tried least (bound_of number stands t) (Infix left right chains)) (and_then (λ rest. and_then (λ p. At (Infixed t i p.0, p.1)) (climb_operand right rest)) (ends i ts))

    -- where nothing was read yet, an operator before an operand, else an atom; after a tree an operator after it, else one between it
    -- and another
    abbrev pub climb_step : ℕ → Option OperatorTree → List Tok → Climb
    climb_step least None ts = first_attempt (λ i. climb_before i ts (stands i)) number 0 (and_then (λ rest. At (Atom, rest)) (atom ts))
    climb_step least (Some t) ts = first_attempt (λ i. climb_after least t i ts (stands i)) number 0 (first_attempt (λ i. climb_between least t i ts (stands i)) number 0 Nowhere)

  -- what follows a step; where there is none, the tree so far
  abbrev pub go_on : (OperatorTree × List Tok → Climb) → Option OperatorTree → List Tok → Climb → Climb
  go_on next a ts (At p) = next p
  go_on next None ts Nowhere = Nowhere
  go_on next (Some t) ts Nowhere = At (t, ts)
  go_on next a ts Refused = Refused

  -- an expression of at least this power, by fewer steps than this, from the tree that was read so far on
  abbrev pub climb : ℕ → ℕ → Option OperatorTree → List Tok → Climb
  climb zero least a ts = Refused
  climb (suc n) least a ts = go_on (λ p. climb n least (Some p.0) p.1) a ts (climb_step (λ power us. climb n power None us) least a ts)

  -- by as many as there are tokens
  unfoldable pub climbed : ℕ → Option OperatorTree → List Tok → Climb
  climbed least a ts = climb (suc (length ts)) least a ts

  -- an operand
  abbrev pub climb_operand : ℕ → List Tok → Climb
  climb_operand power ts = climbed power None ts
