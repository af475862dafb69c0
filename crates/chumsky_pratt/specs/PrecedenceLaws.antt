-- Which operator binds first.
-- Main words: left_power, right_power, PassesOver, PassesOverUnder.
use Rattle.std.proofs.Common.{◌≡◌, ℕ, suc, ◌+◌, ◌*◌, ◌<◌, ◌≤◌, Bool, true, false, refl, Option, Some, arith, inl, inr, subst, sym}
use Rattle.chumsky_input.specs.Outcome.{Beginning, Outcome}
use Rattle.chumsky_parser.specs.Chained.{Given}
use Rattle.chumsky_pratt.specs.declared.fixity.Associativity.{Associativity}
use Rattle.chumsky_pratt.specs.declared.fixity.Associativity.TheVariants as associativity
use Rattle.chumsky_pratt.specs.declared.fixity.Fixity.TheVariants.{Infix}
use Rattle.chumsky_pratt.specs.Operators.{infix_fixity, bound_by}
use Rattle.chumsky_pratt.specs.Expression.{Syntax, Turn, Rests, From, TryInfix, Below}

-- the power that an operator was given, and those of its two sides
abbrev pub power_of : Associativity → ℕ
power_of (associativity.Left p) = p
power_of (associativity.Right p) = p
power_of (associativity.None p) = p

abbrev pub left_power : Associativity → ℕ
left_power (associativity.Left p) = p * 2
left_power (associativity.Right p) = p * 2 + 1
left_power (associativity.None p) = p * 2

abbrev pub right_power : Associativity → ℕ
right_power (associativity.Left p) = p * 2 + 1
right_power (associativity.Right p) = p * 2
right_power (associativity.None p) = p * 2 + 1

-- the one stands too weakly in the right operand of the other to be tried there
abbrev pub StaysOut : Associativity → Associativity → Type 0
StaysOut a c = left_power a < right_power c

-- the one is strong enough to be tried in the right operand of the other
abbrev pub GoesIn : Associativity → Associativity → Type 0
GoesIn a c = right_power c ≤ left_power a

-- of two powers the weaker operator stays out of the stronger one's operand, and the stronger one goes into the weaker one's
pub weaker_stays_out : (a c : Associativity) → power_of a < power_of c → StaysOut a c
weaker_stays_out (associativity.Left p) (associativity.Left q) l = omega (arith, l)
weaker_stays_out (associativity.Left p) (associativity.Right q) l = omega (arith, l)
weaker_stays_out (associativity.Left p) (associativity.None q) l = omega (arith, l)
weaker_stays_out (associativity.Right p) (associativity.Left q) l = omega (arith, l)
weaker_stays_out (associativity.Right p) (associativity.Right q) l = omega (arith, l)
weaker_stays_out (associativity.Right p) (associativity.None q) l = omega (arith, l)
weaker_stays_out (associativity.None p) (associativity.Left q) l = omega (arith, l)
weaker_stays_out (associativity.None p) (associativity.Right q) l = omega (arith, l)
weaker_stays_out (associativity.None p) (associativity.None q) l = omega (arith, l)

pub stronger_goes_in : (a c : Associativity) → power_of c < power_of a → GoesIn a c
stronger_goes_in (associativity.Left p) (associativity.Left q) l = omega (arith, l)
stronger_goes_in (associativity.Left p) (associativity.Right q) l = omega (arith, l)
stronger_goes_in (associativity.Left p) (associativity.None q) l = omega (arith, l)
stronger_goes_in (associativity.Right p) (associativity.Left q) l = omega (arith, l)
stronger_goes_in (associativity.Right p) (associativity.Right q) l = omega (arith, l)
stronger_goes_in (associativity.Right p) (associativity.None q) l = omega (arith, l)
stronger_goes_in (associativity.None p) (associativity.Left q) l = omega (arith, l)
stronger_goes_in (associativity.None p) (associativity.Right q) l = omega (arith, l)
stronger_goes_in (associativity.None p) (associativity.None q) l = omega (arith, l)

-- of one power: the second of two left-associative ones stays out of the first one's operand, the second of two
-- right-associative ones goes in
pub left_stays_out : (p : ℕ) → StaysOut (associativity.Left p) (associativity.Left p)
left_stays_out p = omega arith

pub right_goes_in : (p : ℕ) → GoesIn (associativity.Right p) (associativity.Right p)
right_goes_in p = omega arith

-- an operator stands as its associativity says
pub stands_by : (a : Associativity) → (chains : Bool) × (infix_fixity a ≡ Infix (left_power a) (right_power a) chains)
stands_by (associativity.Left p) = (true, refl)
stands_by (associativity.Right p) = (true, refl)
stands_by (associativity.None p) = (false, refl)

module _ {Tok Cx St Mk Er F V : Type 0} (s : Syntax Tok Cx St Mk Er F V) where
  -- in an expression of this power the operator of an index is passed over, wherever it might stand: what it and the infix
  -- operators after it do, these do alone, and the other way round
  abbrev pub PassesOver : ℕ → ℕ → Type 0
  PassesOver least i =
      (n start at below count : ℕ) (x : Option V) (m : Mk) (b : Beginning Tok Cx St) (o : Outcome (Turn V) Er St)
      →
      (From s (TryInfix s (Below s n) start least at x below m) (suc count) i (Given (Some Rests)) b o
      → From s (TryInfix s (Below s n) start least at x below m) count (suc i) (Given (Some Rests)) b o)
      ×
      (From s (TryInfix s (Below s n) start least at x below m) count (suc i) (Given (Some Rests)) b o
      → From s (TryInfix s (Below s n) start least at x below m) (suc count) i (Given (Some Rests)) b o)

  pub weak_passed : (least i left right : ℕ) (chains : Bool) → s.stands i ≡ Infix left right chains → left < least → PassesOver least i
  weak_passed least i left right chains e l n start at below count x m b o =
      let rest = From s (TryInfix s (Below s n) start least at x below m) count (suc i) (Given (Some Rests)) in (
        (λ h. elim (subst (λ f. TryInfix s (Below s n) start least at x below m i f rest b o) e h) [ inl k ↦ absurd (omega (arith, k.0, l)) | inr k ↦ k.1 ]),
        (λ h. subst (λ f. TryInfix s (Below s n) start least at x below m i f rest b o) (sym e) (inr (inl l, h))),
      )

-- whether another operator of its power may follow it
abbrev pub chains_of : Associativity → Bool
chains_of (associativity.Left p) = true
chains_of (associativity.Right p) = true
chains_of (associativity.None p) = false

-- after the other the one lies past the bound of their expression
abbrev pub StaysOutAfter : Associativity → Associativity → Type 0
StaysOutAfter a c = (below : ℕ) → bound_by (chains_of c) below (left_power c) ≤ left_power a

pub none_stays_out : (p : ℕ) (a : Associativity) → p ≤ power_of a → StaysOutAfter a (associativity.None p)
none_stays_out p (associativity.Left q) l = λ below. omega (arith, l)
none_stays_out p (associativity.Right q) l = λ below. omega (arith, l)
none_stays_out p (associativity.None q) l = λ below. omega (arith, l)

module _ {Tok Cx St Mk Er F V : Type 0} (s : Syntax Tok Cx St Mk Er F V) where
  -- under this bound the operator of an index is passed over, as by `PassesOver`
  abbrev pub PassesOverUnder : ℕ → ℕ → Type 0
  PassesOverUnder below i =
      (n start least at count : ℕ) (x : Option V) (m : Mk) (b : Beginning Tok Cx St) (o : Outcome (Turn V) Er St)
      →
      (From s (TryInfix s (Below s n) start least at x below m) (suc count) i (Given (Some Rests)) b o
      → From s (TryInfix s (Below s n) start least at x below m) count (suc i) (Given (Some Rests)) b o)
      ×
      (From s (TryInfix s (Below s n) start least at x below m) count (suc i) (Given (Some Rests)) b o
      → From s (TryInfix s (Below s n) start least at x below m) (suc count) i (Given (Some Rests)) b o)

  pub bounded_passed : (below i left right : ℕ) (chains : Bool) → s.stands i ≡ Infix left right chains → below ≤ left → PassesOverUnder below i
  bounded_passed below i left right chains e l n start least at count x m b o =
      let rest = From s (TryInfix s (Below s n) start least at x below m) count (suc i) (Given (Some Rests)) in (
        (λ h. elim (subst (λ f. TryInfix s (Below s n) start least at x below m i f rest b o) e h) [ inl k ↦ absurd (omega (arith, k.1, l)) | inr k ↦ k.1 ]),
        (λ h. subst (λ f. TryInfix s (Below s n) start least at x below m i f rest b o) (sym e) (inr (inr l, h))),
      )
