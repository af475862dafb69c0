-- The trees of expressions: which operators stand where, when that is as their powers have it, how a tree is written, and for what
-- values it stands.
-- Main words: OperatorTree, is_tried, Binds, TreeWord, TreeValue. Read first: Language.antt of chumsky_parser.
use Rattle.std.specs.Prelude.{◌≡◌, ℕ, ◌<◌, nat_le, nat_lt, ◌&&◌, Bool, true, false, List, ⊤}
use Rattle.chumsky_parser.specs.Language.{Language}
use Rattle.chumsky_parser.specs.Words.{Joined}
use Rattle.chumsky_pratt.specs.declared.fixity.Fixity.{Fixity}
use Rattle.chumsky_pratt.specs.declared.fixity.Fixity.TheVariants.{Prefix, Postfix, Infix}
use Rattle.chumsky_pratt.specs.declared.operands.Operands.{Operands}
use Rattle.chumsky_pratt.specs.declared.operands.Operands.TheVariants.{After, Before, Around}
use Rattle.chumsky_pratt.specs.Operators.{bound_by}
use Rattle.chumsky_pratt.specs.Expression.{any_power}

-- an atom; or an operator, by its index, before a tree, after one, or between two
pub data OperatorTree : Type 0 where
  Atom : OperatorTree
  Prefixed : ℕ → OperatorTree → OperatorTree
  Postfixed : OperatorTree → ℕ → OperatorTree
  Infixed : OperatorTree → ℕ → OperatorTree → OperatorTree

-- an operator that stands so is tried after a value, in an expression of at least this power, under this bound
abbrev pub is_tried : ℕ → ℕ → Fixity → Bool
is_tried least below (Prefix power) = false
is_tried least below (Postfix power) = nat_le least power
is_tried least below (Infix left right chains) = nat_le least left && nat_lt left below

-- of which power the operand after it is
abbrev pub power_after : Fixity → ℕ
power_after (Prefix power) = power
power_after (Postfix power) = 0
power_after (Infix left right chains) = right

-- the bound of infix operators after it, where that was so before
abbrev pub bound_after : Fixity → ℕ → ℕ
bound_after (Prefix power) below = below
bound_after (Postfix power) below = below
bound_after (Infix left right chains) below = bound_by chains below left

-- it stands before its operand; after it; between two
abbrev pub IsPrefix : Fixity → Type 0
IsPrefix (Prefix power) = ⊤
IsPrefix (Postfix power) = ⊥
IsPrefix (Infix left right chains) = ⊥

abbrev pub IsPostfix : Fixity → Type 0
IsPostfix (Prefix power) = ⊥
IsPostfix (Postfix power) = ⊤
IsPostfix (Infix left right chains) = ⊥

abbrev pub IsInfix : Fixity → Type 0
IsInfix (Prefix power) = ⊥
IsInfix (Postfix power) = ⊥
IsInfix (Infix left right chains) = ⊤

-- it has an operand before it; after it
abbrev pub HasBefore : Fixity → Type 0
HasBefore (Prefix power) = ⊥
HasBefore (Postfix power) = ⊤
HasBefore (Infix left right chains) = ⊤

abbrev pub HasAfter : Fixity → Type 0
HasAfter (Prefix power) = ⊤
HasAfter (Postfix power) = ⊥
HasAfter (Infix left right chains) = ⊤

-- both stand where an expression begins, or both where one may end
abbrev pub SameSide : Fixity → Fixity → Type 0
SameSide (Prefix power) g = IsPrefix g
SameSide (Postfix power) g = HasBefore g
SameSide (Infix left right chains) g = HasBefore g

module _ (number : ℕ) (stands : ℕ → Fixity) where
  -- the bound of infix operators after a tree
  abbrev pub bound_of : OperatorTree → ℕ
  bound_of Atom = any_power
  bound_of (Prefixed i t) = any_power
  bound_of (Postfixed t i) = bound_of t
  bound_of (Infixed l i r) = bound_after (stands i) (bound_of l)

  -- no operand at the right end of it takes an operator that stands so for its own
  abbrev pub YieldsTo : OperatorTree → Fixity → Type 0
  YieldsTo Atom f = ⊤
  YieldsTo (Prefixed i t) f = (is_tried (power_after (stands i)) (bound_of t) f ≡ false) × YieldsTo t f
  YieldsTo (Postfixed t i) f = ⊤
  YieldsTo (Infixed l i r) f = (is_tried (power_after (stands i)) (bound_of r) f ≡ false) × YieldsTo r f

  -- the tree of an expression of at least this power is as the powers of its operators have it: each is tried after what stands
  -- before it, and left to it by the operands there; and each operand after an operator is of the power that this asks for
  abbrev pub Binds : ℕ → OperatorTree → Type 0
  Binds least Atom = ⊤
  Binds least (Prefixed i t) = (i < number) × IsPrefix (stands i) × Binds (power_after (stands i)) t
  Binds least (Postfixed t i) = (i < number) × IsPostfix (stands i) × (is_tried least (bound_of t) (stands i) ≡ true) × YieldsTo t (stands i) × Binds least t
  Binds least (Infixed l i r) = (i < number) × IsInfix (stands i) × (is_tried least (bound_of l) (stands i) ≡ true) × YieldsTo l (stands i) × Binds least l × Binds (power_after (stands i)) r

module _ {Tok V : Type 0} (F : Language Tok V) (operators : ℕ → Language Tok (Operands V × V)) where
  -- a tree is written so: the words of its atoms and operators, in order
  abbrev pub TreeWord : OperatorTree → List Tok → Type 0
  TreeWord Atom = F.word
  TreeWord (Prefixed i t) = Joined (operators i).word (TreeWord t)
  TreeWord (Postfixed t i) = Joined (TreeWord t) (operators i).word
  TreeWord (Infixed l i r) = Joined (TreeWord l) (Joined (operators i).word (TreeWord r))

  -- a tree that is written so has this value: what its operator gives for the values of its operands
  abbrev pub TreeValue : OperatorTree → List Tok → V → Type 0
  TreeValue Atom w v = F.stands_for w v
  TreeValue (Prefixed i t) w v = (x : V) × Joined (λ u. (operators i).stands_for u (After x, v)) (λ u. TreeValue t u x) w
  TreeValue (Postfixed t i) w v = (x : V) × Joined (λ u. TreeValue t u x) (λ u. (operators i).stands_for u (Before x, v)) w
  TreeValue (Infixed l i r) w v = (x y : V) × Joined (λ u. TreeValue l u x) (Joined (λ u. (operators i).stands_for u (Around x y, v)) (λ u. TreeValue r u y)) w
