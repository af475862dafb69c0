-- How operators stand, what reading one of a row does, and what is given for it and its operands.
-- Main word: OperatorSyntax.
use Rattle.std.proofs.Common.{◌≡◌, ℕ, zero, suc, ◌+◌, ◌*◌, Bool, true, false, Option, Some, None, option_map}
use Rattle.chumsky_input.specs.Extra.{Shown}
use Rattle.chumsky_input.specs.Outcome.{Meaning, SameValue, EndsAfterStart, Agreeing}
use Rattle.chumsky_input.specs.Words.{Does}
use Rattle.chumsky_parser.specs.Chained.{Chained, Given}
use Rattle.chumsky_parser.specs.Laws.{chained-ends, chained-agrees, given-ends, given-agrees}
use Rattle.chumsky_parser.specs.Showing.{GivesShown, Makes, OnlyAnswers}
use Rattle.chumsky_pratt.specs.declared.fixity.Fixity.{Fixity}
use Rattle.chumsky_pratt.specs.declared.fixity.Fixity.TheVariants as fixity
use Rattle.chumsky_pratt.specs.declared.fixity.Associativity.{Associativity}
use Rattle.chumsky_pratt.specs.declared.fixity.Associativity.TheVariants as associativity
use Rattle.chumsky_pratt.specs.declared.operands.Operands.{Operands}
use Rattle.chumsky_pratt.specs.declared.operands.Operands.TheVariants.{After, Before, Around}
use Rattle.chumsky_pratt.specs.declared.row.Found.{Found}
use Rattle.chumsky_pratt.specs.declared.row.Found.TheVariants.{Here, There}

-- of what some operators are made, by their index
pub record OperatorSyntax (I Tok Sp Er St Mk Cx F V : Type 0) : Type 1 where
  -- how many they are
  pub number : ℕ
  -- how each stands
  pub stands : ℕ → Fixity
  -- what reading each may do
  pub reads : ℕ → Does I Tok Sp Er St Mk Cx F
  -- what may be given for what was found, its operands and what is shown of the run, and the state that may be left
  pub gives : Makes I Tok Sp St Mk Cx (F × Operands V) V

-- with the power p: 2p, and one more on the side that binds second
abbrev pub prefix_fixity : ℕ → Fixity
prefix_fixity p = fixity.Prefix (p * 2)

abbrev pub postfix_fixity : ℕ → Fixity
postfix_fixity p = fixity.Postfix (p * 2)

abbrev pub infix_fixity : Associativity → Fixity
infix_fixity (associativity.Left p) = fixity.Infix (p * 2) (p * 2 + 1) true
infix_fixity (associativity.Right p) = fixity.Infix (p * 2 + 1) (p * 2) true
infix_fixity (associativity.None p) = fixity.Infix (p * 2) (p * 2 + 1) false

-- how the operator of an index stands, of one before others
abbrev pub fixity_and : Fixity → (ℕ → Fixity) → ℕ → Fixity
fixity_and here there zero = here
fixity_and here there (suc i) = there i

module _ {O W : Type 0} where
  -- what is given for an operator and its operands; of operands that are not its own the first
  abbrev pub GivesPrefix : (W → O → O → Type 0) → W → Operands O → O → Type 0
  GivesPrefix gives w (After a) z = gives w a z
  GivesPrefix gives w (Before a) z = z ≡ a
  GivesPrefix gives w (Around a b) z = z ≡ a

  abbrev pub GivesPostfix : (O → W → O → Type 0) → W → Operands O → O → Type 0
  GivesPostfix gives w (After a) z = z ≡ a
  GivesPostfix gives w (Before a) z = gives a w z
  GivesPostfix gives w (Around a b) z = z ≡ a

  abbrev pub GivesInfix : (O → W → O → O → Type 0) → W → Operands O → O → Type 0
  GivesInfix gives w (After a) z = z ≡ a
  GivesInfix gives w (Before a) z = z ≡ a
  GivesInfix gives w (Around a b) z = gives a w b z

-- one value for an operator and its operands
abbrev pub OnlyOne : {F V : Type 0} → (F → Operands V → V → Type 0) → Type 0
OnlyOne {F} {V} gives = (f : F) (x : Operands V) (z z' : V) → gives f x z → gives f x z' → z ≡ z'

-- the first of some operands
abbrev pub first_of : {V : Type 0} → Operands V → V
first_of (After a) = a
first_of (Before a) = a
first_of (Around a b) = a

module _ {Tok Cx St F V : Type 0} where
  -- what is given for an operator and its operands, whatever is shown of the run, whose state stays
  abbrev pub Unshown : (F → Operands V → V → Type 0) → GivesShown Tok Cx St (F × Operands V) V
  Unshown gives p x z s = gives p.0 p.1 z × (s ≡ x.state)

  pub unshown-one : (gives : F → Operands V → V → Type 0) → OnlyOne gives → OnlyAnswers (Unshown gives)
  unshown-one gives one p x z z' s t m n = (one p.0 p.1 z z' m.0 n.0, m.1)

module _ {Tok Cx St O W : Type 0} where
  -- what is given for an operator, its operands and what is shown of the run; of operands that are not its own the first,
  -- and then the state stays
  abbrev pub WithPrefix : GivesShown Tok Cx St (W × O) O → W → Operands O → Shown Tok Cx St → O → St → Type 0
  WithPrefix gives w (After a) x z s = gives (w, a) x z s
  WithPrefix gives w (Before a) x z s = (z ≡ a) × (s ≡ x.state)
  WithPrefix gives w (Around a b) x z s = (z ≡ a) × (s ≡ x.state)

  abbrev pub GivesPrefixWith : GivesShown Tok Cx St (W × O) O → GivesShown Tok Cx St (W × Operands O) O
  GivesPrefixWith gives p = WithPrefix gives p.0 p.1

  abbrev pub WithPostfix : GivesShown Tok Cx St (O × W) O → W → Operands O → Shown Tok Cx St → O → St → Type 0
  WithPostfix gives w (After a) x z s = (z ≡ a) × (s ≡ x.state)
  WithPostfix gives w (Before a) x z s = gives (a, w) x z s
  WithPostfix gives w (Around a b) x z s = (z ≡ a) × (s ≡ x.state)

  abbrev pub GivesPostfixWith : GivesShown Tok Cx St (O × W) O → GivesShown Tok Cx St (W × Operands O) O
  GivesPostfixWith gives p = WithPostfix gives p.0 p.1

  abbrev pub WithInfix : GivesShown Tok Cx St (O × (W × O)) O → W → Operands O → Shown Tok Cx St → O → St → Type 0
  WithInfix gives w (After a) x z s = (z ≡ a) × (s ≡ x.state)
  WithInfix gives w (Before a) x z s = (z ≡ a) × (s ≡ x.state)
  WithInfix gives w (Around a b) x z s = gives (a, (w, b)) x z s

  abbrev pub GivesInfixWith : GivesShown Tok Cx St (O × (W × O)) O → GivesShown Tok Cx St (W × Operands O) O
  GivesInfixWith gives p = WithInfix gives p.0 p.1

module _ {Tok Cx St A B V : Type 0} (here : GivesShown Tok Cx St (A × Operands V) V) (there : GivesShown Tok Cx St (B × Operands V) V) where
  -- what is given for what was found: as the first operator gives it, or as those after it do
  abbrev pub GivesFound : Found A B → Operands V → Shown Tok Cx St → V → St → Type 0
  GivesFound (Here f) x = here (f, x)
  GivesFound (There f) x = there (f, x)

  abbrev pub GivesAnd : GivesShown Tok Cx St (Found A B × Operands V) V
  GivesAnd p = GivesFound p.0 p.1

  found-one : OnlyAnswers here → OnlyAnswers there
      → (f : Found A B) (x : Operands V) (run : Shown Tok Cx St) (z z' : V) (s t : St) → GivesFound f x run z s
      → GivesFound f x run z' t → (z ≡ z') × (s ≡ run.state)
  found-one h k (Here f) x = h (f, x)
  found-one h k (There f) x = k (f, x)

  pub gives_and-one : OnlyAnswers here → OnlyAnswers there → OnlyAnswers GivesAnd
  gives_and-one h k p = found-one h k p.0 p.1

-- what was found counts as the same where both are of the first operator, or both of those after it, and are the same there
abbrev pub SameAnd : {A B : Type 0} → (A → A → Type 0) → (B → B → Type 0) → Found A B → Found A B → Type 0
SameAnd here there (Here f) (Here g) = here f g
SameAnd here there (Here f) (There g) = ⊥
SameAnd here there (There f) (Here g) = ⊥
SameAnd here there (There f) (There g) = there f g

module _ {Tok Cx St Er A B : Type 0} (here : Meaning Tok Cx St Er A) (there : ℕ → Meaning Tok Cx St Er B) where
  -- the operator of an index is read, and told by its place
  abbrev pub ReadsAnd : ℕ → Meaning Tok Cx St Er (Found A B)
  ReadsAnd zero = Chained here (λ v. Given (option_map Here v))
  ReadsAnd (suc i) = Chained (there i) (λ v. Given (option_map There v))

  pub reads-ends : EndsAfterStart here → ((i : ℕ) → EndsAfterStart (there i)) → (i : ℕ) → EndsAfterStart (ReadsAnd i)
  reads-ends h k zero = chained-ends here (λ v. Given (option_map Here v)) h (λ v. given-ends (option_map Here v))
  reads-ends h k (suc i) = chained-ends (there i) (λ v. Given (option_map There v)) (k i) (λ v. given-ends (option_map There v))

module _ {A B : Type 0} (sa : A → A → Type 0) (sb : B → B → Type 0) where
  here-same : (v w : Option A) → SameValue sa v w → SameValue (SameAnd sa sb) (option_map Here v) (option_map Here w)
  here-same (Some v) (Some w) e = e
  here-same (Some v) None e = tt
  here-same None w e = tt

  there-same : (v w : Option B) → SameValue sb v w → SameValue (SameAnd sa sb) (option_map There v) (option_map There w)
  there-same (Some v) (Some w) e = e
  there-same (Some v) None e = tt
  there-same None w e = tt

  module _ {Tok Cx St Er : Type 0} (here : Meaning Tok Cx St Er A) (there : ℕ → Meaning Tok Cx St Er B) where
    pub reads-agree : Agreeing sa here here → ((i : ℕ) → Agreeing sb (there i) (there i)) → (i : ℕ) → Agreeing (SameAnd sa sb) (ReadsAnd here there i) (ReadsAnd here there i)
    reads-agree h k zero = chained-agrees here here _ _ sa (SameAnd sa sb) h (λ v w e. given-agrees (SameAnd sa sb) (option_map Here v) (option_map Here w) (here-same v w e))
    reads-agree h k (suc i) = chained-agrees (there i) (there i) _ _ sb (SameAnd sa sb) (k i) (λ v w e. given-agrees (SameAnd sa sb) (option_map There v) (option_map There w) (there-same v w e))

-- the bound of the powers of infix operators after one: an operator that none of its power may follow lowers it to that
abbrev pub bound_by : Bool → ℕ → ℕ → ℕ
bound_by true below left = below
bound_by false below left = left
