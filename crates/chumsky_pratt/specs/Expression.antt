-- What an expression is.
-- Main words: Level, Below, Expression.
use Rattle.std.specs.Prelude.{◌≡◌, ℕ, zero, suc, ◌-◌, ◌<◌, ◌≤◌, Option, Some, None, length, ◌⊎◌, ⊤}
use Rattle.chumsky_input.specs.declared.stop.Stop.TheVariants.{NoProgress}
use Rattle.chumsky_input.specs.Outcome.{Meaning, Beginning, Outcome}
use Rattle.chumsky_parser.specs.Chained.{Chained, Given}
use Rattle.chumsky_parser.specs.Choice.{AttemptFrom, ByMark}
use Rattle.chumsky_parser.specs.Failure.{Refuses, Stops}
use Rattle.chumsky_parser.specs.Showing.{GivesShown, GivenShown}
use Rattle.chumsky_pratt.specs.declared.fixity.Fixity.{Fixity}
use Rattle.chumsky_pratt.specs.declared.fixity.Fixity.TheVariants.{Prefix, Postfix, Infix}
use Rattle.chumsky_pratt.specs.declared.operands.Operands.{Operands}
use Rattle.chumsky_pratt.specs.declared.operands.Operands.TheVariants.{After, Before, Around}
use Rattle.chumsky_pratt.specs.Operators.{bound_by}

-- of what expressions are made: atoms and a number of operators, how each stands, what reading one does, and what is given
-- for what was read and its operands, and for what is shown of the run from where the first operand or the operator began;
-- with how a state is marked and gone back to
pub record Syntax (Tok Cx St Mk Er F V : Type 0) : Type 1 where
  pub mark : St → Mk
  pub back : St → Mk → St
  pub safe : Type 0
  pub atom : Meaning Tok Cx St Er V
  pub number : ℕ
  pub stands : ℕ → Fixity
  pub reads : ℕ → Meaning Tok Cx St Er F
  pub gives : GivesShown Tok Cx St (F × Operands V) V

-- what a round of operators after a value does: nothing; or it gives another value, and a bound of the powers of infix
-- operators after that
pub data Turn (V : Type 0) : Type 0 where
  Rests : Turn V
  Goes : ℕ → Option V → Turn V

-- past the power of every infix operator, which is at most twice 65,535 and one more
abbrev pub any_power : ℕ
any_power = 131072

-- an operator and its operands, where all are there
abbrev pub all_there : {F V : Type 0} → Option F → Operands (Option V) → Option (F × Operands V)
all_there None x = None
all_there (Some f) (After (Some v)) = Some (f, After v)
all_there (Some f) (After None) = None
all_there (Some f) (Before (Some v)) = Some (f, Before v)
all_there (Some f) (Before None) = None
all_there (Some f) (Around (Some v) (Some w)) = Some (f, Around v w)
all_there (Some f) (Around (Some v) None) = None
all_there (Some f) (Around None w) = None

-- how many tokens are left
abbrev pub left_at : {Tok Cx St : Type 0} → Beginning Tok Cx St → ℕ
left_at b = length b.tokens.list - b.start

module _ {Tok Cx St Er V : Type 0} where
  -- past this place what follows; there it would go on for ever, and is refused
  abbrev pub Onward : ℕ → Meaning Tok Cx St Er V → Meaning Tok Cx St Er V
  Onward place next b o = ((place < b.start) × next b o) ⊎ ((b.start ≤ place) × Stops NoProgress b o)

  -- to wait for a part may want memory
  abbrev pub Waiting : Meaning Tok Cx St Er V → Meaning Tok Cx St Er V
  Waiting part b o = Refuses ⊤ b.state o ⊎ part b o

  -- after a round: the value, if it did nothing, or what follows the one that it gave
  abbrev pub AfterTurn : Option V → (ℕ → Option V → Meaning Tok Cx St Er V) → Option (Turn V) → Meaning Tok Cx St Er V
  AfterTurn x next (Some Rests) = Given x
  AfterTurn x next (Some (Goes below y)) = next below y
  AfterTurn x next None = λ b o. ⊥

module _ {Tok Cx St Mk Er F V : Type 0} (s : Syntax Tok Cx St Mk Er F V) where
  -- the operators from an index on, so many, each tried in its way before the ones after it; at last this
  abbrev pub From : {W : Type 0} → (ℕ → Fixity → Meaning Tok Cx St Er W → Meaning Tok Cx St Er W) → ℕ → ℕ → Meaning Tok Cx St Er W → Meaning Tok Cx St Er W
  From try zero i last = last
  From try (suc count) i last = try i (s.stands i) (From try count (suc i) last)

  module _ (operand : ℕ → Meaning Tok Cx St Er V) (start : ℕ) where
    -- a prefix operator of an expression that began here, and its operand, an expression of its power
    abbrev pub AfterPrefix : ℕ → ℕ → Meaning Tok Cx St Er V
    AfterPrefix i power = Chained (s.reads i) (λ f. Onward start (Waiting (Chained (operand power) (λ v. GivenShown s.gives start (all_there f (After v))))))

    -- a postfix operator after a value that ended here
    abbrev pub AfterPostfix : ℕ → Option V → ℕ → ℕ → Meaning Tok Cx St Er (Turn V)
    AfterPostfix at x below i = Chained (s.reads i) (λ f. Onward at (Chained (GivenShown s.gives start (all_there f (Before x))) (λ y. Given (Some (Goes below y)))))

    -- an infix operator after a value that ended here, and its right operand, an expression of its right power
    abbrev pub AfterInfix : ℕ → Option V → ℕ → ℕ → ℕ → Meaning Tok Cx St Er (Turn V)
    AfterInfix at x below i power = Chained (s.reads i)
        (λ f. Onward start (Waiting (Chained (operand power) (λ v. Onward at (Chained (GivenShown s.gives start (all_there f (Around x v))) (λ y. Given (Some (Goes below y))))))))

    -- a prefix operator is tried; others are passed over
    abbrev pub TryPrefix : Mk → ℕ → Fixity → Meaning Tok Cx St Er V → Meaning Tok Cx St Er V
    TryPrefix m i (Prefix power) next = AttemptFrom s.back s.safe m (AfterPrefix i power) next
    TryPrefix m i (Postfix power) next = next
    TryPrefix m i (Infix left right chains) next = next

    -- a postfix operator of at least this power is tried; others are passed over
    abbrev pub TryPostfix : ℕ → ℕ → Option V → ℕ → Mk → ℕ → Fixity → Meaning Tok Cx St Er (Turn V) → Meaning Tok Cx St Er (Turn V)
    TryPostfix least at x below m i (Prefix power) next = next
    TryPostfix least at x below m i (Postfix power) next = λ b o. ((least ≤ power) × AttemptFrom s.back s.safe m (AfterPostfix at x below i) next b o) ⊎ ((power < least) × next b o)
    TryPostfix least at x below m i (Infix left right chains) next = next

    -- an infix operator of at least this power, and below this bound, is tried; others are passed over
    abbrev pub TryInfix : ℕ → ℕ → Option V → ℕ → Mk → ℕ → Fixity → Meaning Tok Cx St Er (Turn V) → Meaning Tok Cx St Er (Turn V)
    TryInfix least at x below m i (Prefix power) next = next
    TryInfix least at x below m i (Postfix power) next = next
    TryInfix least at x below m i (Infix left right chains) next = λ b o.
        ((least ≤ left) × (left < below) × AttemptFrom s.back s.safe m (AfterInfix at x (bound_by chains below left) i right) next b o) ⊎ (((left < least) ⊎ (below ≤ left)) × next b o)

    -- what a value is read from: the first prefix operator that has its operand, else an atom
    pub record Head (b : Beginning Tok Cx St) (o : Outcome V Er St) : Type 0 where
      pub run : ByMark s.mark s.safe (λ m. From (TryPrefix m) s.number 0 s.atom) b o

    -- a round after a value: the first postfix operator that is there, else the first infix operator that has its operand,
    -- else nothing
    pub record Round (least below : ℕ) (x : Option V) (b : Beginning Tok Cx St) (o : Outcome (Turn V) Er St) : Type 0 where
      pub run : ByMark s.mark s.safe (λ m. From (TryPostfix least b.start x below m) s.number 0 (From (TryInfix least b.start x below m) s.number 0 (Given (Some Rests)))) b o

    -- rounds after a value, until one does nothing
    abbrev pub Rounds : ℕ → ℕ → ℕ → Option V → Meaning Tok Cx St Er V
    Rounds least zero below x b o = ⊥
    Rounds least (suc n) below x b o = Chained (Round least below x) (AfterTurn x (Rounds least n)) b o

    pub record AllRounds (least below : ℕ) (x : Option V) (b : Beginning Tok Cx St) (o : Outcome V Er St) : Type 0 where
      pub rounds : ℕ
      pub run : Rounds least rounds below x b o

  -- an expression of at least this power, where its operands are these: a first value, and rounds after it
  pub record Level (operand : ℕ → Meaning Tok Cx St Er V) (least : ℕ) (b : Beginning Tok Cx St) (o : Outcome V Er St) : Type 0 where
    pub run : Chained (Head operand b.start) (AllRounds operand b.start least any_power) b o

  -- an expression of at least this power where fewer tokens than this are left; its operands begin where fewer are left
  abbrev pub Below : ℕ → ℕ → Meaning Tok Cx St Er V
  Below zero least b o = ⊥
  Below (suc n) least b o = ((left_at b ≡ n) × Level (Below n) least b o) ⊎ ((left_at b < n) × Below n least b o)

  pub record Expression (least : ℕ) (b : Beginning Tok Cx St) (o : Outcome V Er St) : Type 0 where
    pub run : Below (suc (length b.tokens.list)) least b o
