-- The language of expressions by precedence: the words of trees that are as the powers of their operators have it, with their values.
-- Main word: precedence_language. Laws: PrecedenceLanguageLaws.antt. Read first: OperatorTrees.antt, TreeClimb.antt, Operating.antt.
use Rattle.std.specs.Prelude.{◌≡◌, ℕ, zero, suc, ◌<◌, ◌&&◌, Option, None, List}
use Rattle.chumsky_parser.specs.ChoiceLanguage.{FailsOn}
use Rattle.chumsky_parser.specs.Ending.{Ender, Ends, DoesNotEnd}
use Rattle.chumsky_parser.specs.Language.{Language, Begins, sooner}
use Rattle.chumsky_parser.specs.SequenceLanguage.{MayFollow}
use Rattle.chumsky_pratt.specs.declared.fixity.Fixity.{Fixity}
use Rattle.chumsky_pratt.specs.OperatorTrees.{OperatorTree, IsPrefix, IsPostfix, HasBefore, HasAfter, SameSide, Binds, TreeWord, TreeValue}
use Rattle.chumsky_pratt.specs.TreeClimb.{climbed, left_after}
use Rattle.chumsky_pratt.specs.Operating.{OperatorLanguages}

-- the smallest of so many such numbers, from an index on
abbrev pub soonest : (ℕ → Option ℕ) → ℕ → ℕ → Option ℕ
soonest f zero i = None
soonest f (suc count) i = sooner (f i) (soonest f count (suc i))

-- a tree of any power that is as powers have it, with P
pub record OfTree (number : ℕ) (stands : ℕ → Fixity) (P : OperatorTree → Type 0) : Type 0 where
  pub tree : OperatorTree
  pub binds : Binds number stands 0 tree
  pub is : P tree

module _ {Tok V : Type 0} (number : ℕ) (stands : ℕ → Fixity) (A : Language Tok V) (row : OperatorLanguages Tok V) where
  -- where an expression ends
  abbrev pub precedence_ends : Ender Tok
  precedence_ends ts = left_after (climbed number stands A.ends (λ i. (row.operator i).ends) 0 None ts)

  -- a value of the tree that is read
  abbrev pub ReadValue : List Tok → V → Type 0
  ReadValue ts v = Ends (climbed number stands A.ends (λ i. (row.operator i).ends) 0 None ts) (λ p. Begins (λ w. TreeValue A row.operator p.0 w v) ts p.1)

  -- a word of this may stand before an expression
  abbrev pub MayOpen : {W : Type 0} → Language Tok W → Type 0
  MayOpen L = MayFollow L A × ((i : ℕ) → i < number → IsPrefix (stands i) → MayFollow L (row.operator i))

  -- no word is taken for another: those of the atom and of each operator are taken whole; an operator ends on no word of another that
  -- stands where it does, and a prefix operator on no atom; and words may follow one another as expressions have them
  pub record TellApart : Type 0 where
    pub atom : A.unambiguous
    pub each : (i : ℕ) → i < number → (row.operator i).unambiguous
    pub apart : (i j : ℕ) → i < number → j < number → (i ≡ j → ⊥) → SameSide (stands i) (stands j) → FailsOn (row.operator i) (row.operator j)
    pub before_atom : (i : ℕ) → i < number → IsPrefix (stands i) → FailsOn (row.operator i) A
    pub opens : (i : ℕ) → i < number → HasAfter (stands i) → MayOpen (row.operator i)
    pub after_atom : (i : ℕ) → i < number → HasBefore (stands i) → MayFollow A (row.operator i)
    pub after_postfix : (i j : ℕ) → i < number → j < number → IsPostfix (stands i) → HasBefore (stands j) → MayFollow (row.operator i) (row.operator j)

  -- what may follow an atom, and a postfix operator, and begins with no operator that stands after an expression
  pub record FollowsAll (rest : List Tok) : Type 0 where
    pub atom : A.follow rest
    pub postfix : (i : ℕ) → i < number → IsPostfix (stands i) → (row.operator i).follow rest
    pub none : (i : ℕ) → i < number → HasBefore (stands i) → DoesNotEnd ((row.operator i).ends rest)

  -- the words of trees, with their values; it is closed to the check, where a parser of it is run, and opened by `unfolding`
  unfoldable pub precedence_language : Language Tok V
  precedence_language = record {
    said = A.said && (A.moves && row.said);
    ends = precedence_ends;
    value = ReadValue;
    word = λ w. OfTree number stands (λ t. TreeWord A row.operator t w);
    stands_for = λ w v. OfTree number stands (λ t. TreeValue A row.operator t w v);
    follow = FollowsAll;
    unambiguous = TellApart;
    refused_from = sooner A.refused_from (soonest (λ i. (row.operator i).refused_from) number 0);
    moves = A.moves;
    takes_no_memory = ⊥;
  }
