-- Operators that are characters, each its own: none is taken for another, or for an atom that begins apart from them.
-- Main words: character, AreSigns. Main laws: signs-apart, signs-end. Read first: PrecedenceLanguage.antt of chumsky_pratt.
use Rattle.std.proofs.Common.{◌≡◌, ℕ, ◌<◌, true, false, nat_eq, List, [], ◌∷◌, ◌++◌, refl, arith}
use Rattle.std.specs.Prelude.{⊤}
use Rattle.std.proofs.lemmas.Bool.Decides.{nat_tests}
use Rattle.chumsky_parser.specs.ChoiceLanguage.{FailsOn}
use Rattle.chumsky_parser.specs.Ending.{DoesNotEnd}
use Rattle.chumsky_parser.specs.Language.{Language}
use Rattle.chumsky_parser.specs.SequenceLanguage.{MayFollow}
use Rattle.chumsky_primitive.specs.PrimitiveLanguage.{Equals, literal_language}
use Rattle.chumsky_pratt.specs.declared.fixity.Fixity.{Fixity}
use Rattle.chumsky_pratt.specs.declared.operands.Operands.{Operands}
use Rattle.chumsky_pratt.specs.OperatorTrees.{IsPrefix, HasBefore, SameSide}
use Rattle.chumsky_pratt.specs.Operating.{OperatorLanguages, operator_language}
use Rattle.chumsky_pratt.specs.PrecedenceLanguage.{TellApart, FollowsAll}

-- one character
abbrev pub character : ℕ → Language ℕ ℕ
character c = literal_language nat_eq (c ∷ []) (λ d. d ≡ c) ⊤

-- of one character no other is the beginning
pub apart : (c d : ℕ) → nat_eq c d ≡ false → (w rest : List ℕ) → Equals nat_eq (d ∷ []) w → DoesNotEnd ((character c).ends (w ++ rest))
apart c d n [] rest e = absurd e
apart c d n (t ∷ []) rest e =
    let s : nat_eq d t ≡ true = e.0 in
    let k : nat_eq c t ≡ false = grind (arith, nat_tests) in
    rw k tt
apart c d n (t ∷ u ∷ w) rest e = absurd e.1

-- an operator is this character
pub record IsSign {W : Type 0} (c : ℕ) (l : Language ℕ W) : Type 0 where
  pub word : (w : List ℕ) → l.word w → Equals nat_eq (c ∷ []) w
  pub ends : (ts : List ℕ) → l.ends ts ≡ (character c).ends ts
  pub unambiguous : l.unambiguous
  pub follow : (rest : List ℕ) → l.follow rest

pub sign : {V : Type 0} (c : ℕ) (gives : ℕ → Operands V → V → Type 0) → IsSign c (operator_language (character c) gives)
sign c gives = record { word = λ w e. e; ends = λ ts. refl; unambiguous = tt; follow = λ rest. tt }

module _ {V : Type 0} (number : ℕ) (stands : ℕ → Fixity) (A : Language ℕ V) (row : OperatorLanguages ℕ V) (sign_of : ℕ → ℕ) where
  -- each operator is its sign, which is another than those on its side; no atom begins with one that stands before it, and each other may
  -- follow an atom
  pub record AreSigns : Type 0 where
    pub each : (i : ℕ) → i < number → IsSign (sign_of i) (row.operator i)
    pub differ : (i j : ℕ) → i < number → j < number → (i ≡ j → ⊥) → SameSide (stands i) (stands j) → nat_eq (sign_of i) (sign_of j) ≡ false
    pub before : (i : ℕ) → i < number → IsPrefix (stands i) → FailsOn (character (sign_of i)) A
    pub after : (i : ℕ) → i < number → HasBefore (stands i) → MayFollow A (character (sign_of i))

  module _ (are : AreSigns) where
    -- where atoms are taken whole, each expression is
    pub signs-apart : A.unambiguous → TellApart number stands A row
    signs-apart a = record {
      atom = a;
      each = λ i l. (are.each i l).unambiguous;
      apart = λ i j l m n s w rest e f. rw ((are.each i l).ends (w ++ rest)) (apart (sign_of i) (sign_of j) (are.differ i j l m n s) w rest ((are.each j m).word w e));
      before_atom = λ i l p w rest e f. rw ((are.each i l).ends (w ++ rest)) (are.before i l p w rest e f);
      opens = λ i l p. (λ w rest e f. (are.each i l).follow (w ++ rest), λ j m q w rest e f. (are.each i l).follow (w ++ rest));
      after_atom = λ i l b w rest e f. are.after i l b w rest ((are.each i l).word w e) tt;
      after_postfix = λ i j l m p b w rest e f. (are.each i l).follow (w ++ rest);
    }

    -- and it may end where an atom may and no sign is that may go on with it
    pub signs-end : (rest : List ℕ) → A.follow rest → ((i : ℕ) → i < number → HasBefore (stands i) → DoesNotEnd ((character (sign_of i)).ends rest)) → FollowsAll number stands A row rest
    signs-end rest f none = record { atom = f; postfix = λ i l p. (are.each i l).follow rest; none = λ i l b. rw ((are.each i l).ends rest) (none i l b) }
