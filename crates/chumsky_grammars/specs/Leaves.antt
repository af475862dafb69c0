-- The languages of leaves that stand in a list.
-- Main words: leaves_of, AreLeaves, all_move. Laws: leaves-accept, leaves-are. Read first: RuleLanguage.antt, Founded.antt.
use Rattle.std.proofs.Common.{◌≡◌, ℕ, zero, suc, Bool, true, false, not, Option, Some, None, List, [], ◌∷◌, map, slice_get, refl}
use Rattle.std.specs.Prelude.{◌&&◌, is_some}
use Rattle.chumsky_input.specs.Outcome.{Meaning}
use Rattle.chumsky_parser.specs.Language.{Language, Accepts}
use Rattle.chumsky_parser.specs.LanguageLaws.{fewer-accepts}
use Rattle.chumsky_parser.specs.ProgressLaws.{both-true}
use Rattle.chumsky_choice.specs.ChoiceLanguages.{no_language}
use Rattle.chumsky_recursive.specs.InPlace.{InPlace}
use Rattle.chumsky_recursive.specs.Leaves.{listed_leaf}
use Rattle.chumsky_grammars.specs.Founded.{Claims}

-- the language of the leaf of a number; past the list there is none
abbrev pub leaves_of : {Tok V : Type 0} → List (Language Tok V) → ℕ → Language Tok V
leaves_of [] n = no_language
leaves_of (l ∷ ls) zero = l
leaves_of (l ∷ ls) (suc n) = leaves_of ls n

-- each leaf is said and refuses no text, and takes a token where it may not stay
pub record AreLeaves {Tok V : Type 0} (c : Claims) (leaf : ℕ → Language Tok V) : Type 0 where
  pub said : (n : ℕ) → (leaf n).said ≡ true
  pub moves : (n : ℕ) → c.leaf_stays n ≡ false → (leaf n).moves ≡ true
  pub decided : (n : ℕ) → (leaf n).refused_from ≡ None

-- a test that each of a list is said, takes a token and refuses no text
abbrev pub all_move : {Tok V : Type 0} → List (Language Tok V) → Bool
all_move [] = true
all_move (l ∷ ls) = ((l.said && l.moves) && not (is_some l.refused_from)) && all_move ls

is_none : (n : Option ℕ) → not (is_some n) ≡ true → n ≡ None
is_none (Some n) e = absurd (cc e)
is_none None e = refl

module _ {Tok V : Type 0} where
  one_of_all : (l : Language Tok V) (ls : List (Language Tok V)) → all_move (l ∷ ls) ≡ true → ((l.said ≡ true) × (l.moves ≡ true) × (l.refused_from ≡ None)) × (all_move ls ≡ true)
  one_of_all l ls e =
      let h = both-true ((l.said && l.moves) && not (is_some l.refused_from)) (all_move ls) e in
      let k = both-true (l.said && l.moves) (not (is_some l.refused_from)) h.0 in
      let m = both-true l.said l.moves k.0 in
      ((m.0, m.1, is_none l.refused_from k.1), h.1)

  each_moves : (ls : List (Language Tok V)) → all_move ls ≡ true → (n : ℕ) → ((leaves_of ls n).said ≡ true) × ((leaves_of ls n).moves ≡ true) × ((leaves_of ls n).refused_from ≡ None)
  each_moves [] e n = (refl, refl, refl)
  each_moves (l ∷ ls) e zero = (one_of_all l ls e).0
  each_moves (l ∷ ls) e (suc n) = each_moves ls (one_of_all l ls e).1 n

  pub leaves-are : (c : Claims) (ls : List (Language Tok V)) → all_move ls ≡ true → AreLeaves c (leaves_of ls)
  leaves-are c ls e = record { said = λ n. (each_moves ls e n).0; moves = λ n s. (each_moves ls e n).1; decided = λ n. (each_moves ls e n).2 }

module _ {P Tok Cx St Er V spare : Type 0} (meaning : P → Meaning Tok Cx St Er V) (language : P → Language Tok V) (h : (p : P) → Accepts (meaning p) (language p) spare) where
  -- past the list nothing is done
  none_accepts : Accepts (InPlace (listed_leaf meaning None)) no_language spare
  none_accepts = record {
    described = λ s. record {
      reads = record { here = λ b w o m. absurd m.meant };
      only = record { taken = λ ts rest e. absurd (cc e) };
      given = record { given = λ ts rest v e i. absurd i };
      each = λ u. record { each = λ w rest i j. absurd i };
      decided = λ ts i e. cc e;
      further = λ m ts rest e. absurd (cc e);
    };
    moving = λ e b o m y. absurd m.meant;
    sparing = λ q t b o m. absurd m.meant;
  }

  -- the leaf of a number in a list
  pub leaves-accept : (ps : List P) (n : ℕ) → Accepts (InPlace (listed_leaf meaning (slice_get ps n))) (leaves_of (map language ps) n) spare
  leaves-accept [] n = none_accepts
  leaves-accept (p ∷ ps) zero = fewer-accepts (InPlace (meaning p)) (meaning p) (λ b o m. m.meant) (language p) (h p)
  leaves-accept (p ∷ ps) (suc n) = leaves-accept ps n
