-- The function that reads formulas with brackets accepts just these.
-- Main word: grammar. Main law: nested-intended. Read first: Nested.antt, FormulaOperators.antt.
use Rattle.std.proofs.Common.{◌≡◌, ℕ, suc, Bool, true, nat_eq, None, List, [], ◌∷◌, refl, inl, inr}
use Rattle.std.specs.Prelude.{codes}
use Rattle.chumsky_parser.specs.ChoiceLanguage.{or_language, FailsOn}
use Rattle.chumsky_parser.specs.FurtherLaws.{both-below, behind-below}
use Rattle.chumsky_parser.specs.Language.{Language, sooner, later}
use Rattle.chumsky_parser.specs.SequenceLanguage.{between_language, MayFollow}
use Rattle.chumsky_parser.specs.Words.{StopsAt}
use Rattle.chumsky_primitive.specs.Literals.{equals-same}
use Rattle.chumsky_pratt.specs.PrecedenceLanguage.{precedence_language}
use Rattle.chumsky_descent.specs.CallLanguage.{call_language, IsIntended, call-is_intended}
use Rattle.chumsky_descent.specs.Exactly.{grammar_of}
use Rattle.chumsky_exact.specs.Parts.{within, between}
use Rattle.chumsky_exact.specs.TableLaws.{both_false}
use Rattle.formulas.specs.Formula.{IsPartOf, is_true, is_false, in_brackets}
use Rattle.formulas.specs.Signs.{character}
use Rattle.formulas.specs.Truth.{truth, truth-by, truth-valued, is-t, is-f}
use Rattle.formulas.specs.FormulaOperators.{stands, operators, formula-given, formula-valued, AreAtoms, formula-word, EndsThere, BeginsApart, formula-apart, formula-ends}
use Rattle.formulas.specs.FormulaLaws.{truth-apart}
use Rattle.formulas.specs.Nested.{goes_on, nested_formulas}
use Rattle.formulas.specs.contracts.nested.OfFormulaBodyRefStrBoolEmptyText.TheImpl.{ghosts, no_dict}
use denote.Builtin.{unit}

-- the language of the function's body, of that of a call in it
abbrev pub grammar : Language ℕ Bool → Language ℕ Bool
grammar = grammar_of (λ call. (ghosts unit call no_dict).body tt)

-- a `t`, an `f`, or what a call takes in brackets
abbrev pub atoms_of : Language ℕ Bool → Language ℕ Bool
atoms_of call = or_language truth (between_language (character 40) call (character 41))

-- neither an `&` nor an `|` is where no formula goes on
ends_there : (rest : List ℕ) → StopsAt goes_on rest → EndsThere rest
ends_there [] s = (tt, tt)
ends_there (c ∷ cs) s = let p = both_false (nat_eq 38 c) (nat_eq 124 c) s in (rw p.0 tt, rw p.1 tt)

module _ (call : Language ℕ Bool) (depth : ℕ) (i : IsIntended nested_formulas call depth) where
  abbrev brackets : Language ℕ Bool
  brackets = between_language (character 40) call (character 41)

  abbrev atoms : Language ℕ Bool
  atoms = atoms_of call

  -- each is a part
  atom_part : (w : List ℕ) (v : Bool) → atoms.stands_for w v → IsPartOf true w v
  atom_part w v (inl x) = truth-by (IsPartOf true) is_true is_false w v x
  atom_part w v (inr j) = within (λ z. IsPartOf true z v) (codes "(") (codes ")") j (λ u k. in_brackets refl (i.given u v k))

  atom_valued : (w : List ℕ) → atoms.word w → (v : Bool) × IsPartOf true w v
  atom_valued w (inl x) = let r = truth-valued w x in (r.0, atom_part w r.0 (inl r.1))
  atom_valued w (inr j) = within (λ z. (v : Bool) × IsPartOf true z v) (codes "(") (codes ")") j (λ u k. let r = i.only u k in (r.0, in_brackets refl r.1))

  are_atoms : AreAtoms true atoms.word
  are_atoms = record { holds = inl is-t; fails = inl is-f; nests = λ w a b k. inr (between (codes "(") (codes ")") w (i.each w (a, k))) }

  -- what is in brackets begins with one, and ends before the other
  begins : (w : List ℕ) → brackets.word w → (u : List ℕ) × (w ≡ 40 ∷ u)
  begins w j = let e : w ≡ 40 ∷ j.second = cc (j.all, equals-same (40 ∷ []) j.first j.is_first) in (j.second, e)

  closes : MayFollow call (character 41)
  closes w rest e f = let s : w ≡ 41 ∷ [] = equals-same (41 ∷ []) w e in rw s (i.follows (41 ∷ rest) refl)

  no_truth : FailsOn truth brackets
  no_truth w rest j f = let e = (begins w j).1 in rw e tt

  no_not : FailsOn (character 33) atoms
  no_not w rest (inl x) f = truth-apart.before w rest x f.0
  no_not w rest (inr j) f = let e = (begins w j).1 in rw e tt

  atoms_apart : BeginsApart atoms
  atoms_apart = record {
    atom = (truth-apart.atom, (tt, (i.unambiguous, tt, closes), λ w rest j f. tt), no_truth);
    before = no_not;
    and_after = λ w rest e f. ((tt, tt), tt);
    or_after = λ w rest e f. ((tt, tt), tt);
  }

  -- of the body's operators and atoms no more is to be known than of the call
  kept : IsIntended nested_formulas (precedence_language 3 stands atoms operators) (suc depth)
  unfolding precedence_language
  kept = record {
    said = rw i.said refl;
    moves = λ e. refl;
    only = λ w s. formula-valued true atoms atom_valued w s;
    given = λ w v s. formula-given true atoms atom_part w v s;
    each = λ w p. formula-word true atoms are_atoms w p.0 p.1;
    follows = λ rest s. formula-ends atoms atoms_apart rest ((tt, tt), tt) (ends_there rest s);
    fails = λ ts x. absurd x;
    unambiguous = formula-apart atoms atoms_apart;
    refused = λ k l.
        let inside = behind-below (sooner call.refused_from None) depth (λ n m. both-below call.refused_from None n (i.refused n m) tt) k l in
        both-below (later (sooner call.refused_from None) true) None k inside tt;
  }

-- the function has the language that is intended
pub nested-intended : (depth : ℕ) → IsIntended nested_formulas (call_language nested_formulas grammar depth) depth
nested-intended = call-is_intended nested_formulas grammar kept
