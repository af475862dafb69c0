-- What is said of operators in a list holds, since it does of each.
-- Main word: list_languages. Main law: list-operates. Read first: Listed.antt, Operating.antt.
use Rattle.std.proofs.Common.{◌≡◌, ℕ, Bool, true, ◌&&◌, Option, Some, None, List, slice_get, refl, subst}
use Rattle.std.specs.Prelude.{⊤}
use Rattle.std.specs.List.{list_all}
use Rattle.std.proofs.lemmas.List.Sums.{AllPass-from_list_all}
use Rattle.chumsky_input.specs.Outcome.{Meaning}
use Rattle.chumsky_parser.specs.Ending.{Nowhere}
use Rattle.chumsky_parser.specs.EndingLaws.{regrouped-by}
use Rattle.chumsky_parser.specs.Language.{Language}
use Rattle.chumsky_parser.specs.ProgressLaws.{both-true}
use Rattle.chumsky_parser.specs.Showing.{GivesShown}
use Rattle.chumsky_pratt.specs.declared.operands.Operands.{Operands}
use Rattle.chumsky_pratt.specs.Listed.{found_at, of_all, ReadsIf, GivesIf, GivesIn}
use Rattle.chumsky_pratt.specs.Operating.{GivesWithin, Operates, OperatesAs, OperatorLanguages, OperateAs}

-- the language of what is never there: it ends nowhere, and has no word
abbrev pub no_language : {Tok V : Type 0} → Language Tok V
no_language =
    record {
      said = true;
      ends = λ _. Nowhere;
      value = λ _ _. ⊥;
      word = λ _. ⊥;
      stands_for = λ _ _. ⊥;
      follow = λ _. ⊤;
      unambiguous = ⊤;
      refused_from = None;
      moves = true;
      takes_no_memory = ⊥;
    }

module _ {T Tok V : Type 0} (language : T → Language Tok (Operands V × V)) where
  -- it is said of an operator, which takes a token
  abbrev pub said_of : T → Bool
  said_of t = (language t).said && (language t).moves

  -- the language of the operator of an index; past the last one there is none
  abbrev pub LanguageIf : Option T → Language Tok (Operands V × V)
  LanguageIf (Some t) = language t
  LanguageIf None = no_language

  -- those of a list, said where that of each is
  abbrev pub list_languages : List T → OperatorLanguages Tok V
  list_languages ts = record { said = list_all said_of ts; operator = λ i. LanguageIf (slice_get ts i) }

module _ {Tok Cx St Er T A V : Type 0} {reads : T → Meaning Tok Cx St Er A} {gives : T → GivesShown Tok Cx St (A × Operands V) V} {language : T → Language Tok (Operands V × V)} where
  at-operates : ((t : T) → OperatesAs (reads t) (gives t) (language t)) → (ts : List T) → list_all (said_of language) ts ≡ true → (i : ℕ) (o : Option T) → slice_get ts i ≡ o
      → Operates (ReadsIf reads i o) (GivesIn gives ts) (LanguageIf language o)
  at-operates h ts s i (Some t) e =
      let l = language t in
      let k = of_all (λ t. said_of language t ≡ true) ts i t e (AllPass-from_list_all (said_of language) ts s) in
      let u = both-true l.said l.moves k in
      let o = h t u.0 u.1 in
      record {
        reads = regrouped-by (reads t) l.ends (λ us. GivesWithin (gives t) (l.value us)) o.reads (found_at i) (λ us. GivesWithin (GivesIn gives ts) (l.value us))
            (λ us v w x run z q g. w x run z q (subst (λ p. GivesIf gives p v x run z q) e g));
        only = o.only;
        given = o.given;
        each = o.each;
        decided = o.decided;
        further = o.further;
      }
  at-operates h ts s i None e = record {
    reads = record { here = λ b w o m. absurd m };
    only = record { taken = λ us rest z. absurd (cc z) };
    given = record { given = λ us rest v z x. absurd x };
    each = λ u. record { each = λ w rest x f. absurd x };
    decided = λ us b z. cc z;
    further = λ us rest z. absurd (cc z);
  }

  pub list-operates : ((t : T) → OperatesAs (reads t) (gives t) (language t)) → (ts : List T) → OperateAs (λ i. ReadsIf reads i (slice_get ts i)) (GivesIn gives ts) (list_languages language ts)
  list-operates h ts s i = at-operates h ts s i (slice_get ts i) refl
