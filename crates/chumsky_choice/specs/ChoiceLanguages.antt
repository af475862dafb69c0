-- The language of a choice among the parsers of a list.
-- Main words: no_language, among_language. Law: among-accepts. Read first: ChoiceLanguage.antt of chumsky_parser, Among.antt.
use Rattle.std.proofs.Common.{true, false, None, List, [], ◌∷◌, map, refl}
use Rattle.std.specs.Prelude.{⊤}
use Rattle.chumsky_input.specs.declared.error.Error as error_trait
use Rattle.chumsky_input.specs.declared.inspector.Inspector as inspector_trait
use Rattle.chumsky_input.specs.declared.input.Input as input_trait
use Rattle.chumsky_input.specs.Outcome.{Meaning}
use Rattle.chumsky_parser.specs.Choice.{FirstOf}
use Rattle.chumsky_parser.specs.ChoiceLanguage.{or_language, AcceptInOrder, last-accepts, next-accepts}
use Rattle.chumsky_parser.specs.Ending.{Nowhere}
use Rattle.chumsky_parser.specs.EndingLaws.{misses-by}
use Rattle.chumsky_parser.specs.FurtherLaws.{never-below}
use Rattle.chumsky_parser.specs.Language.{Language, Accepts}
use Rattle.chumsky_parser.specs.LanguageLaws.{fewer-accepts}
use Rattle.chumsky_parser.specs.MemoryLaws.{misses-spares}
use Rattle.chumsky_parser.specs.ProgressLaws.{misses-no}
use Rattle.chumsky_choice.specs.Among.{FirstAmong}

-- no word: it fails on each text
abbrev pub no_language : {Tok V : Type 0} → Language Tok V
no_language = record {
  said = true;
  ends = λ _. Nowhere;
  value = λ _ _. ⊥;
  word = λ _. ⊥;
  stands_for = λ _ _. ⊥;
  follow = λ _. ⊤;
  unambiguous = ⊤;
  refused_from = None;
  moves = true;
  takes_no_memory = ⊤;
}

module _ {X Tok V : Type 0} (language : X → Language Tok V) where
  -- a word of one of these, which those before it leave
  abbrev pub one_of_language : X → List X → Language Tok V
  one_of_language x [] = language x
  one_of_language x (y ∷ ys) = or_language (language x) (one_of_language y ys)

  -- of no alternative no word
  abbrev pub among_language : List X → Language Tok V
  among_language [] = no_language
  among_language (x ∷ xs) = one_of_language x xs

module _ {I Tok Sp Cu Er St Mk Cx V : Type 0} (source : input_trait.Ghosts I Cu Tok Sp) (errors : error_trait.Ghosts Er I Tok Sp) (states : inspector_trait.Ghosts St I Mk Tok Sp) where
  -- a choice of nothing
  none-accepts : Accepts (FirstAmong {Cx = Cx} {V = V} source errors states []) no_language (errors.takes_no_memory × states.takes_no_memory)
  none-accepts = record {
    described = λ s. record {
      reads = record { here = λ b w o m. misses-by (λ _. ⊥) Nowhere b.tokens.list o refl m.cases };
      only = record { taken = λ ts rest e. absurd (cc e) };
      given = record { given = λ ts rest v e i. absurd i };
      each = λ u. record { each = λ w rest i j. absurd i };
      decided = never-below (λ ts e. absurd (cc e));
      further = λ m ts rest e. absurd (cc e);
    };
    moving = λ e b o m y. absurd (misses-no m.cases y);
    sparing = λ q t b o m. misses-spares q.0 m.cases;
  }

  module _ {X : Type 0} (meaning : X → Meaning Tok Cx states.Seen errors.Seen V) (language : X → Language Tok V)
      (h : (x : X) → Accepts (meaning x) (language x) (errors.takes_no_memory × states.takes_no_memory)) where
    one_of-accept : (x : X) (xs : List X)
        → AcceptInOrder states.mark states.back {safe = states.takes_no_memory}
        {spare = errors.takes_no_memory × states.takes_no_memory} (λ q. q.1) (meaning x) (map meaning xs)
        (one_of_language language x xs)
    one_of-accept x [] = last-accepts states.mark states.back (λ q. q.1) (meaning x) (h x)
    one_of-accept x (y ∷ ys) = next-accepts states.mark states.back (λ q. q.1) (meaning x) (h x) (meaning y) (map meaning ys) (one_of-accept y ys)

    pub among-accepts : (xs : List X) → Accepts (FirstAmong source errors states (map meaning xs)) (among_language language xs) (errors.takes_no_memory × states.takes_no_memory)
    among-accepts [] = none-accepts
    among-accepts (x ∷ xs) =
        fewer-accepts (FirstAmong source errors states (map meaning (x ∷ xs)))
        (FirstOf states.mark states.back states.takes_no_memory (meaning x) (map meaning xs)) (λ b o m. m.cases)
        (one_of_language language x xs) (one_of-accept x xs).first_of
