-- The language of a call under a depth: under none it refuses each text, and else it is what the body makes of that under one less.
-- Main words: call_language, language_of, IsIntended. Main laws: does_call-accepts, call-is_intended. Read first: Calls.antt, Kept.antt.
use Rattle.std.proofs.Common.{◌≡◌, ℕ, zero, suc, ◌<◌, true, Some, List, refl, arith, inr}
use Rattle.std.specs.Prelude.{⊤}
use Rattle.chumsky_input.specs.declared.stop.Stop.TheVariants.{TooDeep}
use Rattle.chumsky_input.specs.Outcome.{Meaning, Halt}
use Rattle.chumsky_combinator.specs.Part.{Onward}
use Rattle.chumsky_parser.specs.Ending.{Ending, Refused, Answers, DoesNotEnd}
use Rattle.chumsky_parser.specs.Language.{Language, Accepts, IsBelow, unsaid, of_unsaid}
use Rattle.chumsky_parser.specs.LanguageLaws.{fewer-accepts}
use Rattle.chumsky_descent.specs.CallLaws.{exact-ends, exact-agrees}
use Rattle.chumsky_descent.specs.Calls.{IsTooDeep, AreCalls, KeepsLaws, Intended, Said, Nothing, Means, Steady, Exact, Together, DoesCall}
use Rattle.chumsky_descent.specs.Kept.{too_deep-moves, too_deep-spares}

module _ {Tok V : Type 0} (intended : Intended Tok V) where
  -- the words that are intended, each text refused
  abbrev pub too_deep : Language Tok V
  too_deep = record {
    said = true;
    ends = λ _. Refused;
    value = λ _ _. ⊥;
    word = intended.word;
    stands_for = intended.stands_for;
    follow = intended.follow;
    unambiguous = ⊤;
    refused_from = Some zero;
    moves = true;
    takes_no_memory = ⊤;
  }

  -- a call under so many open calls
  abbrev pub call_language : (Language Tok V → Language Tok V) → ℕ → Language Tok V
  call_language grammar zero = too_deep
  call_language grammar (suc depth) = grammar (call_language grammar depth)

  -- a language is as intended, and no text of fewer tokens than the depth is refused: its words are those, with these values;
  -- what may follow them may; it is unambiguous; it ends nowhere on those texts; and it moves where that is intended
  pub record IsIntended (l : Language Tok V) (depth : ℕ) : Type 0 where
    pub said : l.said ≡ true
    pub moves : intended.moves ≡ true → l.moves ≡ true
    pub only : (w : List Tok) → l.word w → intended.word w
    pub given : (w : List Tok) (v : V) → l.stands_for w v → intended.stands_for w v
    pub each : (w : List Tok) → intended.word w → l.word w
    pub follows : (rest : List Tok) → intended.follow rest → l.follow rest
    pub fails : (ts : List Tok) → intended.fails ts → DoesNotEnd (l.ends ts)
    pub unambiguous : l.unambiguous
    pub refused : (k : ℕ) → k < depth → IsBelow l.refused_from k

  -- the body makes of a language that is as intended one that is
  abbrev pub KeepsIntended : (Language Tok V → Language Tok V) → Type 1
  KeepsIntended grammar = (call : Language Tok V) (depth : ℕ) → IsIntended call depth → IsIntended (grammar call) (suc depth)

  -- so a call under any depth is as intended
  pub call-is_intended : (grammar : Language Tok V → Language Tok V) → KeepsIntended grammar → (depth : ℕ) → IsIntended (call_language grammar depth) depth
  call-is_intended grammar step zero = record {
    said = refl;
    moves = λ e. refl;
    only = λ w i. i;
    given = λ w v i. i;
    each = λ w i. i;
    follows = λ rest i. i;
    fails = λ ts i. tt;
    unambiguous = tt;
    refused = λ k l. omega (arith, l);
  }
  call-is_intended grammar step (suc depth) = step (call_language grammar depth) depth (call-is_intended grammar step depth)

module _ {Tok Cx St Er V : Type 0} {spare : Type 0} where
  too_deep-accepts : (intended : Intended Tok V) → Accepts (Onward (IsTooDeep {Tok = Tok} {Cx = Cx} {St = St} {Er = Er} {V = V})) (too_deep intended) spare
  too_deep-accepts intended = record {
    described = λ s. record {
      reads =
          record {
            here = λ b w o m. let r : Ending (List Tok) = Refused in let a : Answers (λ (v : V). ⊥) {Tok = Tok}
                {Er = Er} r b.tokens.list (Halt TooDeep) o.end = inr refl in rw m.means.verdict a;
          };
      only = record { taken = λ ts rest e. absurd (cc e) };
      given = record { given = λ ts rest v e x. absurd (cc e) };
      each = λ u. record { each = λ w rest x f. inr refl };
      decided = λ ts i e. omega (arith, i);
      further = λ e ts rest x. absurd (cc x);
    };
    moving = λ e. too_deep-moves;
    sparing = λ q x. too_deep-spares;
  }

  -- where the bodies are lawful, each call accepts its language
  module _ {calls bodies : ℕ → Meaning Tok Cx St Er V} (are : AreCalls calls bodies) (intended : Intended Tok V)
      (grammar : Language Tok V → Language Tok V) (keeps : KeepsLaws calls bodies spare grammar) where
    pub exact-accepts : (depth : ℕ) → Accepts (calls depth) (call_language intended grammar depth) spare
    exact-accepts zero = fewer-accepts _ _ are.is_none (too_deep intended) (too_deep-accepts intended)
    exact-accepts (suc depth) =
        let l = keeps depth (call_language intended grammar depth) (record { ends = exact-ends are depth; agrees = exact-agrees are grammar keeps depth; accepts = exact-accepts depth }) in
        fewer-accepts _ _ (λ b o m. (are.is_one depth b o m).means) (call_language intended grammar (suc depth)) l.accepts

module _ {Tok Cx St Er : Type 0} where
  -- the language of a call of a function of which this is said
  abbrev pub language_of : {spare V : Type 0} → Said Tok Cx St Er spare V → ℕ → Language Tok V
  language_of Nothing depth = unsaid
  language_of (Means body) depth = unsaid
  language_of (Steady same body keeps) depth = unsaid
  language_of (Exact calls bodies are intended grammar keeps) depth = call_language intended grammar depth
  language_of (Together same bodies keep name) depth = unsaid

  -- a call accepts the language that is said
  pub does_call-accepts : {spare V : Type 0} (said : Said Tok Cx St Er spare V) (depth : ℕ) → Accepts (DoesCall said depth) (language_of said depth) spare
  does_call-accepts Nothing depth = of_unsaid
  does_call-accepts (Means body) depth = of_unsaid
  does_call-accepts (Steady same body keeps) depth = of_unsaid
  does_call-accepts (Exact calls bodies are intended grammar keeps) depth = exact-accepts are intended grammar keeps depth
  does_call-accepts (Together same bodies keep name) depth = of_unsaid
