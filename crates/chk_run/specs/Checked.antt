-- What an answer says of a text, of whose values a relation speaks: `parse` gives one of them, and `check` says whether there is one.
-- Main word: HasValue. Main laws: exactly-told, exactly-checked, refused-memory, taken-whole. Read first: Accepted.antt of chumsky.
use Rattle.std.proofs.Common.{◌≡◌, ℕ, Option, Some, None, option_map, List, [], subst, inl, inr}
use Rattle.std.specs.Prelude.{◌⊎◌, Result, Ok, Err}
use Rattle.chumsky_input.specs.declared.stop.Stop.{Stop}
use Rattle.chumsky_input.specs.declared.stop.Stop.TheVariants.{Memory}
use Rattle.chumsky_parser.specs.Ending.{Ending, At, Refused}
use Rattle.chumsky_parser.specs.Language.{Language}
use Rattle.chumsky_parser.specs.WordsLaws.{ends-unless}
use Rattle.chumsky_parser.specs.declared.result.ParseResult.{ParseResult}
use Rattle.chumsky.specs.Accepted.{FallsShort, AnswersText, IsAnswerOf, IsOutputOf, IsExactly}
use Rattle.chumsky.specs.AcceptedLaws.{decided_by}

-- there is a value of which P of the text
abbrev pub HasValue : {V X : Type 0} → (List ℕ → V → Type 0) → List ℕ → X → Type 0
HasValue {V} P cs x = (v : V) × P cs v

never_short : (x : Ending (List ℕ)) → x ≡ At [] → FallsShort x → ⊥
never_short x e f = let g : FallsShort {Tok = ℕ} (At []) = subst FallsShort e f in g

module _ {V W Er : Type 0} {gives : W → Option V} {l : Language ℕ V} {cs : List ℕ} {spare : Type 0} {result : Result (ParseResult W Er) Stop} (a : AnswersText gives l cs spare result) where
  -- a word of an unambiguous language is taken whole
  pub taken-whole : l.refused_from ≡ None → l.unambiguous → l.follow [] → l.word cs → l.ends cs ≡ At []
  taken-whole n u f w = ends-unless (a.accepted u f w) (decided_by a n)

  for_memory : l.refused_from ≡ None → (s : Stop) → (s ≡ Memory) ⊎ (l.ends cs ≡ Refused) → s ≡ Memory
  for_memory n s (inl e) = e
  for_memory n s (inr e) = absurd (decided_by a n e)

  -- a run is refused for memory alone, where the language refuses no text
  pub refused-memory : l.refused_from ≡ None → (s : Stop) → result ≡ Err s → s ≡ Memory
  refused-memory n s is = for_memory n s (subst (IsAnswerOf gives l cs) is a.output)

  module _ {X : Type 0} (P : List ℕ → X → Type 0) (whole : (x : X) → P cs x → l.ends cs ≡ At []) where
    told_output : (said : W → X) → ((w : W) → IsOutputOf gives l cs (Some w) → P cs (said w)) → (o : Option W) → IsOutputOf gives l cs o → IsExactly P cs (option_map said o)
    told_output said sound (Some w) i = sound w i
    told_output said sound None i = λ x p. never_short (l.ends cs) (whole x p) i

    -- what an output says is a value of the text, and there is an output where there is a value
    pub exactly-told : (said : W → X) → ((w : W) → IsOutputOf gives l cs (Some w) → P cs (said w)) → (parsed : ParseResult W Er) → result ≡ Ok parsed → IsExactly P cs (option_map said parsed.output)
    exactly-told said sound parsed is = told_output said sound parsed.output (subst (IsAnswerOf gives l cs) is a.output)

    checked_output : ((w : W) → l.word cs → HasValue P cs w) → (o : Option W) → IsOutputOf gives l cs o → IsExactly (HasValue P) cs o
    checked_output sound (Some w) i = sound w i.1
    checked_output sound None i = λ w p. never_short (l.ends cs) (whole p.0 p.1) i

    -- a `check` has an output just where there is a value
    pub exactly-checked : ((w : W) → l.word cs → HasValue P cs w) → (parsed : ParseResult W Er) → result ≡ Ok parsed → IsExactly (HasValue P) cs parsed.output
    exactly-checked sound parsed is = checked_output sound parsed.output (subst (IsAnswerOf gives l cs) is a.output)
