-- What a caller of `parse` makes of an exact answer: what is so of each value of the text is so of the output; and where a text has
-- one value alone, that value is given back.
-- Main words: GivesBack. Main laws: output-is, gives_back-by_words, exact-and_back. Read first: Accepted.antt of chumsky.
use Rattle.std.proofs.Common.{◌≡◌, Option, Some, None, List, [], subst, inl, inr}
use Rattle.std.specs.Prelude.{Result, Ok, Err, IfOk, IfSome}
use Rattle.chumsky_input.specs.declared.stop.Stop.{Stop}
use Rattle.chumsky_input.specs.declared.stop.Stop.TheVariants.{Memory}
use Rattle.chumsky_parser.specs.Ending.{At}
use Rattle.chumsky_parser.specs.Language.{Language}
use Rattle.chumsky_parser.specs.WordsLaws.{ends-unless}
use Rattle.chumsky_parser.specs.declared.result.ParseResult.{ParseResult}
use Rattle.chumsky.specs.AcceptedLaws.{decided_by, exactly-by_words}
use Rattle.chumsky.specs.Accepted.{FallsShort, AnswersText, IsOutputOf, IsAnswerOf, IsExactly, Exactly}

-- an output has what each value of the text has
pub output-is : {Tok V Er : Type 0} (P : List Tok → V → Type 0) (ts : List Tok) (Q : V → Type 0) → ((v : V) → P ts v → Q v) → (r : Result (ParseResult V Er) Stop) → Exactly P ts r → IfOk r (λ parsed. IfSome parsed.output Q)
output-is {V = V} P ts Q h (Ok parsed) i = by_output parsed.output i
  where
    by_output : (v : Option V) → IsExactly P ts v → IfSome v Q
    by_output (Some v) i = h v i
    by_output None i = tt
output-is P ts Q h (Err s) i = tt

module _ {V X : Type 0} (of : V → X) (x : X) where
  -- an output that is x
  abbrev pub IsOutput : Option V → Type 0
  IsOutput (Some v) = of v ≡ x
  IsOutput None = ⊥

  -- the output is x; a refusal is for memory
  abbrev pub GivesBack : {Er : Type 0} → Result (ParseResult V Er) Stop → Type 0
  GivesBack (Ok parsed) = IsOutput parsed.output
  GivesBack (Err s) = s ≡ Memory

module _ {Tok V X Er : Type 0} {l : Language Tok V} {ts : List Tok} {spare : Type 0} {result : Result (ParseResult V Er) Stop} (of : V → X) (P : List Tok → X → Type 0) (a : AnswersText Some l ts spare result) where
  given_back : (x : X) → l.ends ts ≡ At [] → ((v : V) → l.stands_for ts v → of v ≡ x) → (r : Result (ParseResult V Er) Stop) → IsAnswerOf Some l ts r → GivesBack of x r
  given_back x e same (Ok parsed) i = by_output parsed.output i
    where
      by_output : (w : Option V) → IsOutputOf Some l ts w → IsOutput of x w
      by_output (Some v) i = same v i.2.1
      by_output None i = let f : FallsShort {Tok = Tok} (At []) = subst FallsShort e i in f
  given_back x e same (Err s) (inl m) = m
  given_back x e same (Err s) (inr r) = absurd (cc (e, r))

  -- of an unambiguous language, where a word stands for values with P alone, a text has one value with P, and is a word where it has one
  pub gives_back-by_words : l.refused_from ≡ None → l.unambiguous → l.follow [] → ((v : V) → l.word ts → l.stands_for ts v → P ts (of v)) → ((x y : X) → P ts x → P ts y → x ≡ y) → ((x : X) → P ts x → l.word ts) → (x : X) → P ts x → GivesBack of x result
  gives_back-by_words n u f sound once complete x p = let w = complete x p in given_back x (ends-unless (a.accepted u f w) (decided_by a n)) (λ v s. once (of v) x (sound v w s) p) result a.output

  -- so the output is exact, and each value is given back
  pub exact-and_back : l.refused_from ≡ None → l.unambiguous → l.follow [] → ((v : V) → l.word ts → l.stands_for ts v → P ts (of v))
      → ((x y : X) → P ts x → P ts y → x ≡ y) → ((x : X) → P ts x → l.word ts)
      → Exactly (λ us v. P us (of v)) ts result × ((x : X) → P ts x → GivesBack of x result)
  exact-and_back n u f sound once complete = (exactly-by_words (λ us v. P us (of v)) a n u f sound (λ v p. complete (of v) p), gives_back-by_words n u f sound once complete)
