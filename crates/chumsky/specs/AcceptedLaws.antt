-- What a caller of `parse` makes of its answer: that it is exactly as a relation of texts and values of his own.
-- Main laws: exactly-by_words, exactly-by_ends, unless-by_words, unless-by_ends, refused-long, never_refuses-by_words, never_refuses-by_ends.
-- Read first: Accepted.antt.
use Rattle.std.proofs.Common.{◌≡◌, ℕ, ◌<◌, ◌≤◌, nat_lt, Bool, true, false, Option, Some, None, List, [], length, refl, arith, subst, sym, inl, inr}
use Rattle.std.proofs.lemmas.Bool.Decides.{nat_tests}
use Rattle.std.specs.Prelude.{Result, Ok, Err}
use Rattle.chumsky_input.specs.declared.stop.Stop.{Stop}
use Rattle.chumsky_parser.specs.Ending.{Ending, At, Refused, EndsOrRefused}
use Rattle.chumsky_parser.specs.Language.{Language, IsBelow}
use Rattle.chumsky_parser.specs.WordsLaws.{ends-unless}
use Rattle.chumsky_parser.specs.declared.result.ParseResult.{ParseResult}
use Rattle.chumsky.specs.Accepted.{FallsShort, AnswersText, IsOutputOf, IsAnswerOf, IsExactly, Exactly, ExactlyUnless, NeverRefuses}

never_short : {Tok : Type 0} (x : Ending (List Tok)) → EndsOrRefused x [] → FallsShort x → ⊥
never_short {Tok} x (inl e) f = let g : FallsShort {Tok = Tok} (At []) = subst FallsShort e f in g
never_short {Tok} x (inr e) f = let g : FallsShort {Tok = Tok} Refused = subst FallsShort e f in g

module _ {V W Tok Er : Type 0} {gives : W → Option V} {l : Language Tok V} {ts : List Tok} {spare : Type 0} {result : Result (ParseResult W Er) Stop} (a : AnswersText gives l ts spare result) where
  -- what is never refused for something else than memory
  pub decided_by : l.refused_from ≡ None → l.ends ts ≡ Refused → ⊥
  decided_by n e = a.decided (subst (λ m. IsBelow m (length ts)) (sym n) tt) e

  -- what refuses no text of fewer tokens than a limit, as a function that calls itself under it, refuses longer ones alone
  pub refused-long : (limit : ℕ) → ((k : ℕ) → k < limit → IsBelow l.refused_from k) → l.ends ts ≡ Refused → limit ≤ length ts
  refused-long limit h e = by_length (nat_lt (length ts) limit) refl
    where
      by_length : (c : Bool) → nat_lt (length ts) limit ≡ c → limit ≤ length ts
      by_length true c = let k : length ts < limit = grind (arith, nat_tests) in absurd (a.decided (h (length ts) k) e)
      by_length false c = grind (arith, nat_tests)

module _ {V Tok Er : Type 0} {l : Language Tok V} {ts : List Tok} {spare : Type 0} {result : Result (ParseResult V Er) Stop} (P : List Tok → V → Type 0) (a : AnswersText Some l ts spare result) where
  -- each value of the text as the parser reads it is one of which P, and each text with such a value is taken whole, unless it is refused
  abbrev Sound : Type 0
  Sound = (v : V) → l.ends ts ≡ At [] → l.word ts → l.value ts v → l.stands_for ts v → P ts v

  abbrev Complete : Type 0
  Complete = (v : V) → P ts v → EndsOrRefused (l.ends ts) []

  exact_output : Sound → Complete → (w : Option V) → IsOutputOf Some l ts w → IsExactly P ts w
  exact_output sound complete (Some v) i = sound v i.0 i.1 i.2.0 i.2.1
  exact_output sound complete None i = λ v p. never_short (l.ends ts) (complete v p) i

  exact_answer : Sound → Complete → {too_deep : Type 0} → (l.ends ts ≡ Refused → too_deep) → (r : Result (ParseResult V Er) Stop) → IsAnswerOf Some l ts r → ExactlyUnless P ts too_deep r
  exact_answer sound complete n (Ok parsed) i = exact_output sound complete parsed.output i
  exact_answer sound complete n (Err s) (inl e) = inl e
  exact_answer sound complete n (Err s) (inr e) = inr (n e)

  exact_for_memory : (r : Result (ParseResult V Er) Stop) → ExactlyUnless P ts ⊥ r → Exactly P ts r
  exact_for_memory (Ok parsed) i = i
  exact_for_memory (Err s) (inl e) = e
  exact_for_memory (Err s) (inr e) = absurd e

  -- where a value is given of the text as the parser reads it, and a text with a value is taken whole
  pub exactly-by_ends : l.refused_from ≡ None → Sound → ((v : V) → P ts v → l.ends ts ≡ At []) → Exactly P ts result
  exactly-by_ends n sound complete = exact_for_memory result (exact_answer sound (λ v p. inl (complete v p)) (decided_by a n) result a.output)

  -- of an unambiguous language it is enough to look at its words
  pub exactly-by_words : l.refused_from ≡ None → l.unambiguous → l.follow [] → ((v : V) → l.word ts → l.stands_for ts v → P ts v) → ((v : V) → P ts v → l.word ts) → Exactly P ts result
  exactly-by_words n u f sound complete = exact_for_memory result (exact_answer (λ v e w x s. sound v w s) (λ v p. a.accepted u f (complete v p)) (decided_by a n) result a.output)

  -- and of a parser that may be refused, where that means that the text is too deep
  pub unless-by_ends : {too_deep : Type 0} → (l.ends ts ≡ Refused → too_deep) → Sound → ((v : V) → P ts v → l.ends ts ≡ At []) → ExactlyUnless P ts too_deep result
  unless-by_ends n sound complete = exact_answer sound (λ v p. inl (complete v p)) n result a.output

  pub unless-by_words : {too_deep : Type 0} → (l.ends ts ≡ Refused → too_deep) → l.unambiguous → l.follow []
      → ((v : V) → l.word ts → l.stands_for ts v → P ts v) → ((v : V) → P ts v → l.word ts)
      → ExactlyUnless P ts too_deep result
  unless-by_words n u f sound complete = exact_answer (λ v e w x s. sound v w s) (λ v p. a.accepted u f (complete v p)) n result a.output

  pub never_refuses-by_ends : spare → l.takes_no_memory → ((v : V) → P ts v → l.ends ts ≡ At []) → NeverRefuses P ts result
  never_refuses-by_ends q t complete v p = a.answered q t (complete v p)

  pub never_refuses-by_words : spare → l.takes_no_memory → l.refused_from ≡ None → l.unambiguous → l.follow [] → ((v : V) → P ts v → l.word ts) → NeverRefuses P ts result
  never_refuses-by_words q t n u f complete = never_refuses-by_ends q t (λ v p. ends-unless (a.accepted u f (complete v p)) (decided_by a n))
