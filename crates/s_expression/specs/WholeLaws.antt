-- The function that calls itself reads expressions; and what a caller makes of an answer where words alone don't tell.
-- Main word: grammar. Main laws: reader, exact-unless. Read first: ReaderLaws.antt, CallLanguage.antt of chumsky_descent, Accepted.antt of chumsky.
use Rattle.std.proofs.Common.{◌≡◌, ℕ, zero, suc, ◌<◌, Option, Some, None, List, [], refl, subst, arith, inl, inr}
use Rattle.std.specs.Prelude.{Result, Ok, Err}
use Rattle.chumsky_input.specs.declared.stop.Stop.{Stop}
use Rattle.chumsky_parser.specs.declared.result.ParseResult.{ParseResult}
use Rattle.chumsky_parser.specs.Ending.{Ending, At, Refused, EndsOrRefused}
use Rattle.chumsky_parser.specs.Language.{Language}
use Rattle.chumsky_descent.specs.CallLanguage.{call_language}
use Rattle.chumsky_descent.specs.Exactly.{grammar_of}
use Rattle.chumsky.specs.Accepted.{AnswersText, IsOutputOf, IsAnswerOf, FallsShort, IsExactly, ExactlyUnless}
use Rattle.s_expression.specs.declared.expression.Expression.{Expression}
use Rattle.s_expression.specs.Calling.{any_expressions}
use Rattle.s_expression.specs.ReaderLaws.{IsReader, reader-kept}
use Rattle.s_expression.specs.contracts.exact_reader.OfExpressionBodyRefStrExpressionEmptyText.TheImpl.{ghosts, no_dict}
use denote.Builtin.{unit}

-- the language of the function's body, of that of a call in it
abbrev pub grammar : Language ℕ Expression → Language ℕ Expression
grammar = grammar_of (λ call. (ghosts unit call no_dict).body tt)

body-kept : (call : Language ℕ Expression) (depth : ℕ) → IsReader call depth → IsReader (grammar call) (suc depth)
body-kept call depth i =
    let k = reader-kept call depth i in
    record {
      said = k.said;
      moves = k.moves;
      refused = k.refused;
      sound = k.sound;
      complete = k.complete;
      fails = k.fails;
    }

-- a call under any depth reads expressions
pub reader : (depth : ℕ) → IsReader (call_language any_expressions grammar depth) depth
reader zero = record {
  said = refl;
  moves = refl;
  refused = λ k l. omega (arith, l);
  sound = λ ts rest e z v. absurd (cc z);
  complete = λ g w rest f k x a. inr refl;
  fails = λ g rest k c. tt;
}
reader (suc depth) = body-kept (call_language any_expressions grammar depth) depth (reader depth)

never_short : {Tok : Type 0} (x : Ending (List Tok)) → EndsOrRefused x [] → FallsShort x → ⊥
never_short {Tok} x (inl e) f = let g : FallsShort {Tok = Tok} (At []) = subst FallsShort e f in g
never_short {Tok} x (inr e) f = let g : FallsShort {Tok = Tok} Refused = subst FallsShort e f in g

-- where a value that is given of a text taken whole is one of it, and each text with a value is taken whole unless it is refused
module _ {V Tok Er : Type 0} {l : Language Tok V} {ts : List Tok} {spare : Type 0} {result : Result (ParseResult V Er) Stop} (P : List Tok → V → Type 0) (a : AnswersText Some l ts spare result)
    (sound : (v : V) → l.ends ts ≡ At [] → l.value ts v → P ts v) (complete : (v : V) → P ts v → EndsOrRefused (l.ends ts) []) where
  exact_output : (w : Option V) → IsOutputOf Some l ts w → IsExactly P ts w
  exact_output (Some v) i = sound v i.0 i.2.0
  exact_output None i = λ v p. never_short (l.ends ts) (complete v p) i

  pub exact-unless : {too_deep : Type 0} → (l.ends ts ≡ Refused → too_deep) → ExactlyUnless P ts too_deep result
  exact-unless {too_deep} n = by_answer result a.output
    where
      by_answer : (r : Result (ParseResult V Er) Stop) → IsAnswerOf Some l ts r → ExactlyUnless P ts too_deep r
      by_answer (Ok parsed) i = exact_output parsed.output i
      by_answer (Err s) (inl e) = inl e
      by_answer (Err s) (inr e) = inr (n e)
