-- The contract of a function that calls itself, from what it takes under so many calls.
-- Main words: by_calls, called, due. Main laws: unless-by_calls, unless-by_either, due-within.
-- Read first: Exactly.antt and CallLanguage.antt of chumsky_descent, Accepted.antt of chumsky.
use Rattle.std.proofs.Common.{◌≡◌, ℕ, zero, suc, ◌<◌, true, Option, Some, None, List, [], ◌++◌, refl, sym, ◌∙◌, ap, subst, arith, inl, inr}
use Rattle.std.proofs.lemmas.List.{append-nil}
use Rattle.std.specs.Prelude.{Result, Ok, Err, ⊤}
use Rattle.chumsky_input.specs.declared.stop.Stop.{Stop}
use Rattle.chumsky_parser.specs.declared.parser.Parser as parser_trait
use Rattle.chumsky_parser.specs.declared.result.ParseResult.{ParseResult}
use Rattle.chumsky_parser.specs.Ending.{Ending, At, Refused, Ender, and_then, or_else, EndsOrRefused}
use Rattle.chumsky_parser.specs.Language.{Language}
use Rattle.chumsky_descent.specs.Body.{Told}
use Rattle.chumsky_descent.specs.Calls.{Intended}
use Rattle.chumsky_descent.specs.CallLanguage.{call_language}
use Rattle.chumsky_descent.specs.Exactly.{grammar_of}
use Rattle.chumsky.specs.Accepted.{FallsShort, AnswersText, IsOutputOf, IsAnswerOf, IsExactly, ExactlyUnless}

-- the words of a function are those that its calls take: none, where no call may be made
abbrev pub by_calls : {Tok V : Type 0} → Intended Tok V
by_calls = record { word = λ w. ⊥; stands_for = λ w v. ⊥; follow = λ rest. ⊤; fails = λ ts. ⊤; moves = true }

-- the language of a call of a function, by its body, where so many calls may be open
abbrev pub called : {I X Cu Tok Sp Er St Cx Mk V : Type 0} → (parser_trait.Ghosts (Unit {0}) I V X Cu Tok Sp Er St Cx Mk → Told I Tok Sp Er St Mk Cx V) → ℕ → Language Tok V
called body = call_language by_calls (grammar_of body)

module _ {Tok : Type 0} where
  -- where so many calls may be open, what needs so many more inside of it ends there; else it is refused
  abbrev pub due : ℕ → ℕ → List Tok → Ending (List Tok)
  due zero needs rest = Refused
  due (suc depth) zero rest = At rest
  due (suc depth) (suc needs) rest = due depth needs rest

  pub due-either : (depth needs : ℕ) (rest : List Tok) → EndsOrRefused (due depth needs rest) rest
  due-either zero needs rest = inr refl
  due-either (suc depth) zero rest = inl refl
  due-either (suc depth) (suc needs) rest = due-either depth needs rest

  pub due-enough : (depth needs : ℕ) (rest : List Tok) → needs < depth → due depth needs rest ≡ At rest
  due-enough zero needs rest l = absurd (omega (arith, l))
  due-enough (suc depth) zero rest l = refl
  due-enough (suc depth) (suc needs) rest l = due-enough depth needs rest (omega (arith, l))

  -- with what is taken behind it no more are needed, and none where it might be absent
  pub due-within : (depth needs : ℕ) (next : Ender Tok) {mid rest : List Tok} (other : Ending (List Tok)) → next mid ≡ At rest → and_then next (or_else (due depth needs mid) other) ≡ due depth needs rest
  due-within zero needs next other e = refl
  due-within (suc depth) zero next other e = e
  due-within (suc depth) (suc needs) next other e = due-within depth needs next other e

never_short : {Tok : Type 0} (x : Ending (List Tok)) → EndsOrRefused x [] → FallsShort x → ⊥
never_short {Tok} x (inl e) f = let g : FallsShort {Tok = Tok} (At []) = subst FallsShort e f in g
never_short {Tok} x (inr e) f = let g : FallsShort {Tok = Tok} Refused = subst FallsShort e f in g

module _ {Tok V : Type 0} (grammar : Language Tok V → Language Tok V) where
  -- something is said of the body, and it moves, where that is so of a call
  abbrev pub KeepsSaid : Type 1
  KeepsSaid = (l : Language Tok V) → l.said ≡ true → l.moves ≡ true → ((grammar l).said ≡ true) × ((grammar l).moves ≡ true)

  both_said : KeepsSaid → (depth : ℕ) → ((call_language by_calls grammar depth).said ≡ true) × ((call_language by_calls grammar depth).moves ≡ true)
  both_said keep zero = (refl, refl)
  both_said keep (suc depth) = let h = both_said keep depth in keep (call_language by_calls grammar depth) h.0 h.1

module _ {Tok V Er : Type 0} (P : List Tok → V → Type 0) {ts : List Tok} {spare : Type 0} {result : Result (ParseResult V Er) Stop} where
  -- where a word of the text stands for values that it has, and a text with a value is taken whole unless it is refused
  pub unless-by_either : {l : Language Tok V} {too_deep : Type 0} → AnswersText Some l ts spare result → (l.ends ts ≡ Refused → too_deep) → ((v : V) → l.word ts → l.stands_for ts v → P ts v)
      → ((v : V) → P ts v → EndsOrRefused (l.ends ts) [])
      → ExactlyUnless P ts too_deep result
  unless-by_either {l} {too_deep} a deep sound complete = by_answer result a.output
    where
      by_output : (w : Option V) → IsOutputOf Some l ts w → IsExactly P ts w
      by_output (Some v) i = sound v i.1 i.2.1
      by_output None i = λ v p. never_short (l.ends ts) (complete v p) i

      by_answer : (r : Result (ParseResult V Er) Stop) → IsAnswerOf Some l ts r → ExactlyUnless P ts too_deep r
      by_answer (Ok parsed) i = by_output parsed.output i
      by_answer (Err s) (inl e) = inl e
      by_answer (Err s) (inr e) = inr (deep e)

  -- where each text with a value is one of these, and each of them is taken under as many calls as it needs, and refused under fewer
  pub unless-by_calls : {grammar : Language Tok V → Language Tok V} {X : Type 0} (limit : ℕ) (text : X → List Tok) (needs : X → ℕ) → ((call_language by_calls grammar limit).said ≡ true → AnswersText Some (call_language by_calls grammar limit) ts spare result) → KeepsSaid grammar
      → ((v : V) → (call_language by_calls grammar limit).word ts → (call_language by_calls grammar limit).stands_for ts v → P ts v)
      → ((v : V) → P ts v → (x : X) × (ts ≡ text x))
      → ((x : X) (depth : ℕ) (rest : List Tok) → (call_language by_calls grammar depth).ends (text x ++ rest) ≡ due depth (needs x) rest)
      → ExactlyUnless P ts ((x : X) → needs x < limit → ts ≡ text x → ⊥) result
  unless-by_calls {grammar} {X} limit text needs reads keep sound spelled taken =
      unless-by_either (reads (both_said grammar keep limit).0)
      (λ r x l e. let z : (call_language by_calls grammar limit).ends ts ≡ At [] = whole x e ∙ due-enough limit (needs x) [] l in absurd (cc (r, z))) sound
      (λ v p. let x = spelled v p in subst (λ z. EndsOrRefused z []) (sym (whole x.0 x.1)) (due-either limit (needs x.0) []))
    where
      whole : (x : X) → ts ≡ text x → (call_language by_calls grammar limit).ends ts ≡ due limit (needs x) []
      whole x e = ap (call_language by_calls grammar limit).ends (e ∙ sym (append-nil (text x))) ∙ taken x limit []
