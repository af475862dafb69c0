-- The language of a list of as many items as the context asks for; and lists of just so many items, as they are written.
-- Main words: AsksFor, so_many_language. Main laws: so_many-accepts, so_many-written, written-so_many, tokens-so_many, so_many-tokens. Read first: Contexts.antt, Rendered.antt.
use Rattle.std.proofs.Common.{◌≡◌, ℕ, suc, ◌+◌, ◌≤◌, ◌<◌, ◌&&◌, true, false, Some, List, [], ◌∷◌, length, refl, sym, ◌∙◌, ap, subst, arith, inl, inr}
use Rattle.std.specs.Prelude.{⊤, map}
use Rattle.chumsky_input.specs.Outcome.{Meaning, Agreeing}
use Rattle.chumsky_parser.specs.ChoiceLaws.{agree-weaker}
use Rattle.chumsky_parser.specs.ItemsLanguage.{ListFrom, IsListFrom}
use Rattle.chumsky_parser.specs.Language.{Language, Accepts}
use Rattle.chumsky_parser.specs.LanguageLaws.{fewer-accepts}
use Rattle.chumsky_parser.specs.Words.{IsOne}
use Rattle.chumsky_items.specs.ListLanguage.{collected_language}
use Rattle.chumsky_items.specs.ListWords.{RepeatedWord, RepeatedEnd}
use Rattle.chumsky_items.specs.RepeatedLanguage.{repeated_language}
use Rattle.chumsky_context.specs.Configured.{SameByConfig, Configured}
use Rattle.chumsky_context.specs.ConfiguredLaws.{configured-agrees}
use Rattle.chumsky_exact.specs.Contexts.{LanguageUnder, OnlyUnder, AcceptsUnder}
use Rattle.chumsky_exact.specs.Rendered.{OfEach, all_words}

-- n is the number that the context asks for
abbrev pub AsksFor : {Cx : Type 0} → (Cx → ℕ) → Cx → ℕ → Type 0
AsksFor number context n = n ≡ number context

-- as many words as the context asks for, one after another; each takes a token
abbrev pub so_many_language : {Cx Tok V C : Type 0} → (Cx → ℕ) → Language Tok V → (List V → C → Type 0) → Type 0 → LanguageUnder Cx Tok C
so_many_language number F holds quiet = record {
  under = λ c. collected_language (repeated_language F (number c) (Some (number c))) holds quiet;
  said = F.said && F.moves;
  refused_from = F.refused_from;
  moves = false;
  takes_no_memory = F.takes_no_memory × quiet;
}

module _ {Tok Cx St Er C : Type 0} (number : Cx → ℕ) (list : ℕ → Meaning Tok Cx St Er C) where
  pub so_many-agrees : (same : C → C → Type 0) → ((n : ℕ) → Agreeing same (list n) (list n)) → Agreeing same (Configured (AsksFor number) list) (Configured (AsksFor number) list)
  so_many-agrees same h b c o q alike m n a z =
      agree-weaker (SameByConfig (λ n. same)) same (λ v w s. s.are) o q (configured-agrees (AsksFor number) list (λ x i j e f. e ∙ sym f) (λ n. same) h b c o q alike m n a z)

  pub so_many-accepts : {V : Type 0} (F : Language Tok V) (holds : List V → C → Type 0) (quiet : Type 0) {spare : Type 0} → ((n : ℕ) → Accepts (list n) (collected_language (repeated_language F n (Some n)) holds quiet) spare)
      → AcceptsUnder (Configured (AsksFor number) list) (so_many_language number F holds quiet) spare
  so_many-accepts F holds quiet h c =
      let e = fewer-accepts (OnlyUnder c (Configured (AsksFor number) list)) (list (number c)) (λ b o m. subst (λ n. list n b o) (m.1.made ∙ ap number m.0) m.1.runs) (collected_language (repeated_language F (number c) (Some (number c))) holds quiet) (h (number c)) in
      record {
        described = λ s. let d = e.described s in record { reads = d.reads; only = d.only; given = d.given; each = d.each; decided = d.decided; further = λ m. absurd (cc m) };
        moving = λ m. absurd (cc m);
        sparing = e.sparing;
      }

module _ {Tok V : Type 0} (word : V → List Tok) (Good : V → Type 0) (count : ℕ) where
  from_written : (of : List Tok → V → Type 0) → ((w : List Tok) (v : V) → of w v → (w ≡ word v) × Good v) → (k : ℕ) (vs : List V) (w : List Tok) → k ≤ count → ListFrom (λ j u v. RepeatedWord (Some count) (λ z. of z v) j u) (RepeatedEnd count (Some count)) k vs w
      → OfEach Good vs × (w ≡ all_words word vs) × (k + length vs ≡ count)
  from_written of h k [] w l i = (tt, i.1, elim i.0 [ inl e ↦ let n : count ≤ k = e in omega (arith, l, n) | inr e ↦ let n : count ≤ k = e in omega (arith, l, n) ])
  from_written of h k (v ∷ vs) w l i =
      let a = h i.first v i.is_first.1 in
      let u : k < count = i.is_first.0 in
      let r = from_written of h (suc k) vs i.second (omega (arith, u)) i.is_second in
      let n : suc k + length vs ≡ count = r.2 in
      ((a.1, r.0), cc (i.all, a.0, r.1), omega (arith, n))

  -- a list of so many items is so written
  pub so_many-written : (of : List Tok → V → Type 0) → ((w : List Tok) (v : V) → of w v → (w ≡ word v) × Good v) → (vs : List V) (w : List Tok) → ListFrom (λ j u v. RepeatedWord (Some count) (λ z. of z v) j u) (RepeatedEnd count (Some count)) 0 vs w
      → OfEach Good vs × (w ≡ all_words word vs) × (length vs ≡ count)
  so_many-written of h vs w i = let r = from_written of h 0 vs w (omega arith) i in let n : 0 + length vs ≡ count = r.2 in (r.0, r.1, omega (arith, n))

  module _ (P : List Tok → Type 0) (spelled : (v : V) → Good v → P (word v)) where
    words_from : (k : ℕ) (vs : List V) → OfEach Good vs → k + length vs ≡ count → ListFrom (λ j u (v : List Tok). RepeatedWord (Some count) P j u) (RepeatedEnd count (Some count)) k (map word vs) (all_words word vs)
    words_from k [] g l = (inl (omega (arith, l)), refl)
    words_from k (v ∷ vs) g l = record { first = word v; second = all_words word vs; all = refl; is_first = (omega (arith, l), spelled v g.0); is_second = words_from (suc k) vs g.1 (omega (arith, l)) }

    -- and what is so written is a word of that list
    pub written-so_many : (vs : List V) → OfEach Good vs → length vs ≡ count → IsListFrom (RepeatedWord (Some count) P) (RepeatedEnd count (Some count)) 0 (all_words word vs)
    written-so_many vs g l = record { items = map word vs; are = words_from 0 vs g (omega (arith, l)) }

-- tokens one by one
module _ {Tok : Type 0} (count : ℕ) where
  ones_are : (ts : List Tok) → all_words (λ t. t ∷ []) ts ≡ ts
  ones_are [] = refl
  ones_are (t ∷ ts) = ap (λ z. t ∷ z) (ones_are ts)

  each : (ts : List Tok) → OfEach (λ t. ⊤) ts
  each [] = tt
  each (t ∷ ts) = (tt, each ts)

  -- so many tokens that are collected are those of the word
  pub tokens-so_many : (ts w : List Tok) → ListFrom (λ j u v. RepeatedWord (Some count) (λ z. IsOne (λ t. true) (λ t. v ≡ t) z) j u) (RepeatedEnd count (Some count)) 0 ts w → (w ≡ ts) × (length ts ≡ count)
  tokens-so_many ts w i =
      let h = so_many-written (λ t. t ∷ []) (λ t. ⊤) count (λ z v. IsOne (λ t. true) (λ t. v ≡ t) z) (λ z v j. (cc (j.all, j.is), tt)) ts w i in
      (h.1 ∙ ones_are ts, h.2)

  -- and so many tokens are such a word
  pub so_many-tokens : (ts : List Tok) → length ts ≡ count → IsListFrom (RepeatedWord (Some count) (IsOne (λ t. true) (λ t. ⊤))) (RepeatedEnd count (Some count)) 0 ts
  so_many-tokens ts l =
      subst (IsListFrom (RepeatedWord (Some count) (IsOne (λ t. true) (λ t. ⊤))) (RepeatedEnd count (Some count)) 0) (ones_are ts)
      (written-so_many (λ t. t ∷ []) (λ t. ⊤) count (IsOne (λ t. true) (λ t. ⊤)) (λ t p. record { token = t; all = refl; passes = refl; is = tt }) ts (each ts) l)
