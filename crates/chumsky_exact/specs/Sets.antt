-- A set of two choices among fixed words: of just the texts with a word of each, in one order or in the other, the output is their values.
-- Main words: InEitherOrder, TakenWhole. Main law: answers-by_tables. Read first: Chosen.antt, SetOrders.antt of chumsky_set.
use Rattle.std.proofs.Common.{◌≡◌, ℕ, None, Some, List, [], ◌∷◌, ◌++◌, ◌∙◌, ap, inl, inr}
use Rattle.std.specs.Prelude.{◌⊎◌, Result}
use Rattle.chumsky_input.specs.declared.stop.Stop.{Stop}
use Rattle.chumsky_parser.specs.Ending.{Ender, At}
use Rattle.chumsky_parser.specs.Language.{Language}
use Rattle.chumsky_parser.specs.declared.result.ParseResult.{ParseResult}
use Rattle.chumsky_set.specs.SetLanguage.{set_ends, InAnyOrder}
use Rattle.chumsky_set.specs.SetOrders.{OneOfEach, set_of_two}
use Rattle.chumsky.specs.Accepted.{AnswersText, Exactly, NeverRefuses}
use Rattle.chumsky.specs.AcceptedLaws.{exactly-by_ends, never_refuses-by_ends}
use Rattle.chumsky_exact.specs.Chosen.{Chosen, chosen_ends, Lists, Spells, chosen-spelled, named, of_named}
use Rattle.chumsky_exact.specs.Rendered.{OfEach}

-- one text and then another, or the other way round
abbrev pub InEitherOrder : List ℕ → List ℕ → List ℕ → Type 0
InEitherOrder a b cs = (cs ≡ a ++ b) ⊎ (cs ≡ b ++ a)

-- each word of one table with each of another is taken whole, in either order
abbrev pub TakenWhole : {V W : Type 0} → Ender ℕ → List (List ℕ × V) → List (List ℕ × W) → Type 0
TakenWhole f firsts seconds = OfEach (λ a. OfEach (λ b. (f (a.0 ++ b.0) ≡ At []) × (f (b.0 ++ a.0) ≡ At [])) seconds) firsts

-- a set of two parsers that take a word of a table each answers just of the texts of their values
pub answers-by_tables : {V W Er : Type 0} {l : Language ℕ (V × W)} {ts : List ℕ} {spare : Type 0} {result : Result (ParseResult (V × W) Er) Stop}
    (first : V → List ℕ) (second : W → List ℕ) (a : AnswersText Some l ts spare result) (firsts : List (List ℕ × V)) (seconds : List (List ℕ × W)) → l.refused_from ≡ None
    → ((v : V × W) → l.stands_for ts v → InAnyOrder (OneOfEach (λ u. Chosen firsts u v.0) (λ u. Chosen seconds u v.1)) ts) → l.ends ts ≡ set_ends (chosen_ends firsts ∷ chosen_ends seconds ∷ []) ts
    → TakenWhole (set_ends (chosen_ends firsts ∷ chosen_ends seconds ∷ [])) firsts seconds → Spells [] firsts first → Spells [] seconds second
    → ((v : V) → Lists firsts v) → ((w : W) → Lists seconds w)
    → Exactly (λ cs v. InEitherOrder (first v.0) (second v.1) cs) ts result × (spare → l.takes_no_memory → NeverRefuses (λ cs v. InEitherOrder (first v.0) (second v.1) cs) ts result)
answers-by_tables {V} {W} {l = l} {ts = ts} first second a firsts seconds n stands ends whole p q lists others =
    (exactly-by_ends Are a n (λ v e w x s. sound v (stands v s)) complete, λ s t. never_refuses-by_ends Are a s t complete)
  where
    Are : List ℕ → V × W → Type 0
    Are cs v = InEitherOrder (first v.0) (second v.1) cs

    f : Ender ℕ
    f = set_ends (chosen_ends firsts ∷ chosen_ends seconds ∷ [])

    sound : (v : V × W) → InAnyOrder (OneOfEach (λ u. Chosen firsts u v.0) (λ u. Chosen seconds u v.1)) ts → InEitherOrder (first v.0) (second v.1) ts
    sound v h = elim (set_of_two (λ u. Chosen firsts u v.0) (λ u. Chosen seconds u v.1) h) [
      | inl j ↦ inl (cc (j.all, chosen-spelled [] first firsts p j.first v.0 j.is_first, chosen-spelled [] second seconds q j.second v.1 j.is_second))
      | inr j ↦ inr (cc (j.all, chosen-spelled [] second seconds q j.first v.1 j.is_first, chosen-spelled [] first firsts p j.second v.0 j.is_second))
    ]

    complete : (v : V × W) → InEitherOrder (first v.0) (second v.1) ts → l.ends ts ≡ At []
    complete v e =
        let u = named [] first firsts p v.0 (lists v.0) in
        let w = named [] second seconds q v.1 (others v.1) in
        let each = of_named (λ z. OfEach (λ b. (f (z ++ b.0) ≡ At []) × (f (b.0 ++ z) ≡ At [])) seconds) firsts whole u.0 v.0 u.2 in
        let both = of_named (λ z. (f (u.0 ++ z) ≡ At []) × (f (z ++ u.0) ≡ At [])) seconds each w.0 v.1 w.2 in
        let a : first v.0 ≡ u.0 = u.1 in
        let b : second v.1 ≡ w.0 = w.1 in
        ends ∙ elim e [ inl x ↦ let z : ts ≡ u.0 ++ w.0 = cc (x, a, b) in ap f z ∙ both.0 | inr x ↦ let z : ts ≡ w.0 ++ u.0 = cc (x, a, b) in ap f z ∙ both.1 ]
