-- A choice among fixed words, each with a value, after fixed text: of just these texts the output is their value.
-- Main words: Chosen, chosen_ends, TakenInOrder, Spells, Lists. Main laws: answers-by_table, after_nothing. Read first: Table.antt, Accepted.antt of chumsky.
use Rattle.std.proofs.Common.{◌≡◌, ℕ, nat_eq, Some, None, List, [], ◌∷◌, ◌++◌, refl, sym, ◌∙◌, ap, subst, inl, inr}
use Rattle.std.specs.Prelude.{◌⊎◌, Result}
use Rattle.chumsky_input.specs.declared.stop.Stop.{Stop}
use Rattle.chumsky_parser.specs.Ending.{Ender, At, Nowhere}
use Rattle.chumsky_parser.specs.Language.{Language}
use Rattle.chumsky_parser.specs.Words.{Joined, then_ends, either_ends}
use Rattle.chumsky_parser.specs.declared.result.ParseResult.{ParseResult}
use Rattle.chumsky_primitive.specs.Literals.{equals-same, literal-taken}
use Rattle.chumsky_primitive.specs.PrimitiveLanguage.{Equals, literal_ends}
use Rattle.chumsky.specs.Accepted.{AnswersText, Exactly, NeverRefuses}
use Rattle.chumsky.specs.AcceptedLaws.{exactly-by_ends, never_refuses-by_ends}
use Rattle.chumsky_exact.specs.Rendered.{OfEach}
use Rattle.chumsky_exact.specs.Table.{Names}

-- a word with nothing before it
pub after_nothing : {Q : List ℕ → Type 0} {w : List ℕ} → Q w → Joined (Equals nat_eq []) Q w
after_nothing {w = w} q = record { first = []; second = w; all = refl; is_first = tt; is_second = q }

module _ {V : Type 0} where
  -- what a word of a choice among a table's words stands for, where each of the parsers is `just(word).to(value)`
  abbrev pub Chosen : List (List ℕ × V) → List ℕ → V → Type 0
  Chosen [] w v = ⊥
  Chosen (e ∷ []) w v = Equals nat_eq e.0 w × (v ≡ e.1)
  Chosen (e ∷ f ∷ es) w v = (Equals nat_eq e.0 w × (v ≡ e.1)) ⊎ Chosen (f ∷ es) w v

  -- and where it ends
  abbrev pub chosen_ends : List (List ℕ × V) → Ender ℕ
  chosen_ends [] ts = Nowhere
  chosen_ends (e ∷ []) ts = literal_ends nat_eq e.0 ts
  chosen_ends (e ∷ f ∷ es) ts = either_ends (literal_ends nat_eq e.0) (chosen_ends (f ∷ es)) ts

  -- each word of a table is taken whole, by none before it
  abbrev pub TakenInOrder : List (List ℕ × V) → Type 0
  TakenInOrder table = OfEach (λ e. chosen_ends table e.0 ≡ At []) table

  -- the value is one of the table's
  abbrev pub Lists : List (List ℕ × V) → V → Type 0
  Lists [] v = ⊥
  Lists (e ∷ es) v = (v ≡ e.1) ⊎ Lists es v

  -- the text of each value is the front and the value's word
  abbrev pub Spells : List ℕ → List (List ℕ × V) → (V → List ℕ) → Type 0
  Spells front table text = OfEach (λ e. front ++ e.0 ≡ text e.1) table

  module _ (front : List ℕ) (text : V → List ℕ) where
    pub chosen-spelled : (es : List (List ℕ × V)) → Spells front es text → (w : List ℕ) (v : V) → Chosen es w v → front ++ w ≡ text v
    chosen-spelled [] h w v c = absurd c
    chosen-spelled (e ∷ []) h w v c = let s : w ≡ e.0 = equals-same e.0 w c.0 in let k = c.1 in let g = h.0 in rw (s, k) g
    chosen-spelled (e ∷ f ∷ es) h w v (inl c) = let s : w ≡ e.0 = equals-same e.0 w c.0 in let k = c.1 in let g = h.0 in rw (s, k) g
    chosen-spelled (e ∷ f ∷ es) h w v (inr c) = chosen-spelled (f ∷ es) h.1 w v c

    pub named : (es : List (List ℕ × V)) → Spells front es text → (v : V) → Lists es v → (w : List ℕ) × (text v ≡ front ++ w) × Names es w v
    named [] h v l = absurd l
    named (e ∷ es) h v (inl k) = (e.0, ap text k ∙ sym h.0, inl (refl, k))
    named (e ∷ es) h v (inr l) = let n = named es h.1 v l in (n.0, n.1, inr n.2)

  -- what is so of each word of a table is so of a word with its value
  pub of_named : (P : List ℕ → Type 0) (es : List (List ℕ × V)) → OfEach (λ e. P e.0) es → (w : List ℕ) (v : V) → Names es w v → P w
  of_named P [] h w v n = absurd n
  of_named P (e ∷ es) h w v (inl n) = subst P (sym n.0) h.0
  of_named P (e ∷ es) h w v (inr n) = of_named P es h.1 w v n

-- a parser that takes fixed text and a word of a table answers just of the texts of the table's values, where no word begins with
-- one before it; and the text and the words that its builders were given are these
pub answers-by_table : {V Er : Type 0} {l : Language ℕ V} {ts : List ℕ} {spare : Type 0} {result : Result (ParseResult V Er) Stop} (text : V → List ℕ) (a : AnswersText Some l ts spare result) (front : List ℕ) (table : List (List ℕ × V))
    (given : List ℕ) (words : List (List ℕ × V)) → l.refused_from ≡ None → ((v : V) → l.stands_for ts v → Joined (Equals nat_eq given) (λ u. Chosen words u v) ts) → l.ends ts ≡ then_ends (literal_ends nat_eq given) (chosen_ends words) ts
    → ◌≡◌ {A = List ℕ × List (List ℕ × V)} (given, words) (front, table) → TakenInOrder table → Spells front table text → ((v : V) → Lists table v)
    → Exactly (λ cs v. cs ≡ text v) ts result × (spare → l.takes_no_memory → NeverRefuses (λ cs v. cs ≡ text v) ts result)
answers-by_table {V} {l = l} {ts = ts} text a front table given words n stands ends same whole spells lists =
    (exactly-by_ends (λ cs v. cs ≡ text v) a n (λ v e w x s. sound v (table_stands v s)) complete, λ q t. never_refuses-by_ends (λ cs v. cs ≡ text v) a q t complete)
  where
    table_stands : (v : V) → l.stands_for ts v → Joined (Equals nat_eq front) (λ u. Chosen table u v) ts
    table_stands v s = subst (λ z. Joined (Equals nat_eq z.0) (λ u. Chosen z.1 u v) ts) same (stands v s)

    table_ends : l.ends ts ≡ then_ends (literal_ends nat_eq front) (chosen_ends table) ts
    table_ends = subst (λ z. l.ends ts ≡ then_ends (literal_ends nat_eq z.0) (chosen_ends z.1) ts) same ends

    sound : (v : V) → Joined (Equals nat_eq front) (λ u. Chosen table u v) ts → ts ≡ text v
    sound v j =
        let f : j.first ≡ front = equals-same front j.first j.is_first in
        j.all ∙ ap (λ z. z ++ j.second) f ∙ chosen-spelled front text table spells j.second v j.is_second

    complete : (v : V) → ts ≡ text v → l.ends ts ≡ At []
    complete v e =
        let w = named front text table spells v (lists v) in
        let s : ts ≡ front ++ w.0 = e ∙ w.1 in
        let p : literal_ends nat_eq front ts ≡ At w.0 = ap (literal_ends nat_eq front) s ∙ literal-taken front w.0 in
        let c : then_ends (literal_ends nat_eq front) (chosen_ends table) ts ≡ At [] = rw p (of_named (λ z. chosen_ends table z ≡ At []) table whole w.0 v w.2) in
        table_ends ∙ c
