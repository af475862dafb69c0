-- Two choices among fixed words, one after the other, with fixed text before the first and between them, where there is any: of just
-- the texts of a word of each the output is what is made of their values.
-- Main words: TwoTables, Behind, Ahead, TwoWords, two_ends, TakenInTurn. Main law: answers-by_tables_in_turn. Read first: Chosen.antt.
use Rattle.std.proofs.Common.{◌≡◌, ℕ, nat_eq, Option, Some, None, List, [], ◌∷◌, ◌++◌, refl, sym, ◌∙◌, ap, subst, inl, inr}
use Rattle.std.proofs.lemmas.List.{append-nil}
use Rattle.std.specs.Prelude.{Result}
use Rattle.chumsky_input.specs.declared.stop.Stop.{Stop}
use Rattle.chumsky_parser.specs.Ending.{Ender, At}
use Rattle.chumsky_parser.specs.Language.{Language}
use Rattle.chumsky_parser.specs.Words.{Joined, then_ends}
use Rattle.chumsky_parser.specs.declared.result.ParseResult.{ParseResult}
use Rattle.chumsky_primitive.specs.Literals.{equals-same}
use Rattle.chumsky_primitive.specs.PrimitiveLanguage.{Equals, literal_ends}
use Rattle.chumsky.specs.Accepted.{AnswersText, Exactly, NeverRefuses}
use Rattle.chumsky.specs.AcceptedLaws.{exactly-by_ends, never_refuses-by_ends}
use Rattle.chumsky_exact.specs.Chosen.{Chosen, chosen_ends, Lists}
use Rattle.chumsky_exact.specs.Rendered.{OfEach}
use Rattle.chumsky_exact.specs.Table.{Names}

-- what two choices in turn are made of: the text before the first, if any, its words, the text between them, if any, and the words of the second
pub record TwoTables (V W : Type 0) : Type 0 where
  pub before : Option (List ℕ)
  pub firsts : List (List ℕ × V)
  pub between : Option (List ℕ)
  pub seconds : List (List ℕ × W)

-- a word behind fixed text, as of `just(text).ignore_then(part)`, or alone; and where it ends
abbrev pub Behind : Option (List ℕ) → (List ℕ → Type 0) → List ℕ → Type 0
Behind None P w = P w
Behind (Some text) P w = Joined (Equals nat_eq text) P w

abbrev pub behind_ends : Option (List ℕ) → Ender ℕ → Ender ℕ
behind_ends None f ts = f ts
behind_ends (Some text) f ts = then_ends (literal_ends nat_eq text) f ts

-- a word ahead of fixed text, as of `part.then_ignore(just(text))`, or alone; and where it ends
abbrev pub Ahead : Option (List ℕ) → (List ℕ → Type 0) → List ℕ → Type 0
Ahead None P w = P w
Ahead (Some text) P w = Joined P (Equals nat_eq text) w

abbrev pub ahead_ends : Option (List ℕ) → Ender ℕ → Ender ℕ
ahead_ends None f ts = f ts
ahead_ends (Some text) f ts = then_ends f (literal_ends nat_eq text) ts

-- the fixed text that there is
abbrev pub text_of : Option (List ℕ) → List ℕ
text_of None = []
text_of (Some text) = text

module _ {V W : Type 0} where
  -- a word of each of the choices, with these values, and the fixed text; and where these end
  abbrev pub TwoWords : TwoTables V W → V × W → List ℕ → Type 0
  TwoWords t v ts = Joined (Ahead t.between (Behind t.before (λ u. Chosen t.firsts u v.0))) (λ u. Chosen t.seconds u v.1) ts

  abbrev pub two_ends : TwoTables V W → Ender ℕ
  two_ends t ts = then_ends (ahead_ends t.between (behind_ends t.before (chosen_ends t.firsts))) (chosen_ends t.seconds) ts

  -- the text of two words
  abbrev pub text_with : TwoTables V W → List ℕ → List ℕ → List ℕ
  text_with t u w = ((text_of t.before ++ u) ++ text_of t.between) ++ w

  -- the text of each word of the first choice with each of the second is taken whole, and is that of what is made of their values
  abbrev pub TakenInTurn : {M : Type 0} → TwoTables V W → (V → W → M) → (M → List ℕ) → Type 0
  TakenInTurn t made text = OfEach (λ a. OfEach (λ b. (two_ends t (text_with t a.0 b.0) ≡ At []) × (text_with t a.0 b.0 ≡ text (made a.1 b.1))) t.seconds) t.firsts

-- a word of a choice is one of its table
pub chosen-names : {V : Type 0} (es : List (List ℕ × V)) (w : List ℕ) (v : V) → Chosen es w v → Names es w v
chosen-names [] w v c = absurd c
chosen-names (e ∷ []) w v c = inl (equals-same e.0 w c.0, c.1)
chosen-names (e ∷ f ∷ es) w v (inl c) = inl (equals-same e.0 w c.0, c.1)
chosen-names (e ∷ f ∷ es) w v (inr c) = inr (chosen-names (f ∷ es) w v c)

-- each of a table's values has a word there
pub listed-names : {V : Type 0} (es : List (List ℕ × V)) (v : V) → Lists es v → (w : List ℕ) × Names es w v
listed-names [] v l = absurd l
listed-names (e ∷ es) v (inl k) = (e.0, inl (refl, k))
listed-names (e ∷ es) v (inr l) = let n = listed-names es v l in (n.0, inr n.1)

-- what is so of each of a table's rows is so of a word with its value
pub of_row : {V : Type 0} (P : List ℕ → V → Type 0) (es : List (List ℕ × V)) → OfEach (λ e. P e.0 e.1) es → (w : List ℕ) (v : V) → Names es w v → P w v
of_row P [] h w v n = absurd n
of_row P (e ∷ es) h w v (inl n) = subst (λ z. P z v) (sym n.0) (subst (P e.0) (sym n.1) h.0)
of_row P (e ∷ es) h w v (inr n) = of_row P es h.1 w v n

behind-text : (text : Option (List ℕ)) (P : List ℕ → Type 0) (w : List ℕ) → Behind text P w → (u : List ℕ) × (w ≡ text_of text ++ u) × P u
behind-text None P w h = (w, refl, h)
behind-text (Some text) P w h = let f : h.first ≡ text = equals-same text h.first h.is_first in (h.second, h.all ∙ ap (λ z. z ++ h.second) f, h.is_second)

ahead-text : (text : Option (List ℕ)) (P : List ℕ → Type 0) (w : List ℕ) → Ahead text P w → (u : List ℕ) × (w ≡ u ++ text_of text) × P u
ahead-text None P w h = (w, sym (append-nil w), h)
ahead-text (Some text) P w h = let f : h.second ≡ text = equals-same text h.second h.is_second in (h.first, h.all ∙ ap (λ z. h.first ++ z) f, h.is_first)

-- two choices in turn, of the tables that their builders were given, answer just of the texts of what is made of their values
pub answers-by_tables_in_turn : {V W M Er : Type 0} {l : Language ℕ M} {ts : List ℕ} {spare : Type 0} {result : Result (ParseResult M Er) Stop}
    (text : M → List ℕ) (made : V → W → M) (a : AnswersText Some l ts spare result) (table given : TwoTables V W) → l.refused_from ≡ None
    → ((m : M) → l.stands_for ts m → (v : V × W) × TwoWords given v ts × (m ≡ made v.0 v.1)) → l.ends ts ≡ two_ends given ts → given ≡ table → TakenInTurn table made text
    → ((m : M) → (v : V × W) × (m ≡ made v.0 v.1)) → ((v : V) → Lists table.firsts v) → ((w : W) → Lists table.seconds w)
    → Exactly (λ cs m. cs ≡ text m) ts result × (spare → l.takes_no_memory → NeverRefuses (λ cs m. cs ≡ text m) ts result)
answers-by_tables_in_turn {V} {W} {M} {l = l} {ts = ts} text made a table given n stands ends same taken parts lists others =
    (exactly-by_ends (λ cs m. cs ≡ text m) a n (λ m e w x s. sound m (stands m s)) complete, λ q t. never_refuses-by_ends (λ cs m. cs ≡ text m) a q t complete)
  where
    Told : List ℕ → V → List ℕ → W → Type 0
    Told u v w x = (two_ends table (text_with table u w) ≡ At []) × (text_with table u w ≡ text (made v x))

    told : (u : List ℕ) (v : V) (w : List ℕ) (x : W) → Names table.firsts u v → Names table.seconds w x → Told u v w x
    told u v w x p q = of_row (λ w x. Told u v w x) table.seconds (of_row (λ u v. OfEach (λ b. Told u v b.0 b.1) table.seconds) table.firsts taken u v p) w x q

    sound : (m : M) → (v : V × W) × TwoWords given v ts × (m ≡ made v.0 v.1) → ts ≡ text m
    sound m s =
        let j = subst (λ z. TwoWords z s.0 ts) same s.1 in
        let f = ahead-text table.between _ j.first j.is_first in
        let b = behind-text table.before _ f.0 f.2 in
        let g = told b.0 s.0.0 j.second s.0.1 (chosen-names table.firsts b.0 s.0.0 b.2) (chosen-names table.seconds j.second s.0.1 j.is_second) in
        j.all ∙ ap (λ z. z ++ j.second) (f.1 ∙ ap (λ z. z ++ text_of table.between) b.1) ∙ g.1 ∙ ap text (sym s.2)

    complete : (m : M) → ts ≡ text m → l.ends ts ≡ At []
    complete m e =
        let p = parts m in
        let u = listed-names table.firsts p.0.0 (lists p.0.0) in
        let w = listed-names table.seconds p.0.1 (others p.0.1) in
        let g = told u.0 p.0.0 w.0 p.0.1 u.1 w.1 in
        let s : ts ≡ text_with table u.0 w.0 = e ∙ ap text p.1 ∙ sym g.1 in
        ends ∙ ap (λ z. two_ends z ts) same ∙ ap (two_ends table) s ∙ g.0
