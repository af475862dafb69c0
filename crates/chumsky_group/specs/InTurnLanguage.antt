-- The language of the parsers of an array in turn: a word of each, and their values in order.
-- Main words: in_turn_language, OfItems. Law: in_turn-accepts. Read first: SequenceLanguage.antt of chumsky_parser, InTurn.antt.
use Rattle.std.proofs.Common.{◌≡◌, Bool, true, false, ◌||◌, Option, Some, None, List, [], ◌∷◌, map, drop, refl, subst, inl, inr}
use Rattle.std.specs.Prelude.{⊤}
use Rattle.arrayvec.specs.ArrayVec.{ArrayVec}
use Rattle.chumsky_input.specs.Outcome.{Meaning, EndsAfterStart}
use Rattle.chumsky_parser.specs.Chained.{Chained, Given}
use Rattle.chumsky_parser.specs.ChoiceLaws.{each-ends}
use Rattle.chumsky_parser.specs.Ending.{At, Ender, and_then, Ends, IfValue, Answers, Reads}
use Rattle.chumsky_parser.specs.EndingLaws.{chained-here, given-here, and_then_some, ends_there, wanting_value}
use Rattle.chumsky_parser.specs.Failure.{wanting}
use Rattle.chumsky_parser.specs.FurtherLaws.{never-below}
use Rattle.chumsky_parser.specs.Language.{Language, Begins, GivesOnly, Accepts}
use Rattle.chumsky_parser.specs.Laws.{chained-ends, given-ends}
use Rattle.chumsky_parser.specs.MemoryLaws.{chained-spares, given-spares}
use Rattle.chumsky_parser.specs.Progress.{Moves}
use Rattle.chumsky_parser.specs.ProgressLaws.{never, either-true, chained-first, chained-second}
use Rattle.chumsky_parser.specs.SequenceLanguage.{joined_language, joined-accepts}
use Rattle.chumsky_parser.specs.Words.{then_ends, Joined}
use Rattle.chumsky_parser.specs.WordsLaws.{then-gives_only, empty-takes_only, empty-takes_each}
use Rattle.chumsky_group.specs.InTurn.{item_before, InTurn}
use Rattle.chumsky_group.specs.InTurnLaws.{in_turn-ends}

-- what is said of the first item and of a vector of the others
abbrev pub OfItems : {V : Type 0} → (V → ArrayVec V → Type 0) → List V → Type 0
OfItems P [] = ⊥
OfItems P (v ∷ vs) = P v (record { items = vs })

-- nothing, and no items
abbrev pub no_items : {Tok V : Type 0} → Language Tok (ArrayVec V)
no_items = record {
  said = true;
  ends = λ ts. At ts;
  value = λ _ vs. vs.items ≡ [];
  word = λ w. w ≡ [];
  stands_for = λ w vs. (w ≡ []) × (vs.items ≡ []);
  follow = λ _. ⊤;
  unambiguous = ⊤;
  refused_from = None;
  moves = false;
  takes_no_memory = ⊤;
}

-- a word of the first and then one of the others, with the items of both
abbrev pub item_then : {Tok V : Type 0} → Language Tok V → Language Tok (ArrayVec V) → Language Tok (ArrayVec V)
item_then F G =
    joined_language F G
    (λ ts vs. OfItems (λ v others. F.value ts v × Ends (F.ends ts) (λ rest. G.value rest others)) vs.items)
    (λ w vs. OfItems (λ v others. Joined (λ u. F.stands_for u v) (λ u. G.stands_for u others) w) vs.items)

abbrev pub in_turn_language : {X Tok V : Type 0} → (X → Language Tok V) → List X → Language Tok (ArrayVec V)
in_turn_language language [] = no_items
in_turn_language language (x ∷ xs) = item_then (language x) (in_turn_language language xs)

item_value : {V : Type 0} (P : V → Type 0) (Q R : ArrayVec V → Type 0)
    → ((v : V) (vs : ArrayVec V) → P v → Q vs → R (record { items = v ∷ vs.items }))
    → (v : Option V) (vs : Option (ArrayVec V)) → IfValue P v → IfValue Q vs → IfValue R (item_before v vs)
item_value P Q R f (Some v) (Some vs) i j = f v vs i j
item_value P Q R f (Some v) None i j = tt
item_value P Q R f None vs i j = tt

module _ {Tok Cx St Er V : Type 0} where
  none-accepts : {spare : Type 0} → Accepts (InTurn {Tok = Tok} {Cx = Cx} {St = St} {Er = Er} {V = V} []) no_items spare
  none-accepts = record {
    described = λ s. record {
      reads =
          record {
            here = λ b w o m. given-here Er (λ vs. vs.items ≡ []) b w
                (wanting b.wanted (record { items = [] }))
                (wanting_value (λ vs. vs.items ≡ []) (record { items = [] }) refl b.wanted) o m;
          };
      only = empty-takes_only;
      given = record { given = λ ts rest v e i. let z : ts ≡ rest = cc e in record { word = []; all = z; is = (refl, i) } };
      each = λ u. empty-takes_each;
      decided = never-below (λ ts e. absurd (cc e));
      further = λ e. never e;
    };
    moving = λ e. never e;
    sparing = λ q t b o m. given-spares (wanting b.wanted (record { items = [] })) b o m;
  }

  module _ (first : Meaning Tok Cx St Er V) (others : Meaning Tok Cx St Er (ArrayVec V)) where
    -- the first and then the others, their items in order
    abbrev ItemThen : Meaning Tok Cx St Er (ArrayVec V)
    ItemThen = Chained first (λ v. Chained others (λ vs. Given (item_before v vs)))

    item_then-by : (f g : Ender Tok) (va : List Tok → V → Type 0) (vb : List Tok → ArrayVec V → Type 0) → Reads first f va → Reads others g vb
        → Reads ItemThen (then_ends f g) (λ ts vs. OfItems (λ v us. va ts v × Ends (f ts) (λ rest. vb rest us)) vs.items)
    item_then-by f g va vb h k = record {
      here = λ b w.
          let ts : List Tok = drop b.start b.tokens.list in
          let R : ArrayVec V → Type 0 = λ vs. OfItems (λ v us. va ts v × Ends (f ts) (λ rest. vb rest us)) vs.items in
          chained-here (va ts) R first _ (f ts) g b w (h.here b w)
          (λ v c y e i o m.
          let rest : List Tok = drop c.start c.tokens.list in
          let z : Answers R (and_then (λ us. At us) (g rest)) c.tokens.list o.verdict o.end =
          chained-here (vb rest) R others (λ u. Given (item_before v u)) (g rest) (λ us. At us) c y (k.here c y)
          (λ u d x e' j. given-here Er R d x (item_before v u) (item_value (va ts) (vb rest) R (λ p q i' j'. (i', ends_there (f ts) rest (λ r. vb r q) e j')) v u i j)) o m in
          subst (λ q. Answers R q c.tokens.list o.verdict o.end) (and_then_some (g rest)) z);
    }

    item_then-moves : (a b : Bool) → EndsAfterStart first → EndsAfterStart others → (a ≡ true → Moves first) → (b ≡ true → Moves others) → (a || b) ≡ true → Moves ItemThen
    item_then-moves a b ef es hf hs e =
        elim (either-true a b e) [
          | inl x ↦ chained-first first _ (hf x) (λ v. chained-ends others _ es (λ vs. given-ends (item_before v vs)))
          | inr x ↦ chained-second first _ ef (λ v. chained-first others _ (hs x) (λ vs. given-ends (item_before v vs)))
        ]

module _ {Tok V : Type 0} (F : Language Tok V) (G : Language Tok (ArrayVec V)) (h : GivesOnly F.ends F.value F.stands_for) (k : GivesOnly G.ends G.value G.stands_for) where
  item_then-gives_only : GivesOnly (then_ends F.ends G.ends) (item_then F G).value (item_then F G).stands_for
  item_then-gives_only = record { given = λ ts rest vs e i. of_items ts rest vs.items e i }
    where
      of_items : (ts rest : List Tok) (vs : List V) → then_ends F.ends G.ends ts ≡ At rest → OfItems (λ v us. F.value ts v × Ends (F.ends ts) (λ r. G.value r us)) vs
          → Begins (λ w. OfItems (λ v us. Joined (λ u. F.stands_for u v) (λ u. G.stands_for u us) w) vs) ts rest
      of_items ts rest [] e i = absurd i
      of_items ts rest (v ∷ vs) e i = (then-gives_only F.ends G.ends F.value G.value F.stands_for G.stands_for h k).given ts rest (v, record { items = vs }) e i

module _ {X Tok Cx St Er V : Type 0} (meaning : X → Meaning Tok Cx St Er V) (language : X → Language Tok V)
    {spare : Type 0} (ends : (x : X) → EndsAfterStart (meaning x))
    (h : (x : X) → Accepts (meaning x) (language x) spare) where
  pub in_turn-accepts : (xs : List X) → Accepts (InTurn (map meaning xs)) (in_turn_language language xs) spare
  in_turn-accepts [] = none-accepts
  in_turn-accepts (x ∷ xs) =
      let F = language x in
      let G = in_turn_language language xs in
      let others : Meaning Tok Cx St Er (ArrayVec V) = InTurn (map meaning xs) in
      joined-accepts (meaning x) others F G (InTurn (map meaning (x ∷ xs))) _ _ (record {
        reads = λ d e. item_then-by (meaning x) others F.ends G.ends F.value G.value d.reads e.reads;
        given = λ d e. item_then-gives_only F G d.given e.given;
        moving = item_then-moves (meaning x) others F.moves G.moves (ends x) (in_turn-ends (map meaning xs) (each-ends meaning ends xs));
        sparing = λ p q. chained-spares (meaning x) _ p (λ v. chained-spares others _ q (λ vs. given-spares (item_before v vs)));
      }) (h x) (in_turn-accepts xs)
