-- Lists of any number of items, with a separator between each two and nowhere else, as lists of one's own.
-- Main words: Items, IsList, BracketedOnce. Main laws: listed, listed-by, none-list, items-list, bracketed-once, bracketed-below. Read first: ListWords.antt of chumsky_items.
use Rattle.std.proofs.Common.{◌≡◌, ℕ, suc, ◌<◌, nat_eq, true, false, Option, None, List, [], ◌∷◌, ◌++◌, append_assoc, refl, sym, ◌∙◌, ap, subst, arith}
use Rattle.std.proofs.lemmas.List.{append-nil}
use Rattle.std.specs.Prelude.{⊤}
use Rattle.chumsky_parser.specs.Ending.{DoesNotEnd}
use Rattle.chumsky_parser.specs.FurtherLaws.{both-below, behind-below}
use Rattle.chumsky_parser.specs.ItemsLanguage.{ListFrom, IsListFrom}
use Rattle.chumsky_parser.specs.Language.{Language, IsBelow, sooner, later}
use Rattle.chumsky_parser.specs.SequenceLanguage.{between_language}
use Rattle.chumsky_primitive.specs.Literals.{equals-same}
use Rattle.chumsky_primitive.specs.PrimitiveLanguage.{Equals, literal_ends, literal_language}
use Rattle.chumsky_items.specs.ListLanguage.{collected_language}
use Rattle.chumsky_items.specs.ListWords.{SeparatedWord, SeparatedEnd}
use Rattle.chumsky_items.specs.SeparatedLanguage.{separated_language}

-- where words of items are of some V, and those of separators S, such a list is
module _ {Tok V : Type 0} (S : List Tok → Type 0) (of : List Tok → V → Type 0) (Are : List Tok → List V → Type 0) (none : Are [] []) (one : (w : List Tok) (v : V) → of w v → Are w (v ∷ []))
    (more : (w s ws : List Tok) (v u : V) (vs : List V) → of w v → S s → Are ws (u ∷ vs) → Are (w ++ (s ++ ws)) (v ∷ u ∷ vs)) where
  abbrev ListOf : ℕ → List V → List Tok → Type 0
  ListOf = ListFrom (λ k u v. SeparatedWord S false None (λ z. of z v) k u) (SeparatedEnd S false false 0 None)

  with_first : (k : ℕ) (w rest : List Tok) (v : V) (vs : List V) → of w v → ListOf (suc k) vs rest → Are (w ++ rest) (v ∷ vs)
  with_first k w rest v [] i l = let e : rest ≡ [] = l.1 in subst (λ z. Are z (v ∷ [])) (sym (append-nil w) ∙ ap (λ z. w ++ z) (sym e)) (one w v i)
  with_first k w rest v (u ∷ vs) i l =
      let j = l.is_first.1 in
      let a = append_assoc j.first j.second l.second in
      let e : w ++ (j.first ++ (j.second ++ l.second)) ≡ w ++ rest = cc (l.all, j.all, a) in
      subst (λ z. Are z (v ∷ u ∷ vs)) e (more w j.first (j.second ++ l.second) v u vs i j.is_first (with_first (suc k) j.second l.second u vs j.is_second l.is_second))

  pub listed : (vs : List V) (w : List Tok) → ListOf 0 vs w → Are w vs
  listed [] w l = let e : w ≡ [] = l.1 in subst (λ z. Are z []) (sym e) none
  listed (v ∷ vs) w l = subst (λ z. Are z (v ∷ vs)) (sym l.all) (with_first 0 l.first l.second v vs l.is_first.1 l.is_second)

-- the same of a separator that is fixed text
pub listed-by : {V : Type 0} (s : List ℕ) (of : List ℕ → V → Type 0) (Are : List ℕ → List V → Type 0) → Are [] [] → ((w : List ℕ) (v : V) → of w v → Are w (v ∷ []))
    → ((w ws : List ℕ) (v u : V) (vs : List V) → of w v → Are ws (u ∷ vs) → Are (w ++ (s ++ ws)) (v ∷ u ∷ vs))
    → (vs : List V) (w : List ℕ) → ListFrom (λ k u v. SeparatedWord (Equals nat_eq s) false None (λ z. of z v) k u) (SeparatedEnd (Equals nat_eq s) false false 0 None) 0 vs w → Are w vs
listed-by s of Are none one more = listed (Equals nat_eq s) of Are none one (λ w c ws v u vs h e a. subst (λ z. Are (w ++ (z ++ ws)) (v ∷ u ∷ vs)) (sym (equals-same s c e)) (more w ws v u vs h a))

-- texts with P, one at least, with one with S between each two
pub data Items {Tok : Type 0} (S P : List Tok → Type 0) : List Tok → Type 0 where
  last_item : {w : List Tok} → P w → Items S P w
  more_items : {w s ws : List Tok} → P w → S s → Items S P ws → Items S P (w ++ (s ++ ws))

-- they are a word of a list, where words of items have P, and those of separators S
module _ {Tok : Type 0} (S P : List Tok → Type 0) where
  abbrev pub IsList : ℕ → List Tok → Type 0
  IsList = IsListFrom (SeparatedWord S false None P) (SeparatedEnd S false false 0 None)

  led : {s w : List Tok} (k : ℕ) → S s → Items S P w → IsList (suc k) (s ++ w)
  led {s} {w} k b (last_item i) = record {
    items = w ∷ [];
    are = record { first = s ++ w; second = []; all = sym (append-nil (s ++ w)); is_first = (tt, record { first = s; second = w; all = refl; is_first = b; is_second = i }); is_second = (omega arith, refl) };
  }
  led {s} k b (more_items {w} {s = t} {ws} i d a) =
      let l = led {s = t} (suc k) d a in record {
        items = w ∷ l.items;
        are = record { first = s ++ w; second = t ++ ws; all = sym (append_assoc s w (t ++ ws)); is_first = (tt, record { first = s; second = w; all = refl; is_first = b; is_second = i }); is_second = l.are };
      }

  pub none-list : IsList 0 []
  none-list = record { items = []; are = (omega arith, refl) }

  pub items-list : {w : List Tok} → Items S P w → IsList 0 w
  items-list (last_item {w} i) = record { items = w ∷ []; are = record { first = w; second = []; all = sym (append-nil w); is_first = (tt, i); is_second = (omega arith, refl) } }
  items-list (more_items {w} {s} {ws} i d a) = let l = led 0 d a in record { items = w ∷ l.items; are = record { first = w; second = s ++ ws; all = refl; is_first = (tt, i); is_second = l.are } }

module _ {V : Type 0} (item : Language ℕ V) (o s c : List ℕ) where
  abbrev fixed : List ℕ → Language ℕ (Unit {0})
  fixed text = literal_language nat_eq text (λ v. ⊤) ⊤

  -- items between two fixed texts, with one between each two, are unambiguous
  abbrev pub BracketedOnce : Type 0
  BracketedOnce =
      (between_language (fixed o) (collected_language (separated_language (fixed s) item (record { least = 0; most = None; leading = false; trailing = false; free = false })) (λ items (v : Unit {0}). ⊤) ⊤) (fixed c)).unambiguous

  -- where an item is, neither text goes on with one, and the last begins neither an item nor the text between
  pub bracketed-once : item.unambiguous → ((rest : List ℕ) → item.follow (s ++ rest)) → ((rest : List ℕ) → item.follow (c ++ rest)) → ((rest : List ℕ) → DoesNotEnd (literal_ends nat_eq s (c ++ rest)))
      → ((rest : List ℕ) → DoesNotEnd (item.ends (c ++ rest)))
      → BracketedOnce
  bracketed-once once goes_on ends no_separator no_item = (
    tt,
    (
      (once, tt, λ w rest j f. let e : w ≡ s = equals-same s w j in rw e (goes_on rest), λ w rest j f. tt, λ e. absurd (cc e)),
      tt,
      λ w rest j f. let e : w ≡ c = equals-same c w j in rw e (ends rest, tt, no_separator rest, no_item rest),
    ),
    λ w rest j f. tt,
  )

-- and they are refused of no text of fewer tokens than one more than what items are refused of
pub bracketed-below : (item : Option ℕ) (depth : ℕ) → ((k : ℕ) → k < depth → IsBelow item k) → (k : ℕ) → k < suc depth → IsBelow (later (sooner (sooner item None) None) true) k
bracketed-below item depth h = behind-below (sooner (sooner item None) None) depth (λ k l. both-below (sooner item None) None k (both-below item None k (h k l) tt) tt)
