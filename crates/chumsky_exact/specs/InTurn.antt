-- Parts of a text one after another, however their parser nests them.
-- Main words: InTurn, The, Is, IfAny, Tree, Words, Turn. Main laws: in_turn, out_of_turn, as_defined, as_parsed. Read first: Words.antt of chumsky_parser.
use Rattle.std.proofs.Common.{◌≡◌, List, [], ◌∷◌, ◌++◌, append_assoc, refl, sym, ◌∙◌, ap, subst}
use Rattle.std.proofs.lemmas.List.{append-nil}
use Rattle.std.specs.Prelude.{⊤}
use Rattle.chumsky_parser.specs.Words.{Joined}

module _ {Tok : Type 0} {A : Type 1} (of : A → List Tok → Type 0) where
  -- a word of each of these in turn, and nothing more
  abbrev pub Row : List A → List Tok → Type 0
  Row [] = λ w. w ≡ []
  Row (a ∷ more) = Joined (of a) (Row more)

  -- word by word two of these are the same
  abbrev pub SameWords : (parts : List A) (w v : List Tok) → Row parts w → Row parts v → Type 0
  SameWords [] w v r q = ⊤
  SameWords (a ∷ more) w v r q = (r.first ≡ q.first) × SameWords more r.second q.second r.is_second q.is_second

-- a text of parts that have these, one after another
abbrev pub InTurn : {Tok : Type 0} → List (List Tok → Type 0) → List Tok → Type 0
InTurn parts = Row (λ P. P) parts

-- just this text; and with P
abbrev pub Is : {Tok : Type 0} → List Tok → List Tok → Type 0
Is text w = w ≡ text

abbrev pub The : {Tok : Type 0} → (List Tok → Type 0) → List Tok → List Tok → Type 0
The P text w = P w × (w ≡ text)

-- nothing, for no values; and else a text that opens, and then these
abbrev pub IfAny : {Tok V : Type 0} → List Tok → (List Tok → List V → Type 0) → List V → List Tok → Type 0
IfAny opening are [] w = w ≡ []
IfAny opening are (v ∷ vs) w = Joined (Is opening) (λ u. are u (v ∷ vs)) w

-- how a parser nests its parts: one, a sequence and then another, or at the end one that looks ahead and takes nothing
pub data Tree (A : Type 1) : Type 1 where
  Part : A → Tree A
  Then : Tree A → Tree A → Tree A
  Ahead : A → Tree A

-- the parts in turn, and then more
abbrev pub leaves : {A : Type 1} → Tree A → List A → List A
leaves (Part a) more = a ∷ more
leaves (Then s t) more = leaves s (leaves t more)
leaves (Ahead a) more = more

module _ {Tok : Type 0} {A : Type 1} (of : A → List Tok → Type 0) where
  -- the words of such a parser
  abbrev pub Words : Tree A → List Tok → Type 0
  Words (Part a) = of a
  Words (Then s t) = Joined (Words s) (Words t)
  Words (Ahead a) = λ w. w ≡ []

module _ {Tok : Type 0} {A : Type 1} (from to : A → List Tok → Type 0) (gives : (a : A) (w : List Tok) → from a w → to a w) where
  flat : (t : Tree A) (more : List A) (u v : List Tok) → Words from t u → Row to more v → Row to (leaves t more) (u ++ v)
  flat (Part a) more u v h r = record { first = u; second = v; all = refl; is_first = gives a u h; is_second = r }
  flat (Then s t) more u v h r =
      let e : u ++ v ≡ h.first ++ (h.second ++ v) = ap (λ z. z ++ v) h.all ∙ append_assoc h.first h.second v in
      subst (Row to (leaves s (leaves t more))) (sym e) (flat s (leaves t more) h.first (h.second ++ v) h.is_first (flat t more h.second v h.is_second r))
  flat (Ahead a) more u v h r = subst (λ z. Row to more (z ++ v)) (sym h) r

  -- a word of the parser is one of its parts in turn
  pub in_turn : (t : Tree A) (w : List Tok) → Words from t w → Row to (leaves t []) w
  in_turn t w h = subst (Row to (leaves t [])) (append-nil w) (flat t [] w [] h refl)

  nested : (t : Tree A) (more : List A) (w : List Tok) → Row from (leaves t more) w → Joined (Words to t) (Row from more) w
  nested (Part a) more w r = record { first = r.first; second = r.second; all = r.all; is_first = gives a r.first r.is_first; is_second = r.is_second }
  nested (Then s t) more w r =
      let x = nested s (leaves t more) w r in
      let y = nested t more x.second x.is_second in
      record {
        first = x.first ++ y.first;
        second = y.second;
        all = x.all ∙ ap (λ z. x.first ++ z) y.all ∙ sym (append_assoc x.first y.first y.second);
        is_first = record { first = x.first; second = y.first; all = refl; is_first = x.is_first; is_second = y.is_first };
        is_second = y.is_second;
      }
  nested (Ahead a) more w r = record { first = []; second = w; all = refl; is_first = refl; is_second = r }

  -- and such a text is a word of it
  pub out_of_turn : (t : Tree A) (w : List Tok) → Row from (leaves t []) w → Words to t w
  out_of_turn t w r =
      let x = nested t [] w r in
      let e : w ≡ x.first = x.all ∙ ap (λ z. x.first ++ z) x.is_second ∙ append-nil x.first in
      subst (Words to t) (sym e) x.is_first

  -- part by part
  abbrev pub each_in_turn : (parts : List A) (w : List Tok) → Row from parts w → Row to parts w
  each_in_turn [] w r = r
  each_in_turn (a ∷ more) w r = record { first = r.first; second = r.second; all = r.all; is_first = gives a r.first r.is_first; is_second = each_in_turn more r.second r.is_second }

-- what is said of a part in two ways: of a word what a parser knows, and what a definition says, or the other way round
pub record Turn (Tok : Type 0) : Type 1 where
  pub from : List Tok → Type 0
  pub to : List Tok → Type 0
  pub gives : (w : List Tok) → from w → to w

-- the same both ways
abbrev pub same : {Tok : Type 0} → (List Tok → Type 0) → Turn Tok
same P = record { from = P; to = P; gives = λ w h. h }

module _ {Tok : Type 0} where
  abbrev pub from_of : Turn Tok → List Tok → Type 0
  from_of a = a.from

  abbrev pub to_of : Turn Tok → List Tok → Type 0
  to_of a = a.to

  pub gives_of : (a : Turn Tok) (w : List Tok) → a.from w → a.to w
  gives_of a = a.gives

  -- a parser's word is as it is defined
  pub as_defined : (t : Tree (Turn Tok)) (w : List Tok) → Words from_of t w → Row to_of (leaves t []) w
  as_defined = in_turn from_of to_of gives_of

  -- and what is so defined is such a word
  pub as_parsed : (t : Tree (Turn Tok)) (w : List Tok) → Row from_of (leaves t []) w → Words to_of t w
  as_parsed = out_of_turn from_of to_of gives_of

  abbrev pub turned : (parts : List (Turn Tok)) (w : List Tok) → Row from_of parts w → Row to_of parts w
  turned = each_in_turn from_of to_of gives_of
