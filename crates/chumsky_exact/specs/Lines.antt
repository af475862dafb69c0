-- Lines of values, as `line.separated_by(just(end)).allow_trailing()` takes them: each is ended, and the last needn't be.
-- Main words: Lines. Main laws: collected-lines, lines-list, lines-once, lines-each. Read first: ListWords.antt of chumsky_items.
use Rattle.std.proofs.Common.{◌≡◌, ℕ, suc, nat_eq, true, false, None, List, [], ◌∷◌, ◌++◌, append_assoc, refl, sym, ◌∙◌, ap, subst, arith, inl, inr}
use Rattle.std.proofs.lemmas.List.{append-nil, append_cancel_left}
use Rattle.std.specs.Prelude.{map}
use Rattle.std.specs.declared.vec.Vec.{Vec}
use Rattle.chumsky_parser.specs.ItemsLanguage.{ListFrom, IsListFrom}
use Rattle.chumsky_parser.specs.Words.{Joined}
use Rattle.chumsky_primitive.specs.Literals.{equals-same, same-equals}
use Rattle.chumsky_primitive.specs.PrimitiveLanguage.{Equals}
use Rattle.chumsky_items.specs.ListLanguage.{Holding}
use Rattle.chumsky_items.specs.ListWords.{SeparatedWord, SeparatedEnd}
use Rattle.chumsky_exact.specs.Parts.{joined}
use Rattle.chumsky_exact.specs.Rendered.{OfEach}

-- a text is lines of these values: none; a last line that isn't ended; or a line that is, and then lines
pub data Lines {Tok V : Type 0} (of : List Tok → V → Type 0) (end : List Tok) : List Tok → List V → Type 0 where
  no_line : Lines of end [] []
  last_line : {w : List Tok} {v : V} → of w v → Lines of end w (v ∷ [])
  more_lines : {w rest : List Tok} {v : V} {vs : List V} → of w v → Lines of end rest vs → Lines of end (w ++ (end ++ rest)) (v ∷ vs)

-- the words of such a list, where those of lines are of some V, and where they have P
abbrev pub LinesOf : {V : Type 0} → (List ℕ → V → Type 0) → List ℕ → ℕ → List V → List ℕ → Type 0
LinesOf of end = ListFrom (λ k u v. SeparatedWord (Equals nat_eq end) false None (λ z. of z v) k u) (SeparatedEnd (Equals nat_eq end) false true 0 None)

abbrev pub AreLines : (List ℕ → Type 0) → List ℕ → ℕ → List ℕ → Type 0
AreLines P end = IsListFrom (SeparatedWord (Equals nat_eq end) false None P) (SeparatedEnd (Equals nat_eq end) false true 0 None)

-- what is collected of lines are those of the text, as it is shown
module _ {V X : Type 0} (of : List ℕ → V → Type 0) (Shown : List ℕ → X → Type 0) (shown : V → X) (each : (w : List ℕ) (v : V) → of w v → Shown w (shown v)) (end : List ℕ) where
  after_first : (k : ℕ) (w rest : List ℕ) (v : V) (vs : List V) → of w v → LinesOf of end (suc k) vs rest → Lines Shown end (w ++ rest) (map shown (v ∷ vs))
  after_first k w rest v [] i (n, inl e) = subst (λ z. Lines Shown end z (shown v ∷ [])) (sym (append-nil w) ∙ ap (λ z. w ++ z) (sym e)) (last_line (each w v i))
  after_first k w rest v [] i (n, inr s) = subst (λ z. Lines Shown end (w ++ z) (shown v ∷ [])) (append-nil end ∙ sym (equals-same end rest s)) (more_lines (each w v i) no_line)
  after_first k w rest v (u ∷ us) i l =
      let j = l.is_first.1 in
      let a = append_assoc j.first j.second l.second in
      let s : j.first ≡ end = equals-same end j.first j.is_first in
      let e : end ++ (j.second ++ l.second) ≡ rest = cc (l.all, j.all, a, s) in
      subst (λ z. Lines Shown end (w ++ z) (map shown (v ∷ u ∷ us))) e (more_lines (each w v i) (after_first (suc k) j.second l.second u us j.is_second l.is_second))

  list-lines : (vs : List V) (w : List ℕ) → LinesOf of end 0 vs w → Lines Shown end w (map shown vs)
  list-lines [] w l = let e : w ≡ [] = l.1 in subst (λ z. Lines Shown end z []) (sym e) no_line
  list-lines (v ∷ vs) w l = subst (λ z. Lines Shown end z (map shown (v ∷ vs))) (sym l.all) (after_first 0 l.first l.second v vs l.is_first.1 l.is_second)

  pub collected-lines : {A : Type 0} (ts : List ℕ) (v : Vec V A) → Holding (LinesOf of end 0) (λ xs v. v.items ≡ xs) ts v → Lines Shown end ts (map shown v.items)
  collected-lines ts v h = subst (λ xs. Lines Shown end ts (map shown xs)) (sym h.held) (list-lines h.items ts h.is)

-- and lines are a word of that list
module _ {X : Type 0} (Shown : List ℕ → X → Type 0) (P : List ℕ → Type 0) (each : (w : List ℕ) (x : X) → Shown w x → P w) (end : List ℕ) where
  led : (w : List ℕ) (x : X) → Shown w x → Joined (Equals nat_eq end) P (end ++ w)
  led w x i = joined end w (same-equals end) (each w x i)

  ended : {w : List ℕ} {xs : List X} (k : ℕ) → Lines Shown end w xs → AreLines P end (suc k) (end ++ w)
  ended k no_line = record { items = []; are = (omega arith, inr (subst (Equals nat_eq end) (sym (append-nil end)) (same-equals end))) }
  ended k (last_line {w} {v} i) = record {
    items = w ∷ [];
    are = record { first = end ++ w; second = []; all = sym (append-nil (end ++ w)); is_first = (tt, led w v i); is_second = (omega arith, inl refl) };
  }
  ended k (more_lines {w} {rest} {v} i l) =
      let r = ended (suc k) l in
      record {
        items = w ∷ r.items;
        are = record { first = end ++ w; second = end ++ rest; all = sym (append_assoc end w (end ++ rest)); is_first = (tt, led w v i); is_second = r.are };
      }

  pub lines-list : {w : List ℕ} {xs : List X} → Lines Shown end w xs → AreLines P end 0 w
  lines-list no_line = record { items = []; are = (omega arith, refl) }
  lines-list (last_line {w} {v} i) = record { items = w ∷ []; are = record { first = w; second = []; all = sym (append-nil w); is_first = (tt, each w v i); is_second = (omega arith, inl refl) } }
  lines-list (more_lines {w} {rest} {v} i l) =
      let r = ended 0 l in
      record { items = w ∷ r.items; are = record { first = w; second = end ++ rest; all = refl; is_first = (tt, each w v i); is_second = r.are } }

not_nothing : {Tok : Type 0} (w rest : List Tok) (c : Tok) → w ++ (c ∷ rest) ≡ [] → ⊥
not_nothing [] rest c e = absurd (cc e)
not_nothing (t ∷ ts) rest c e = absurd (cc e)

-- where one line alone is at the front of a text, before its end, a text is of one list of lines
module _ {Tok V : Type 0} (of : List Tok → V → Type 0) (c : Tok) (cs : List Tok) (some : (v : V) → of [] v → ⊥) (Fits : List Tok → Type 0) (nothing : Fits [])
    (ends : (rest : List Tok) → Fits ((c ∷ cs) ++ rest)) (one : (w u x y : List Tok) (v t : V) → of w v → of u t → Fits x → Fits y → w ++ x ≡ u ++ y → (v ≡ t) × (x ≡ y)) where
  lines_same : {w u : List Tok} {vs ts : List V} → Lines of (c ∷ cs) w vs → Lines of (c ∷ cs) u ts → w ≡ u → vs ≡ ts
  lines_same no_line no_line e = refl
  lines_same no_line (last_line {v} j) e = absurd (some v (subst (λ z. of z v) (sym e) j))
  lines_same no_line (more_lines {w} {rest} j m) e = absurd (not_nothing w (cs ++ rest) c (sym e))
  lines_same (last_line {v} i) no_line e = absurd (some v (subst (λ z. of z v) e i))
  lines_same (last_line {w} {v} i) (last_line {w = u} {v = t} j) e = let r = one w u [] [] v t i j nothing nothing (ap (λ z. z ++ []) e) in ap (λ z. z ∷ []) r.0
  lines_same (last_line {w} {v} i) (more_lines {w = u} {rest} {v = t} j m) e =
      let r = one w u [] ((c ∷ cs) ++ rest) v t i j nothing (ends rest) (append-nil w ∙ e) in
      absurd (not_nothing [] (cs ++ rest) c (sym r.1))
  lines_same (more_lines {w} {rest} i l) no_line e = absurd (not_nothing w (cs ++ rest) c e)
  lines_same (more_lines {w} {rest} {v} i l) (last_line {w = u} {v = t} j) e =
      let r = one w u ((c ∷ cs) ++ rest) [] v t i j (ends rest) nothing (e ∙ sym (append-nil u)) in
      absurd (not_nothing [] (cs ++ rest) c r.1)
  lines_same (more_lines {w} {rest} {v} i l) (more_lines {w = u} {rest = others} {v = t} j m) e =
      let r = one w u ((c ∷ cs) ++ rest) ((c ∷ cs) ++ others) v t i j (ends rest) (ends others) e in
      let a = lines_same l m (append_cancel_left (c ∷ cs) rest others r.1) in
      let b : v ≡ t = r.0 in
      cc (a, b)

  pub lines-once : (w : List Tok) (vs ts : List V) → Lines of (c ∷ cs) w vs → Lines of (c ∷ cs) w ts → vs ≡ ts
  lines-once w vs ts l m = lines_same l m refl

-- what each line says has P
pub lines-each : {Tok V : Type 0} {of : List Tok → V → Type 0} {end : List Tok} (P : V → Type 0) → ((u : List Tok) (v : V) → of u v → P v)
    → {w : List Tok} {vs : List V} → Lines of end w vs → OfEach P vs
lines-each P h no_line = tt
lines-each P h (last_line {w} {v} i) = (h w v i, tt)
lines-each P h (more_lines {w} {v} i l) = (h w v i, lines-each P h l)
