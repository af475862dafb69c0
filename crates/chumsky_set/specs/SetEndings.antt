-- Where a run of a set ends, and with which values: as its language says.
-- Main words: FitsSlot, RowReads. Main laws: no_part-reads, part_and-reads, any_order-reads. Read first: SetLanguage.antt, AnyOrder.antt.
use Rattle.std.proofs.Common.{◌≡◌, ℕ, zero, suc, ◌+◌, ◌<◌, Bool, true, false, nat_lt, lt-ltb, le-ltb, if◌then◌else◌, Option}
use Rattle.std.proofs.Common.{Some, None, List, [], ◌∷◌, length, drop, length-drop, refl, sym, ap, subst, arith, inl, inr}
use Rattle.std.specs.Prelude.{⊤, IsSomeAnd}
use Rattle.chumsky_input.specs.Outcome.{Meaning, Beginning, Outcome}
use Rattle.chumsky_parser.specs.Chained.{Chained, Given, Sequence, both}
use Rattle.chumsky_parser.specs.ChoiceEndings.{or_else-here}
use Rattle.chumsky_parser.specs.Ending.{Ending, At, Nowhere, Refused, Ender, and_then, or_else, Ends, Within, IfValue, Answers, Here, Reads}
use Rattle.chumsky_parser.specs.EndingLaws.{chained-here, chained-on, given-here, and_then_some}
use Rattle.chumsky_parser.specs.Language.{Language}
use Rattle.chumsky_parser.specs.Words.{ElseValue}
use Rattle.chumsky_set.specs.AnyOrder.{Slot, still, Row, Past, Moving, Missing, Offered, no_part, part_and, TookNone, TookSome, Rounds, AnyOrder}
use Rattle.chumsky_set.specs.SetLanguage.{Places, none_taken, untaken, Passed, left_of, before, further_on, offered}
use Rattle.chumsky_set.specs.SetLanguage.{round, last_pass, rounds, set_taken, set_ends, RowLanguage, OfFirst, no_parts, part_before}

-- what is taken of a part is a value of the tokens at this place
abbrev pub FitsSlot : {Tok V : Type 0} → (List Tok → V → Type 0) → Slot V → Option (List Tok) → Type 0
FitsSlot value (Some v) (Some ts) = IfValue (value ts) v
FitsSlot value (Some v) None = ⊥
FitsSlot value None (Some ts) = ⊥
FitsSlot value None None = ⊤

-- the same of a part and of the others
abbrev pub FitsBefore : {Tok V T : Type 0} → (List Tok → V → Type 0) → (T → Places Tok → Type 0) → Slot V × T → Places Tok → Type 0
FitsBefore value fits t places = OfFirst (λ p ps. FitsSlot value t.0 p × fits t.1 ps) places

-- of no part
abbrev pub FitsNone : {Tok : Type 0} → Unit {0} → Places Tok → Type 0
FitsNone t places = places ≡ []

module _ {Tok : Type 0} where
  left-before : (p : Option (List Tok)) (x : Passed Tok) → left_of (before p x) ≡ left_of x
  left-before p (At s) = refl
  left-before p Nowhere = refl
  left-before p Refused = refl

  left-then : (next : List Tok → Passed Tok) (x : Ending (List Tok)) → and_then (λ r. left_of (next r)) x ≡ left_of (and_then next x)
  left-then next (At r) = refl
  left-then next Nowhere = refl
  left-then next Refused = refl

-- two values are put together to one
pub record Joins {A B C : Type 0} (given : Option A → Option B → Option C) (join : A → B → C) : Type 1 where
  pub value : (P : A → Type 0) (Q : B → Type 0) (R : C → Type 0) → ((a : A) (b : B) → P a → Q b → R (join a b)) → (v : Option A) (w : Option B) → IfValue P v → IfValue Q w → IfValue R (given v w)

pairs-join : {A B : Type 0} → Joins {A = A} {B = B} both (λ a b. (a, b))
pairs-join = record { value = value }
  where
    value : {A B : Type 0} (P : A → Type 0) (Q : B → Type 0) (R : A × B → Type 0) → ((a : A) (b : B) → P a → Q b → R (a, b)) → (v : Option A) (w : Option B) → IfValue P v → IfValue Q w
        → IfValue R (both v w)
    value P Q R f (Some v) (Some w) i j = f v w i j
    value P Q R f (Some v) None i j = tt
    value P Q R f None w i j = tt

-- one after another, and then what is put together of both
abbrev pub Joint : {Tok Cx St Er A B C : Type 0} → (Option A → Option B → Option C) → Meaning Tok Cx St Er A → Meaning Tok Cx St Er B → Meaning Tok Cx St Er C
Joint given first second = Chained first (λ v. Chained second (λ u. Given (given v u)))

module _ {Tok Cx St Er A B C : Type 0} (given : Option A → Option B → Option C) (join : A → B → C) (joins : Joins given join) where
  joint-here : (P : A → Type 0) (Q : List Tok → B → Type 0) (R : C
      → Type 0) (first : Meaning Tok Cx St Er A) (second : Meaning Tok Cx St Er B) (x : Ending (List Tok)) (g : Ender Tok) (b : Beginning Tok Cx St)
      → Within b → Here P first x b
      → ((c : Beginning Tok Cx St) → Within c → Here (Q (drop c.start c.tokens.list)) second (g (drop c.start c.tokens.list)) c)
      → ((rest : List Tok) → x ≡ At rest → (p : A) (q : B) → P p → Q rest q → R (join p q)) → Here R (Joint given first second) (and_then g x) b
  joint-here P Q R first second x g b w h k f =
      chained-here P R first (λ v. Chained second (λ u. Given (given v u))) x g b w h
      (λ v c y e i o m.
      let rest : List Tok = drop c.start c.tokens.list in
      let z : Answers R (and_then (λ us. At us) (g rest)) c.tokens.list o.verdict o.end =
      chained-here (Q rest) R second (λ u. Given (given v u)) (g rest) (λ us. At us) c y (k c y)
      (λ u d t a j. given-here Er R d t (given v u) (joins.value P (Q rest) R (f rest e) v u i j)) o m in
      subst (λ q. Answers R q c.tokens.list o.verdict o.end) (and_then_some (g rest)) z)

module _ {Tok Cx St Er A B C : Type 0} (given : Option A → Option B → Option C) (join : A → B → C) (joins : Joins given join) (P : A → Option (List Tok) → Type 0)
    (Q : B → Places Tok → Type 0) (S : C → Places Tok → Type 0) (of_both : (a : A) (b : B) (p : Option (List Tok)) (ps : Places Tok) → P a p → Q b ps → S (join a b) (p ∷ ps))
    (first : Meaning Tok Cx St Er A) (second : Meaning Tok Cx St Er B) (pass : List Tok → Passed Tok) where
  -- a part and the others, which end where a pass over them does
  abbrev pub OthersHere : Type 0
  OthersHere = (c : Beginning Tok Cx St) → Within c → Here (λ u. Ends (pass (drop c.start c.tokens.list)) (λ s. Q u s.0)) second (left_of (pass (drop c.start c.tokens.list))) c

  abbrev IsPassed : Passed Tok → C → Type 0
  IsPassed x v = Ends x (λ s. S v s.0)

  -- P of what is taken of the first, and Q of what is taken of the others
  first-ends : (p : Option (List Tok)) (x : Passed Tok) (a : A) (b : B) → P a p → Ends x (λ s. Q b s.0) → IsPassed (before p x) (join a b)
  first-ends p (At s) a b i j = of_both a b p s.0 i j
  first-ends p Nowhere a b i j = absurd j
  first-ends p Refused a b i j = absurd j

  -- a part that is taken already
  pub taken-here : (p : Option (List Tok)) (b : Beginning Tok Cx St) → Within b → Here (λ a. P a p) first (At (drop b.start b.tokens.list)) b → OthersHere
      → Here (IsPassed (before p (pass (drop b.start b.tokens.list)))) (Joint given first second) (left_of (before p (pass (drop b.start b.tokens.list)))) b
  taken-here p b w h k =
      let ts : List Tok = drop b.start b.tokens.list in
      let R : C → Type 0 = IsPassed (before p (pass ts)) in
      let z : Here R (Joint given first second) (left_of (pass ts)) b =
      joint-here given join joins (λ a. P a p) (λ rest u. Ends (pass rest) (λ s. Q u s.0)) R first second (At ts) (λ rest. left_of (pass rest)) b w h k
      (λ rest e a u i j. let t : rest ≡ ts = sym (cc e) in first-ends p (pass ts) a u i (subst (λ r. Ends (pass r) (λ s. Q u s.0)) t j)) in
      subst (λ y. Here R (Joint given first second) y b) (sym (left-before p (pass ts))) z

  -- a part that runs, and has to end
  pub run-here : (x : Ending (List Tok)) (b : Beginning Tok Cx St) → Within b → Here (λ a. P a (Some (drop b.start b.tokens.list))) first x b → OthersHere
      → Here (IsPassed (and_then (λ r. before (Some (drop b.start b.tokens.list)) (pass r)) x)) (Joint given first second)
      (left_of (and_then (λ r. before (Some (drop b.start b.tokens.list)) (pass r)) x)) b
  run-here x b w h k =
      let ts : List Tok = drop b.start b.tokens.list in
      let next : List Tok → Passed Tok = λ r. before (Some ts) (pass r) in
      let R : C → Type 0 = IsPassed (and_then next x) in
      let z : Here R (Joint given first second) (and_then (λ r. left_of (next r)) x) b =
      joint-here given join joins (λ a. P a (Some ts)) (λ rest u. Ends (pass rest) (λ s. Q u s.0)) R first second x (λ r. left_of (next r)) b w h
      (λ c y. let rest : List Tok = drop c.start c.tokens.list in subst (λ q. Here (λ u. Ends (pass rest) (λ s. Q u s.0)) second q c) (sym (left-before (Some ts) (pass rest))) (k c y))
      (λ rest e a u i j. rw e (first-ends (Some ts) (pass rest) a u i j)) in
      subst (λ y. Here R (Joint given first second) y b) (left-then next x) z

  offered-left : (ts : List Tok) (x : Ending (List Tok)) → and_then (λ r. left_of (pass r)) (or_else x (At ts)) ≡ left_of (offered ts pass x)
  offered-left ts (At r) = sym (left-before (Some ts) (pass r))
  offered-left ts Nowhere = sym (left-before None (pass ts))
  offered-left ts Refused = refl

  offered-passed : (ts rest : List Tok) (x : Ending (List Tok)) → or_else x (At ts) ≡ At rest → (a : A) (u : B) → ElseValue x (P a (Some ts)) (P a None) → Ends (pass rest) (λ s. Q u s.0)
      → IsPassed (offered ts pass x) (join a u)
  offered-passed ts rest (At r) e a u i j = let t : rest ≡ r = sym (cc e) in first-ends (Some ts) (pass r) a u i (subst (λ q. Ends (pass q) (λ s. Q u s.0)) t j)
  offered-passed ts rest Nowhere e a u i j = let t : rest ≡ ts = sym (cc e) in first-ends None (pass ts) a u i (subst (λ q. Ends (pass q) (λ s. Q u s.0)) t j)
  offered-passed ts rest Refused e a u i j = absurd i

  -- a part that is offered what is left
  offered-here : (x : Ending (List Tok)) (b : Beginning Tok Cx St) → Within b
      → Here (λ a. ElseValue x (P a (Some (drop b.start b.tokens.list))) (P a None)) first (or_else x (At (drop b.start b.tokens.list))) b → OthersHere
      → Here (IsPassed (offered (drop b.start b.tokens.list) pass x)) (Joint given first second) (left_of (offered (drop b.start b.tokens.list) pass x)) b
  offered-here x b w h k =
      let ts : List Tok = drop b.start b.tokens.list in
      let R : C → Type 0 = IsPassed (offered ts pass x) in
      let z : Here R (Joint given first second) (and_then (λ r. left_of (pass r)) (or_else x (At ts))) b =
      joint-here given join joins (λ a. ElseValue x (P a (Some ts)) (P a None)) (λ rest u. Ends (pass rest) (λ s. Q u s.0)) R first second (or_else x (At ts)) (λ r. left_of (pass r)) b w h k
      (λ rest e a u i j. offered-passed ts rest x e a u i j) in
      subst (λ y. Here R (Joint given first second) y b) (offered-left ts x) z

module _ {Tok Cx St Er V : Type 0} (part : Meaning Tok Cx St Er V) (f : Ender Tok) (value : List Tok → V → Type 0) (h : Reads part f value) where
  past-here : (b : Beginning Tok Cx St) (v : Option V) (c : Beginning Tok Cx St) → Within c → c.tokens ≡ b.tokens → IfValue (value (drop b.start b.tokens.list)) v
      → Here (λ s. FitsSlot value s (Some (drop b.start b.tokens.list))) {Er = Er} (Past b.start v) (further_on (drop b.start b.tokens.list) (drop c.start c.tokens.list)) c
  past-here b v c y t i o (inl q) =
      let ts : List Tok = drop b.start b.tokens.list in
      let rest : List Tok = drop c.start c.tokens.list in
      let P : Slot V → Type 0 = λ s. FitsSlot value s (Some ts) in
      let l = length-drop b.start b.tokens.list in
      let r = length-drop c.start c.tokens.list in
      let n : length c.tokens.list ≡ length b.tokens.list = ap (λ z. length z.list) t in
      let yes : nat_lt (length rest) (length ts) ≡ true = lt-ltb (length rest) (length ts) (omega (arith, l, r, n, q.0, y.start)) in
      let z : further_on ts rest ≡ At rest = rw yes refl in
      subst (λ x. Answers P x c.tokens.list o.verdict o.end) (sym z) (given-here Er P c y (Some (Some v)) i o q.1)
  past-here b v c y t i o (inr q) =
      let ts : List Tok = drop b.start b.tokens.list in
      let rest : List Tok = drop c.start c.tokens.list in
      let l = length-drop b.start b.tokens.list in
      let r = length-drop c.start c.tokens.list in
      let n : length c.tokens.list ≡ length b.tokens.list = ap (λ z. length z.list) t in
      let no : nat_lt (length rest) (length ts) ≡ false = le-ltb (length rest) (length ts) (omega (arith, l, r, n, q.0, y.start)) in
      let z : further_on ts rest ≡ Nowhere = rw no refl in
      rw q.1 z

  -- a part that has to move
  moving-here : (b : Beginning Tok Cx St) → Within b
      → Here (λ s. FitsSlot value s (Some (drop b.start b.tokens.list))) (Moving part) (and_then (further_on (drop b.start b.tokens.list)) (f (drop b.start b.tokens.list))) b
  moving-here b w o m =
      let ts : List Tok = drop b.start b.tokens.list in
      chained-on (value ts) (λ s. FitsSlot value s (Some ts)) part (Past b.start) (f ts) (further_on ts) b w (h.here b w) (λ v c y t e i. past-here b v c y t i) o m.run

module _ {Tok Cx St Mk Er V B C : Type 0} (mark : St → Mk) (back : St → Mk → St) (safe : Type 0) (part : Meaning Tok Cx St Er V) (f : Ender Tok) (value : List Tok → V → Type 0)
    (h : Reads part f value) where
  -- a part that is offered what is left, before others
  pub offered-part : (given : Option (Slot V) → Option B → Option C) (join : Slot V → B → C) (joins : Joins given join) (Q : B → Places Tok → Type 0) (S : C → Places Tok → Type 0)
      (of_both : (a : Slot V) (b : B) (p : Option (List Tok)) (ps : Places Tok) → FitsSlot value a p → Q b ps → S (join a b) (p ∷ ps)) (second : Meaning Tok Cx St Er B) (pass : List Tok
      → Passed Tok)
      (b : Beginning Tok Cx St) → Within b
      → ((c : Beginning Tok Cx St) → Within c → Here (λ u. Ends (pass (drop c.start c.tokens.list)) (λ s. Q u s.0)) second (left_of (pass (drop c.start c.tokens.list))) c)
      → Here (λ v. Ends (offered (drop b.start b.tokens.list) pass (and_then (further_on (drop b.start b.tokens.list)) (f (drop b.start b.tokens.list)))) (λ s. S v s.0))
      (Joint given (Offered mark back safe part None) second)
      (left_of (offered (drop b.start b.tokens.list) pass (and_then (further_on (drop b.start b.tokens.list)) (f (drop b.start b.tokens.list))))) b
  offered-part given join joins Q S of_both second pass b w k =
      let ts : List Tok = drop b.start b.tokens.list in
      let x : Ending (List Tok) = and_then (further_on ts) (f ts) in
      let P : Slot V → Type 0 = λ s. FitsSlot value s (Some ts) in
      let N : Slot V → Type 0 = λ s. FitsSlot value s None in
      offered-here given join joins (FitsSlot value) Q S of_both (Offered mark back safe part None) second pass x b w
      (or_else-here mark back safe (Moving part) (Given (Some None)) P N x (At ts) b (moving-here part f value h b w)
      (λ s. given-here Er N (record b { state = s }) (record { start = w.start; few = w.few }) (Some None) tt)) k

-- passes over a row of parts end where those of its language do
pub record RowReads {Tok Cx St Er T V : Type 0} (row : Row Tok Cx St Er T V) (fits : T → Places Tok → Type 0) (R : RowLanguage Tok V) : Type 0 where
  pub left : (t : T) (places : Places Tok) → fits t places → row.left t ≡ untaken places
  pub pass : (t : T) (places : Places Tok) → fits t places → (b : Beginning Tok Cx St) → Within b
      → Here (λ u. Ends (round R.ends places (drop b.start b.tokens.list)) (λ s. fits u s.0)) (row.pass t) (left_of (round R.ends places (drop b.start b.tokens.list))) b
  pub last : (t : T) (places : Places Tok) → fits t places → (b : Beginning Tok Cx St) → Within b
      → Here (λ v. Ends (last_pass R.ends places (drop b.start b.tokens.list)) (λ s. R.value s.0 v)) (row.last t) (left_of (last_pass R.ends places (drop b.start b.tokens.list))) b

module _ {Tok Cx St : Type 0} (Er : Type 0) where
  pub no_part-reads : RowReads (no_part {Tok = Tok} {Cx = Cx} {St = St} {Er = Er}) FitsNone no_parts
  no_part-reads = record {
    left = λ t places e. rw e refl;
    pass = λ t places e b w. given-here Er (λ u. [] ≡ []) b w (Some t) refl;
    last = λ t places e b w. given-here Er (λ v. ⊤) b w (Some t) tt;
  }

module _ {Tok Cx St Mk Er T V W : Type 0} (mark : St → Mk) (back : St → Mk → St) (safe : Type 0) (part : Meaning Tok Cx St Er V) (others : Row Tok Cx St Er T W) (F : Language Tok V)
    (fits : T → Places Tok → Type 0) (R : RowLanguage Tok W) where
  still_fits : (s : Slot V) (p : Option (List Tok)) → FitsSlot F.value s p → still s ≡ still p
  still_fits (Some v) (Some p) i = refl
  still_fits (Some v) None i = absurd i
  still_fits None (Some p) i = absurd i
  still_fits None None i = refl

  module _ (h : Reads part F.ends F.value) (r : RowReads others fits R) where
    pass-here : (s : Slot V) (t : T) (p : Option (List Tok)) (places : Places Tok) → FitsSlot F.value s p → fits t places → (b : Beginning Tok Cx St) → Within b
        → Here (λ u. Ends (round (F.ends ∷ R.ends) (p ∷ places) (drop b.start b.tokens.list)) (λ q. FitsBefore F.value fits u q.0))
        (Sequence (Offered mark back safe part s) (others.pass t)) (left_of (round (F.ends ∷ R.ends) (p ∷ places) (drop b.start b.tokens.list))) b
    pass-here (Some v) t (Some p) places i k b w =
        taken-here both (λ a u. (a, u)) pairs-join (FitsSlot F.value) fits (FitsBefore F.value fits) (λ a u q ps i' j. (i', j)) (Given (Some (Some v))) (others.pass t)
        (round R.ends places) (Some p) b w
        (given-here Er (λ s. FitsSlot F.value s (Some p)) b w (Some (Some v)) i) (λ c y. r.pass t places k c y)
    pass-here (Some v) t None places i k b w = absurd i
    pass-here None t (Some p) places i k b w = absurd i
    pass-here None t None places i k b w =
        offered-part mark back safe part F.ends F.value h both (λ a u. (a, u)) pairs-join fits (FitsBefore F.value fits) (λ a u q ps i' j. (i', j)) (others.pass t) (round R.ends places) b w
        (λ c y. r.pass t places k c y)

    last-here : (s : Slot V) (t : T) (p : Option (List Tok)) (places : Places Tok) → FitsSlot F.value s p → fits t places → (b : Beginning Tok Cx St) → Within b
        → Here (λ v. Ends (last_pass (F.ends ∷ R.ends) (p ∷ places) (drop b.start b.tokens.list)) (λ q. (part_before F R).value q.0 v))
        (Sequence (Missing part s) (others.last t)) (left_of (last_pass (F.ends ∷ R.ends) (p ∷ places) (drop b.start b.tokens.list))) b
    last-here (Some v) t (Some p) places i k b w =
        taken-here both (λ a u. (a, u)) pairs-join (λ a q. IsSomeAnd q (λ ts. F.value ts a)) (λ u ps. R.value ps u) (λ v ps. (part_before F R).value ps v) (λ a u q ps i' j. (i', j))
        (Given v) (others.last t) (last_pass R.ends places) (Some p) b w
        (given-here Er (F.value p) b w v i) (λ c y. r.last t places k c y)
    last-here (Some v) t None places i k b w = absurd i
    last-here None t (Some p) places i k b w = absurd i
    last-here None t None places i k b w =
        run-here both (λ a u. (a, u)) pairs-join (λ a q. IsSomeAnd q (λ ts. F.value ts a)) (λ u ps. R.value ps u) (λ v ps. (part_before F R).value ps v) (λ a u q ps i' j. (i', j)) part
        (others.last t) (last_pass R.ends places) (F.ends (drop b.start b.tokens.list)) b w (h.here b w)
        (λ c y. r.last t places k c y)

    pub part_and-reads : RowReads (part_and mark back safe part others) (FitsBefore F.value fits) (part_before F R)
    part_and-reads = record { left = left; pass = pass; last = last }
      where
        left : (t : Slot V × T) (places : Places Tok) → FitsBefore F.value fits t places → still t.0 + others.left t.1 ≡ untaken places
        left t [] i = absurd i
        left t (p ∷ places) i = let x = still_fits t.0 p i.0 in let y = r.left t.1 places i.1 in cc (x, y)

        pass : (t : Slot V × T) (places : Places Tok) → FitsBefore F.value fits t places → (b : Beginning Tok Cx St) → Within b
            → Here (λ u. Ends (round (F.ends ∷ R.ends) places (drop b.start b.tokens.list)) (λ q. FitsBefore F.value fits u q.0))
            (Sequence (Offered mark back safe part t.0) (others.pass t.1)) (left_of (round (F.ends ∷ R.ends) places (drop b.start b.tokens.list))) b
        pass t [] i b w = absurd i
        pass t (p ∷ places) i b w = pass-here t.0 t.1 p places i.0 i.1 b w

        last : (t : Slot V × T) (places : Places Tok) → FitsBefore F.value fits t places → (b : Beginning Tok Cx St) → Within b
            → Here (λ v. Ends (last_pass (F.ends ∷ R.ends) places (drop b.start b.tokens.list)) (λ q. (part_before F R).value q.0 v))
            (Sequence (Missing part t.0) (others.last t.1)) (left_of (last_pass (F.ends ∷ R.ends) places (drop b.start b.tokens.list))) b
        last t [] i b w = absurd i
        last t (p ∷ places) i b w = last-here t.0 t.1 p places i.0 i.1 b w

module _ {Tok Cx St Er T V : Type 0} (row : Row Tok Cx St Er T V) (fits : T → Places Tok → Type 0) (R : RowLanguage Tok V) (r : RowReads row fits R) where
  -- what follows a round of which fewer rounds than so many are left
  abbrev next_pass : ℕ → Places Tok → Places Tok × List Tok → Passed Tok
  next_pass n places s = if nat_lt (untaken s.0) (untaken places) then rounds n R.ends s.0 s.1 else last_pass R.ends s.0 s.1

  abbrev ValuesOf : Passed Tok → V → Type 0
  ValuesOf x v = Ends x (λ s. R.value s.0 v)

  next-left : (next : Places Tok × List Tok → Passed Tok) (x : Passed Tok) → and_then (λ _. and_then (λ s. left_of (next s)) x) (left_of x) ≡ left_of (and_then next x)
  next-left next (At s) = refl
  next-left next Nowhere = refl
  next-left next Refused = refl

  -- what follows a round that ended as x
  abbrev AfterRound : ℕ → Places Tok → (Option T → Meaning Tok Cx St Er V) → Type 0
  AfterRound n places next = (x : Passed Tok) (v : Option T) (c : Beginning Tok Cx St) → Within c → left_of x ≡ At (drop c.start c.tokens.list) → IfValue (λ u. Ends x (λ s. fits u s.0)) v
      → Here (ValuesOf (and_then (next_pass n places) x)) (next v) (and_then (λ s. left_of (next_pass n places s)) x) c

  round-here : (n : ℕ) (t : T) (places : Places Tok) → fits t places → (next : Option T → Meaning Tok Cx St Er V) → AfterRound n places next → (b : Beginning Tok Cx St) → Within b
      → Here (ValuesOf (rounds (suc n) R.ends places (drop b.start b.tokens.list))) (Chained (row.pass t) next) (left_of (rounds (suc n) R.ends places (drop b.start b.tokens.list))) b
  round-here n t places i next k b w =
      let ts : List Tok = drop b.start b.tokens.list in
      let x : Passed Tok = round R.ends places ts in
      let Q : V → Type 0 = ValuesOf (and_then (next_pass n places) x) in
      let z : Here Q (Chained (row.pass t) next) (and_then (λ _. and_then (λ s. left_of (next_pass n places s)) x) (left_of x)) b =
      chained-here (λ u. Ends x (λ s. fits u s.0)) Q (row.pass t) next (left_of x) (λ _. and_then (λ s. left_of (next_pass n places s)) x) b w (r.pass t places i b w)
      (λ v c y e j. k x v c y e j) in
      subst (λ y. Here Q (Chained (row.pass t) next) y b) (next-left (next_pass n places) x) z

  -- by which test the next pass is chosen
  chosen : (n : ℕ) (places : Places Tok) (s : Places Tok × List Tok) (y : Bool) → nat_lt (untaken s.0) (untaken places) ≡ y → (c : Beginning Tok Cx St) (o : Outcome V Er St)
      → (let p : Passed Tok = if y then rounds n R.ends s.0 s.1 else last_pass R.ends s.0 s.1 in Answers (ValuesOf p) (left_of p) c.tokens.list o.verdict o.end)
      → Answers (ValuesOf (next_pass n places s)) (left_of (next_pass n places s)) c.tokens.list o.verdict o.end
  chosen n places s y e c o a =
      subst (λ z. Answers (ValuesOf (if z then rounds n R.ends s.0 s.1 else last_pass R.ends s.0 s.1)) (left_of
      (if z then rounds n R.ends s.0 s.1 else last_pass R.ends s.0 s.1)) c.tokens.list o.verdict o.end) (sym e) a

  none-after : (n : ℕ) (t : T) (places : Places Tok) → fits t places → AfterRound n places (TookNone row t)
  none-after n t places i (At s) (Some u) c y e j o m =
      let at : s.1 ≡ drop c.start c.tokens.list = cc e in
      let a = r.left t places i in
      let d = r.left u s.0 j in
      let test : nat_lt (untaken s.0) (untaken places) ≡ false = le-ltb (untaken s.0) (untaken places) (omega (arith, a, d, m.0)) in
      let k : Answers (ValuesOf (last_pass R.ends s.0 s.1)) (left_of (last_pass R.ends s.0 s.1)) c.tokens.list o.verdict o.end =
      subst (λ q. Answers (ValuesOf (last_pass R.ends s.0 q)) (left_of (last_pass R.ends s.0 q)) c.tokens.list o.verdict o.end) (sym at) (r.last u s.0 j c y o m.1) in
      chosen n places s false test c o k
  none-after n t places i (At s) None c y e j o m = absurd m
  none-after n t places i Nowhere v c y e j o m = absurd (cc e)
  none-after n t places i Refused v c y e j o m = absurd (cc e)

  -- rounds from what is taken so, where as many are left as parts are not taken, and one
  abbrev RoundsHere : ℕ → T → Meaning Tok Cx St Er V → Type 0
  RoundsHere n t m = (places : Places Tok) → fits t places → untaken places < n → (b : Beginning Tok Cx St) → Within b
      → Here (ValuesOf (rounds n R.ends places (drop b.start b.tokens.list))) m (left_of (rounds n R.ends places (drop b.start b.tokens.list))) b

  some-after : (n : ℕ) (t u : T) (m : Meaning Tok Cx St Er V) (places : Places Tok) → fits t places → untaken places < suc n → RoundsHere n u m → AfterRound n places (TookSome row t u m)
  some-after n t u next places i l h (At s) (Some v) c y e j o m =
      let at : s.1 ≡ drop c.start c.tokens.list = cc e in
      let a = r.left t places i in
      let d = r.left v s.0 j in
      let f : fits u s.0 = subst (λ z. fits z s.0) m.0 j in
      let less : untaken s.0 < untaken places = omega (arith, a, d, m.1) in
      let test : nat_lt (untaken s.0) (untaken places) ≡ true = lt-ltb (untaken s.0) (untaken places) less in
      let k : Answers (ValuesOf (rounds n R.ends s.0 s.1)) (left_of (rounds n R.ends s.0 s.1)) c.tokens.list o.verdict o.end =
      subst (λ q. Answers (ValuesOf (rounds n R.ends s.0 q)) (left_of (rounds n R.ends s.0 q)) c.tokens.list o.verdict o.end) (sym at) (h s.0 f (omega (arith, less, l)) c y o m.2) in
      chosen n places s true test c o k
  some-after n t u next places i l h (At s) None c y e j o m = absurd m
  some-after n t u next places i l h Nowhere v c y e j o m = absurd (cc e)
  some-after n t u next places i l h Refused v c y e j o m = absurd (cc e)

  rounds-here : (us : List T) (n : ℕ) (t : T) → RoundsHere n t (Rounds row us t)
  rounds-here [] zero t places i l b w = absurd (omega (arith, l))
  rounds-here [] (suc n) t places i l b w = round-here n t places i (TookNone row t) (none-after n t places i) b w
  rounds-here (u ∷ us) zero t places i l b w = absurd (omega (arith, l))
  rounds-here (u ∷ us) (suc n) t places i l b w = round-here n t places i (TookSome row t u (Rounds row us u)) (some-after n t u (Rounds row us u) places i l (rounds-here us n u)) b w

  -- parts in any order, of which none is taken
  pub any_order-reads : (t : T) → fits t (none_taken R.ends) → Reads (AnyOrder row t) (set_ends R.ends) (λ ts v. Ends (set_taken R.ends ts) (λ s. R.value s.0 v))
  any_order-reads t i = record { here = λ b w o m. rounds-here m.rounds (suc (untaken (none_taken R.ends))) t (none_taken R.ends) i (omega arith) b w o m.run }
