-- Pieces of a text: which characters each begins with and which may come next, so that it is computed that no word is cut short
-- where they stand one after another, and that a text is of one row of them.
-- Main words: Piece, is_unambiguous, is_parted, is_whole, may_follow. Main laws: unambiguous, may-follow, row-once, row-some, words-once, run-once. Read first: Ranges.antt, InTurn.antt.
use Rattle.std.proofs.Common.{◌≡◌, ℕ, Bool, true, false, ◌&&◌, ◌||◌, cond, List, [], ◌∷◌, ◌++◌, append_assoc, refl, sym, ◌∙◌, ap, subst}
use Rattle.std.specs.Prelude.{⊤, not}
use Rattle.std.proofs.lemmas.List.{append_cancel_left, append_cancel_right}
use Rattle.chumsky_parser.specs.Ending.{Ending, At, Nowhere, Refused, Ender, and_then, DoesNotEnd}
use Rattle.chumsky_parser.specs.ProgressLaws.{both-true}
use Rattle.chumsky_parser.specs.Words.{AllPass, StopsAt, then_ends}
use Rattle.chumsky_text.specs.Leading.{leading}
use Rattle.chumsky_text.specs.TextLanguageLaws.{leading_stops}
use Rattle.chumsky_exact.specs.InTurn.{Row, SameWords, Tree, Part, Then, Ahead, leaves, Words, in_turn}
use Rattle.chumsky_exact.specs.Ranges.{Ranges, within, Limit, barred, lets, implied, within-left, within-right, lets-all, implied-stops}

-- characters that are empty, if they may be, or begin with one of these
abbrev pub BeginsIn : Bool → Ranges → List ℕ → Type 0
BeginsIn empty rs [] = empty ≡ true
BeginsIn empty rs (c ∷ cs) = within rs c ≡ true

pub record Piece : Type 1 where
  -- its words, and what may follow one; and where its parser ends
  pub word : List ℕ → Type 0
  pub follow : List ℕ → Type 0
  pub ends : Ender ℕ
  -- that one may be empty, and what the others begin with; where none may be, the parser ends nowhere before a text that begins otherwise
  pub empty : Bool
  pub begins : Ranges
  pub begun : (w : List ℕ) → word w → BeginsIn empty begins w
  pub fails : empty ≡ false → (rest : List ℕ) → StopsAt (within begins) rest → DoesNotEnd (ends rest)
  -- what may come next, and what does where something follows that may
  pub next : Limit
  pub fits : (rest : List ℕ) → StopsAt (barred next) rest → follow rest
  pub leaves_over : Limit
  pub left : (rest : List ℕ) → follow rest → StopsAt (barred leaves_over) rest
  -- one word alone is at the front of a text
  pub once : (w v x y : List ℕ) → word w → word v → StopsAt (barred next) x → StopsAt (barred next) y → w ++ x ≡ v ++ y → (w ≡ v) × (x ≡ y)
  -- that no word of its own parts, where it has some, is cut short
  pub uncut : Type 0
  pub is_uncut : uncut

abbrev pub word_of : Piece → List ℕ → Type 0
word_of p = p.word

-- what pieces in turn begin with
abbrev pub may_be_empty : List Piece → Bool
may_be_empty [] = true
may_be_empty (p ∷ ps) = p.empty && may_be_empty ps

abbrev pub begin_with : List Piece → Ranges
begin_with [] = []
begin_with (p ∷ ps) = p.begins ++ cond p.empty (begin_with ps) []

-- and whether a limit lets it come, with what comes after them where they are empty
abbrev pub lets_come : Limit → List Piece → Limit → Bool
lets_come l ps after = lets l (begin_with ps) && (not (may_be_empty ps) || implied l after)

both_begin : (a b : Bool) (rs qs : Ranges) (u v : List ℕ) → BeginsIn a rs u → BeginsIn b qs v → BeginsIn (a && b) (rs ++ cond a qs []) (u ++ v)
both_begin a b rs qs (c ∷ u) v h k = within-left rs (cond a qs []) c h
both_begin true b rs qs [] [] h k = k
both_begin true b rs qs [] (c ∷ v) h k = within-right rs qs c k
both_begin false b rs qs [] v h k = let n : false ≡ true = h in absurd (cc n)

row_begins : (ps : List Piece) (w : List ℕ) → Row word_of ps w → BeginsIn (may_be_empty ps) (begin_with ps) w
row_begins [] w r = subst (BeginsIn true []) (sym r) refl
row_begins (p ∷ ps) w r =
    subst (BeginsIn (may_be_empty (p ∷ ps)) (begin_with (p ∷ ps))) (sym r.all)
    (both_begin p.empty (may_be_empty ps) p.begins (begin_with ps) r.first r.second (p.begun r.first r.is_first) (row_begins ps r.second r.is_second))

stops : (l : Limit) (empty : Bool) (rs : Ranges) (w rest : List ℕ) → BeginsIn empty rs w → lets l rs ≡ true → (empty ≡ true → StopsAt (barred l) rest) → StopsAt (barred l) (w ++ rest)
stops l empty rs [] rest h e k = k h
stops l empty rs (c ∷ cs) rest h e k = lets-all l rs c e h

where_empty : (empty other : Bool) → (not empty || other) ≡ true → empty ≡ true → other ≡ true
where_empty true other h e = h
where_empty false other h e = absurd (cc e)

pub row_stops : (l : Limit) (ps : List Piece) (after : Limit) → lets_come l ps after ≡ true → (w rest : List ℕ) → Row word_of ps w → StopsAt (barred after) rest → StopsAt (barred l) (w ++ rest)
row_stops l ps after h w rest r s =
    let p = both-true (lets l (begin_with ps)) (not (may_be_empty ps) || implied l after) h in
    stops l (may_be_empty ps) (begin_with ps) w rest (row_begins ps w r) p.0 (λ e. implied-stops l after (where_empty (may_be_empty ps) (implied l after) p.1 e) rest s)

-- of pieces as a parser nests them: what may follow the last
abbrev pub Follow : Tree Piece → List ℕ → Type 0
Follow (Part p) = p.follow
Follow (Then s t) = Follow t
Follow (Ahead p) = p.follow

abbrev pub next_of : Tree Piece → Limit
next_of (Part p) = p.next
next_of (Then s t) = next_of t
next_of (Ahead p) = p.next

abbrev pub left_of : Tree Piece → Limit
left_of (Part p) = p.leaves_over
left_of (Then s t) = left_of t
left_of (Ahead p) = p.leaves_over

pub fits_of : (t : Tree Piece) (rest : List ℕ) → StopsAt (barred (next_of t)) rest → Follow t rest
fits_of (Part p) rest s = p.fits rest s
fits_of (Then s t) rest h = fits_of t rest h
fits_of (Ahead p) rest s = p.fits rest s

pub over_of : (t : Tree Piece) (rest : List ℕ) → Follow t rest → StopsAt (barred (left_of t)) rest
over_of (Part p) rest f = p.left rest f
over_of (Then s t) rest f = over_of t rest f
over_of (Ahead p) rest f = p.left rest f

-- one may follow another
abbrev pub MayFollow : Tree Piece → Tree Piece → Type 0
MayFollow s t = (w rest : List ℕ) → Words word_of t w → Follow t rest → Follow s (w ++ rest)

abbrev pub may_follow : Tree Piece → Tree Piece → Bool
may_follow s t = lets_come (next_of s) (leaves t []) (left_of t)

pub may-follow : (s t : Tree Piece) → may_follow s t ≡ true → MayFollow s t
may-follow s t h w rest i f = fits_of s (w ++ rest) (row_stops (next_of s) (leaves t []) (left_of t) h w rest (in_turn word_of word_of (λ p u j. j) t w i) (over_of t rest f))

-- each sequence within another is followed by what may
abbrev pub Unambiguous : Tree Piece → Type 0
Unambiguous (Part p) = p.uncut
Unambiguous (Then s t) = Unambiguous s × Unambiguous t × ((w rest : List ℕ) → Words word_of t w → Follow t rest → Follow s (w ++ rest))
Unambiguous (Ahead p) = ⊤

abbrev pub is_unambiguous : Tree Piece → Bool
is_unambiguous (Part p) = true
is_unambiguous (Then s t) = (is_unambiguous s && is_unambiguous t) && may_follow s t
is_unambiguous (Ahead p) = true

pub unambiguous : (t : Tree Piece) → is_unambiguous t ≡ true → Unambiguous t
unambiguous (Part p) h = p.is_uncut
unambiguous (Then s t) h =
    let a = both-true (is_unambiguous s && is_unambiguous t) (may_follow s t) h in
    let b = both-true (is_unambiguous s) (is_unambiguous t) a.0 in
    (unambiguous s b.0, unambiguous t b.1, may-follow s t a.1)
unambiguous (Ahead p) h = tt

-- in a row, too
abbrev pub is_parted : List Piece → Limit → Bool
is_parted [] after = true
is_parted (p ∷ ps) after = lets_come p.next ps after && is_parted ps after

-- so one row alone is at the front of a text
pub row-once : (ps : List Piece) (after : Limit) → is_parted ps after ≡ true → (w v x y : List ℕ) (r : Row word_of ps w) (q : Row word_of ps v)
    → StopsAt (barred after) x → StopsAt (barred after) y → w ++ x ≡ v ++ y → SameWords word_of ps w v r q × (x ≡ y)
row-once [] after h w v x y r q s t e = (tt, sym (ap (λ z. z ++ x) r) ∙ e ∙ ap (λ z. z ++ y) q)
row-once (p ∷ ps) after h w v x y r q s t e =
    let a = both-true (lets_come p.next ps after) (is_parted ps after) h in
    let i : w ++ x ≡ r.first ++ (r.second ++ x) = ap (λ z. z ++ x) r.all ∙ append_assoc r.first r.second x in
    let j : v ++ y ≡ q.first ++ (q.second ++ y) = ap (λ z. z ++ y) q.all ∙ append_assoc q.first q.second y in
    let k = row_stops p.next ps after a.0 r.second x r.is_second s in
    let l = row_stops p.next ps after a.0 q.second y q.is_second t in
    let one = p.once r.first q.first (r.second ++ x) (q.second ++ y) r.is_first q.is_first k l (sym i ∙ e ∙ j) in
    let more = row-once ps after a.1 r.second q.second x y r.is_second q.is_second s t one.1 in
    ((one.0, more.0), more.1)

-- and one word of such a parser
pub words-once : (t : Tree Piece) (after : Limit) → is_parted (leaves t []) after ≡ true → (w v x y : List ℕ) → Words word_of t w → Words word_of t v
    → StopsAt (barred after) x → StopsAt (barred after) y → w ++ x ≡ v ++ y → (w ≡ v) × (x ≡ y)
words-once t after h w v x y i j s u e =
    let row = λ (z : List ℕ) (k : Words word_of t z). in_turn word_of word_of (λ p z l. l) t z k in
    let r = row-once (leaves t []) after h w v x y (row w i) (row v j) s u e in
    (append_cancel_right w v x (e ∙ ap (λ z. v ++ z) (sym r.1)), r.1)

-- and a row is not empty, where a piece in it never is
pub row-some : (ps : List Piece) → may_be_empty ps ≡ false → Row word_of ps [] → ⊥
row-some ps n r = let e : may_be_empty ps ≡ true = row_begins ps [] r in absurd (cc (e, n))

-- whether such a parser begins with a part that is never empty, what that begins with, and where the parser ends
abbrev pub opens : Tree Piece → Bool
opens (Part p) = not p.empty
opens (Then s t) = opens s
opens (Ahead p) = false

abbrev pub opens_with : Tree Piece → Ranges
opens_with (Part p) = p.begins
opens_with (Then s t) = opens_with s
opens_with (Ahead p) = []

abbrev pub ends_of : Tree Piece → Ender ℕ
ends_of (Part p) = p.ends
ends_of (Then s t) = then_ends (ends_of s) (ends_of t)
ends_of (Ahead p) = p.ends

pub none_after : {X Y : Type 0} (next : X → Ending Y) (x : Ending X) → DoesNotEnd x → DoesNotEnd (and_then next x)
none_after next (At y) d = absurd d
none_after next Nowhere d = tt
none_after next Refused d = tt

not_true : (b : Bool) → not b ≡ true → b ≡ false
not_true true e = absurd (cc e)
not_true false e = refl

-- so it ends nowhere before a text that begins otherwise
pub fails_of : (t : Tree Piece) → opens t ≡ true → (rest : List ℕ) → StopsAt (within (opens_with t)) rest → DoesNotEnd (ends_of t rest)
fails_of (Part p) o rest s = p.fails (not_true p.empty o) rest s
fails_of (Then s t) o rest h = none_after (ends_of t) (ends_of s rest) (fails_of s o rest h)
fails_of (Ahead p) o rest s = absurd (cc o)

pub begins_more : (rs : Ranges) (u v : List ℕ) → BeginsIn false rs u → BeginsIn false rs (u ++ v)
begins_more rs [] v h = let n : false ≡ true = h in absurd (cc n)
begins_more rs (c ∷ u) v h = h

-- and its words begin so
pub begun_of : (t : Tree Piece) → opens t ≡ true → (w : List ℕ) → Words word_of t w → BeginsIn false (opens_with t) w
begun_of (Part p) o w i = subst (λ e. BeginsIn e p.begins w) (not_true p.empty o) (p.begun w i)
begun_of (Then s t) o w i = subst (BeginsIn false (opens_with s)) (sym i.all) (begins_more (opens_with s) i.first i.second (begun_of s o i.first i.is_first))
begun_of (Ahead p) o w i = absurd (cc o)

-- such a parser may itself be a part: it begins with a part that is never empty, no word in it is cut short, and one of its words alone
-- is at the front of a text
abbrev pub is_whole : Tree Piece → Bool
is_whole t = (opens t && is_unambiguous t) && is_parted (leaves t []) (next_of t)

-- what passes a test up to where nothing does is one alone
pub run-once : (test : ℕ → Bool) (w v x y : List ℕ) → AllPass test w → AllPass test v → StopsAt test x → StopsAt test y → w ++ x ≡ v ++ y → (w ≡ v) × (x ≡ y)
run-once test w v x y p q s t e =
    let a : w ≡ v = sym (leading_stops test w x p s) ∙ ap (leading test) e ∙ leading_stops test v y q t in
    (a, append_cancel_left v x y (ap (λ z. z ++ x) (sym a) ∙ e))
