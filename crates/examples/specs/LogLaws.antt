-- The parser of logs accepts just these.
-- Main laws: built-sound, built-complete, built-line_stops, end_stops. Read first: Log.antt, LogPicks.antt.
use Rattle.std.proofs.Common.{◌≡◌, ℕ, suc, ◌<◌, ◌^◌, Bool, true, false, nat_eq, Some, None, List, [], ◌∷◌, ◌++◌, refl, sym, ◌∙◌, ap, subst, arith, append_assoc, inl, inr}
use Rattle.std.specs.Prelude.{⊤, ◌⊎◌, ◌||◌, ◌==◌, ◌&&◌, not, codes}
use Rattle.std.specs.Borrow.{Bor}
use Rattle.std.specs.Char.{is_digit, is_whitespace, is_not_whitespace}
use Rattle.std.specs.Str.{encode_utf8_all, trim}
use Rattle.std.specs.declared.alloc.Global.{Global}
use Rattle.std.specs.declared.vec.Vec.{Vec}
use Rattle.std.proofs.lemmas.Bool.Decides.{nat_tests}
use Rattle.std.proofs.lemmas.List.{append-nil}
use Rattle.chumsky_parser.specs.Ending.{DoesNotEnd}
use Rattle.chumsky_parser.specs.ItemsLanguage.{ListFrom, IsListFrom}
use Rattle.chumsky_parser.specs.Slices.{IsSliceOf}
use Rattle.chumsky_parser.specs.Words.{Joined, AllPass, StopsAt}
use Rattle.chumsky_primitive.specs.Literals.{equals-same, same-equals}
use Rattle.chumsky_primitive.specs.PrimitiveLanguage.{Equals}
use Rattle.chumsky_combinator.specs.MappedLanguage.{MapsSome}
use Rattle.chumsky_items.specs.ListLanguage.{Holding}
use Rattle.chumsky_items.specs.ListWords.{SeparatedWord, SeparatedEnd}
use Rattle.chumsky_judge.specs.Picked.{IsPick}
use Rattle.chumsky_text.specs.Decimals.{TextSlice, slice-bytes}
use Rattle.chumsky_text.specs.Names.{IsName, in_name}
use Rattle.chumsky_text.specs.TextLanguage.{IsWord, word_front, begun_ends}
use Rattle.chumsky_exact.specs.Fields.{Picked, Picks, field, picks}
use Rattle.examples.specs.declared.log_lines.Level.{Level}
use Rattle.examples.specs.declared.log_lines.Line.{Line}
use Rattle.examples.specs.DateLaws.{Dash, PickedIn, PicksIn}
use Rattle.examples.specs.Log.{ends_line, in_line, IsLine, IsLog, no_line, line_end, more_lines, HoldsLog}
use Rattle.examples.specs.LogPicks.{is_blank, level_of, level-named, named-level}

abbrev pub Is : List ℕ → List ℕ → Type 0
Is = Equals nat_eq

-- white space before what is none, up to the end of a line
abbrev pub RestWord : List ℕ → Type 0
RestWord = Joined (AllPass is_blank) (IsWord is_not_whitespace (λ t. in_line))

visible-in_line : (c : ℕ) → is_not_whitespace c ≡ true → in_line c ≡ true
visible-in_line c e = by_end (c == 10) (c == 13) refl refl
  where
    by_end : (a b : Bool) → (c == 10) ≡ a → (c == 13) ≡ b → not (a || b) ≡ true
    by_end true b p q = let n : c ≡ 10 = grind (arith, nat_tests) in absurd (cc (subst (λ z. is_not_whitespace z ≡ true) n e))
    by_end false true p q = let n : c ≡ 13 = grind (arith, nat_tests) in absurd (cc (subst (λ z. is_not_whitespace z ≡ true) n e))
    by_end false false p q = refl

both-true : (a b : Bool) → (a && b) ≡ true → (a ≡ true) × (b ≡ true)
both-true true b e = (refl, e)
both-true false b e = absurd (cc e)

-- all of it stands in one line, and it isn't blank
rest-sound : (w : List ℕ) → RestWord w → AllPass in_line w × (AllPass is_whitespace w → ⊥)
rest-sound w j = rw j.all (after j.first j.is_first j.second j.is_second)
  where
    begun : (v : List ℕ) → IsWord is_not_whitespace (λ t. in_line) v → AllPass in_line v × (AllPass is_whitespace v → ⊥)
    begun [] i = absurd i
    begun (c ∷ cs) i = ((visible-in_line c i.0, i.1), λ all. (let w : is_whitespace c ≡ true = all.0 in absurd (cc (i.0, w))))

    after : (u : List ℕ) → AllPass is_blank u → (v : List ℕ) → IsWord is_not_whitespace (λ t. in_line) v → AllPass in_line (u ++ v) × (AllPass is_whitespace (u ++ v) → ⊥)
    after [] b v i = begun v i
    after (c ∷ cs) b v i =
        let r = after cs b.1 v i in
        (((both-true (in_line c) (is_whitespace c) b.0).0, r.0), λ all. r.1 all.1)

rest-complete : (w : List ℕ) → AllPass in_line w → (AllPass is_whitespace w → ⊥) → RestWord w
rest-complete [] p n = absurd (n tt)
rest-complete (c ∷ cs) p n = by_space (λ m. rest-complete cs p.1 m) (is_whitespace c) refl
  where
    by_space : ((AllPass is_whitespace cs → ⊥) → RestWord cs) → (b : Bool) → is_whitespace c ≡ b → RestWord (c ∷ cs)
    by_space later true e =
        let r = later (λ all. n (e, all)) in
        let l : in_line c ≡ true = p.0 in
        record { first = c ∷ r.first; second = r.second; all = ap (λ z. c ∷ z) r.all; is_first = (rw (l, e) refl, r.is_first); is_second = r.is_second }
    by_space later false e = record { first = []; second = c ∷ cs; all = refl; is_first = tt; is_second = (rw e refl, p.1) }

-- the words of a line
abbrev pub NumberWord : ℕ → List ℕ → Type 0
NumberWord = Picks 2 0

abbrev pub LevelWord : List ℕ → Type 0
LevelWord w = IsName w × IsPick (level_of (encode_utf8_all w))

abbrev pub TimeWord : List ℕ → Type 0
TimeWord = Joined (Joined (Joined (Joined (NumberWord 23) (Is (codes ":"))) (NumberWord 59)) (Is (codes ":"))) (NumberWord 59)

abbrev pub LineWord : List ℕ → Type 0
LineWord = Joined (Joined (Joined TimeWord (Is (codes " "))) LevelWord) (Joined (Is (codes " ")) RestWord)

-- what they stand for
abbrev pub TimeOf : (ℕ × ℕ) × ℕ → List ℕ → Type 0
TimeOf t = Joined (Joined (Joined (Joined (Picked 2 0 23 t.0.0) (Is (codes ":"))) (Picked 2 0 59 t.0.1)) (Is (codes ":"))) (Picked 2 0 59 t.1)

abbrev pub LevelOf : Level → List ℕ → Type 0
LevelOf l w = IsName w × (level_of (encode_utf8_all w) ≡ Some l)

abbrev pub MessageOf : Bor (List ℕ) → List ℕ → Type 0
MessageOf m w = MapsSome (λ w v. RestWord w × IsSliceOf (TextSlice (λ s. s.now)) w v) (λ (text trimmed : Bor (List ℕ)). trimmed.now ≡ trim text.now) w m

abbrev pub PartsOf : List ℕ → (((ℕ × ℕ) × ℕ) × Level) × Bor (List ℕ) → Type 0
PartsOf w v = Joined (Joined (Joined (TimeOf v.0.0) (Is (codes " "))) (LevelOf v.0.1)) (Joined (Is (codes " ")) (MessageOf v.1)) w

abbrev pub LineOf : List ℕ → Line → Type 0
LineOf = MapsSome PartsOf (λ parts line. line ≡ record { time = (parts.0.0.0.0, parts.0.0.0.1, parts.0.0.1); level = parts.0.1; message = parts.1 })

-- what a word stands for is its line
line-sound : (w : List ℕ) (line : Line) → LineOf w line → IsLine w line
line-sound w line i =
    let v = i.0 in
    let g = i.1 in
    let f = g.is_first in
    let e = f.is_first in
    let d = e.is_first in
    let c = d.is_first in
    let b = c.is_first in
    let a = b.is_first in
    let t = g.is_second in
    let m = t.is_second in
    let r = rest-sound t.second m.1.0 in
    let colon : a.second ≡ codes ":" = equals-same (codes ":") a.second a.is_second in
    let other_colon : c.second ≡ codes ":" = equals-same (codes ":") c.second c.is_second in
    let space : e.second ≡ codes " " = equals-same (codes " ") e.second e.is_second in
    let other_space : t.first ≡ codes " " = equals-same (codes " ") t.first t.is_first in
    let bytes : m.0.now ≡ encode_utf8_all t.second = slice-bytes (λ s. s.now) t.second m.0 m.1.1 in
    let said : v.1.now ≡ trim (encode_utf8_all t.second) = m.2 ∙ ap trim bytes in
    subst (IsLine w) (sym i.2) (record {
      hour = a.first;
      minute = b.second;
      second = d.second;
      level = f.second;
      left = t.second;
      all = rw (g.all, f.all, e.all, d.all, c.all, b.all, a.all, t.all, colon, other_colon, space, other_space) refl;
      is_hour = field 2 0 23 a.first v.0.0.0.0 a.is_first;
      is_minute = field 2 0 59 b.second v.0.0.0.1 b.is_second;
      is_second = field 2 0 59 d.second v.0.0.1 d.is_second;
      is_level = level-named f.second v.0.1 f.is_second.0 f.is_second.1;
      in_one = r.0;
      not_blank = r.1;
      message = said;
    })

-- and a line is a word
line-complete : (w : List ℕ) (line : Line) → IsLine w line → LineWord w
line-complete w line i =
    let lt : 59 < 2 ^ 32 = omega arith in
    let l = named-level i.level line.level i.is_level in
    let a = joined i.hour (codes ":") (picks 2 0 23 i.hour line.time.0 (omega arith) i.is_hour) (same-equals (codes ":")) in
    let b = joined (i.hour ++ codes ":") i.minute a (picks 2 0 59 i.minute line.time.1 lt i.is_minute) in
    let c = joined ((i.hour ++ codes ":") ++ i.minute) (codes ":") b (same-equals (codes ":")) in
    let d = joined (((i.hour ++ codes ":") ++ i.minute) ++ codes ":") i.second c (picks 2 0 59 i.second line.time.2 lt i.is_second) in
    let e = joined ((((i.hour ++ codes ":") ++ i.minute) ++ codes ":") ++ i.second) (codes " ") d (same-equals (codes " ")) in
    let f = joined (((((i.hour ++ codes ":") ++ i.minute) ++ codes ":") ++ i.second) ++ codes " ") i.level e (l.0, subst IsPick (sym l.1) tt) in
    let m = joined (codes " ") i.left (same-equals (codes " ")) (rest-complete i.left i.in_one i.not_blank) in
    record { first = ((((((i.hour ++ codes ":") ++ i.minute) ++ codes ":") ++ i.second) ++ codes " ") ++ i.level); second = codes " " ++ i.left; all = i.all; is_first = f; is_second = m }
  where
    joined : {P Q : List ℕ → Type 0} (a b : List ℕ) → P a → Q b → Joined P Q (a ++ b)
    joined a b p q = record { first = a; second = b; all = refl; is_first = p; is_second = q }

-- what a word of the first begins with, a word of both does
module _ (R : List ℕ → Type 0) where
  joined-front : {P Q : List ℕ → Type 0} → ((u rest : List ℕ) → P u → R (u ++ rest)) → (w rest : List ℕ) → Joined P Q w → R (w ++ rest)
  joined-front h w rest j =
      let e : w ++ rest ≡ j.first ++ (j.second ++ rest) = ap (λ z. z ++ rest) j.all ∙ append_assoc j.first j.second rest in
      subst R (sym e) (h j.first (j.second ++ rest) j.is_first)

  line-front : ((u rest : List ℕ) → NumberWord 23 u → R (u ++ rest)) → (w rest : List ℕ) → LineWord w → R (w ++ rest)
  line-front h = joined-front (joined-front (joined-front (joined-front (joined-front (joined-front (joined-front h))))))

digit-in_line : (c : ℕ) → is_digit c 10 ≡ true → ends_line c ≡ false
digit-in_line c e = by_end (c == 10) (c == 13) refl refl
  where
    by_end : (a b : Bool) → (c == 10) ≡ a → (c == 13) ≡ b → (a || b) ≡ false
    by_end true b p q = let n : c ≡ 10 = grind (arith, nat_tests) in absurd (cc (subst (λ z. is_digit z 10 ≡ true) n e))
    by_end false true p q = let n : c ≡ 13 = grind (arith, nat_tests) in absurd (cc (subst (λ z. is_digit z 10 ≡ true) n e))
    by_end false false p q = refl

-- where a line begins none ends
line_stops : (w rest : List ℕ) → LineWord w → StopsAt ends_line (w ++ rest)
line_stops w rest i = line-front (StopsAt ends_line) begun w rest i
  where
    begun : (u rest : List ℕ) → NumberWord 23 u → StopsAt ends_line (u ++ rest)
    begun [] rest n = absurd n.0
    begun (c ∷ cs) rest n = digit-in_line c n.0.0

never-over : (w rest : List ℕ) → LineWord w → StopsAt in_line (w ++ rest) → ⊥
never-over w rest i = line-front (λ ts. StopsAt in_line ts → ⊥) begun w rest i
  where
    begun : (u rest : List ℕ) → NumberWord 23 u → StopsAt in_line (u ++ rest) → ⊥
    begun [] rest n s = n.0
    begun (c ∷ cs) rest n s = let e = digit-in_line c n.0.0 in absurd (cc (e, s))

-- what ends lines, one end at least
abbrev pub EndWord : List ℕ → Type 0
EndWord = IsWord ends_line (λ t. ends_line)

-- the words of a log, and what they stand for
abbrev pub LogWord : List ℕ → Type 0
LogWord = IsListFrom (SeparatedWord EndWord true None LineWord) (SeparatedEnd EndWord true true 0 None) 0

abbrev LinesOf : ℕ → List Line → List ℕ → Type 0
LinesOf = ListFrom (λ k w line. SeparatedWord EndWord true None (λ u. LineOf u line) k w) (SeparatedEnd EndWord true true 0 None)

abbrev pub LogOf : List ℕ → Vec Line Global → Type 0
LogOf = Holding (LinesOf 0) (λ lines v. v.items ≡ lines)

-- after ends of lines the same lines are left, and a line is over there
ends-log : (g : List ℕ) → AllPass ends_line g → (cs : List ℕ) (lines : List Line) → IsLog cs lines → IsLog (g ++ cs) lines
ends-log [] p cs lines i = i
ends-log (c ∷ g) p cs lines i = line_end c p.0 (ends-log g p.1 cs lines i)

all-ends : (g : List ℕ) → EndWord g → AllPass ends_line g
all-ends [] h = absurd h
all-ends (c ∷ cs) h = h

end-over : (g rest : List ℕ) → EndWord g → StopsAt in_line (g ++ rest)
end-over [] rest h = absurd h
end-over (c ∷ cs) rest h = let e = h.0 in rw e refl

ends-alone : (g : List ℕ) → EndWord g → IsLog g []
ends-alone g h = subst (λ z. IsLog z []) (append-nil g) (ends-log g (all-ends g h) [] [] no_line)

-- a line, and what is left after it
one-more : (w cs : List ℕ) (line : Line) (lines : List Line) → LineOf w line → StopsAt in_line cs → IsLog cs lines → IsLog (w ++ cs) (line ∷ lines)
one-more w cs line lines i s l = more_lines line (line-sound w line i) s l

led-line : (line : Line) (lines : List Line) (first second : List ℕ) → Joined EndWord (λ u. LineOf u line) first
    → StopsAt in_line second → IsLog second lines → IsLog (first ++ second) (line ∷ lines) × StopsAt in_line (first ++ second)
led-line line lines first second j s l =
    let e : first ++ second ≡ j.first ++ (j.second ++ second) = ap (λ z. z ++ second) j.all ∙ append_assoc j.first j.second second in
    let m = ends-log j.first (all-ends j.first j.is_first) (j.second ++ second) (line ∷ lines) (one-more j.second second line lines j.is_second s l) in
    (subst (λ z. IsLog z (line ∷ lines)) (sym e) m, subst (StopsAt in_line) (sym e) (end-over j.first (j.second ++ second) j.is_first))

later-lines : (k : ℕ) (lines : List Line) (w : List ℕ) → LinesOf (suc k) lines w → IsLog w lines × StopsAt in_line w
later-lines k [] w (n, inl e) = rw e (no_line, tt)
later-lines k [] w (n, inr s) = (ends-alone w s, subst (StopsAt in_line) (append-nil w) (end-over w [] s))
later-lines k (line ∷ lines) w i =
    let l = later-lines (suc k) lines i.second i.is_second in
    let m = led-line line lines i.first i.second i.is_first.1 l.1 l.0 in
    (subst (λ z. IsLog z (line ∷ lines)) (sym i.all) m.0, subst (StopsAt in_line) (sym i.all) m.1)

lines-sound : (lines : List Line) (w : List ℕ) → LinesOf 0 lines w → IsLog w lines
lines-sound [] w (n, inl e) = rw e no_line
lines-sound [] w (n, inr s) = ends-alone w s.1
lines-sound (line ∷ lines) w i =
    let l = later-lines 0 lines i.second i.is_second in
    subst (λ z. IsLog z (line ∷ lines)) (sym i.all) (by_lead i.is_first.1 l.1 l.0)
  where
    by_lead : Joined EndWord (λ u. LineOf u line) i.first ⊎ LineOf i.first line → StopsAt in_line i.second → IsLog i.second lines → IsLog (i.first ++ i.second) (line ∷ lines)
    by_lead (inl j) s l = (led-line line lines i.first i.second j s l).0
    by_lead (inr o) s l = one-more i.first i.second line lines o s l

-- what a word stands for holds the lines of the log
log-sound : (w : List ℕ) (v : Vec Line Global) → LogOf w v → HoldsLog w v
log-sound w v h = let e : h.items ≡ v.items = sym h.held in subst (IsLog w) e (lines-sound h.items w h.is)

-- some ends of lines
some-ends : (g : List ℕ) → AllPass ends_line g → (g ≡ []) ⊎ EndWord g
some-ends [] p = inl refl
some-ends (c ∷ cs) p = inr p

further-end : (g : List ℕ) (c : ℕ) → AllPass ends_line g → ends_line c ≡ true → AllPass ends_line (g ++ (c ∷ []))
further-end [] c p e = (e, tt)
further-end (d ∷ g) c p e = (p.0, further-end g c p.1 e)

abbrev LogFrom : ℕ → List ℕ → Type 0
LogFrom = IsListFrom (SeparatedWord EndWord true None LineWord) (SeparatedEnd EndWord true true 0 None)

-- and a log after ends of lines is a word: after other lines there is an end, unless the log begins with one or is empty
later-log : (k : ℕ) (g cs : List ℕ) (lines : List Line) → AllPass ends_line g → (g ≡ [] → StopsAt in_line cs) → IsLog cs lines → LogFrom (suc k) (g ++ cs)
later-log k g [] [] p s no_line = subst (LogFrom (suc k)) (sym (append-nil g)) (record { items = []; are = (omega arith, some-ends g p) })
later-log k g (d ∷ ds) lines p s (line_end {cs} c e i) =
    let z : (g ++ (c ∷ [])) ++ cs ≡ g ++ (c ∷ cs) = append_assoc g (c ∷ []) cs in
    subst (LogFrom (suc k)) z (later-log k (g ++ (c ∷ [])) cs lines (further-end g c p e) (λ n. not_empty g n) i)
  where
    not_empty : (g : List ℕ) → g ++ (c ∷ []) ≡ [] → StopsAt in_line cs
    not_empty [] n = absurd (cc n)
    not_empty (d ∷ g) n = absurd (cc n)
later-log k g ws (m ∷ lines) p s (more_lines {w} {cs} line i t l) = by_ends (later-log (suc k) [] cs lines tt (λ e. t) l) (some-ends g p)
  where
    by_ends : LogFrom (suc (suc k)) cs → (g ≡ []) ⊎ EndWord g → LogFrom (suc k) (g ++ (w ++ cs))
    by_ends r (inl e) = absurd (never-over w cs (line-complete w line i) (s e))
    by_ends r (inr h) =
        let j : Joined EndWord LineWord (g ++ w) = record { first = g; second = w; all = refl; is_first = h; is_second = line-complete w line i } in
        record { items = (g ++ w) ∷ r.items; are = record { first = g ++ w; second = cs; all = sym (append_assoc g w cs); is_first = (tt, j); is_second = r.are } }

first-log : (g cs : List ℕ) (lines : List Line) → AllPass ends_line g → IsLog cs lines → LogFrom 0 (g ++ cs)
first-log g [] [] p no_line = subst (LogFrom 0) (sym (append-nil g)) (record { items = []; are = (omega arith, by_ends (some-ends g p)) })
  where
    by_ends : (g ≡ []) ⊎ EndWord g → (g ≡ []) ⊎ (⊤ × EndWord g)
    by_ends (inl e) = inl e
    by_ends (inr h) = inr (tt, h)
first-log g (d ∷ ds) lines p (line_end {cs} c e i) =
    let z : (g ++ (c ∷ [])) ++ cs ≡ g ++ (c ∷ cs) = append_assoc g (c ∷ []) cs in
    subst (LogFrom 0) z (first-log (g ++ (c ∷ [])) cs lines (further-end g c p e) i)
first-log g ws (m ∷ lines) p (more_lines {w} {cs} line i t l) =
    let r = later-log 0 [] cs lines tt (λ e. t) l in
    record { items = (g ++ w) ∷ r.items; are = record { first = g ++ w; second = cs; all = sym (append_assoc g w cs); is_first = (tt, by_ends (some-ends g p)); is_second = r.are } }
  where
    by_ends : (g ≡ []) ⊎ EndWord g → Joined EndWord LineWord (g ++ w) ⊎ LineWord (g ++ w)
    by_ends (inl e) = inr (subst (λ z. LineWord (z ++ w)) (sym e) (line-complete w line i))
    by_ends (inr h) = inl (record { first = g; second = w; all = refl; is_first = h; is_second = line-complete w line i })

-- and a log is a word
log-complete : (w : List ℕ) (v : Vec Line Global) → HoldsLog w v → LogWord w
log-complete w v i = first-log [] w v.items tt i

-- nothing is cut short: what follows a word doesn't go on with it
digits_stop : (d r : ℕ) → is_digit d 10 ≡ false → r ≡ 10 → (w rest : List ℕ) → w ≡ d ∷ [] → (t : ℕ) → StopsAt (λ c. is_digit c r) (w ++ rest)
digits_stop d r n radix w rest e t = rw (e, radix) n

-- a colon, and a space, of a parser that was built with them
pub colon_stops : (x r : ℕ) → x ≡ 58 → r ≡ 10 → (w rest : List ℕ) → Dash x w → (t : ℕ) → StopsAt (λ c. is_digit c r) (w ++ rest)
colon_stops x r colon radix w rest d t = digits_stop 58 r refl radix w rest (equals-same (x ∷ []) w d ∙ ap (λ z. z ∷ []) colon) t

pub space_stops : (x r : ℕ) → x ≡ 32 → r ≡ 10 → (w rest : List ℕ) → Dash x w → (t : ℕ) → StopsAt (λ c. is_digit c r) (w ++ rest)
space_stops x r space radix w rest d t = digits_stop 32 r refl radix w rest (equals-same (x ∷ []) w d ∙ ap (λ z. z ∷ []) space) t

pub message_stops : (x : ℕ) → x ≡ 32 → (w rest : List ℕ) → Joined (Dash x) RestWord w → (t : ℕ) → StopsAt in_name (w ++ rest)
message_stops x space w rest j t =
    joined-front (StopsAt in_name) (λ u r d. (let e : u ≡ 32 ∷ [] = equals-same (x ∷ []) u d ∙ ap (λ z. z ∷ []) space in rw e refl)) w rest j

-- of a parser that was built with these radixes, bounds, colons and spaces
module _ (r l h x s m n y t o p z u : ℕ) (hour : r ≡ 10) (hour_from : l ≡ 0) (hour_to : h ≡ 23) (colon : x ≡ 58)
    (minute : s ≡ 10) (minute_from : m ≡ 0) (minute_to : n ≡ 59) (other_colon : y ≡ 58)
    (second : t ≡ 10) (second_from : o ≡ 0) (second_to : p ≡ 59) (space : z ≡ 32) (other_space : u ≡ 32) where
  -- the words of its lines, and what they stand for
  abbrev BuiltWord : List ℕ → Type 0
  BuiltWord = Joined (Joined (Joined (Joined (Joined (Joined (Joined (PicksIn r 2 l h) (Dash x)) (PicksIn s 2 m n)) (Dash y)) (PicksIn t 2 o p)) (Dash z)) LevelWord) (Joined (Dash u) RestWord)

  abbrev BuiltParts : List ℕ → (((ℕ × ℕ) × ℕ) × Level) × Bor (List ℕ) → Type 0
  BuiltParts w v =
      Joined (Joined (Joined (Joined (Joined (Joined (Joined (PickedIn r 2 l h v.0.0.0.0) (Dash x)) (PickedIn s 2 m n v.0.0.0.1)) (Dash y)) (PickedIn t 2 o p v.0.0.1)) (Dash z)) (LevelOf v.0.1)) (Joined (Dash u) (MessageOf v.1)) w

  abbrev BuiltLine : List ℕ → Line → Type 0
  BuiltLine = MapsSome BuiltParts (λ parts line. line ≡ record { time = (parts.0.0.0.0, parts.0.0.0.1, parts.0.0.1); level = parts.0.1; message = parts.1 })

  built-word : (w : List ℕ) → LineWord w → BuiltWord w
  built-word w i = rw (hour, hour_from, hour_to, colon, minute, minute_from, minute_to, other_colon, second, second_from, second_to, space, other_space) i

  word-built : (w : List ℕ) → BuiltWord w → LineWord w
  word-built w i = rw (hour, hour_from, hour_to, colon, minute, minute_from, minute_to, other_colon, second, second_from, second_to, space, other_space) at i

  -- where one begins no end of a line is taken
  pub built-line_stops : (w rest : List ℕ) → BuiltWord w → StopsAt ends_line (w ++ rest)
  built-line_stops w rest i = line_stops w rest (word-built w i)

  -- what a word of a log stands for holds its lines
  pub built-sound : (w : List ℕ) (v : Vec Line Global) → Holding (ListFrom (λ k w line. SeparatedWord EndWord true None (λ q. BuiltLine q line) k w) (SeparatedEnd EndWord true true 0 None) 0) (λ lines v. v.items ≡ lines) w v → HoldsLog w v
  built-sound w v i = log-sound w v (rw (hour, hour_from, hour_to, colon, minute, minute_from, minute_to, other_colon, second, second_from, second_to, space, other_space) at i)

  -- and a log is a word
  pub built-complete : (w : List ℕ) (v : Vec Line Global) → HoldsLog w v → IsListFrom (SeparatedWord EndWord true None BuiltWord) (SeparatedEnd EndWord true true 0 None) 0 w
  built-complete w v i = rw (hour, hour_from, hour_to, colon, minute, minute_from, minute_to, other_colon, second, second_from, second_to, space, other_space) (log-complete w v i)

pub visible_stops : (w rest : List ℕ) → IsWord is_not_whitespace (λ t. in_line) w → StopsAt is_blank (w ++ rest)
visible_stops [] rest i = absurd i
visible_stops (c ∷ cs) rest i = by_space (in_line c) (is_whitespace c) refl i.0
  where
    by_space : (a b : Bool) → is_whitespace c ≡ b → not b ≡ true → (a && b) ≡ false
    by_space true true e n = absurd (cc n)
    by_space true false e n = refl
    by_space false b e n = refl

pub end_stops : (w rest : List ℕ) → EndWord w → (t : ℕ) → StopsAt in_line (w ++ rest)
end_stops w rest i t = end-over w rest i

-- where a line begins no end of a line is taken
pub no_end : (ts : List ℕ) → StopsAt ends_line ts → DoesNotEnd (begun_ends ends_line (word_front (λ t. ends_line)) (λ w. true) ts)
no_end [] s = tt
no_end (c ∷ cs) s = let e : ends_line c ≡ false = s in rw e tt
