-- Characters of a line, one by one.
use Rattle.std.proofs.Common.{arith, rules, ◌≡◌, refl, sym, ap, subst, ◌∙◌, ℕ, ◌+◌, ◌-◌, ◌≤◌, min, true, false, cond, nat_le, List, [], ◌∷◌, ◌++◌, length, take, drop, reverse}
use Rattle.std.specs.Prelude.{not}
use Rattle.std.specs.Char.{encode_utf8}
use Rattle.std.specs.Str.{chars, IsUtf8, IsCharBoundary, encode_utf8_all}
use Rattle.std.proofs.Math.Seq.{drop-append_seam, take-append_seam, take-add}
use Rattle.std.proofs.lemmas.List.{append_assoc, append-nil, append_cancel_left, append_cancel_right, reverse-append, length-drop, length-append, drop-drop, take_min}
use Rattle.std.proofs.lemmas.List.Sums.{take_while-cons}
use Rattle.std.proofs.lemmas.Bool.{le-leb, lt-leb}
use Rattle.std.proofs.lemmas.Str.{chars-append, chars_past_char, chars-nil, encodes-chars, IsUtf8-drop, IsUtf8-take, IsCharBoundary-from_take, IsCharBoundary-at_seam}
use Rattle.chumsky_report.specs.Line.{is_line_end}
use Rattle.chumsky_report.specs.Window.{of_line}
use Rattle.chumsky_report.specs.Cut.{WithoutLast, WithoutFirst, CutsBehind, CutsAhead}

pub of_line-cons : (c : ℕ) (cs : List ℕ) → is_line_end c ≡ false → of_line (c ∷ cs) ≡ c ∷ of_line cs
of_line-cons c cs e = take_while-cons (λ x. not (is_line_end x)) c cs ∙ ap (λ b. cond (not b) (c ∷ of_line cs) []) e

pub of_line-end : (c : ℕ) (cs : List ℕ) → is_line_end c ≡ true → of_line (c ∷ cs) ≡ []
of_line-end c cs e = take_while-cons (λ x. not (is_line_end x)) c cs ∙ ap (λ b. cond (not b) (c ∷ of_line cs) []) e

-- one element more
pub take_one_more : (n x : ℕ) (xs ys : List ℕ) → drop n xs ≡ x ∷ ys → take (n + 1) xs ≡ take n xs ++ x ∷ []
take_one_more n x xs ys e = take-add n 1 xs ∙ ap (λ r. take n xs ++ take 1 r) e

pub drop_one_more : (n x : ℕ) (xs ys : List ℕ) → drop n xs ≡ x ∷ ys → drop (n + 1) xs ≡ ys
drop_one_more n x xs ys e = sym (drop-drop 1 n xs) ∙ ap (drop 1) e

pub within_one_more : (n x : ℕ) (xs ys : List ℕ) → drop n xs ≡ x ∷ ys → n + 1 ≤ length xs
within_one_more n x xs ys e = omega (arith, length-drop n xs, ap length e)

pub all_dropped : (n most : ℕ) (xs : List ℕ) → n ≡ min most (length xs) → drop n xs ≡ [] → nat_le (length xs) most ≡ true
all_dropped n most xs m e = le-leb (length xs) most (omega (arith, length-drop n xs, ap length e))

pub not_all_dropped : (n most x : ℕ) (xs ys : List ℕ) → n ≡ min most (length xs) → drop n xs ≡ x ∷ ys → nat_le (length xs) most ≡ false
not_all_dropped n most x xs ys m e = lt-leb (length xs) most (omega (arith, length-drop n xs, ap length e))

-- the character at the end of a text
pub spells_last : (text left : List ℕ) (c : ℕ) → IsUtf8 text → IsUtf8 left → text ≡ left ++ encode_utf8 c → chars text ≡ chars left ++ c ∷ []
spells_last text left c u v e =
    let tail : IsUtf8 (drop (length left) text) = IsUtf8-drop text (length left) u
    (IsCharBoundary-from_take text (length left) u (omega (arith, ap length e, length-append left (encode_utf8 c)))
    (subst IsUtf8 (sym (ap (take (length left)) e ∙ take-append_seam left (encode_utf8 c))) v)) in
    let is : drop (length left) text ≡ encode_utf8 c = ap (drop (length left)) e ∙ drop-append_seam left (encode_utf8 c) in
    ap chars e ∙ chars-append left (encode_utf8 c) v
    ∙ ap (λ r. chars left ++ r) (chars_past_char (encode_utf8 c) [] c (subst IsUtf8 is tail) (sym (append-nil (encode_utf8 c))) ∙ ap (λ r. c ∷ r) chars-nil)

-- and at its start
pub spells_first : (text left : List ℕ) (c : ℕ) → IsUtf8 text → text ≡ encode_utf8 c ++ left → chars text ≡ c ∷ chars left
spells_first text left c u e = chars_past_char text left c u e

pub none_behind_nothing : (text : List ℕ) → length text ≡ 0 → of_line (reverse (chars text)) ≡ []
none_behind_nothing [] e = ap (λ r. of_line (reverse r)) chars-nil
none_behind_nothing (b ∷ text) e = absurd (search rules)

-- a text that ends a line has no characters of it behind its end
pub none_behind_end : (text left : List ℕ) (c : ℕ) → chars text ≡ chars left ++ c ∷ [] → is_line_end c ≡ true → of_line (reverse (chars text)) ≡ []
none_behind_end text left c e l = ap (λ r. of_line (reverse r)) e ∙ ap of_line (reverse-append (chars left) (c ∷ [])) ∙ of_line-end c (reverse (chars left)) l

pub last_behind : (text left : List ℕ) (w : WithoutLast text left) → of_line (reverse (chars text)) ≡ w.last ∷ of_line (reverse (chars left))
last_behind text left w = ap (λ r. of_line (reverse r)) w.spelled ∙ ap of_line (reverse-append (chars left) (w.last ∷ [])) ∙ of_line-cons w.last (reverse (chars left)) w.no_end

pub first_ahead : (text left : List ℕ) (w : WithoutFirst text left) → of_line (chars text) ≡ w.first ∷ of_line (chars left)
first_ahead text left w = ap of_line w.spelled ∙ of_line-cons w.first (chars left) w.no_end

pub cut_behind_start : (text : List ℕ) → CutsBehind text 0 text
cut_behind_start text = record { spelled = sym (append-nil (chars text)); others = refl; taken = []; whole = sym (append-nil text) }

pub cut_behind_more : (text left less : List ℕ) (n : ℕ) → CutsBehind text n left → WithoutLast left less
    → CutsBehind text (n + 1) less × (n + 1 ≤ length (of_line (reverse (chars text))))
cut_behind_more text left less n q w =
    let line = of_line (reverse (chars text)) in
    let next : drop n line ≡ w.last ∷ of_line (reverse (chars less)) = sym q.others ∙ last_behind left less w in (
      record {
        spelled = q.spelled ∙ ap (λ r. r ++ reverse (take n line)) w.spelled ∙ append_assoc (chars less) (w.last ∷ []) (reverse (take n line))
            ∙ ap (λ r. chars less ++ r) (sym (ap reverse (take_one_more n w.last line _ next) ∙ reverse-append (take n line) (w.last ∷ [])));
        others = sym (drop_one_more n w.last line _ next);
        taken = encode_utf8 w.last ++ q.taken;
        whole = q.whole ∙ ap (λ r. r ++ q.taken) w.whole ∙ append_assoc less (encode_utf8 w.last) q.taken;
      },
      within_one_more n w.last line _ next,
    )

pub cut_ahead_start : (text : List ℕ) → CutsAhead text 0 text
cut_ahead_start text = record { spelled = refl; others = refl; taken = []; whole = refl }

pub cut_ahead_more : (text left less : List ℕ) (n : ℕ) → CutsAhead text n left → WithoutFirst left less
    → CutsAhead text (n + 1) less × (n + 1 ≤ length (of_line (chars text)))
cut_ahead_more text left less n q w =
    let line = of_line (chars text) in
    let next : drop n line ≡ w.first ∷ of_line (chars less) = sym q.others ∙ first_ahead left less w in (
      record {
        spelled = q.spelled ∙ ap (λ r. take n line ++ r) w.spelled ∙ sym (append_assoc (take n line) (w.first ∷ []) (chars less))
            ∙ ap (λ r. r ++ chars less) (sym (take_one_more n w.first line _ next));
        others = sym (drop_one_more n w.first line _ next);
        taken = q.taken ++ encode_utf8 w.first;
        whole = q.whole ∙ ap (λ r. q.taken ++ r) w.whole ∙ sym (append_assoc q.taken (encode_utf8 w.first) less);
      },
      within_one_more n w.first line _ next,
    )

-- what is cut off
pub behind_boundary : (text left : List ℕ) (n : ℕ) → IsUtf8 text → IsUtf8 left → CutsBehind text n left → IsCharBoundary text (length left)
behind_boundary text left n u v q = IsCharBoundary-from_take text (length left) u (omega (arith, ap length q.whole, length-append left q.taken))
    (subst IsUtf8 (sym (ap (take (length left)) q.whole ∙ take-append_seam left q.taken)) v)

pub shown_behind_is : (text left shown : List ℕ) (n most : ℕ) → IsUtf8 left → CutsBehind text n left → n ≡ min most (length (of_line (reverse (chars text))))
    → shown ≡ drop (length left) text → chars shown ≡ reverse (take most (of_line (reverse (chars text))))
shown_behind_is text left shown n most v q m e =
    let line = of_line (reverse (chars text)) in
    let is : shown ≡ q.taken = e ∙ ap (drop (length left)) q.whole ∙ drop-append_seam left q.taken in
    ap chars is
    ∙ append_cancel_left (chars left) (chars q.taken) (reverse (take n line)) (sym (chars-append left q.taken v) ∙ sym (ap chars q.whole) ∙ q.spelled)
    ∙ ap (λ k. reverse (take k line)) m ∙ ap reverse (take_min most line)

pub ahead_seam : (text left : List ℕ) (n : ℕ) (q : CutsAhead text n left) → length text - length left ≡ length q.taken
ahead_seam text left n q = omega (arith, ap length q.whole, length-append q.taken left)

pub ahead_boundary : (text left : List ℕ) (n : ℕ) → IsUtf8 left → CutsAhead text n left → IsCharBoundary text (length text - length left)
ahead_boundary text left n v q = subst (IsCharBoundary text) (sym (ahead_seam text left n q)) (IsCharBoundary-at_seam text q.taken left q.whole v)

pub shown_ahead_is : (text left shown : List ℕ) (n most : ℕ) → IsUtf8 text → IsUtf8 left → CutsAhead text n left → n ≡ min most (length (of_line (chars text)))
    → shown ≡ take (length text - length left) text → chars shown ≡ take most (of_line (chars text))
shown_ahead_is text left shown n most u v q m e =
    let line = of_line (chars text) in
    let is : shown ≡ q.taken = e ∙ ap (λ k. take k text) (ahead_seam text left n q) ∙ ap (take (length q.taken)) q.whole ∙ take-append_seam q.taken left in
    let front : IsUtf8 shown = subst IsUtf8 (sym e) (IsUtf8-take text (length text - length left) u (ahead_boundary text left n v q)) in
    ap chars is
    ∙ append_cancel_right (chars q.taken) (take n line) (chars left) (sym (chars-append q.taken left (subst IsUtf8 is front)) ∙ sym (ap chars q.whole) ∙ q.spelled)
    ∙ ap (λ k. take k line) m ∙ take_min most line

pub shown_ahead_bytes : (text left shown : List ℕ) (n most : ℕ) → IsUtf8 text → IsUtf8 left → CutsAhead text n left → n ≡ min most (length (of_line (chars text)))
    → shown ≡ take (length text - length left) text → shown ≡ encode_utf8_all (take most (of_line (chars text)))
shown_ahead_bytes text left shown n most u v q m e =
    let front : IsUtf8 shown = subst IsUtf8 (sym e) (IsUtf8-take text (length text - length left) u (ahead_boundary text left n v q)) in
    sym (encodes-chars shown front) ∙ ap encode_utf8_all (shown_ahead_is text left shown n most u v q m e)

-- whether all is
pub all_behind_is : (text left : List ℕ) (n most : ℕ) → CutsBehind text n left → n ≡ min most (length (of_line (reverse (chars text))))
    → of_line (reverse (chars left)) ≡ [] → nat_le (length (of_line (reverse (chars text)))) most ≡ true
all_behind_is text left n most q m e = all_dropped n most _ m (sym q.others ∙ e)

pub more_behind_is : (text left less : List ℕ) (n most : ℕ) → CutsBehind text n left → n ≡ min most (length (of_line (reverse (chars text))))
    → WithoutLast left less → nat_le (length (of_line (reverse (chars text)))) most ≡ false
more_behind_is text left less n most q m w = not_all_dropped n most w.last _ _ m (sym q.others ∙ last_behind left less w)

pub all_ahead_is : (text left : List ℕ) (n most : ℕ) → CutsAhead text n left → n ≡ min most (length (of_line (chars text)))
    → of_line (chars left) ≡ [] → nat_le (length (of_line (chars text))) most ≡ true
all_ahead_is text left n most q m e = all_dropped n most _ m (sym q.others ∙ e)

pub more_ahead_is : (text left less : List ℕ) (n most : ℕ) → CutsAhead text n left → n ≡ min most (length (of_line (chars text)))
    → WithoutFirst left less → nat_le (length (of_line (chars text))) most ≡ false
more_ahead_is text left less n most q m w = not_all_dropped n most w.first _ _ m (sym q.others ∙ first_ahead left less w)
