-- The rule takes each sum, with what it comes to alone; so it takes just the sums.
-- Main word: AreSumLeaves. Main laws: leaves-sum, exactly-sum. Read first: LinesLaws.antt, ExactlyLaws.antt of chumsky_grammars.
use Rattle.std.proofs.Common.{◌≡◌, ℕ, ℤ, zero, suc, ◌+◌, ◌<◌, ◌≤◌, ◌^◌, Bool, true, false, nat_lt, Option, Some, None, List, [], ◌∷◌, ◌++◌, length, map, drop}
use Rattle.std.proofs.Common.{refl, sym, ◌∙◌, ap, subst, arith, append_assoc, inl, inr}
use Rattle.std.proofs.Math.Seq.{drop-append_seam}
use Rattle.std.proofs.lemmas.Bool.Decides.{nat_tests}
use Rattle.std.proofs.lemmas.List.{append-nil, length-append, reverse-append}
use Rattle.std.proofs.lemmas.Str.Parse.{digit_from_value}
use Rattle.std.specs.Prelude.{pos, reverse, ⊤, codes, Result, Ok, Err, IfOk, IfSome}
use Rattle.std.specs.Borrow.{Bor}
use Rattle.std.specs.Char.{digit_value, is_digit, is_whitespace}
use Rattle.std.specs.Option.{SomeIff}
use Rattle.std.specs.Str.Parse.{IsNumeral, digits_value}
use Rattle.std.specs.declared.alloc.Global.{Global}
use Rattle.std.specs.declared.vec.Vec.{Vec}
use Rattle.chumsky_input.specs.declared.stop.Stop.{Stop}
use Rattle.chumsky_parser.specs.Ending.{Ending, At, Nowhere, Refused, and_then, or_else}
use Rattle.chumsky_parser.specs.Language.{Language}
use Rattle.chumsky_parser.specs.Slices.{IsSliceOf}
use Rattle.chumsky_parser.specs.Words.{AllPass, StopsAt, ElseValue}
use Rattle.chumsky_parser.specs.WordsLaws.{ends_at}
use Rattle.chumsky_parser.specs.declared.result.ParseResult.{ParseResult}
use Rattle.chumsky_combinator.specs.OptionalLanguage.{IfSomeOf, IfNoneOf}
use Rattle.chumsky_text.specs.Decimals.{IsDigits, TextSlice, numeral-digits}
use Rattle.chumsky_text.specs.Leading.{leading}
use Rattle.chumsky_text.specs.TextLanguage.{run_ends, word_front}
use Rattle.chumsky_text.specs.TextLanguageLaws.{leading_stops}
use Rattle.chumsky.specs.Accepted.{FallsShort, AnswersText, IsOutputOf, IsAnswerOf, IsExactly, Exactly}
use Rattle.chumsky_grammars.specs.BuiltLeaves.{leaf_language, built}
use Rattle.chumsky_grammars.specs.EachWord.{one_rule, each-call}
use Rattle.chumsky_grammars.specs.ExactlyLaws.{claims_of}
use Rattle.chumsky_grammars.specs.Expression.{Expression, Leaf, Call, Then, Or, Map, Optional}
use Rattle.chumsky_grammars.specs.FoundedLaws.{rule-said, rule-below}
use Rattle.chumsky_grammars.specs.Leaves.{leaves_of, all_move, leaves-are}
use Rattle.chumsky_grammars.specs.RuleLanguage.{in_memory, expression_language, rule_language}
use Rattle.arithmetic.specs.declared.exact_sum.Signed.{Signed}
use Rattle.arithmetic.specs.declared.exact_sum.Piece.{Piece}
use Rattle.arithmetic.specs.declared.exact_sum.Piece.TheVariants as piece
use Rattle.arithmetic.specs.Sums.{AreBlanks, IsSum, IsPart, ComesOnlyTo}
use Rattle.arithmetic.specs.Sums.IsPart.{number, negative, brackets, after_blanks, before_blanks}
use Rattle.arithmetic.specs.Lines.{is_sign, ComesTo, from_part, IsPair, IsOption, IsTotal, IsTotalOf, IsWorkedOut, AreSteps, Line, IsLine}
use Rattle.arithmetic.specs.Lines.{part_expression, steps_expression, negative_expression, sum_expression}
use Rattle.arithmetic.specs.Lines.AreSteps.{none, step}
use Rattle.arithmetic.specs.LinesLaws.{sign-no_digit, total-sum, sum-line, some-once, negative-once, comes-once, padded, digits, signs, mark, leaves_by, leaves, sums, read-value, sound}

-- what is left past blanks
module _ (test : ℕ → Bool) where
  abbrev past : List ℕ → List ℕ
  past ts = drop (length (leading test ts)) ts

  past-these : (b ts : List ℕ) → AllPass test b → past (b ++ ts) ≡ past ts
  past-these [] ts k = refl
  past-these (c ∷ cs) ts k = rw k.0 (past-these cs ts k.1)

  past-none : (ts : List ℕ) → StopsAt test ts → past ts ≡ ts
  past-none [] s = refl
  past-none (c ∷ cs) s = rw s refl

  past-twice : (ts : List ℕ) → past (past ts) ≡ past ts
  past-twice [] = refl
  past-twice (c ∷ cs) = by_test (test c) refl (past-twice cs)
    where
      by_test : (b : Bool) → test c ≡ b → past (past cs) ≡ past cs → past (past (c ∷ cs)) ≡ past (c ∷ cs)
      by_test true e h = rw e h
      by_test false e h = rw e (past-none (c ∷ cs) e)

abbrev past_blanks : List ℕ → List ℕ
past_blanks = past is_whitespace

past_blanks-twice : (ts : List ℕ) → past_blanks (past_blanks ts) ≡ past_blanks ts
past_blanks-twice = past-twice is_whitespace

blanks-both : (b d : List ℕ) → AreBlanks b → AreBlanks d → AreBlanks (b ++ d)
blanks-both [] d k m = m
blanks-both (c ∷ cs) d k m = (k.0, blanks-both cs d k.1 m)

-- no blank is a sign or a digit
digit-no_blank : (c : ℕ) → is_digit c 10 ≡ true → is_whitespace c ≡ true → ⊥
digit-no_blank c d b =
    let m : nat_lt (digit_value c) 10 ≡ true = d in
    let l : digit_value c < 10 = grind (arith, nat_tests) in
    let r = digit_from_value c l in
    absurd (grind (arith, nat_tests))

sign-no_blank : (c : ℕ) → is_sign c ≡ true → is_whitespace c ≡ true → ⊥
sign-no_blank c s b = absurd (grind (arith, nat_tests))

not_true : (b : Bool) → (b ≡ true → ⊥) → b ≡ false
not_true true h = absurd (h refl)
not_true false h = refl

-- where a language ends on a text, and what each of its values is
record Reads (l : Language ℕ Piece) (ts rest : List ℕ) (P : Piece → Type 0) : Type 0 where
  ends : l.ends ts ≡ At rest
  values : (v : Piece) → l.value ts v → P v

weaker : {l : Language ℕ Piece} {ts rest : List ℕ} {P Q : Piece → Type 0} → Reads l ts rest P → ((v : Piece) → P v → Q v) → Reads l ts rest Q
weaker h k = record { ends = h.ends; values = λ v m. k v (h.values v m) }

first_value : (A B : Type 0) (x : Ending (List ℕ)) (rest : List ℕ) → x ≡ At rest → ElseValue x A B → A
first_value A B x rest e h = rw e at h

second_value : (A B : Type 0) (x : Ending (List ℕ)) → x ≡ Nowhere → ElseValue x A B → B
second_value A B x e h = rw e at h

-- a leaf: past the blanks before it, and past those after it
padded-ends : (F : Language ℕ Piece) (ts us : List ℕ) (x : Ending (List ℕ)) → past_blanks ts ≡ us → F.ends us ≡ x → (padded F).ends ts ≡ and_then (run_ends is_whitespace) x
padded-ends F ts us x p e = ap (and_then (run_ends is_whitespace)) (ap F.ends p ∙ e)

leaf-reads : (F : Language ℕ Piece) {ts : List ℕ} (us rest : List ℕ) {P : Piece → Type 0} → past_blanks ts ≡ us → F.ends us ≡ At rest → ((v : Piece) → F.value us v → P v)
    → Reads (in_memory (padded F)) ts (past_blanks rest) P
leaf-reads F {ts} us rest p e h = record { ends = padded-ends F ts us (At rest) p e; values = λ v m. h v (subst (λ us. F.value us v) p m) }

-- each kind of expression, where so many more calls may be open
module _ (n : ℕ) where
  abbrev read : Expression → Language ℕ Piece
  read = expression_language sums (built leaves) (rule_language sums (built leaves) (sum_expression ∷ []) n)

  then-reads : (e f : Expression) {ts mid rest : List ℕ} {P Q : Piece → Type 0} → Reads (read e) ts mid P → Reads (read f) mid rest Q
      → Reads (read (Then e f 0)) ts rest (λ v. (x : Piece) × (y : Piece) × P x × Q y × IsPair x y v)
  then-reads e f {ts} {mid} h k = record {
    ends = ap (and_then (read f).ends) h.ends ∙ k.ends;
    values = λ v m. (m.0.0, m.0.1, h.values m.0.0 m.1.0, k.values m.0.1 (ends_at ((read e).ends ts) mid (λ r. (read f).value r m.0.1) h.ends m.1.1), m.2);
  }

  or-first : (e f : Expression) {ts rest : List ℕ} {P : Piece → Type 0} → Reads (read e) ts rest P → Reads (read (Or e f)) ts rest P
  or-first e f {ts} {rest} h = record {
    ends = ap (λ x. or_else x ((read f).ends ts)) h.ends;
    values = λ v m. h.values v (first_value ((read e).value ts v) ((read f).value ts v) ((read e).ends ts) rest h.ends m);
  }

  or-second : (e f : Expression) {ts rest : List ℕ} {P : Piece → Type 0} → (read e).ends ts ≡ Nowhere → Reads (read f) ts rest P → Reads (read (Or e f)) ts rest P
  or-second e f {ts} d h = record {
    ends = ap (λ x. or_else x ((read f).ends ts)) d ∙ h.ends;
    values = λ v m. h.values v (second_value ((read e).value ts v) ((read f).value ts v) ((read e).ends ts) d m);
  }

  some-reads : (e : Expression) {ts rest : List ℕ} {P : Piece → Type 0} → Reads (read e) ts rest P → Reads (read (Optional e)) ts rest P
  some-reads e {ts} {rest} {P} h = record {
    ends = ap (λ x. or_else x (At ts)) h.ends;
    values = λ v m. by_option v m.0 (first_value (IfSomeOf ((read e).value ts) m.0) (IfNoneOf m.0) ((read e).ends ts) rest h.ends m.1) m.2;
  }
    where
      by_option : (v : Piece) (o : Option Piece) → IfSomeOf ((read e).value ts) o → IsOption o v → P v
      by_option v (Some w) i q = subst P (sym q) (h.values w i)
      by_option v None i q = absurd i

  none-reads : (e : Expression) {ts : List ℕ} → (read e).ends ts ≡ Nowhere → Reads (read (Optional e)) ts ts (λ v. IsOption None v)
  none-reads e {ts} d = record { ends = ap (λ x. or_else x (At ts)) d; values = λ v m. by_option v m.0 (second_value (IfSomeOf ((read e).value ts) m.0) (IfNoneOf m.0) ((read e).ends ts) d m.1) m.2 }
    where
      by_option : (v : Piece) (o : Option Piece) → IfNoneOf o → IsOption o v → IsOption None v
      by_option v (Some w) i q = absurd i
      by_option v None i q = q

-- digits are read as their number
abbrev StopsDigits : List ℕ → Type 0
StopsDigits = StopsAt (λ c. is_digit c 10)

digits-front : (w rest : List ℕ) → IsDigits w → StopsDigits rest → word_front (λ t c. is_digit c 10) (w ++ rest) ≡ w
digits-front [] rest i s = absurd i
digits-front (c ∷ cs) rest i s = ap (λ z. c ∷ z) (leading_stops (λ d. is_digit d 10) cs rest i.1 s)

digits-begin : (w rest : List ℕ) → IsDigits w → StopsAt is_whitespace (w ++ rest)
digits-begin [] rest i = absurd i
digits-begin (c ∷ cs) rest i = not_true (is_whitespace c) (digit-no_blank c i.0)

digits-taken : (w rest : List ℕ) → IsDigits w → StopsDigits rest → digits.ends (w ++ rest) ≡ At rest
digits-taken [] rest i s = absurd i
digits-taken (c ∷ cs) rest i s = rw (i.0, leading_stops (λ d. is_digit d 10) cs rest i.1 s, drop-append_seam cs rest) refl

digits-given : (w rest : List ℕ) (x : Option ℤ) → IsNumeral 10 w → SomeIff x (digits_value 10 w < 2 ^ 63) (pos (digits_value 10 w)) → StopsDigits rest
    → (v : Piece) → digits.value (w ++ rest) v → v ≡ piece.Part x
digits-given w rest x i f s v m =
    let front = digits-front w rest (numeral-digits w i) s in
    let r = read-value w v i m.0 (subst (λ z. IsSliceOf (TextSlice (λ (s : Bor (List ℕ)). s.now)) z m.0) front m.1) m.2 in
    r.1 ∙ ap (λ z. piece.Part z) (some-once (digits_value 10 w < 2 ^ 63) (pos (digits_value 10 w)) r.0 x r.2 f)

-- and a line as its parts, with the blanks after it, where nothing or a closing bracket follows
abbrev Closes : List ℕ → Type 0
Closes [] = ⊤
Closes (c ∷ cs) = c ≡ 41

steps-stop : {r : List ℕ} {ss : List Signed} → AreSteps r ss → (rest : List ℕ) → Closes rest → StopsDigits (r ++ rest)
steps-stop none [] s = tt
steps-stop none (c ∷ cs) s = rw s refl
steps-stop (step c o i a) rest s = sign-no_digit c o

blanks-stop : (b rest : List ℕ) → AreBlanks b → StopsDigits rest → StopsDigits (b ++ rest)
blanks-stop [] rest k s = s
blanks-stop (c ∷ cs) rest k s = not_true (is_digit c 10) (λ d. digit-no_blank c d k.0)

abbrev IsLineOf : Option ℤ → List Signed → Piece → Type 0
IsLineOf x ss v = (vs : Vec Signed Global) × (v ≡ piece.Line x vs) × (reverse vs.items ≡ ss)

abbrev AreStepsOf : List Signed → Piece → Type 0
AreStepsOf ss v = (vs : Vec Signed Global) × (v ≡ piece.Steps vs) × (reverse vs.items ≡ ss)

abbrev calls : ℕ → Language ℕ Piece
calls = one_rule sums leaves sum_expression

-- a line of fewer characters than so many is read under so many calls
abbrev ReadsLines : ℕ → Type 0
ReadsLines n = (w : List ℕ) (x : Option ℤ) (ss : List Signed) → Line w x ss → length w < n
    → (ts rest : List ℕ) → Closes rest → past_blanks ts ≡ past_blanks (w ++ rest) → Reads (calls n) ts (past_blanks rest) (IsLineOf x ss)

module _ (n : ℕ) (deeper : ReadsLines n) where
  -- a sum between brackets
  brackets-read : {w : List ℕ} {x : Option ℤ} → IsSum w x → length w < n → (ts rest : List ℕ) → past_blanks ts ≡ 40 ∷ ((w ++ (41 ∷ [])) ++ rest)
      → Reads (read n part_expression) ts (past_blanks rest) (λ v. v ≡ piece.Part x)
  brackets-read {w} {x} i b ts rest q =
      let l = sum-line i in
      let us : List ℕ = (w ++ (41 ∷ [])) ++ rest in
      let e : past_blanks (past_blanks us) ≡ past_blanks (w ++ (41 ∷ rest)) = past_blanks-twice us ∙ ap past_blanks (append_assoc w (41 ∷ []) rest) in
      let opening : Reads (read n (Leaf 2)) ts (past_blanks us) (λ v. v ≡ piece.Mark 40) = leaf-reads (mark (codes "(")) (40 ∷ us) us q refl (λ v m. m.2 ∙ ap (λ d. piece.Mark d) m.1) in
      let inside : Reads (read n (Call 0)) (past_blanks us) (41 ∷ rest) (IsLineOf l.0 l.1) = deeper w l.0 l.1 l.2 b (past_blanks us) (41 ∷ rest) refl e in
      let closing : Reads (read n (Leaf 3)) (41 ∷ rest) (past_blanks rest) (λ v. ⊤) = leaf-reads (mark (codes ")")) (41 ∷ rest) rest refl refl (λ v m. tt) in
      let all = then-reads n (Leaf 2) (Then (Call 0) (Leaf 3) 0) opening (then-reads n (Call 0) (Leaf 3) inside closing) in
      or-second n (Leaf 0) (Then (Leaf 2) (Then (Call 0) (Leaf 3) 0) 0) (padded-ends digits ts (40 ∷ us) Nowhere q refl)
      (weaker all (λ v k.
      let m = k.3 in
      let j = rw m.2.1 at m.4 in
      let c : j.0 ≡ x = comes-once l.1 (from_part l.0) (subst (λ ss. ComesTo (from_part l.0) ss j.0) m.2.2 j.2) l.3 in
      let p : v ≡ piece.Part j.0 = (rw (k.2, j.1) at k.4) in
      p ∙ ap (λ z. piece.Part z) c))

  module _ (rest : List ℕ) (closes : Closes rest) where
    steps-read : {r : List ℕ} {ss : List Signed} → AreSteps r ss → length r ≤ n → Reads (read n steps_expression) (past_blanks (r ++ rest)) (past_blanks rest) (AreStepsOf ss)
    steps-read none b = weaker (none-reads n (Then (Leaf 1) (Call 0) 0) (by_rest rest closes)) (λ v k. (k.0, k.1, ap reverse k.2))
      where
        by_rest : (rest : List ℕ) → Closes rest → (read n (Then (Leaf 1) (Call 0) 0)).ends (past_blanks rest) ≡ Nowhere
        by_rest [] s = refl
        by_rest (c ∷ cs) s = rw s refl
    steps-read (step {p} {r} {x} {ss} c o i a) b =
        let ts : List ℕ = (p ++ r) ++ rest in
        let s : Signed = record { sign = c; number = x } in
        let q : past_blanks (past_blanks (c ∷ ts)) ≡ c ∷ ts = past_blanks-twice (c ∷ ts) ∙ past-none is_whitespace (c ∷ ts) (not_true (is_whitespace c) (sign-no_blank c o)) in
        let first : Reads (read n (Leaf 1)) (past_blanks (c ∷ ts)) (past_blanks ts) (λ v. v ≡ piece.Mark c) = leaf-reads signs (c ∷ ts) ts q (rw o refl) (λ v m. m.2 ∙ ap (λ d. piece.Mark d) m.1) in
        let second = deeper (p ++ r) x ss (record { part = p; rest = r; all = refl; is_part = i; are_steps = a }) (omega (arith, b)) (past_blanks ts) rest closes (past_blanks-twice ts) in
        some-reads n (Then (Leaf 1) (Call 0) 0)
        (weaker (then-reads n (Leaf 1) (Call 0) first second) (λ v k. let j = rw (k.2, k.3.1) at k.4 in (j.0, j.1, ap reverse j.2 ∙ (reverse-append k.3.0.items (s ∷ []) ∙ ap (λ z. s ∷ z) k.3.2))))

    -- steps after a part and blanks
    after-part : {ts r : List ℕ} {x : Option ℤ} {ss : List Signed} (d : List ℕ) → AreBlanks d → AreSteps r ss → length r ≤ n
        → Reads (read n part_expression) ts (past_blanks (d ++ (r ++ rest))) (λ v. v ≡ piece.Part x) → Reads (calls (suc n)) ts (past_blanks rest) (IsLineOf x ss)
    after-part {r = r} {ss = ss} d k a b h =
        let e = past-these is_whitespace d (r ++ rest) k in
        let g : Reads (read n steps_expression) (past_blanks (d ++ (r ++ rest))) (past_blanks rest) (AreStepsOf ss) =
        subst (λ z. Reads (read n steps_expression) z (past_blanks rest) (AreStepsOf ss)) (sym e) (steps-read a b) in
        or-first n (Then part_expression steps_expression 0) negative_expression
        (weaker (then-reads n part_expression steps_expression h g) (λ v m. (m.3.0, rw (m.2, m.3.1) at m.4, m.3.2)))

    -- a part, blanks, and steps
    part-read : {p : List ℕ} {x : Option ℤ} → IsPart p x → (d r : List ℕ) {ss : List Signed} → AreBlanks d → AreSteps r ss → length p + (length d + length r) ≤ n
        → (ts : List ℕ) → past_blanks ts ≡ past_blanks (p ++ (d ++ (r ++ rest))) → Reads (calls (suc n)) ts (past_blanks rest) (IsLineOf x ss)
    part-read (number {w} {x} i f) d r k a b ts q =
        let us : List ℕ = d ++ (r ++ rest) in
        let j = numeral-digits w i in
        let s = blanks-stop d (r ++ rest) k (steps-stop a rest closes) in
        let e : past_blanks ts ≡ w ++ us = q ∙ past-none is_whitespace (w ++ us) (digits-begin w us j) in
        after-part d k a (omega (arith, b)) (or-first n (Leaf 0) (Then (Leaf 2) (Then (Call 0) (Leaf 3) 0) 0) (leaf-reads digits (w ++ us) us e (digits-taken w us j s) (digits-given w us x i f s)))
    part-read (negative {w} {x} {y} i f) d r {ss} k a b ts q =
        let us : List ℕ = d ++ (r ++ rest) in
        let l : Line (w ++ (d ++ r)) x ss = record { part = w ++ d; rest = r; all = sym (append_assoc w d r); is_part = before_blanks d k i; are_steps = a } in
        let few = length-append w (d ++ r) in
        let fewer = length-append d r in
        let e : w ++ us ≡ (w ++ (d ++ r)) ++ rest = sym (append_assoc w (d ++ r) rest ∙ ap (λ z. w ++ z) (append_assoc d r rest)) in
        let none : (read n (Then part_expression steps_expression 0)).ends ts ≡ Nowhere = rw q refl in
        let taken : Reads (read n (Leaf 4)) ts (past_blanks (w ++ us)) (λ v. ⊤) = leaf-reads (mark (codes "-")) (45 ∷ (w ++ us)) (w ++ us) q refl (λ v m. tt) in
        let first : Reads (read n (Map (Leaf 4) 0)) ts (past_blanks (w ++ us)) (λ v. v ≡ piece.Minus) = record { ends = taken.ends; values = λ v m. m.2 } in
        let second = deeper (w ++ (d ++ r)) x ss l (omega (arith, b, few, fewer)) (past_blanks (w ++ us)) rest closes (past_blanks-twice (w ++ us) ∙ ap past_blanks e) in
        or-second n (Then part_expression steps_expression 0) negative_expression none
        (weaker (then-reads n (Map (Leaf 4) 0) (Call 0) first second) (λ v m.
        let j = rw (m.2, m.3.1) at m.4 in
        (m.3.0, j.1 ∙ ap (λ z. piece.Line z m.3.0) (negative-once x j.2 f), m.3.2)))
    part-read (brackets {w} i) d r k a b ts q =
        let few = length-append w (41 ∷ []) in
        after-part d k a (omega (arith, b)) (brackets-read i (omega (arith, b, few)) ts (d ++ (r ++ rest)) q)
    part-read (after_blanks {w} c m i) d r k a b ts q =
        let few = length-append c w in
        let us : List ℕ = d ++ (r ++ rest) in
        part-read i d r k a (omega (arith, b, few)) ts (q ∙ (ap past_blanks (append_assoc c w us) ∙ past-these is_whitespace c (w ++ us) m))
    part-read (before_blanks {w} c m i) d r k a b ts q =
        let few = length-append w c in
        let more = length-append c d in
        let us : List ℕ = r ++ rest in
        let e : (w ++ c) ++ (d ++ us) ≡ w ++ ((c ++ d) ++ us) = append_assoc w c (d ++ us) ∙ ap (λ z. w ++ z) (sym (append_assoc c d us)) in
        part-read i (c ++ d) r (blanks-both c d m k) a (omega (arith, b, few, more)) ts (q ∙ ap past_blanks e)

lines-read : (n : ℕ) → ReadsLines n
lines-read zero w x ss l b ts rest s q = absurd (omega (arith, b))
lines-read (suc n) w x ss l b ts rest s q =
    let e : w ++ rest ≡ l.part ++ (l.rest ++ rest) = ap (λ z. z ++ rest) l.all ∙ append_assoc l.part l.rest rest in
    let k : length w ≡ length l.part + length l.rest = ap length l.all ∙ length-append l.part l.rest in
    part-read n (lines-read n) rest s l.is_part [] l.rest tt l.are_steps (omega (arith, b, k)) ts (q ∙ ap past_blanks e)

abbrev over : List (Language ℕ Piece) → ℕ → Language ℕ Piece
over ls n = rule_language sums (leaves_of ls) (sum_expression ∷ []) n 0

-- over these leaves, which take a token each, each word is a line, and each sum is taken, with its value alone
pub record AreSumLeaves (ls : List (Language ℕ Piece)) : Type 0 where
  pub move : all_move ls ≡ true
  pub sound : (n : ℕ) (w : List ℕ) (v : Piece) → (over ls n).stands_for w v → IsLine w v
  pub complete : (n : ℕ) (w : List ℕ) (x : Option ℤ) → IsSum w x → length w < n → (over ls n).ends w ≡ At []
  pub once : (n : ℕ) (w : List ℕ) (x y : Option ℤ) (v : Piece) → IsSum w x → length w < n → (over ls n).value w v → IsTotal v y → x ≡ y

-- the leaves are such
sum_leaves : AreSumLeaves (map leaf_language leaves)
sum_leaves = record {
  move = refl;
  sound = each-call sums leaves sum_expression IsLine sound;
  complete = λ n w x i b. (sum-read n w x i b).ends;
  once = λ n w x y v i b m t. (
      let l = sum-line i in
      let h = (sum-read n w x i b).values v m in
      let c = rw h.1 at t in
      comes-once l.1 (from_part l.0) l.3 (subst (λ ss. ComesTo (from_part l.0) ss y) h.2 c)
      );
}
  where
    sum-read : (n : ℕ) (w : List ℕ) (x : Option ℤ) (i : IsSum w x) → length w < n → Reads (calls n) w [] (IsLineOf (sum-line i).0 (sum-line i).1)
    sum-read n w x i b = let l = sum-line i in lines-read n w l.0 l.1 l.2 b w [] tt (ap past_blanks (sym (append-nil w)))

abbrev AreLeavesBy : ℕ → List ℕ → List ℕ → List ℕ → List ℕ → Type 0
AreLeavesBy radix sign opening closing minus = AreSumLeaves (map leaf_language (leaves_by radix sign opening closing minus))

-- and so are those that were built of these characters
pub leaves-sum : (radix : ℕ) (sign opening closing minus : List ℕ) → radix ≡ 10 → sign ≡ codes "+-*/%" → opening ≡ codes "(" → closing ≡ codes ")" → minus ≡ codes "-"
    → AreSumLeaves (map leaf_language (leaves_by radix sign opening closing minus))
leaves-sum radix sign opening closing minus r s o c m =
    subst (λ z. AreLeavesBy z sign opening closing minus) (sym r)
    (subst (λ z. AreLeavesBy 10 z opening closing minus) (sym s)
    (subst (λ z. AreLeavesBy 10 (codes "+-*/%") z closing minus) (sym o)
    (subst (λ z. AreLeavesBy 10 (codes "+-*/%") (codes "(") z minus) (sym c) (subst (λ z. AreLeavesBy 10 (codes "+-*/%") (codes "(") (codes ")") z) (sym m) sum_leaves))))

-- so what is made of the answer of a text is exactly what it comes to, and all that it does, under more calls than characters
pub exactly-sum : {Er : Type 0} {ts : List ℕ} {spare : Type 0} {parsed : Result (ParseResult Piece Er) Stop} (result : Result (ParseResult (Option ℤ) Er) Stop)
    (ls : List (Language ℕ Piece)) → AreSumLeaves ls
    → (limit : ℕ) → length ts < limit → ((over ls limit).said ≡ true → AnswersText Some (over ls limit) ts spare parsed) → IsWorkedOut parsed result
    → Exactly IsSum ts result × IfOk result (λ q. IfSome q.output (ComesOnlyTo ts))
exactly-sum {Er} {ts} {spare} {parsed} result ls are limit enough reads worked =
    let c = claims_of sum_expression in
    let k = leaves-are c ls are.move in
    let a = reads (rule-said c sums (leaves_of ls) k.said k.moves k.decided (sum_expression ∷ []) refl refl limit 0 (omega arith)) in
    let b = rule-below c sums (leaves_of ls) k.said k.moves k.decided (sum_expression ∷ []) refl refl limit 0 (length ts) (omega arith) (omega (arith, enough)) in
    by_answer parsed result a.output worked (a.decided b)
  where
    by_output : (x : Option Piece) (y : Option (Option ℤ)) → IsOutputOf Some (over ls limit) ts x → IsTotalOf x y → IsExactly IsSum ts y × IfSome y (ComesOnlyTo ts)
    by_output (Some v) (Some z) i t = let l = are.sound limit ts v i.2.1 in let d = rw l.2 at t in (total-sum l.3 d, λ y s. are.once limit ts y z v s enough i.2.0 t)
    by_output (Some v) None i t = absurd t
    by_output None (Some z) i t = absurd t
    by_output None None i t = (λ z s. let short : FallsShort {Tok = ℕ} (At []) = subst FallsShort (are.complete limit ts z s enough) i in absurd short, tt)

    by_answer : (p : Result (ParseResult Piece Er) Stop) (r : Result (ParseResult (Option ℤ) Er) Stop) → IsAnswerOf Some (over ls limit) ts p → IsWorkedOut p r
        → ((over ls limit).ends ts ≡ Refused → ⊥) → Exactly IsSum ts r × IfOk r (λ q. IfSome q.output (ComesOnlyTo ts))
    by_answer (Ok p) (Ok q) i w n = by_output p.output q.output i w
    by_answer (Ok p) (Err t) i w n = absurd w
    by_answer (Err s) (Ok q) i w n = absurd w
    by_answer (Err s) (Err t) (inl e) w n = (w ∙ e, tt)
    by_answer (Err s) (Err t) (inr e) w n = absurd (n e)
