-- Parsers of text accept their languages.
-- Main laws: run-accepts, word-accepts, keyword-accepts, newline-accepts, padded-accepts. Read first: TextLanguage.antt.
use Rattle.std.proofs.Common.{◌≡◌, ℕ, zero, suc, ◌+◌, ◌-◌, ◌≤◌, Bool, true, false, cond, Option, Some, None, List, [], ◌∷◌, ◌++◌, length, drop, take, refl, sym, ◌∙◌, ap, subst, arith, inl, inr}
use Rattle.std.specs.Prelude.{slice_get, slice_range, ⊤}
use Rattle.std.proofs.lemmas.List.{length-drop}
use Rattle.std.proofs.Math.Seq.{drop-nil, drop-append_seam}
use Rattle.chumsky_input.specs.Layout.{Layout}
use Rattle.chumsky_input.specs.declared.error.Error as error_trait
use Rattle.chumsky_input.specs.declared.inspector.Inspector as inspector_trait
use Rattle.chumsky_input.specs.declared.input.Input as input_trait
use Rattle.chumsky_input.specs.Outcome.{Meaning, Beginning, Outcome, Verdict, Yes, No, Halt, Clash, EndsAfterStart}
use Rattle.chumsky_input.specs.Wanted.{Wanted}
use Rattle.chumsky_parser.specs.Chained.{Chained, Given, Asked, Follows, from}
use Rattle.chumsky_parser.specs.Ending.{Ending, At, Nowhere, Refused, Ender, Within, IfValue, Answers, Reads}
use Rattle.chumsky_parser.specs.EndingLaws.{refuses-by, misses-by, wanted_value}
use Rattle.chumsky_parser.specs.Ignoring.{Between, IgnoringSecond}
use Rattle.chumsky_parser.specs.FurtherLaws.{never-below}
use Rattle.chumsky_parser.specs.Language.{Language, Begins, TakesOnly, GivesOnly, TakesEach, EndsFurther, NeverRefused, Accepts}
use Rattle.chumsky_parser.specs.LanguageLaws.{fewer-accepts}
use Rattle.chumsky_parser.specs.Memory.{SparesMemory, NeverOutOfMemory}
use Rattle.chumsky_parser.specs.MemoryLaws.{misses-spares}
use Rattle.chumsky_parser.specs.Progress.{IsYes, Moves}
use Rattle.chumsky_parser.specs.ProgressLaws.{never, yes-answers}
use Rattle.chumsky_parser.specs.SequenceLanguage.{between-accepts}
use Rattle.chumsky_parser.specs.Slices.{IsSliceOf}
use Rattle.chumsky_parser.specs.Words.{AllPass, StopsAt}
use Rattle.chumsky_primitive.specs.EndLanguage.{token_there, none_there}
use Rattle.chumsky_text.specs.Leading.{leading, run_end, one_more, one_end}
use Rattle.chumsky_text.specs.TextLanguage.{
  past_ends,
  run_ends,
  one_leading,
  has_begun,
  word_front,
  line_end_front,
  StopsAll,
  begun_ends,
  IsWord,
  IsLineEnd,
  front_language,
  run_language,
  word_language,
  keyword_language,
  newline_language,
  skip_language,
  padded_language,
}
use Rattle.chumsky_text.specs.TextRun.{EndsBy, Cut, SpelledBy, MeansRun, AfterToken, AfterFirst, MeansBegun, MeansWord, MeansNewline, MeansKeyword, SkipsRun, MeansPadded}
use Rattle.chumsky_text.specs.TextRunLaws.{NoOrMoves, word-moves, newline-moves, keyword-moves, skips-ends}

-- the front of a list up to where its leading items end
pub take_leading : {A : Type 0} (test : A → Bool) (xs : List A) → take (length (leading test xs)) xs ≡ leading test xs
take_leading test [] = refl
take_leading test (x ∷ xs) =
    elim (test x) as (λ c. take (length (cond c (x ∷ leading test xs) [])) (x ∷ xs) ≡ cond c (x ∷ leading test xs) [])
    [ true ↦ ap (λ t. x ∷ t) (take_leading test xs) | false ↦ refl ]

take_one : {A : Type 0} (test : A → Bool) (xs : List A) → take (length (one_leading test xs)) xs ≡ one_leading test xs
take_one test [] = refl
take_one test (x ∷ xs) = elim (test x) as (λ c. take (length (cond c (x ∷ []) [])) (x ∷ xs) ≡ cond c (x ∷ []) []) [ true ↦ refl | false ↦ refl ]

-- the tokens taken, and what is left, are all
pub front_rest : {A : Type 0} (front xs : List A) → take (length front) xs ≡ front → xs ≡ front ++ drop (length front) xs
front_rest [] xs e = refl
front_rest (f ∷ fs) [] e = absurd (cc e)
front_rest (f ∷ fs) (x ∷ xs) e = let h : x ≡ f = cc e in let t : take (length fs) xs ≡ fs = cc e in cc (h, front_rest fs xs t)

-- no more than there are
front_few : {A : Type 0} (front xs : List A) → take (length front) xs ≡ front → length front ≤ length xs
front_few [] xs e = omega arith
front_few (f ∷ fs) [] e = absurd (cc e)
front_few (f ∷ fs) (x ∷ xs) e = let t : take (length fs) xs ≡ fs = cc e in let l = front_few fs xs t in omega (arith, l)

pub leading_pass : {A : Type 0} (test : A → Bool) (xs : List A) → AllPass test (leading test xs)
leading_pass test [] = tt
leading_pass test (t ∷ ts) = by_test (test t) refl (leading_pass test ts)
  where
    by_test : (c : Bool) → test t ≡ c → AllPass test (leading test ts) → AllPass test (cond c (t ∷ leading test ts) [])
    by_test true d h = (d, h)
    by_test false d h = tt

-- a run ends where the next token doesn't pass
pub leading_stops : {A : Type 0} (test : A → Bool) (ws rest : List A) → AllPass test ws → StopsAt test rest → leading test (ws ++ rest) ≡ ws
leading_stops test [] [] h s = refl
leading_stops test [] (t ∷ ts) h s = rw s refl
leading_stops test (w ∷ ws) rest h s = rw h.0 (ap (λ u. w ∷ u) (leading_stops test ws rest h.1 s))

drop_past : {A : Type 0} (n p : ℕ) (xs : List A) → drop n (drop p xs) ≡ drop (p + n) xs
drop_past n zero xs = let e : n ≡ zero + n = omega arith in ap (λ k. drop k xs) e
drop_past n (suc p) [] = drop-nil n ∙ sym (drop-nil (suc p + n))
drop_past n (suc p) (x ∷ xs) = let e : suc (p + n) ≡ suc p + n = omega arith in drop_past n p xs ∙ ap (λ k. drop k (x ∷ xs)) e

if_weaker : {V : Type 0} (P Q : V → Type 0) → ((v : V) → P v → Q v) → (v : Option V) → IfValue P v → IfValue Q v
if_weaker P Q k (Some v) i = k v i
if_weaker P Q k None i = tt

-- what takes the front of the text, if it may, and gives its slice
module _ {Tok W : Type 0} (is : Layout Tok → ℕ → ℕ → W → Type 0) (ends : Ender Tok) (front : List Tok → List Tok) (word : List Tok → Type 0)
    (taken : (ts rest : List Tok) → ends ts ≡ At rest → (take (length (front ts)) ts ≡ front ts) × (drop (length (front ts)) ts ≡ rest) × word (front ts)) where
  begins_front : (Q : List Tok → Type 0) (ts rest : List Tok) → ends ts ≡ At rest → (word (front ts) → Q (front ts)) → Begins Q ts rest
  begins_front Q ts rest e k = let x = taken ts rest e in record { word = front ts; all = front_rest (front ts) ts x.0 ∙ ap (λ u. front ts ++ u) x.1; is = k x.2 }

  front_only : TakesOnly ends word
  front_only = record { taken = λ ts rest e. begins_front word ts rest e (λ x. x) }

  front_given : GivesOnly ends (λ ts. IsSliceOf is (front ts)) (λ w v. word w × IsSliceOf is w v)
  front_given = record { given = λ ts rest v e i. begins_front (λ w. word w × IsSliceOf is w v) ts rest e (λ x. (x, i)) }

  front_accepts : {Cx St Er spare : Type 0} (m : Meaning Tok Cx St Er W) (follow : List Tok → Type 0) (moves : Bool)
      → Reads m ends (λ ts. IsSliceOf is (front ts)) → TakesEach ends word follow → NeverRefused ends
      → (moves ≡ true → EndsFurther ends) → (moves ≡ true → Moves m)
      → (spare → NeverOutOfMemory m) → Accepts m (front_language is ends front word follow moves) spare
  front_accepts m follow moves h k n f y q = record {
    described = λ s. record { reads = h; only = front_only; given = front_given; each = λ u. k; decided = never-below n; further = f };
    moving = y;
    sparing = λ x t. q x;
  }

module _ {I Tok Sp Cu Er St W : Type 0} (source : input_trait.Ghosts I Cu Tok Sp) (errors : error_trait.Ghosts Er I Tok Sp) where
  ends_by : (P : W → Type 0) (what : List (Wanted Tok)) (x : Ending (List Tok)) (l : Layout Tok) (ts : List Tok)
      (p o : Outcome W errors.Seen St)
      → Answers P x ts p.verdict p.end → EndsBy source errors what l p o → Answers P x ts o.verdict o.end
  ends_by P [] x l ts p o h e = rw e h
  ends_by P (w ∷ ws) x l ts p o h (inl r) = refuses-by P x ts o r
  ends_by P (w ∷ ws) x l ts p o h (inr (inl e)) = rw e h
  ends_by P (w ∷ ws) x l ts p o h (inr (inr y)) = rw y.2 tt

  cut_spares : errors.takes_no_memory → (ws : List (Wanted Tok)) (l : Layout Tok) (v : Option W) (end : ℕ) (state : St) (o : Outcome W errors.Seen St)
      → EndsBy source errors ws l (record { verdict = Yes v; end = end; state = state; events = []; emitted = [] }) o → SparesMemory o.verdict
  cut_spares quiet [] l v end state o e = rw e tt
  cut_spares quiet (w ∷ ws) l v end state o (inl r) = absurd (r.0 quiet)
  cut_spares quiet (w ∷ ws) l v end state o (inr (inl e)) = rw e tt
  cut_spares quiet (w ∷ ws) l v end state o (inr (inr y)) = rw y.2 tt

module _ {I Tok Sp Cu Er St Mk Cx W : Type 0} (source : input_trait.Ghosts I Cu Tok Sp)
    (is : Layout Tok → ℕ → ℕ → W → Type 0) (errors : error_trait.Ghosts Er I Tok Sp)
    (states : inspector_trait.Ghosts St I Mk Tok Sp) where
  -- what lies between the start and the end of a front
  cut_range : (b : Beginning Tok Cx states.Seen) (front : List Tok) (end : ℕ)
      → take (length front) (drop b.start b.tokens.list) ≡ front → end ≡ b.start + length front
      → slice_range b.tokens.list b.start end ≡ front
  cut_range b front end fits at =
      let gap : b.start + length front - b.start ≡ length front = omega arith in
      ap (λ k. slice_range b.tokens.list b.start k) at ∙ ap (λ k. take k (drop b.start b.tokens.list)) gap ∙ fits

  -- a cut of the front of what is left
  cut_by : (what : List (Wanted Tok)) (b c : Beginning Tok Cx states.Seen) (front : List Tok) (end : ℕ)
      (state : states.Seen) (o : Outcome W errors.Seen states.Seen) (x : Ending (List Tok))
      → Within b → c.tokens ≡ b.tokens
      → take (length front) (drop b.start b.tokens.list) ≡ front → end ≡ b.start + length front → x ≡ At (drop (length front) (drop b.start b.tokens.list))
      → Cut source is errors states what b.start end state c o → Answers (IsSliceOf is front) x b.tokens.list o.verdict o.end
  cut_by what b c front end state o x w same fits at ends m =
      let ts : List Tok = b.tokens.list in
      let xs : List Tok = drop b.start ts in
      let n : ℕ = length front in
      let lx : length xs ≡ length ts - b.start = length-drop b.start ts in
      let few : n ≤ length xs = front_few front xs fits in
      let bl : b.start ≤ length ts = w.start in
      let within : end ≤ length ts = omega (arith, lx, few, bl, at) in
      let cut : slice_range ts b.start end ≡ front = cut_range b front end fits at in
      let past : drop n xs ≡ drop end ts = drop_past n b.start ts ∙ ap (λ k. drop k ts) (sym at) in
      let v0 : IfValue (is c.tokens b.start end) m.value = wanted_value (is c.tokens b.start end) c.wanted m.value m.is_value in
      let here : slice_range c.tokens.list b.start end ≡ front = ap (λ (l : Layout Tok). slice_range l.list b.start end) same ∙ cut in
      let v1 : IfValue (IsSliceOf is front) m.value =
      if_weaker (is c.tokens b.start end) (IsSliceOf is front)
      (λ v i. record { layout = c.tokens; from = b.start; to = end; tokens = here; is_slice = i }) m.value v0
      in
      ends_by source errors (IsSliceOf is front) what x c.tokens ts _ o (ends ∙ ap (λ r. At r) past, v1, within) m.outcome

  -- `whitespace` and its kin
  pub run-accepts : (test : Tok → Bool) (what : List (Wanted Tok))
      → Accepts (MeansRun {Cx = Cx} source is errors states test what) (run_language is test)
      (errors.takes_no_memory × states.takes_no_memory)
  run-accepts test what =
      front_accepts is (run_ends test) (leading test) (AllPass test) (λ ts rest e. (take_leading test ts, run_left ts rest e, leading_pass test ts)) _ (StopsAt test) false
      (record { here = λ b w o m. let xs : List Tok = drop b.start b.tokens.list in cut_by what b b (leading test xs) _ _ o (run_ends test xs) w refl (take_leading test xs) refl refl m.run })
      (record { each = λ w rest i j. let e = leading_stops test w rest i j in inl (rw e (ap (λ r. At r) (drop-append_seam w rest))) })
      (λ ts e. absurd (cc e)) never never (λ q b o m. cut_spares source errors q.0 what b.tokens m.run.value _ _ o m.run.outcome)
    where
      run_left : (ts rest : List Tok) → run_ends test ts ≡ At rest → drop (length (leading test ts)) ts ≡ rest
      run_left ts rest e = cc e

  module _ (begins : Tok → Bool) (front : List Tok → List Tok) (spells : List Tok → Bool) (what : List (Wanted Tok)) (next : Tok → ℕ → Meaning Tok Cx states.Seen errors.Seen W)
      (then : (b : Beginning Tok Cx states.Seen) → Within b → (t : Tok) → drop b.start b.tokens.list ≡ t ∷ drop (b.start + 1) b.tokens.list → (o : Outcome W errors.Seen states.Seen) → next t b.start (record b { start = b.start + 1; state = states.after b.state t }) o
      → let xs : List Tok = t ∷ drop (b.start + 1) b.tokens.list in
      Answers (IsSliceOf is (front xs)) (cond (spells (front xs)) (past_ends (front xs) xs) Nowhere) b.tokens.list o.verdict o.end) where
    begun_token : (b : Beginning Tok Cx states.Seen) → Within b
        → (o : Outcome W errors.Seen states.Seen) (t : Tok) (c : Bool) → slice_get b.tokens.list b.start ≡ Some t
        → begins t ≡ c → AfterToken source is errors states begins next what c t b o
        → let xs : List Tok = drop b.start b.tokens.list in
        Answers (IsSliceOf is (front xs)) (begun_ends begins front spells xs) b.tokens.list o.verdict o.end
    begun_token b w o t true e d m = let z = then b w t (token_there b.tokens.list b.start t e) o m in rw (token_there b.tokens.list b.start t e, d) z
    begun_token b w o t false e d m = misses-by _ _ b.tokens.list o (rw (token_there b.tokens.list b.start t e, d) refl) m

    begun_first : (b : Beginning Tok Cx states.Seen) → Within b
        → (o : Outcome W errors.Seen states.Seen) (found : Option Tok) → slice_get b.tokens.list b.start ≡ found
        → AfterFirst source is errors states begins next what found b o
        → let xs : List Tok = drop b.start b.tokens.list in
        Answers (IsSliceOf is (front xs)) (begun_ends begins front spells xs) b.tokens.list o.verdict o.end
    begun_first b w o None e m = misses-by _ _ b.tokens.list o (rw (none_there b.tokens.list b.start e) refl) m
    begun_first b w o (Some t) e m = begun_token b w o t (begins t) e refl m

    begun_reads : Reads (MeansBegun source is errors states begins next what) (begun_ends begins front spells) (λ ts. IsSliceOf is (front ts))
    begun_reads = record { here = λ b w o m. begun_first b w o _ refl m.by_token }

module _ {Tok : Type 0} (begins : Tok → Bool) (front : List Tok → List Tok) (spells : List Tok → Bool) where
  begun_decided : NeverRefused (begun_ends begins front spells)
  begun_decided ts e = by_tests (has_begun begins ts) (spells (front ts)) e
    where
      by_tests : (c d : Bool) → cond c (cond d (past_ends (front ts) ts) Nowhere) Nowhere ≡ Refused → ⊥
      by_tests true true e = absurd (cc e)
      by_tests true false e = absurd (cc e)
      by_tests false d e = absurd (cc e)

  begun_taken : (ts rest : List Tok) → begun_ends begins front spells ts ≡ At rest → (has_begun begins ts ≡ true) × (spells (front ts) ≡ true) × (drop (length (front ts)) ts ≡ rest)
  begun_taken ts rest e = by_tests (has_begun begins ts) (spells (front ts)) refl refl e
    where
      by_tests : (c d : Bool) → has_begun begins ts ≡ c → spells (front ts) ≡ d
          → cond c (cond d (past_ends (front ts) ts) Nowhere) Nowhere ≡ At rest
          → (has_begun begins ts ≡ true) × (spells (front ts) ≡ true) × (drop (length (front ts)) ts ≡ rest)
      by_tests true true a b e = (a, b, cc e)
      by_tests true false a b e = absurd (cc e)
      by_tests false d a b e = absurd (cc e)

  -- a first token is taken
  begun_further : ((t : Tok) (ts : List Tok) → (us : List Tok) × (front (t ∷ ts) ≡ t ∷ us)) → EndsFurther (begun_ends begins front spells)
  begun_further h [] rest e = absurd (cc e)
  begun_further h (t ∷ ts) rest e =
      let x = begun_taken (t ∷ ts) rest e in
      let u = h t ts in
      let l : length (front (t ∷ ts)) ≡ suc (length u.0) = ap length u.1 in
      let r : drop (suc (length u.0)) (t ∷ ts) ≡ rest = ap (λ n. drop n (t ∷ ts)) (sym l) ∙ x.2 in
      let d : length (drop (length u.0) ts) ≡ length ts - length u.0 = length-drop (length u.0) ts in
      let z : length (drop (length u.0) ts) ≡ length rest = ap length r in
      omega (arith, d, z)

module _ {Tok Cx St Er V : Type 0} (m : Meaning Tok Cx St Er V) where
  -- what says no, or ends past its start, moves
  pub no_or-moves : NoOrMoves m → Moves m
  no_or-moves h b o k y = elim (h b o k (yes-answers o.verdict y)) [ inl e ↦ absurd (subst IsYes e y) | inr l ↦ l ]

module _ {Tok : Type 0} (goes_on : Tok → Tok → Bool) where
  word_fits : (ts : List Tok) → take (length (word_front goes_on ts)) ts ≡ word_front goes_on ts
  word_fits [] = refl
  word_fits (t ∷ ts) = ap (λ z. t ∷ z) (take_leading (goes_on t) ts)

  line_end_fits : (ts : List Tok) → take (length (line_end_front goes_on ts)) ts ≡ line_end_front goes_on ts
  line_end_fits [] = refl
  line_end_fits (t ∷ ts) = ap (λ z. t ∷ z) (take_one (goes_on t) ts)

module _ {Tok : Type 0} (begins : Tok → Bool) (goes_on : Tok → Tok → Bool) where
  word_is : (ts : List Tok) → has_begun begins ts ≡ true → IsWord begins goes_on (word_front goes_on ts)
  word_is [] e = absurd (cc e)
  word_is (t ∷ ts) e = (e, leading_pass (goes_on t) ts)

  line_end_is : (ts : List Tok) → has_begun begins ts ≡ true → IsLineEnd begins goes_on (line_end_front goes_on ts)
  line_end_is [] e = absurd (cc e)
  line_end_is (t ∷ []) e = e
  line_end_is (t ∷ u ∷ ts) e = by_next (goes_on t u) refl
    where
      by_next : (c : Bool) → goes_on t u ≡ c → IsLineEnd begins goes_on (t ∷ cond c (u ∷ []) [])
      by_next true d = (e, d)
      by_next false d = e

  word_each : (spells : List Tok → Bool) (w rest : List Tok) → IsWord begins goes_on w → spells w ≡ true → StopsAll goes_on rest → begun_ends begins (word_front goes_on) spells (w ++ rest) ≡ At rest
  word_each spells [] rest i s j = absurd i
  word_each spells (t ∷ ts) rest i s j =
      let e : leading (goes_on t) (ts ++ rest) ≡ ts = leading_stops (goes_on t) ts rest i.1 (j t) in
      let d : begins t ≡ true = i.0 in
      rw (d, e, s) (ap (λ r. At r) (drop-append_seam ts rest))

  line_end_each : (w rest : List Tok) → IsLineEnd begins goes_on w → StopsAll goes_on rest → begun_ends begins (line_end_front goes_on) (λ w. true) (w ++ rest) ≡ At rest
  line_end_each [] rest i j = absurd i
  line_end_each (t ∷ []) [] i j = rw i refl
  line_end_each (t ∷ []) (u ∷ us) i j = let e : goes_on t u ≡ false = j t in rw (i, e) refl
  line_end_each (t ∷ u ∷ []) rest i j = let d : begins t ≡ true = i.0 in let e : goes_on t u ≡ true = i.1 in rw (d, e) refl
  line_end_each (t ∷ u ∷ s ∷ ts) rest i j = absurd i

-- the token at a place, where it passes, begins what is left there
one_there : {Tok : Type 0} (test : Tok → Bool) (ts : List Tok) (p : ℕ) (found : Option Tok) → slice_get ts p ≡ found → one_more test found ≡ one_leading test (drop p ts)
one_there test ts p None e = rw (none_there ts p e) refl
one_there test ts p (Some t) e = rw (token_there ts p t e) refl

module _ {I Tok Sp Cu Er St Mk Cx W : Type 0} (source : input_trait.Ghosts I Cu Tok Sp)
    (is : Layout Tok → ℕ → ℕ → W → Type 0) (errors : error_trait.Ghosts Er I Tok Sp)
    (states : inspector_trait.Ghosts St I Mk Tok Sp) (begins : Tok → Bool) where
  module _ (next : Tok → ℕ → Meaning Tok Cx states.Seen errors.Seen W) (what : List (Wanted Tok)) (quiet : errors.takes_no_memory) (then : (t : Tok) (from : ℕ) → NeverOutOfMemory (next t from)) where
    token_spares : (c : Bool) (t : Tok) (b : Beginning Tok Cx states.Seen) (o : Outcome W errors.Seen states.Seen)
        → AfterToken source is errors states begins next what c t b o → SparesMemory o.verdict
    token_spares true t b o m = then t b.start (record b { start = b.start + 1; state = states.after b.state t }) o m
    token_spares false t b o m = misses-spares quiet m

    first_spares : (found : Option Tok) (b : Beginning Tok Cx states.Seen) (o : Outcome W errors.Seen states.Seen)
        → AfterFirst source is errors states begins next what found b o → SparesMemory o.verdict
    first_spares None b o m = misses-spares quiet m
    first_spares (Some t) b o m = token_spares (begins t) t b o m

    begun_spares : NeverOutOfMemory (MeansBegun source is errors states begins next what)
    begun_spares b o m = first_spares (slice_get b.tokens.list b.start) b o m.by_token

  module _ (goes_on : Tok → Tok → Bool) (what : List (Wanted Tok)) where
    -- `int`, `digits`, `ident`
    pub word-accepts : (rest_what : Tok → List (Wanted Tok))
        → Accepts (MeansWord {Cx = Cx} source is errors states begins goes_on what rest_what)
        (word_language is begins goes_on) (errors.takes_no_memory × states.takes_no_memory)
    word-accepts rest_what =
        let front : List Tok → List Tok = word_front goes_on in
        let ends : Ender Tok = begun_ends begins front (λ w. true) in
        front_accepts is ends front (IsWord begins goes_on)
        (λ ts rest e. let x = begun_taken begins front (λ w. true) ts rest e
        in (word_fits goes_on ts, x.2, word_is begins goes_on ts x.0))
        _ (StopsAll goes_on) true
        (begun_reads source is errors states begins front (λ w. true) what _ (λ b w t e o m.
        let ys : List Tok = drop (b.start + 1) b.tokens.list in
        let fits : take (suc (length (leading (goes_on t) ys))) (drop b.start b.tokens.list) ≡ t ∷ leading (goes_on t) ys =
        ap (λ z. take (suc (length (leading (goes_on t) ys))) z) e
        ∙ ap (λ z. t ∷ z) (take_leading (goes_on t) ys) in
        cut_by source is errors states (rest_what t) b
        (record b { start = b.start + 1; state = states.after b.state t }) (t ∷ leading (goes_on t) ys) _ _ o _ w
        refl fits (omega arith) (ap (λ z. At (drop (suc (length (leading (goes_on t) ys))) z)) (sym e)) m))
        (record { each = λ w rest i j. inl (word_each begins goes_on (λ w. true) w rest i refl j) })
        (begun_decided begins front (λ w. true))
        (λ d. begun_further begins front (λ w. true) (λ t ts. (leading (goes_on t) ts, refl)))
        (λ d. no_or-moves _ (word-moves source is errors states begins goes_on what rest_what))
        (λ q. begun_spares _ what q.0 (λ t from b o m. cut_spares source errors q.0 (rest_what t) b.tokens m.value _ _ o m.outcome))

    -- `newline`
    pub newline-accepts : Accepts (MeansNewline {Cx = Cx} source is errors states begins goes_on what) (newline_language is begins goes_on) (errors.takes_no_memory × states.takes_no_memory)
    newline-accepts =
        let front : List Tok → List Tok = line_end_front goes_on in
        let ends : Ender Tok = begun_ends begins front (λ w. true) in
        front_accepts is ends front (IsLineEnd begins goes_on)
        (λ ts rest e. let x = begun_taken begins front (λ w. true) ts rest e
        in (line_end_fits goes_on ts, x.2, line_end_is begins goes_on ts x.0))
        _ (StopsAll goes_on) true
        (begun_reads source is errors states begins front (λ w. true) what _ (λ b w t e o m.
        let ys : List Tok = drop (b.start + 1) b.tokens.list in
        let us : List Tok = one_leading (goes_on t) ys in
        let n : length (one_more (goes_on t) (slice_get b.tokens.list (b.start + 1))) ≡ length us = ap length (one_there (goes_on t) b.tokens.list (b.start + 1) _ refl) in
        let at : one_end (goes_on t) b.tokens (b.start + 1) ≡ b.start + length (t ∷ us) = omega (arith, n) in
        let fits : take (suc (length us)) (drop b.start b.tokens.list) ≡ t ∷ us = ap (λ z. take (suc (length us)) z) e ∙ ap (λ z. t ∷ z) (take_one (goes_on t) ys) in
        cut_by source is errors states [] b (record b { start = b.start + 1; state = states.after b.state t }) (t ∷ us) _ _ o _ w refl fits at (ap (λ z. At (drop (suc (length us)) z)) (sym e)) m))
        (record { each = λ w rest i j. inl (line_end_each begins goes_on w rest i j) })
        (begun_decided begins front (λ w. true))
        (λ d. begun_further begins front (λ w. true) (λ t ts. (one_leading (goes_on t) ts, refl)))
        (λ d. no_or-moves _ (newline-moves source is errors states begins goes_on what))
        (λ q. begun_spares _ what q.0 (λ t from b o m. cut_spares source errors q.0 [] b.tokens m.value _ _ o m.outcome))

    module _ (spells : List Tok → Bool) where
      spelled_by : (b : Beginning Tok Cx states.Seen) → Within b → (t : Tok) → drop b.start b.tokens.list ≡ t ∷ drop (b.start + 1) b.tokens.list → (o : Outcome W errors.Seen states.Seen)
          → let ys : List Tok = drop (b.start + 1) b.tokens.list in
          let front : List Tok = t ∷ leading (goes_on t) ys in
          (c : Bool) → spells (slice_range b.tokens.list b.start (run_end (goes_on t) b.tokens (b.start + 1))) ≡ c
          → SpelledBy source is errors states c b.start (goes_on t) what
          (record b { start = b.start + 1; state = states.after b.state t }) o
          → Answers (IsSliceOf is front) (cond (spells front) (past_ends front (t ∷ ys)) Nowhere) b.tokens.list o.verdict o.end
      spelled_by b w t e o c s m =
          let ys : List Tok = drop (b.start + 1) b.tokens.list in
          let us : List Tok = leading (goes_on t) ys in
          let fits : take (suc (length us)) (drop b.start b.tokens.list) ≡ t ∷ us = ap (λ z. take (suc (length us)) z) e ∙ ap (λ z. t ∷ z) (take_leading (goes_on t) ys) in
          let at : run_end (goes_on t) b.tokens (b.start + 1) ≡ b.start + length (t ∷ us) = omega arith in
          let cut : slice_range b.tokens.list b.start (run_end (goes_on t) b.tokens (b.start + 1)) ≡ t ∷ us = cut_range source is errors states b (t ∷ us) _ fits at in
          by_spelling c (ap spells (sym cut) ∙ s) fits at m
        where
          by_spelling : (c : Bool) → spells (t ∷ leading (goes_on t) (drop (b.start + 1) b.tokens.list)) ≡ c
              → take (suc (length (leading (goes_on t) (drop (b.start + 1) b.tokens.list)))) (drop b.start b.tokens.list) ≡ t ∷ leading (goes_on t) (drop (b.start + 1) b.tokens.list)
              → run_end (goes_on t) b.tokens (b.start + 1) ≡ b.start + length (t ∷ leading (goes_on t) (drop (b.start + 1) b.tokens.list))
              → SpelledBy source is errors states c b.start (goes_on t) what (record b { start = b.start + 1; state = states.after b.state t }) o
              → Answers (IsSliceOf is (t ∷ leading (goes_on t) (drop (b.start + 1) b.tokens.list)))
              (cond (spells (t ∷ leading (goes_on t) (drop (b.start + 1) b.tokens.list)))
              (past_ends (t ∷ leading (goes_on t) (drop (b.start + 1) b.tokens.list)) (t ∷ drop (b.start + 1) b.tokens.list))
              Nowhere)
              b.tokens.list o.verdict o.end
          by_spelling true s fits at m =
              let us : List Tok = leading (goes_on t) (drop (b.start + 1) b.tokens.list) in
              let z =
              cut_by source is errors states [] b
              (record b { start = b.start + 1; state = states.after b.state t }) (t ∷ us) _ _ o
              (At (drop (length us) (drop (b.start + 1) b.tokens.list))) w refl fits
              at (ap (λ z. At (drop (suc (length us)) z)) (sym e)) m in
              rw s z
          by_spelling false s fits at m = misses-by _ _ b.tokens.list o (rw s refl) m

      spelled_spares : errors.takes_no_memory
          → (c : Bool) (test : Tok → Bool) (from : ℕ) (b : Beginning Tok Cx states.Seen) (o : Outcome W errors.Seen states.Seen)
          → SpelledBy source is errors states c from test what b o → SparesMemory o.verdict
      spelled_spares quiet true test from b o m = cut_spares source errors quiet [] b.tokens m.value _ _ o m.outcome
      spelled_spares quiet false test from b o m = misses-spares quiet m

      -- `keyword`
      pub keyword-accepts : Accepts (MeansKeyword {Cx = Cx} source is errors states spells begins goes_on what)
          (keyword_language is spells begins goes_on) (errors.takes_no_memory × states.takes_no_memory)
      keyword-accepts =
          let front : List Tok → List Tok = word_front goes_on in
          let ends : Ender Tok = begun_ends begins front spells in
          front_accepts is ends front (λ w. IsWord begins goes_on w × (spells w ≡ true))
          (λ ts rest e. let x = begun_taken begins front spells ts rest e in (word_fits goes_on ts, x.2, (word_is begins goes_on ts x.0, x.1))) _ (StopsAll goes_on) true
          (begun_reads source is errors states begins front spells what _ (λ b w t e o m. spelled_by b w t e o _ refl m))
          (record { each = λ w rest i j. inl (word_each begins goes_on spells w rest i.0 i.1 j) })
          (begun_decided begins front spells)
          (λ d. begun_further begins front spells (λ t ts. (leading (goes_on t) ts, refl)))
          (λ d. no_or-moves _ (keyword-moves source is errors states spells begins goes_on what))
          (λ q. begun_spares _ what q.0 (λ t from b o m. spelled_spares q.0 _ (goes_on t) from b o m))

module _ {I Tok Sp Er St Mk Cx : Type 0} (errors : error_trait.Ghosts Er I Tok Sp) (states : inspector_trait.Ghosts St I Mk Tok Sp) (test : Tok → Bool) where
  skip_here : (b : Beginning Tok Cx states.Seen) → Within b → (o : Outcome (Unit {0}) errors.Seen states.Seen)
      → SkipsRun errors states test b o
      → Answers (λ v. ⊤) (run_ends test (drop b.start b.tokens.list)) b.tokens.list o.verdict o.end
  skip_here b w o m =
      let ts : List Tok = b.tokens.list in
      let xs : List Tok = drop b.start ts in
      let lx : length xs ≡ length ts - b.start = length-drop b.start ts in
      let few : length (leading test xs) ≤ length xs = front_few (leading test xs) xs (take_leading test xs) in
      let bl : b.start ≤ length ts = w.start in
      let within : b.start + length (leading test xs) ≤ length ts = omega (arith, lx, few, bl) in
      rw m.outcome (ap (λ r. At r) (drop_past (length (leading test xs)) b.start ts), tt, within)

  skip_accepts : {spare : Type 0} → Accepts (SkipsRun {Cx = Cx} errors states test) (skip_language test) spare
  skip_accepts = record {
    described = λ s. record {
      reads = record { here = skip_here };
      only = skip_only;
      given = record { given = λ ts rest v e i. skip_only.taken ts rest e };
      each = λ u. record { each = λ w rest i j. let e = leading_stops test w rest i j in inl (rw e (ap (λ r. At r) (drop-append_seam w rest))) };
      decided = never-below (λ ts e. absurd (cc e));
      further = never;
    };
    moving = never;
    sparing = λ q t b o m. rw (ap (λ (x : Outcome (Unit {0}) errors.Seen states.Seen). x.verdict) m.outcome) tt;
  }
    where
      skip_only : TakesOnly (run_ends test) (AllPass test)
      skip_only =
          record {
            taken = λ ts rest e. let z : drop (length (leading test ts)) ts ≡ rest = cc e
                in record {
                  word = leading test ts;
                  all = front_rest (leading test ts) ts (take_leading test ts) ∙ ap (λ u. leading test ts ++ u) z;
                  is = leading_pass test ts;
                };
          }

module _ {Tok Cx St Er V W : Type 0} (m n : Meaning Tok Cx St Er V) (k l : Option V → Meaning Tok Cx St Er W) where
  -- a sequence of parts with fewer outcomes has fewer
  chained_fewer : ((b : Beginning Tok Cx St) (o : Outcome V Er St) → m b o → n b o)
      → ((v : Option V) (b : Beginning Tok Cx St) (o : Outcome W Er St) → k v b o → l v b o)
      → (b : Beginning Tok Cx St) (o : Outcome W Er St) → Chained m k b o → Chained n l b o
  chained_fewer f g b o x = record { first = x.first; meant = f b x.first x.meant; follows = by_verdict b x.first o x.first.verdict x.follows }
    where
      by_verdict : (b : Beginning Tok Cx St) (p : Outcome V Er St) (o : Outcome W Er St) (u : Verdict V Er) → Follows u k b p o → Follows u l b p o
      by_verdict b p o (Yes v) y = (y.0, g v (from b p) y.0 y.1, y.2)
      by_verdict b p o No y = y
      by_verdict b p o (Halt s) y = y
      by_verdict b p o (Clash e) y = y

module _ {I Tok Sp Er St Mk Cx V : Type 0} (errors : error_trait.Ghosts Er I Tok Sp)
    (states : inspector_trait.Ghosts St I Mk Tok Sp) (test : Tok → Bool)
    (part : Meaning Tok Cx states.Seen errors.Seen V) where
  skip_asked : (b : Beginning Tok Cx states.Seen) (o : Outcome (Unit {0}) errors.Seen states.Seen) → SkipsRun errors states test b o → Asked false (SkipsRun errors states test) b o
  skip_asked b o m = record { run = record { outcome = m.outcome } }

  padded_between : (b : Beginning Tok Cx states.Seen) (o : Outcome V errors.Seen states.Seen)
      → MeansPadded errors states test part b o
      → Between (SkipsRun errors states test) part (SkipsRun errors states test) b o
  padded_between b o m =
      chained_fewer (SkipsRun errors states test) (Asked false (SkipsRun errors states test))
      (λ _. Chained part (λ v. Chained (SkipsRun errors states test) (λ _. Given v)))
      (λ _. IgnoringSecond part (SkipsRun errors states test)) skip_asked
      (λ _. chained_fewer part part (λ v. Chained (SkipsRun errors states test) (λ _. Given v)) (λ v. Chained (Asked false (SkipsRun errors states test)) (λ _. Given v)) (λ c p x. x)
      (λ v. chained_fewer (SkipsRun errors states test) (Asked false (SkipsRun errors states test)) (λ _. Given v) (λ _. Given v) skip_asked (λ _ c p x. x))) b o m.run

  -- `padded`
  pub padded-accepts : {F : Language Tok V} {spare : Type 0} → EndsAfterStart part → Accepts part F spare → Accepts (MeansPadded errors states test part) (padded_language test F) spare
  padded-accepts {F} ends h =
      fewer-accepts (MeansPadded errors states test part) (Between (SkipsRun errors states test) part (SkipsRun errors states test)) padded_between (padded_language test F)
      (between-accepts (SkipsRun errors states test) part (SkipsRun errors states test)
      (skips-ends errors states test part) ends (skips-ends errors states test part)
      (skip_accepts errors states test) h (skip_accepts errors states test))
