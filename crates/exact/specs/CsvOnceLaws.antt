-- A text is of one list of records at most; so the parser of comma-separated values gives each one back.
-- Main laws: divided-once, csv-once, csv-answers. Read first: Csv.antt, CsvLaws.antt.
use Rattle.std.proofs.Common.{◌≡◌, ℕ, Bool, true, false, cond, Some, List, [], ◌∷◌, ◌++◌, append_assoc, refl, sym, ◌∙◌, ap, subst, arith, inl, inr}
use Rattle.std.proofs.lemmas.Bool.Decides.{nat_tests}
use Rattle.std.specs.Prelude.{◌==◌, ◌||◌, ◌⊎◌, Result, String}
use Rattle.std.specs.declared.alloc.Global.{Global}
use Rattle.std.specs.declared.vec.Vec.{Vec}
use Rattle.chumsky_input.specs.declared.stop.Stop.{Stop}
use Rattle.chumsky_parser.specs.Words.{AllPass, StopsAt}
use Rattle.chumsky_parser.specs.declared.result.ParseResult.{ParseResult}
use Rattle.chumsky.specs.Accepted.{AnswersText, Exactly}
use Rattle.chumsky_exact.specs.ReadBack.{GivesBack, exact-and_back}
use Rattle.exact.specs.Csv.{is_text_data, doubled, IsCsvField, IsComma, IsLineEnd, IsRecord, AreRecords, IsCsv, without_line_end, records_of, HoldsCsv}
use Rattle.exact.specs.CsvLaws.{csv_language, csv-sound, csv-complete, csv-unambiguous, line_end-is, trimmed-exact}
use Rattle.exact.specs.Divided.{Divided, one_value, more_values}
use Rattle.exact.specs.JsonNumbersOnce.{front}

-- where one value alone is at the front of a text, before what may follow it, and so is a separator, values are divided in one way
module _ {Tok V : Type 0} (IsValue : List Tok → V → Type 0) (IsSeparator Fits Ends : List Tok → Type 0)
    (fits : (x : List Tok) → Ends x → Fits x) (behind : (s rest : List Tok) → IsSeparator s → Fits (s ++ rest))
    (apart : (s rest : List Tok) → IsSeparator s → Ends (s ++ rest) → ⊥) (one : (w u x y : List Tok) (v t : V) → IsValue w v → IsValue u t → Fits x → Fits y → w ++ x ≡ u ++ y → (v ≡ t) × (x ≡ y))
    (same : (s t x y : List Tok) → IsSeparator s → IsSeparator t → s ++ x ≡ t ++ y → x ≡ y) where
  in_turn : (w s rest x : List Tok) → (w ++ (s ++ rest)) ++ x ≡ w ++ (s ++ (rest ++ x))
  in_turn w s rest x = append_assoc w (s ++ rest) x ∙ ap (λ z. w ++ z) (append_assoc s rest x)

  pub divided-once : {w u x y : List Tok} {vs ts : List V} → Divided IsValue IsSeparator w vs → Divided IsValue IsSeparator u ts → Ends x → Ends y → w ++ x ≡ u ++ y → (vs ≡ ts) × (x ≡ y)
  divided-once {x} {y} (one_value {w} {v} i) (one_value {w = u} {v = t} j) p q e = let r = one w u x y v t i j (fits x p) (fits y q) e in (ap (λ z. z ∷ []) r.0, r.1)
  divided-once {x} {y} (one_value {w} {v} i) (more_values {w = u} {s} {rest} {v = t} j d m) p q e =
      let r = one w u x (s ++ (rest ++ y)) v t i j (fits x p) (behind s (rest ++ y) d) (e ∙ in_turn u s rest y) in
      absurd (apart s (rest ++ y) d (subst Ends r.1 p))
  divided-once {x} {y} (more_values {w} {s} {rest} {v} i d m) (one_value {w = u} {v = t} j) p q e =
      let r = one w u (s ++ (rest ++ x)) y v t i j (behind s (rest ++ x) d) (fits y q) (sym (in_turn w s rest x) ∙ e) in
      absurd (apart s (rest ++ x) d (subst Ends (sym r.1) q))
  divided-once {x} {y} (more_values {w} {s} {rest} {v} i d m) (more_values {w = u} {s = c} {rest = others} {v = t} j f n) p q e =
      let r = one w u (s ++ (rest ++ x)) (c ++ (others ++ y)) v t i j (behind s (rest ++ x) d) (behind c (others ++ y) f) (sym (in_turn w s rest x) ∙ e ∙ in_turn u c others y) in
      let k = divided-once m n p q (same s c (rest ++ x) (others ++ y) d f r.1) in
      let a : v ≡ t = r.0 in
      let b = k.0 in
      (cc (a, b), k.1)

-- a field ends at a comma, CR, LF or the end; a record at CR, LF or the end
abbrev goes_on : ℕ → Bool
goes_on c = cond ((c == 44) || (c == 13) || (c == 10)) false true

abbrev goes_on_record : ℕ → Bool
goes_on_record c = cond ((c == 13) || (c == 10)) false true

abbrev EndsField : List ℕ → Type 0
EndsField = StopsAt goes_on

abbrev EndsRecord : List ℕ → Type 0
EndsRecord = StopsAt goes_on_record

stops-text_data : (x : List ℕ) → EndsField x → StopsAt is_text_data x
stops-text_data [] s = tt
stops-text_data (c ∷ cs) s = let e : goes_on c ≡ false = s in grind (arith, nat_tests)

no_quote : (x : List ℕ) → EndsField (34 ∷ x) → ⊥
no_quote x s = absurd (cc s)

-- one text is doubled in front of a single quote
doubled-once : (f g x y : List ℕ) → EndsField x → EndsField y → doubled f ++ (34 ∷ x) ≡ doubled g ++ (34 ∷ y) → (f ≡ g) × (x ≡ y)
doubled-once [] [] x y s t e = (refl, cc e)
doubled-once [] (d ∷ ds) x y s t e = by_quote (d == 34) refl e
  where
    by_quote : (b : Bool) → (d == 34) ≡ b → 34 ∷ x ≡ cond b (34 ∷ 34 ∷ doubled ds) (d ∷ doubled ds) ++ (34 ∷ y) → ([] ≡ d ∷ ds) × (x ≡ y)
    by_quote true q e = let z : x ≡ 34 ∷ (doubled ds ++ (34 ∷ y)) = cc e in absurd (no_quote (doubled ds ++ (34 ∷ y)) (subst EndsField z s))
    by_quote false q e = let z : 34 ≡ d = cc e in absurd (grind (arith, nat_tests))
doubled-once (c ∷ cs) [] x y s t e = by_quote (c == 34) refl e
  where
    by_quote : (b : Bool) → (c == 34) ≡ b → cond b (34 ∷ 34 ∷ doubled cs) (c ∷ doubled cs) ++ (34 ∷ x) ≡ 34 ∷ y → (c ∷ cs ≡ []) × (x ≡ y)
    by_quote true q e = let z : 34 ∷ (doubled cs ++ (34 ∷ x)) ≡ y = cc e in absurd (no_quote (doubled cs ++ (34 ∷ x)) (subst EndsField (sym z) t))
    by_quote false q e = let z : c ≡ 34 = cc e in absurd (grind (arith, nat_tests))
doubled-once (c ∷ cs) (d ∷ ds) x y s t e = by_quotes (c == 34) (d == 34) refl refl e (λ h. doubled-once cs ds x y s t h)
  where
    by_quotes : (a b : Bool) → (c == 34) ≡ a → (d == 34) ≡ b → cond a (34 ∷ 34 ∷ doubled cs) (c ∷ doubled cs) ++ (34 ∷ x) ≡ cond b (34 ∷ 34 ∷ doubled ds) (d ∷ doubled ds) ++ (34 ∷ y)
        → (doubled cs ++ (34 ∷ x) ≡ doubled ds ++ (34 ∷ y) → (cs ≡ ds) × (x ≡ y)) → (c ∷ cs ≡ d ∷ ds) × (x ≡ y)
    by_quotes true true p q e h =
        let r = h (cc e) in
        let k : c ≡ d = grind (arith, nat_tests) in
        let l = r.0 in
        (cc (k, l), r.1)
    by_quotes true false p q e h = let z : 34 ≡ d = cc e in absurd (grind (arith, nat_tests))
    by_quotes false true p q e h = let z : c ≡ 34 = cc e in absurd (grind (arith, nat_tests))
    by_quotes false false p q e h =
        let k : c ≡ d = cc e in
        let r = h (cc e) in
        let l = r.0 in
        (cc (k, l), r.1)

-- no field without quotes begins with one
no_text_data_quote : (f x y : List ℕ) → AllPass is_text_data f → EndsField x → f ++ x ≡ 34 ∷ y → ⊥
no_text_data_quote [] x y h s e = no_quote y (subst EndsField e s)
no_text_data_quote (c ∷ cs) x y h s e = let z : c ≡ 34 = cc e in let p : is_text_data 34 ≡ true = ap is_text_data (sym z) ∙ h.0 in absurd (cc p)

after_quote : (f x : List ℕ) → (34 ∷ (doubled f ++ 34 ∷ [])) ++ x ≡ 34 ∷ (doubled f ++ (34 ∷ x))
after_quote f x = ap (λ z. 34 ∷ z) (append_assoc (doubled f) (34 ∷ []) x)

field-once : (w u x y f g : List ℕ) → IsCsvField w f → IsCsvField u g → EndsField x → EndsField y → w ++ x ≡ u ++ y → (f ≡ g) × (x ≡ y)
field-once w u x y f g (inl i) (inl j) s t e =
    let h : f ++ x ≡ g ++ y = ap (λ z. z ++ x) (sym i.0) ∙ e ∙ ap (λ z. z ++ y) j.0 in
    front is_text_data f g x y i.1 j.1 (stops-text_data x s) (stops-text_data y t) h
field-once w u x y f g (inl i) (inr j) s t e =
    absurd (no_text_data_quote f x _ i.1 s (ap (λ z. z ++ x) (sym i.0) ∙ e ∙ ap (λ z. z ++ y) j ∙ after_quote g y))
field-once w u x y f g (inr i) (inl j) s t e =
    absurd (no_text_data_quote g y _ j.1 t (ap (λ z. z ++ y) (sym j.0) ∙ sym e ∙ ap (λ z. z ++ x) i ∙ after_quote f x))
field-once w u x y f g (inr i) (inr j) s t e =
    let a : 34 ∷ (doubled f ++ (34 ∷ x)) ≡ 34 ∷ (doubled g ++ (34 ∷ y)) = sym (after_quote f x) ∙ ap (λ z. z ++ x) (sym i) ∙ e ∙ ap (λ z. z ++ y) j ∙ after_quote g y in
    doubled-once f g x y s t (cc a)

comma_behind : (s rest : List ℕ) → IsComma s → EndsField (s ++ rest)
comma_behind s rest e = subst (λ z. EndsField (z ++ rest)) (sym e) refl

record_ends : (x : List ℕ) → EndsRecord x → EndsField x
record_ends [] s = tt
record_ends (c ∷ cs) s = let e : goes_on_record c ≡ false = s in grind (arith, nat_tests)

comma_apart : (s rest : List ℕ) → IsComma s → EndsRecord (s ++ rest) → ⊥
comma_apart s rest e r = absurd (cc (subst (λ z. EndsRecord (z ++ rest)) e r))

comma_same : (s t x y : List ℕ) → IsComma s → IsComma t → s ++ x ≡ t ++ y → x ≡ y
comma_same s t x y p q e = let z : 44 ∷ x ≡ 44 ∷ y = ap (λ c. c ++ x) (sym p) ∙ e ∙ ap (λ c. c ++ y) q in cc z

record-once : (w u x y : List ℕ) (v t : List (List ℕ)) → IsRecord w v → IsRecord u t → EndsRecord x → EndsRecord y → w ++ x ≡ u ++ y → (v ≡ t) × (x ≡ y)
record-once w u x y v t i j s e = divided-once IsCsvField IsComma EndsField EndsRecord record_ends comma_behind comma_apart field-once comma_same i j s e

line_behind : (s rest : List ℕ) → IsLineEnd s → EndsRecord (s ++ rest)
line_behind s rest i = elim (line_end-is s i) [ inl e ↦ subst (λ z. EndsRecord (z ++ rest)) (sym e) refl | inr e ↦ subst (λ z. EndsRecord (z ++ rest)) (sym e) refl ]

nothing_ends : (x : List ℕ) → x ≡ [] → EndsRecord x
nothing_ends x e = subst EndsRecord (sym e) tt

line_apart : (s rest : List ℕ) → IsLineEnd s → s ++ rest ≡ [] → ⊥
line_apart [] rest i e = absurd (cc i)
line_apart (c ∷ cs) rest i e = absurd (cc e)

line_same : (s t x y : List ℕ) → IsLineEnd s → IsLineEnd t → s ++ x ≡ t ++ y → x ≡ y
line_same s t x y i j e = by_ends (line_end-is s i) (line_end-is t j)
  where
    by_ends : (s ≡ 13 ∷ 10 ∷ []) ⊎ (s ≡ 10 ∷ []) → (t ≡ 13 ∷ 10 ∷ []) ⊎ (t ≡ 10 ∷ []) → x ≡ y
    by_ends (inl p) (inl q) = let z : 13 ∷ 10 ∷ x ≡ 13 ∷ 10 ∷ y = ap (λ c. c ++ x) (sym p) ∙ e ∙ ap (λ c. c ++ y) q in cc z
    by_ends (inl p) (inr q) = let z : 13 ∷ 10 ∷ x ≡ 10 ∷ y = ap (λ c. c ++ x) (sym p) ∙ e ∙ ap (λ c. c ++ y) q in absurd (cc z)
    by_ends (inr p) (inl q) = let z : 10 ∷ x ≡ 13 ∷ 10 ∷ y = ap (λ c. c ++ x) (sym p) ∙ e ∙ ap (λ c. c ++ y) q in absurd (cc z)
    by_ends (inr p) (inr q) = let z : 10 ∷ x ≡ 10 ∷ y = ap (λ c. c ++ x) (sym p) ∙ e ∙ ap (λ c. c ++ y) q in cc z

-- so a text is of one list of records
pub records-once : (cs : List ℕ) (v t : List (List (List ℕ))) → AreRecords cs v → AreRecords cs t → v ≡ t
records-once cs v t i j =
    let r = divided-once IsRecord IsLineEnd EndsRecord (λ x. x ≡ []) nothing_ends line_behind line_apart record-once line_same {x = []} {y = []} i j refl refl refl in
    r.0

pub csv-once : (cs : List ℕ) (v t : List (List (List ℕ))) → IsCsv cs v → IsCsv cs t → v ≡ t
csv-once cs = records-once (without_line_end cs)

-- the answer of a call that reads these characters as a comma, CR and LF, over a text without its last line end
module _ {Er spare : Type 0} {ts : List ℕ} {result : Result (ParseResult (Vec (Vec (String Global) Global) Global) Er) Stop} {comma cr lf : ℕ} where
  as_read : comma ≡ 44 → cr ≡ 13 → lf ≡ 10 → AnswersText Some (csv_language comma cr lf) ts spare result → AnswersText Some (csv_language 44 13 10) ts spare result
  as_read p q r a =
      subst (λ z. AnswersText Some (csv_language z 13 10) ts spare result) p
      (subst (λ z. AnswersText Some (csv_language comma z 10) ts spare result) q (subst (λ z. AnswersText Some (csv_language comma cr z) ts spare result) r a))

  pub csv-answers : comma ≡ 44 → cr ≡ 13 → lf ≡ 10 → (cs : List ℕ) → ts ≡ without_line_end cs → AnswersText Some (csv_language comma cr lf) ts spare result
      → Exactly HoldsCsv cs result × ((records : List (List (List ℕ))) → IsCsv cs records → GivesBack records_of records result)
  csv-answers p q r cs e a =
      let b = exact-and_back records_of AreRecords (as_read p q r a) refl csv-unambiguous (((tt, tt), inr tt), inr tt) (λ v w s. csv-sound ts v s) (records-once ts) (λ x j. csv-complete ts x j) in
      (trimmed-exact cs ts e result b.0, λ records j. b.1 records (subst (λ z. AreRecords z records) (sym e) j))
