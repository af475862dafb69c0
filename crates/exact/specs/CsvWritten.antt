-- How records are printed: a field in quotes only where it needs them, and a line end after each record.
-- Main words: field_text, record_text, csv_text, AreWritable. Main laws: csv-written, written-again. Read first: Csv.antt.
use Rattle.std.proofs.Common.{◌≡◌, ℕ, ◌<◌, Bool, true, false, cond, List, [], ◌∷◌, ◌++◌, append_assoc, flat_map, length, refl, sym, ◌∙◌, ap, subst, arith, inl, inr}
use Rattle.std.proofs.lemmas.List.{append-nil}
use Rattle.std.specs.List.{list_all}
use Rattle.std.specs.Prelude.{◌==◌}
use Rattle.chumsky_parser.specs.Words.{AllPass}
use Rattle.chumsky_parser.specs.ProgressLaws.{both-true}
use Rattle.chumsky_exact.specs.Rendered.{OfEach}
use Rattle.exact.specs.Csv.{is_text_data, doubled, IsCsvField, IsRecord, AreRecords, IsCsv, without_line_end}
use Rattle.exact.specs.CsvLaws.{without-return}
use Rattle.exact.specs.Divided.{Divided, one_value, more_values}

-- a field between quotes; and a field, which has them where it needs them
abbrev pub quoted_text : List ℕ → List ℕ
quoted_text field = 34 ∷ (doubled field ++ 34 ∷ [])

abbrev pub field_text : List ℕ → List ℕ
field_text field = cond (list_all is_text_data field) field (quoted_text field)

-- a comma and a field
abbrev pub led_text : List ℕ → List ℕ
led_text field = 44 ∷ field_text field

-- the fields of a record, with a comma between each two; and all records, each with a line end
abbrev pub record_text : List (List ℕ) → List ℕ
record_text [] = []
record_text (field ∷ fields) = field_text field ++ flat_map led_text fields

abbrev pub line_text : List (List ℕ) → List ℕ
line_text fields = record_text fields ++ 13 ∷ 10 ∷ []

abbrev pub csv_text : List (List (List ℕ)) → List ℕ
csv_text records = flat_map line_text records

-- there is a record, and a field in each
abbrev pub AreWritable : List (List (List ℕ)) → Type 0
AreWritable records = (0 < length records) × OfEach (λ fields. 0 < length fields) records

-- what is doubled, character by character
pub doubled-pieces : (cs : List ℕ) → flat_map (λ c. doubled (c ∷ [])) cs ≡ doubled cs
doubled-pieces [] = refl
doubled-pieces (c ∷ cs) = ap (λ z. doubled (c ∷ []) ++ z) (doubled-pieces cs) ∙ by_quote (c == 34)
  where
    by_quote : (b : Bool) → cond b (34 ∷ 34 ∷ []) (c ∷ []) ++ doubled cs ≡ cond b (34 ∷ 34 ∷ doubled cs) (c ∷ doubled cs)
    by_quote true = refl
    by_quote false = refl

all-text_data : (cs : List ℕ) → list_all is_text_data cs ≡ true → AllPass is_text_data cs
all-text_data [] e = tt
all-text_data (c ∷ cs) e = let p = both-true (is_text_data c) (list_all is_text_data cs) e in (p.0, all-text_data cs p.1)

field-written : (cs : List ℕ) → IsCsvField (field_text cs) cs
field-written cs = by_text_data (list_all is_text_data cs) refl
  where
    by_text_data : (b : Bool) → list_all is_text_data cs ≡ b → IsCsvField (cond b cs (quoted_text cs)) cs
    by_text_data true e = inl (refl, all-text_data cs e)
    by_text_data false e = inr refl

record-written : (field : List ℕ) (fields : List (List ℕ)) → IsRecord (record_text (field ∷ fields)) (field ∷ fields)
record-written f [] = subst (λ z. IsRecord z (f ∷ [])) (sym (append-nil (field_text f))) (one_value (field-written f))
record-written f (g ∷ gs) = more_values {s = 44 ∷ []} (field-written f) refl (record-written g gs)

some-written : (fields : List (List ℕ)) → 0 < length fields → IsRecord (record_text fields) fields
some-written [] l = absurd (omega (arith, l))
some-written (f ∷ fs) l = record-written f fs

records-written : (fields : List (List ℕ)) (more : List (List (List ℕ))) → OfEach (λ r. 0 < length r) (fields ∷ more)
    → (w : List ℕ) × (csv_text (fields ∷ more) ≡ w ++ 13 ∷ 10 ∷ []) × AreRecords w (fields ∷ more)
records-written r [] h = (record_text r, append-nil (line_text r), one_value (some-written r h.0))
records-written r (q ∷ qs) h =
    let k = records-written q qs h.1 in
    let line : List ℕ = record_text r in
    let end : List ℕ = 13 ∷ 10 ∷ [] in
    let a : (line ++ end) ++ csv_text (q ∷ qs) ≡ line ++ (end ++ (k.0 ++ end)) = ap (λ z. (line ++ end) ++ z) k.1 ∙ append_assoc line end (k.0 ++ end) in
    let b : line ++ (end ++ (k.0 ++ end)) ≡ (line ++ (end ++ k.0)) ++ end = sym (append_assoc line (end ++ k.0) end) in
    (line ++ (end ++ k.0), a ∙ b, more_values {s = end} (some-written r h.0) refl k.2)

-- what is printed is a text of these records
pub csv-written : (records : List (List (List ℕ))) → AreWritable records → IsCsv (csv_text records) records
csv-written [] h = absurd (omega (arith, h.0))
csv-written (r ∷ rs) h =
    let k = records-written r rs h.1 in
    let e : without_line_end (csv_text (r ∷ rs)) ≡ k.0 = ap without_line_end k.1 ∙ without-return k.0 in
    subst (λ z. AreRecords z (r ∷ rs)) (sym e) k.2

some_values : {V : Type 0} {P : List ℕ → V → Type 0} {S : List ℕ → Type 0} {w : List ℕ} {vs : List V} → Divided P S w vs → 0 < length vs
some_values (one_value i) = omega arith
some_values (more_values i d m) = omega arith

each_some : {w : List ℕ} {records : List (List (List ℕ))} → AreRecords w records → OfEach (λ r. 0 < length r) records
each_some (one_value i) = (some_values i, tt)
each_some (more_values i d m) = (some_values i, each_some m)

-- and the records of a text are such
pub written-again : (cs : List ℕ) (records : List (List (List ℕ))) → IsCsv cs records → AreWritable records
written-again cs records i = (some_values i, each_some i)
