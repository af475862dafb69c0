-- What is written at the end of a text by the printer of comma-separated values.
-- Main laws: fields_printed, of-map.
use Rattle.std.proofs.Common.{◌≡◌, List, [], ◌∷◌, ◌++◌, ℕ, flat_map, map, append_assoc, refl, sym, ◌∙◌, ap}
use Rattle.std.specs.Prelude.{String}
use Rattle.std.specs.declared.alloc.Global.{Global}
use Rattle.exact.specs.Csv.{field_of}
use Rattle.exact.specs.CsvWritten.{field_text, led_text, record_text}

-- what is written of each is what is written of what each says
pub of-map : {V X : Type 0} (says : V → X) (text : X → List ℕ) (vs : List V) → flat_map (λ v. text (says v)) vs ≡ flat_map text (map says vs)
of-map says text [] = refl
of-map says text (v ∷ vs) = ap (λ z. text (says v) ++ z) (of-map says text vs)

-- the first of some fields was printed, and then the rest
pub fields_printed : (all rest : List (String Global)) (first : String Global) (old mid new : List ℕ) → all ≡ first ∷ rest → mid ≡ old ++ field_text (field_of first)
    → new ≡ mid ++ flat_map (λ f. led_text (field_of f)) rest
    → new ≡ old ++ record_text (map field_of all)
fields_printed all rest first old mid new e p q =
    let more : List ℕ = flat_map led_text (map field_of rest) in
    q ∙ ap (λ z. mid ++ z) (of-map field_of led_text rest) ∙ ap (λ z. z ++ more) p ∙ append_assoc old (field_text (field_of first)) more ∙ ap (λ z. old ++ record_text (map field_of z)) (sym e)
