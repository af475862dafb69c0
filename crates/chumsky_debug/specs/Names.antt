-- What is called by a name, and how often an item stands.
use Rattle.std.specs.Borrow.{Bor}
use Rattle.std.specs.Prelude.{ℕ, zero, suc, ◌==◌, if◌then◌else◌, List, ◌++◌, Option, Some, None, min, slice_get, decimal, codes}

-- the name at a place, or else a word and the place
abbrev pub name_or : List ℕ → ℕ → Option (Bor (List ℕ)) → List ℕ
name_or word place (Some name) = name.now
name_or word place None = word ++ decimal place

abbrev pub name_text : List (Bor (List ℕ)) → List ℕ → ℕ → List ℕ
name_text names word place = name_or word place (slice_get names place)

-- bounds of a number, between braces: a number alone, or with nothing after the comma where there is no cap
abbrev pub bounds_text : ℕ → Option ℕ → List ℕ
bounds_text least None = codes "{" ++ (decimal least ++ codes ",}")
bounds_text least (Some most) = if least == most then codes "{" ++ (decimal most ++ codes "}")
    else codes "{" ++ (decimal least ++ (codes "," ++ (decimal most ++ codes "}")))

-- what stands after an item: any number, one or more, one or none, or the bounds
abbrev pub times_text : ℕ → Option ℕ → List ℕ
times_text zero None = codes "*"
times_text (suc zero) None = codes "+"
times_text (suc (suc n)) None = bounds_text (suc (suc n)) None
times_text zero (Some (suc zero)) = codes "?"
times_text zero (Some zero) = bounds_text 0 (Some 0)
times_text zero (Some (suc (suc n))) = bounds_text 0 (Some (suc (suc n)))
times_text (suc n) (Some most) = bounds_text (suc n) (Some most)

-- the least number of items; where the cap is below it, the cap
abbrev pub least_of : ℕ → Option ℕ → ℕ
least_of least None = least
least_of least (Some most) = min least most
