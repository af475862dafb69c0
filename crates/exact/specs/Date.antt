-- How a date is written, as `2026-11-27`.
-- Main words: IsDate, dates. Law: date-text. Read first: Fields.antt, InTurn.antt of chumsky_exact; ThreeFields.antt.
use Rattle.std.proofs.Common.{arith}
use Rattle.std.specs.Prelude.{ℕ, true, List, [], ◌∷◌, codes}
use Rattle.std.specs.Char.{is_digit}
use Rattle.chumsky_parser.specs.Words.{StopsAt}
use Rattle.chumsky_text.specs.declared.decimal.Fixed.{Fixed}
use Rattle.chumsky_descent.specs.Calls.{Intended}
use Rattle.chumsky_exact.specs.Fields.{IsField}
use Rattle.chumsky_exact.specs.InTurn.{InTurn, Is}
use Rattle.exact.specs.declared.date.Date.{Date}
use Rattle.exact.specs.ThreeFields.{FieldsText, fields-text}

-- a year of four digits, a month and a day of two, with a dash between each two
abbrev pub IsDate : List ℕ → Date → Type 0
IsDate text date = InTurn ((λ w. IsField 4 0 9999 w date.year) ∷ Is (codes "-") ∷ (λ w. IsField 2 1 12 w date.month) ∷ Is (codes "-") ∷ (λ w. IsField 2 1 31 w date.day) ∷ []) text

-- a date of its numbers
abbrev pub date_of : (ℕ × ℕ) × ℕ → Date
date_of numbers = record { year = numbers.0.0; month = numbers.0.1; day = numbers.1 }

abbrev pub years : Fixed
years = record { digits = 4; least = 0; most = 9999 }

abbrev pub months : Fixed
months = record { digits = 2; least = 1; most = 12 }

abbrev pub days : Fixed
days = record { digits = 2; least = 1; most = 31 }

-- the texts of dates, which no digit follows
abbrev pub dates : Intended ℕ Date
dates = record { word = FieldsText 45 years months days; stands_for = IsDate; follow = StopsAt (λ c. is_digit c 10); fails = λ ts. ⊥; moves = true }

pub date-text : (date : Date) (w : List ℕ) → IsDate w date → FieldsText 45 years months days w
date-text date = fields-text 45 years months days (omega arith) (omega arith) (omega arith) date.year date.month date.day
