-- How a date is written, as `2026-11-23`.
use Rattle.std.specs.Prelude.{◌≡◌, ℕ, List, ◌++◌, codes}
use Rattle.chumsky_exact.specs.Fields.{IsField}
use Rattle.examples.specs.declared.date.Date.{Date}

-- a text is that of a date: a year of four digits, a month and a day of two, with a dash between each two
pub record IsDate (text : List ℕ) (date : Date) : Type 0 where
  pub years : List ℕ
  pub months : List ℕ
  pub days : List ℕ
  pub all : text ≡ (((years ++ codes "-") ++ months) ++ codes "-") ++ days
  pub is_year : IsField 4 0 9999 years date.year
  pub is_month : IsField 2 1 12 months date.month
  pub is_day : IsField 2 1 31 days date.day
