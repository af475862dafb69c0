-- The parser of dates accepts just these.
-- Main laws: date-sound, date-complete, dash_stops. Read first: Date.antt.
use Rattle.std.proofs.Common.{◌≡◌, ℕ, ◌<◌, ◌^◌, nat_eq, Some, List, [], ◌∷◌, ◌++◌, refl, sym, ◌∙◌, ap, subst, arith}
use Rattle.std.specs.Prelude.{codes}
use Rattle.std.specs.Char.{is_digit}
use Rattle.std.specs.Str.{encode_utf8_all}
use Rattle.chumsky_parser.specs.Words.{Joined, StopsAt}
use Rattle.chumsky_primitive.specs.Literals.{equals-same, same-equals}
use Rattle.chumsky_primitive.specs.PrimitiveLanguage.{Equals}
use Rattle.chumsky_judge.specs.Picked.{IsPick}
use Rattle.chumsky_text.specs.TextLanguage.{IsWord}
use Rattle.chumsky_text.specs.Decimals.{fixed_of}
use Rattle.chumsky_exact.specs.Fields.{IsField, field, picks}
use Rattle.examples.specs.declared.date.Date.{Date}
use Rattle.examples.specs.Date.{IsDate}

-- a character alone
abbrev pub Dash : ℕ → List ℕ → Type 0
Dash x = Equals nat_eq (x ∷ [])

-- digits of a radix, of which this number is picked, and of which one is
abbrev pub PickedIn : ℕ → ℕ → ℕ → ℕ → ℕ → List ℕ → Type 0
PickedIn radix digits least most n w = IsWord (λ t. is_digit t radix) (λ t c. is_digit c radix) w × (fixed_of digits least most (encode_utf8_all w) ≡ Some n)

abbrev pub PicksIn : ℕ → ℕ → ℕ → ℕ → List ℕ → Type 0
PicksIn radix digits least most w = IsWord (λ t. is_digit t radix) (λ t c. is_digit c radix) w × IsPick (fixed_of digits least most (encode_utf8_all w))

module _ (r l h least most : ℕ) (radix : r ≡ 10) (from : l ≡ least) (to : h ≡ most) (digits : ℕ) (w : List ℕ) (n : ℕ) where
  picked-field : PickedIn r digits l h n w → IsField digits least most w n
  picked-field p =
      let a = subst (λ z. PickedIn z digits l h n w) radix p in
      let b = subst (λ z. PickedIn 10 digits z h n w) from a in
      field digits least most w n (subst (λ z. PickedIn 10 digits least z n w) to b)

  field-picks : most < 2 ^ 32 → IsField digits least most w n → PicksIn r digits l h w
  field-picks f i =
      let a : PicksIn 10 digits least most w = picks digits least most w n f i in
      let b = subst (λ z. PicksIn 10 digits least z w) (sym to) a in
      let c = subst (λ z. PicksIn 10 digits z h w) (sym from) b in
      subst (λ z. PicksIn z digits l h w) (sym radix) c

-- no digit follows where a dash does
pub dash_stops : (x r : ℕ) → x ≡ 45 → r ≡ 10 → (w rest : List ℕ) → Dash x w → (t : ℕ) → StopsAt (λ c. is_digit c r) (w ++ rest)
dash_stops x r dash radix w rest d t =
    let e : w ≡ codes "-" = equals-same (x ∷ []) w d ∙ ap (λ z. z ∷ []) dash in
    let s : StopsAt (λ c. is_digit c 10) (codes "-" ++ rest) = refl in
    subst (λ z. StopsAt (λ c. is_digit c z) (w ++ rest)) (sym radix) (subst (λ z. StopsAt (λ c. is_digit c 10) (z ++ rest)) (sym e) s)

-- of a parser that was built with these dashes, radixes and bounds
module _ (x y r s t l h k m : ℕ) (first : x ≡ 45) (second : y ≡ 45) (year_in : r ≡ 10) (month_in : s ≡ 10) (day_in : t ≡ 10) (month_from : l ≡ 1) (month_to : h ≡ 12) (day_from : k ≡ 1) (day_to : m ≡ 31) where
  -- the words of these numbers; of what the dashes stand for there is P, and Q
  abbrev DateOf : Type 0 → Type 0 → ℕ → ℕ → ℕ → List ℕ → Type 0
  DateOf P Q year month day = Joined (Joined (Joined (Joined (PickedIn r 4 0 9999 year) (λ u. Dash x u × P)) (PickedIn s 2 l h month)) (λ u. Dash y u × Q)) (PickedIn t 2 k m day)

  -- what a word stands for is its date
  pub date-sound : {P Q : Type 0} (w : List ℕ) (year month day : ℕ) (date : Date) → DateOf P Q year month day w → date.year ≡ year → date.month ≡ month → date.day ≡ day → IsDate w date
  date-sound w year month day date j ey em ed =
      let a = j.is_first in
      let b = a.is_first in
      let c = b.is_first in
      let d : a.second ≡ codes "-" = equals-same (y ∷ []) a.second a.is_second.0 ∙ ap (λ z. z ∷ []) second in
      let e : c.second ≡ codes "-" = equals-same (x ∷ []) c.second c.is_second.0 ∙ ap (λ z. z ∷ []) first in
      record {
        years = c.first;
        months = b.second;
        days = j.second;
        all = cc (j.all, a.all, d, b.all, c.all, e);
        is_year = rw ey (picked-field r 0 9999 0 9999 year_in refl refl 4 c.first year c.is_first);
        is_month = rw em (picked-field s l h 1 12 month_in month_from month_to 2 b.second month b.is_second);
        is_day = rw ed (picked-field t k m 1 31 day_in day_from day_to 2 j.second day j.is_second);
      }

  -- and a date is a word
  pub date-complete : (w : List ℕ) (date : Date) → IsDate w date → Joined (Joined (Joined (Joined (PicksIn r 4 0 9999) (Dash x)) (PicksIn s 2 l h)) (Dash y)) (PicksIn t 2 k m) w
  date-complete w date i =
      let dash : Dash 45 (codes "-") = same-equals (codes "-") in
      let year = field-picks r 0 9999 0 9999 year_in refl refl 4 i.years date.year (omega arith) i.is_year in
      let month = field-picks s l h 1 12 month_in month_from month_to 2 i.months date.month (omega arith) i.is_month in
      let day = field-picks t k m 1 31 day_in day_from day_to 2 i.days date.day (omega arith) i.is_day in
      let a = joined i.years (codes "-") year (subst (λ z. Dash z (codes "-")) (sym first) dash) in
      let b = joined (i.years ++ codes "-") i.months a month in
      let c = joined ((i.years ++ codes "-") ++ i.months) (codes "-") b (subst (λ z. Dash z (codes "-")) (sym second) dash) in
      record { first = ((i.years ++ codes "-") ++ i.months) ++ codes "-"; second = i.days; all = i.all; is_first = c; is_second = day }
    where
      joined : {P Q : List ℕ → Type 0} (a b : List ℕ) → P a → Q b → Joined P Q (a ++ b)
      joined a b p q = record { first = a; second = b; all = refl; is_first = p; is_second = q }
