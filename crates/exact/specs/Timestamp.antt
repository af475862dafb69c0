-- How a moment is written, as RFC 3339 has it: `2026-12-01T10:28:35.5+02:00`.
-- Main words: IsClock, IsFraction, IsOffset, IsTimestamp; clocks, fractions, offsets. Laws: TimestampLaws.antt. Read first: Date.antt, ThreeFields.antt.
use Rattle.std.specs.Prelude.{◌≡◌, ◌⊎◌, ◌||◌, ◌==◌, ℕ, Bool, true, false, Option, Some, None, List, [], ◌∷◌, codes, ⊤}
use Rattle.std.specs.Borrow.{Bor}
use Rattle.std.specs.Char.{is_digit}
use Rattle.std.specs.Str.Parse.{IsNumeral}
use Rattle.chumsky_parser.specs.Words.{StopsAt}
use Rattle.chumsky_primitive.specs.declared.just.Just.{Just}
use Rattle.chumsky_combinator.specs.Built.{then_of, ignore_then_of, map_of}
use Rattle.chumsky_combinator.specs.declared.ignore_then.IgnoreThen.{IgnoreThen}
use Rattle.chumsky_combinator.specs.declared.map.Map.{Map}
use Rattle.chumsky_combinator.specs.declared.then.Then.{Then}
use Rattle.chumsky_combinator.specs.declared.then_ignore.ThenIgnore.{ThenIgnore}
use Rattle.chumsky_text.specs.declared.decimal.Fixed.{Fixed}
use Rattle.chumsky_descent.specs.Calls.{Intended}
use Rattle.chumsky_descent.specs.declared.exact_part.OfExactPart.{OfExactPart}
use Rattle.chumsky_exact.specs.Builders.{then_ignore_of, just_of}
use Rattle.chumsky_exact.specs.Fields.{IsField, Picks}
use Rattle.chumsky_exact.specs.InTurn.{InTurn, Is, The}
use Rattle.exact.specs.declared.date.Date.{Date}
use Rattle.exact.specs.declared.timestamp.Clock.{Clock}
use Rattle.exact.specs.declared.timestamp.HourMinute.{HourMinute}
use Rattle.exact.specs.declared.timestamp.Offset.{Offset}
use Rattle.exact.specs.declared.timestamp.Offset.TheVariants.{Utc, Ahead, Behind}
use Rattle.exact.specs.declared.timestamp.Timestamp.{Timestamp}
use Rattle.exact.specs.declared.timestamp.ToOffset.{ToOffset}
use Rattle.exact.specs.Date.{IsDate}
use Rattle.exact.specs.ThreeFields.{FieldOf, field_of, FieldsText}

-- an hour, a minute and a second of two digits, with a colon between each two
abbrev pub IsClock : List ℕ → Clock → Type 0
IsClock text clock = InTurn ((λ w. IsField 2 0 23 w clock.hour) ∷ Is (codes ":") ∷ (λ w. IsField 2 0 59 w clock.minute) ∷ Is (codes ":") ∷ (λ w. IsField 2 0 60 w clock.second) ∷ []) text

-- nothing, or a full stop and digits
abbrev pub IsFraction : List ℕ → Option (Bor (List ℕ)) → Type 0
IsFraction text None = text ≡ []
IsFraction text (Some digits) = InTurn (Is (codes ".") ∷ The (IsNumeral 10) digits.now ∷ []) text

-- a letter, large or small
abbrev pub IsLetter : List ℕ → List ℕ → List ℕ → Type 0
IsLetter large small text = (text ≡ large) ⊎ (text ≡ small)

-- hours and minutes, with a colon between them; and behind a sign
abbrev pub IsHourMinute : ℕ → ℕ → List ℕ → Type 0
IsHourMinute hours minutes = InTurn ((λ w. IsField 2 0 23 w hours) ∷ Is (codes ":") ∷ (λ w. IsField 2 0 59 w minutes) ∷ [])

abbrev pub IsSigned : List ℕ → ℕ → ℕ → List ℕ → Type 0
IsSigned sign hours minutes = InTurn (Is sign ∷ IsHourMinute hours minutes ∷ [])

abbrev pub IsOffset : List ℕ → Offset → Type 0
IsOffset text Utc = IsLetter (codes "Z") (codes "z") text
IsOffset text (Ahead hours minutes) = IsSigned (codes "+") hours minutes text
IsOffset text (Behind hours minutes) = IsSigned (codes "-") hours minutes text

-- a date, a T, a time of day, perhaps a fraction of a second, and an offset
abbrev pub IsTimestamp : List ℕ → Timestamp → Type 0
IsTimestamp text moment =
    InTurn ((λ w. IsDate w moment.date) ∷ IsLetter (codes "T") (codes "t") ∷ (λ w. IsClock w moment.clock) ∷ (λ w. IsFraction w moment.fraction) ∷ (λ w. IsOffset w moment.offset) ∷ []) text

-- what is made of what is read
abbrev pub clock_of : (ℕ × ℕ) × ℕ → Clock
clock_of numbers = record { hour = numbers.0.0; minute = numbers.0.1; second = numbers.1 }

abbrev pub offset_of : Bool → ℕ × ℕ → Offset
offset_of true numbers = Ahead numbers.0 numbers.1
offset_of false numbers = Behind numbers.0 numbers.1

abbrev pub timestamp_of : ((Date × Clock) × Option (Bor (List ℕ))) × Offset → Timestamp
timestamp_of read = record { date = read.0.0.0; clock = read.0.0.1; fraction = read.0.1; offset = read.1 }

abbrev pub hours : Fixed
hours = record { digits = 2; least = 0; most = 23 }

abbrev pub minutes : Fixed
minutes = record { digits = 2; least = 0; most = 59 }

abbrev pub seconds : Fixed
seconds = record { digits = 2; least = 0; most = 60 }

-- the parser of hours and minutes, and of these behind a sign
abbrev pub HourMinuteOf : (Text I E : Type 0) → Type 0
HourMinuteOf Text I E = Then (ThenIgnore (FieldOf Text I E) (Just ℕ I E) ℕ) (FieldOf Text I E) ℕ ℕ

abbrev pub hour_minute_of : {Text I E : Type 0} → HourMinuteOf Text I E
hour_minute_of = then_of (then_ignore_of (field_of hours) (just_of 58)) (field_of minutes)

abbrev pub SignedOf : (I E : Type 0) → Type 0
SignedOf I E = Map (IgnoreThen (Just ℕ I E) (OfExactPart HourMinute) ℕ) (ℕ × ℕ) ToOffset Offset

abbrev pub signed_of : {I E : Type 0} → ℕ → Bool → SignedOf I E
signed_of sign is_ahead = map_of (ignore_then_of (just_of sign) (record { part = record {} })) (record { is_ahead = is_ahead })

-- the texts of the parts
abbrev pub clocks : Intended ℕ Clock
clocks = record { word = FieldsText 58 hours minutes seconds; stands_for = IsClock; follow = StopsAt (λ c. is_digit c 10); fails = λ ts. ⊥; moves = true }

abbrev pub time_marks : Intended ℕ ℕ
time_marks = record { word = IsLetter (codes "T") (codes "t"); stands_for = λ w mark. ⊤; follow = λ rest. ⊤; fails = λ ts. ⊥; moves = true }

abbrev pub FractionText : List ℕ → Type 0
FractionText text = (text ≡ []) ⊎ InTurn (Is (codes ".") ∷ IsNumeral 10 ∷ []) text

abbrev pub in_fraction : ℕ → Bool
in_fraction c = is_digit c 10 || (46 == c)

abbrev pub fractions : Intended ℕ (Option (Bor (List ℕ)))
fractions = record { word = FractionText; stands_for = IsFraction; follow = StopsAt in_fraction; fails = λ ts. ⊥; moves = false }

abbrev pub HourMinuteText : List ℕ → Type 0
HourMinuteText = InTurn (Picks 2 0 23 ∷ Is (codes ":") ∷ Picks 2 0 59 ∷ [])

abbrev pub hour_minutes : Intended ℕ (ℕ × ℕ)
hour_minutes = record { word = HourMinuteText; stands_for = λ w n. IsHourMinute n.0 n.1 w; follow = StopsAt (λ c. is_digit c 10); fails = λ ts. ⊥; moves = true }

abbrev pub SignedText : List ℕ → List ℕ → Type 0
SignedText sign = InTurn (Is sign ∷ HourMinuteText ∷ [])

abbrev pub OffsetText : List ℕ → Type 0
OffsetText text = IsLetter (codes "Z") (codes "z") text ⊎ (SignedText (codes "+") text ⊎ SignedText (codes "-") text)

abbrev pub offsets : Intended ℕ Offset
offsets = record { word = OffsetText; stands_for = IsOffset; follow = StopsAt (λ c. is_digit c 10); fails = λ ts. ⊥; moves = true }
