-- The parts of a moment take what their relations say, and so does the whole.
-- Main laws: fraction-is, offset-is and their kin; moment-is, moment-text. Read first: Timestamp.antt; Lexemes.antt of chumsky_exact.
use Rattle.std.proofs.Common.{◌≡◌, ◌⊎◌, ℕ, Bool, true, false, nat_eq, ◌||◌, Option, Some, None, List, [], ◌∷◌, ◌++◌, refl, sym, ◌∙◌, ap, subst, inl, inr, arith}
use Rattle.std.specs.Prelude.{codes}
use Rattle.std.specs.Borrow.{Bor}
use Rattle.std.specs.Char.{is_digit}
use Rattle.std.specs.Str.Parse.{IsNumeral}
use Rattle.chumsky_parser.specs.Ending.{Ender, DoesNotEnd, and_then}
use Rattle.chumsky_parser.specs.Slices.{IsSliceOf}
use Rattle.chumsky_parser.specs.Words.{Joined, StopsAt, then_ends, either_ends}
use Rattle.chumsky_primitive.specs.Literals.{equals-same}
use Rattle.chumsky_primitive.specs.PrimitiveLanguage.{Equals, literal_ends}
use Rattle.chumsky_text.specs.Decimals.{IsDigits, TextSlice, digits-numeral, numeral-digits, numeral-bytes, slice-bytes}
use Rattle.chumsky_text.specs.TextLanguage.{StopsAll}
use Rattle.chumsky_exact.specs.Fields.{Picks}
use Rattle.chumsky_exact.specs.InTurn.{Is, The, Tree, Part, Then, Turn, Words, same, from_of, to_of, as_defined, as_parsed, turned}
use Rattle.chumsky_exact.specs.Lexemes.{picked_field, field_picked, spelled, spells, spells_is}
use Rattle.exact.specs.declared.date.Date.{Date}
use Rattle.exact.specs.declared.timestamp.Clock.{Clock}
use Rattle.exact.specs.declared.timestamp.Offset.{Offset}
use Rattle.exact.specs.declared.timestamp.Offset.TheVariants.{Utc, Ahead, Behind}
use Rattle.exact.specs.declared.timestamp.Timestamp.{Timestamp}
use Rattle.exact.specs.Date.{IsDate, years, months, days, date-text}
use Rattle.exact.specs.ThreeFields.{FieldsText, fields-text}
use Rattle.exact.specs.Timestamp.{
  IsClock,
  IsFraction,
  IsLetter,
  IsHourMinute,
  IsSigned,
  IsOffset,
  IsTimestamp,
  offset_of,
  timestamp_of,
  hours,
  minutes,
  seconds,
  FractionText,
  in_fraction,
  HourMinuteText,
  SignedText,
  OffsetText,
}

pub clock-text : (clock : Clock) (w : List ℕ) → IsClock w clock → FieldsText 58 hours minutes seconds w
clock-text clock = fields-text 58 hours minutes seconds (omega arith) (omega arith) (omega arith) clock.hour clock.minute clock.second

-- a fraction: what stands for digits with their slice, and digits alone
pub sliced_digits_are : (s : Bor (List ℕ)) (w : List ℕ) → IsDigits w × IsSliceOf (TextSlice (λ t. t.now)) w s → The (IsNumeral 10) s.now w
sliced_digits_are s w h = let n = digits-numeral w h.0 in (n, sym (slice-bytes (λ t. t.now) w s h.1 ∙ numeral-bytes w n))

abbrev sliced_digits : Bor (List ℕ) → Turn ℕ
sliced_digits s = record { from = λ w. IsDigits w × IsSliceOf (TextSlice (λ t. t.now)) w s; to = The (IsNumeral 10) s.now; gives = sliced_digits_are s }

abbrev behind_stop : Turn ℕ → Turn ℕ → Tree (Turn ℕ)
behind_stop stop digits = Then (Part stop) (Part digits)

pub fraction-is : (w : List ℕ) (f : Option (Bor (List ℕ))) → elim f as (λ f. Type 0) [ None ↦ w ≡ [] | Some s ↦ Words from_of (behind_stop (spelled (codes ".")) (sliced_digits s)) w ] → IsFraction w f
fraction-is w None h = h
fraction-is w (Some s) h = as_defined (behind_stop (spelled (codes ".")) (sliced_digits s)) w h

abbrev digits_read : Turn ℕ
digits_read = record { from = IsDigits; to = IsNumeral 10; gives = digits-numeral }

abbrev digits_told : Turn ℕ
digits_told = record { from = IsNumeral 10; to = IsDigits; gives = numeral-digits }

pub fraction-text : (w : List ℕ) → Words from_of (behind_stop (spelled (codes ".")) digits_read) w ⊎ (w ≡ []) → FractionText w
fraction-text w (inl h) = inr (as_defined (behind_stop (spelled (codes ".")) digits_read) w h)
fraction-text w (inr e) = inl e

pub text-fraction : (w : List ℕ) → FractionText w → Words to_of (behind_stop (spells (codes ".")) digits_told) w ⊎ (w ≡ [])
text-fraction w (inl e) = inr e
text-fraction w (inr h) = inl (as_parsed (behind_stop (spells (codes ".")) digits_told) w h)

neither : (a b : Bool) → (a || b) ≡ false → (a ≡ false) × (b ≡ false)
neither true b e = absurd (cc e)
neither false b e = (refl, e)

pub fraction-ended : (next : Ender ℕ) (rest : List ℕ) → StopsAt in_fraction rest → StopsAll (λ t c. is_digit c 10) rest × DoesNotEnd (and_then next (literal_ends nat_eq (codes ".") rest))
fraction-ended next [] s = (λ t. tt, tt)
fraction-ended next (c ∷ cs) s = let n = neither (is_digit c 10) (nat_eq 46 c) s in (λ t. n.0, rw n.1 tt)

-- a letter, large or small
pub letter-is : (large small w : List ℕ) → Equals nat_eq large w ⊎ Equals nat_eq small w → IsLetter large small w
letter-is large small w (inl h) = inl (equals-same large w h)
letter-is large small w (inr h) = inr (equals-same small w h)

pub is-letter : (large small w : List ℕ) → IsLetter large small w → Equals nat_eq large w ⊎ Equals nat_eq small w
is-letter large small w (inl h) = inl (spells_is large w h)
is-letter large small w (inr h) = inr (spells_is small w h)

-- hours and minutes, and these behind a sign
abbrev pub hour_minute_parts : {A : Type 1} → A → A → A → Tree A
hour_minute_parts hour colon minute = Then (Then (Part hour) (Part colon)) (Part minute)

abbrev pub hour_minute_heard : ℕ × ℕ → Tree (Turn ℕ)
hour_minute_heard n = hour_minute_parts (picked_field 2 0 23 n.0) (spelled (codes ":")) (picked_field 2 0 59 n.1)

abbrev pub hour_minute_read : Tree (Turn ℕ)
hour_minute_read = hour_minute_parts (same (Picks 2 0 23)) (spelled (codes ":")) (same (Picks 2 0 59))

abbrev pub hour_minute_told : Tree (Turn ℕ)
hour_minute_told = hour_minute_parts (same (Picks 2 0 23)) (spells (codes ":")) (same (Picks 2 0 59))

abbrev signed_parts : {A : Type 1} → A → A → Tree A
signed_parts sign hour_minute = Then (Part sign) (Part hour_minute)

abbrev signed_heard : List ℕ → ℕ × ℕ → Tree (Turn ℕ)
signed_heard sign n = signed_parts (spelled sign) (same (IsHourMinute n.0 n.1))

abbrev signed_read : List ℕ → Tree (Turn ℕ)
signed_read sign = signed_parts (spelled sign) (same HourMinuteText)

abbrev signed_told : List ℕ → Tree (Turn ℕ)
signed_told sign = signed_parts (spells sign) (same HourMinuteText)

abbrev StandsForSigned : List ℕ → Bool → List ℕ → Offset → Type 0
StandsForSigned sign is_ahead w offset = (n : ℕ × ℕ) × Words from_of (signed_heard sign n) w × (offset ≡ offset_of is_ahead n)

-- an offset
pub offset-is : (w : List ℕ) (offset : Offset)
    → (((Equals nat_eq (codes "Z") w ⊎ Equals nat_eq (codes "z") w) × (offset ≡ Utc)) ⊎ StandsForSigned (codes "+") true w offset) ⊎ StandsForSigned (codes "-") false w offset
    → IsOffset w offset
offset-is w offset (inl (inl h)) = subst (IsOffset w) (sym h.1) (letter-is (codes "Z") (codes "z") w h.0)
offset-is w offset (inl (inr h)) = subst (IsOffset w) (sym h.2) (as_defined (signed_heard (codes "+") h.0) w h.1)
offset-is w offset (inr h) = subst (IsOffset w) (sym h.2) (as_defined (signed_heard (codes "-") h.0) w h.1)

pub offset-text : (w : List ℕ) → ((Equals nat_eq (codes "Z") w ⊎ Equals nat_eq (codes "z") w) ⊎ Words from_of (signed_read (codes "+")) w) ⊎ Words from_of (signed_read (codes "-")) w → OffsetText w
offset-text w (inl (inl h)) = inl (letter-is (codes "Z") (codes "z") w h)
offset-text w (inl (inr h)) = inr (inl (as_defined (signed_read (codes "+")) w h))
offset-text w (inr h) = inr (inr (as_defined (signed_read (codes "-")) w h))

pub text-offset : (w : List ℕ) → OffsetText w → ((Equals nat_eq (codes "Z") w ⊎ Equals nat_eq (codes "z") w) ⊎ Words to_of (signed_told (codes "+")) w) ⊎ Words to_of (signed_told (codes "-")) w
text-offset w (inl h) = inl (inl (is-letter (codes "Z") (codes "z") w h))
text-offset w (inr (inl h)) = inl (inr (as_parsed (signed_told (codes "+")) w h))
text-offset w (inr (inr h)) = inr (as_parsed (signed_told (codes "-")) w h)

-- what is so before a sign is so before what the sign begins
before-mark : (P : List ℕ → Type 0) (mark : ℕ) → ((u : List ℕ) → P (mark ∷ u)) → (w rest : List ℕ) → w ≡ mark ∷ [] → P (w ++ rest)
before-mark P mark h w rest e = subst (λ z. P (z ++ rest)) (sym e) (h rest)

before-marked : {Q : List ℕ → Type 0} (P : List ℕ → Type 0) (mark : ℕ) → ((u : List ℕ) → P (mark ∷ u)) → (w rest : List ℕ) → Joined (λ u. u ≡ mark ∷ []) Q w → P (w ++ rest)
before-marked P mark h w rest j =
    let e : w ≡ mark ∷ j.second = j.all ∙ ap (λ z. z ++ j.second) j.is_first in
    subst (λ z. P (z ++ rest)) (sym e) (h (j.second ++ rest))

before-sign : {Q : List ℕ → Type 0} (P : List ℕ → Type 0) (mark : ℕ) → ((u : List ℕ) → P (mark ∷ u)) → (w rest : List ℕ) → Joined (Equals nat_eq (mark ∷ [])) Q w → P (w ++ rest)
before-sign {Q} P mark h w rest j =
    before-marked {Q = Q} P mark h w rest (record { first = j.first; second = j.second; all = j.all; is_first = equals-same (mark ∷ []) j.first j.is_first; is_second = j.is_second })

-- a small letter is not the large one, and no sign is a letter or the other sign
pub no_large : (large small : ℕ) → nat_eq large small ≡ false → (w rest : List ℕ) → Equals nat_eq (small ∷ []) w → DoesNotEnd (literal_ends nat_eq (large ∷ []) (w ++ rest))
no_large large small n w rest h = before-mark (λ ts. DoesNotEnd (literal_ends nat_eq (large ∷ []) ts)) small (λ u. rw n tt) w rest (equals-same (small ∷ []) w h)

abbrev pub letter_ends : Ender ℕ
letter_ends = either_ends (literal_ends nat_eq (codes "Z")) (literal_ends nat_eq (codes "z"))

pub no_letter : {Q : List ℕ → Type 0} (w rest : List ℕ) → Joined (Equals nat_eq (codes "+")) Q w → DoesNotEnd (letter_ends (w ++ rest))
no_letter w rest j = before-sign (λ ts. DoesNotEnd (letter_ends ts)) 43 (λ u. tt) w rest j

pub no_plus : {Q : List ℕ → Type 0} (next : Ender ℕ) (w rest : List ℕ) → Joined (Equals nat_eq (codes "-")) Q w
    → DoesNotEnd (either_ends letter_ends (then_ends (literal_ends nat_eq (codes "+")) next) (w ++ rest))
no_plus next w rest j = before-sign (λ ts. DoesNotEnd (either_ends letter_ends (then_ends (literal_ends nat_eq (codes "+")) next) ts)) 45 (λ u. tt) w rest j

-- what follows each part of a moment may follow it
pub mark-stops : (w rest : List ℕ) → IsLetter (codes "T") (codes "t") w → StopsAt (λ c. is_digit c 10) (w ++ rest)
mark-stops w rest (inl e) = before-mark (StopsAt (λ c. is_digit c 10)) 84 (λ u. refl) w rest e
mark-stops w rest (inr e) = before-mark (StopsAt (λ c. is_digit c 10)) 116 (λ u. refl) w rest e

no_digit : (rest : List ℕ) → StopsAt in_fraction rest → StopsAt (λ c. is_digit c 10) rest
no_digit [] s = tt
no_digit (c ∷ cs) s = (neither (is_digit c 10) (nat_eq 46 c) s).0

pub fraction-stops : (w rest : List ℕ) → FractionText w → StopsAt in_fraction rest → StopsAt (λ c. is_digit c 10) (w ++ rest)
fraction-stops w rest (inl e) s = subst (λ z. StopsAt (λ c. is_digit c 10) (z ++ rest)) (sym e) (no_digit rest s)
fraction-stops w rest (inr h) s = before-marked (StopsAt (λ c. is_digit c 10)) 46 (λ u. refl) w rest h

pub offset-stops : (w rest : List ℕ) → OffsetText w → StopsAt in_fraction (w ++ rest)
offset-stops w rest (inl (inl e)) = before-mark (StopsAt in_fraction) 90 (λ u. refl) w rest e
offset-stops w rest (inl (inr e)) = before-mark (StopsAt in_fraction) 122 (λ u. refl) w rest e
offset-stops w rest (inr (inl h)) = before-marked (StopsAt in_fraction) 43 (λ u. refl) w rest h
offset-stops w rest (inr (inr h)) = before-marked (StopsAt in_fraction) 45 (λ u. refl) w rest h

-- the whole, as its parser nests the parts
abbrev moment_parts : {A : Type 1} → A → A → A → A → A → Tree A
moment_parts date mark clock fraction offset = Then (Then (Then (Then (Part date) (Part mark)) (Part clock)) (Part fraction)) (Part offset)

abbrev moment_heard : ((Date × Clock) × Option (Bor (List ℕ))) × Offset → Tree (Turn ℕ)
moment_heard read =
    moment_parts (same (λ w. IsDate w read.0.0.0)) (same (IsLetter (codes "T") (codes "t")))
    (same (λ w. IsClock w read.0.0.1)) (same (λ w. IsFraction w read.0.1)) (same (λ w. IsOffset w read.1))

pub moment-is : (read : ((Date × Clock) × Option (Bor (List ℕ))) × Offset) (w : List ℕ) → Words from_of (moment_heard read) w → IsTimestamp w (timestamp_of read)
moment-is read = as_defined (moment_heard read)

pub fraction-written : (f : Option (Bor (List ℕ))) (w : List ℕ) → IsFraction w f → FractionText w
fraction-written None w h = inl h
fraction-written (Some s) w h = inr (turned (same (Is (codes ".")) ∷ record { from = The (IsNumeral 10) s.now; to = IsNumeral 10; gives = λ u i. i.0 } ∷ []) w h)

hour_minute-written : (hour minute : ℕ) (w : List ℕ) → IsHourMinute hour minute w → HourMinuteText w
hour_minute-written hour minute = turned (field_picked 2 0 23 hour (omega arith) ∷ same (Is (codes ":")) ∷ field_picked 2 0 59 minute (omega arith) ∷ [])

signed-written : (sign : List ℕ) (hour minute : ℕ) (w : List ℕ) → IsSigned sign hour minute w → SignedText sign w
signed-written sign hour minute = turned (same (Is sign) ∷ record { from = IsHourMinute hour minute; to = HourMinuteText; gives = hour_minute-written hour minute } ∷ [])

pub offset-written : (offset : Offset) (w : List ℕ) → IsOffset w offset → OffsetText w
offset-written Utc w h = inl h
offset-written (Ahead hour minute) w h = inr (inl (signed-written (codes "+") hour minute w h))
offset-written (Behind hour minute) w h = inr (inr (signed-written (codes "-") hour minute w h))

abbrev moment_told : Timestamp → Tree (Turn ℕ)
moment_told moment =
    moment_parts (record { from = λ w. IsDate w moment.date; to = FieldsText 45 years months days; gives = date-text moment.date })
    (same (IsLetter (codes "T") (codes "t")))
    (record { from = λ w. IsClock w moment.clock; to = FieldsText 58 hours minutes seconds; gives = clock-text moment.clock })
    (record { from = λ w. IsFraction w moment.fraction; to = FractionText; gives = fraction-written moment.fraction })
    (record { from = λ w. IsOffset w moment.offset; to = OffsetText; gives = offset-written moment.offset })

pub moment-text : (moment : Timestamp) (w : List ℕ) → IsTimestamp w moment → Words to_of (moment_told moment) w
moment-text moment = as_parsed (moment_told moment)
