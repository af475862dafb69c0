-- What passes over parts answer.
use Rattle.std.specs.Prelude.{◌≡◌, ℕ, ◌<◌, Bool, true, false, Option, Some, Result, Ok, Err, option_map}
use Rattle.chumsky_input.specs.declared.stop.Fault.{Fault}
use Rattle.chumsky_input.specs.declared.error.Error as error_trait
use Rattle.chumsky_input.specs.declared.inspector.Inspector as inspector_trait
use Rattle.chumsky_parser.specs.Chained.{both}
use Rattle.chumsky_set.specs.AnyOrder.{Slot, Row}

-- the answer, by what it shows
abbrev pub shown_by : {R V : Type 0} → (R → Option V) → Result R Fault → Result (Option V) Fault
shown_by shown (Ok r) = Ok (shown r)
shown_by shown (Err f) = Err f

-- what is taken, where the pass was not refused
abbrev pub taken_then : {T : Type 0} → T → Result Bool Fault → Result (Option T) Fault
taken_then t (Ok more) = Ok (Some t)
taken_then t (Err f) = Err f

-- fewer are left, or as many
abbrev pub Lessens : ℕ → ℕ → Bool → Type 0
Lessens before now true = now < before
Lessens before now false = now ≡ before

abbrev pub slot_of : {R V : Type 0} → (R → Option V) → Option R → Slot V
slot_of shown s = option_map shown s

-- values of a part and of the others, where they are shown
abbrev pub both_shown : {A R V W : Type 0} → (A → Option V) → (R → Option W) → A × R → Option (V × W)
both_shown f h r = both (f r.0) (h r.1)

-- a row of parts, in the words of its errors and of its states
abbrev pub RowOf : (I Tok Sp Er St Mk Cx T V : Type 0) → Type 1
RowOf I Tok Sp Er St Mk Cx T V = (errors : error_trait.Ghosts Er I Tok Sp) (states : inspector_trait.Ghosts St I Mk Tok Sp) → Row Tok Cx states.Seen errors.Seen T V
