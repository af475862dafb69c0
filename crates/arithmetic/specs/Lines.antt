-- Sums as lines: a part, and any number of steps, each a sign and a part. What pieces of a text give, and what a line comes to.
-- Main words: ComesTo, Line, IsLine, sum_expression. Laws: LinesLaws.antt. Read first: Sums.antt.
use Rattle.std.specs.Prelude.{◌≡◌, ℕ, ℤ, pos, ◌<◌, ◌^◌, cond, Bool, true, nat_eq, Option, Some, None, List, [], ◌∷◌, ◌++◌, length, reverse, Result, Ok, Err, ⊤, codes}
use Rattle.std.specs.Option.{SomeIff}
use Rattle.std.specs.Str.Parse.{AllDigits, digits_value}
use Rattle.std.specs.declared.alloc.Global.{Global}
use Rattle.std.specs.declared.vec.Vec.{Vec}
use Rattle.chumsky_input.specs.declared.stop.Stop.{Stop}
use Rattle.chumsky_parser.specs.declared.result.ParseResult.{ParseResult}
use Rattle.chumsky_primitive.specs.OneOf.{among}
use Rattle.chumsky_grammars.specs.Expression.{Expression, Leaf, Call, Then, Or, Map, Optional}
use Rattle.arithmetic.specs.declared.exact_sum.Before.{Before}
use Rattle.arithmetic.specs.declared.exact_sum.Running.{Running}
use Rattle.arithmetic.specs.declared.exact_sum.Signed.{Signed}
use Rattle.arithmetic.specs.declared.exact_sum.Piece.{Piece}
use Rattle.arithmetic.specs.declared.exact_sum.Piece.TheVariants as piece
use Rattle.arithmetic.specs.Sums.{IsMade, IsNegative, adds, IsPart}

-- each sign
abbrev pub is_sign : ℕ → Bool
is_sign = among nat_eq (codes "+-*/%")

-- what the last product makes of the products before it, if there are some
abbrev pub IsClosedAfter : Option Before → Option ℤ → Option ℤ → Type 0
IsClosedAfter (Some b) x z = IsMade b.sum b.sign x z
IsClosedAfter None x z = z ≡ x

abbrev pub IsClosed : Running → Option ℤ → Type 0
IsClosed r z = IsClosedAfter r.before r.product z

-- one step more: a sign of sums ends the product
abbrev pub IsStepped : Running → Signed → Running → Type 0
IsStepped r s q =
    cond (adds s.sign) ((y : Option ℤ) × IsClosed r y × (q ≡ record { before = Some (record { sum = y; sign = s.sign }); product = s.number }))
    ((y : Option ℤ) × IsMade r.product s.sign s.number y × (q ≡ record { before = r.before; product = y }))

-- what the steps come to that are left
abbrev pub ComesTo : Running → List Signed → Option ℤ → Type 0
ComesTo r [] z = IsClosed r z
ComesTo r (s ∷ ss) z = (q : Running) × IsStepped r s q × ComesTo q ss z

-- before the first step
abbrev pub from_part : Option ℤ → Running
from_part x = record { before = None; product = x }

-- steps with one more before them; those of a piece stand with the last of them first
abbrev pub Extends : List Signed → Signed → Piece → Type 0
Extends items step v = (ss : Vec Signed Global) × (v ≡ piece.Steps ss) × (ss.items ≡ items ++ (step ∷ []))

-- a sign and a line are steps; a part and steps a line; a minus and a line that line, of which it makes the first part negative; a line
-- and a bracket a part; and a bracket and a part that part
abbrev pub IsPair : Piece → Piece → Piece → Type 0
IsPair (piece.Mark c) (piece.Line x steps) v = Extends steps.items (record { sign = c; number = x }) v
IsPair (piece.Part x) (piece.Steps steps) v = v ≡ piece.Line x steps
IsPair piece.Minus (piece.Line x steps) v = (y : Option ℤ) × (v ≡ piece.Line y steps) × IsNegative x y
IsPair (piece.Line x steps) second v = (y : Option ℤ) × (v ≡ piece.Part y) × ComesTo (from_part x) (reverse steps.items) y
IsPair first second v = v ≡ second

-- nothing is no steps
abbrev pub IsOption : Option Piece → Piece → Type 0
IsOption (Some w) v = v ≡ w
IsOption None v = (ss : Vec Signed Global) × (v ≡ piece.Steps ss) × (ss.items ≡ [])

-- digits are a part
abbrev pub IsRead : List ℕ → Piece → Type 0
IsRead digits v = (x : Option ℤ) × (v ≡ piece.Part x) × (AllDigits 10 digits → SomeIff x ((0 < length digits) × (digits_value 10 digits < 2 ^ 63)) (pos (digits_value 10 digits)))

-- what a line comes to
abbrev pub IsTotal : Piece → Option ℤ → Type 0
IsTotal (piece.Line x steps) z = ComesTo (from_part x) (reverse steps.items) z
IsTotal other z = ⊤

abbrev pub IsTotalOf : Option Piece → Option (Option ℤ) → Type 0
IsTotalOf (Some v) (Some z) = IsTotal v z
IsTotalOf (Some v) None = ⊥
IsTotalOf None (Some z) = ⊥
IsTotalOf None None = ⊤

-- what is made of an answer
abbrev pub IsWorkedOut : {Er : Type 0} → Result (ParseResult Piece Er) Stop → Result (ParseResult (Option ℤ) Er) Stop → Type 0
IsWorkedOut (Ok p) (Ok q) = IsTotalOf p.output q.output
IsWorkedOut (Ok p) (Err t) = ⊥
IsWorkedOut (Err s) (Ok q) = ⊥
IsWorkedOut (Err s) (Err t) = t ≡ s

-- a text is such steps, one after another
pub data AreSteps : List ℕ → List Signed → Type 0 where
  none : AreSteps [] []
  step : {p r : List ℕ} {x : Option ℤ} {ss : List Signed} (c : ℕ) → is_sign c ≡ true → IsPart p x → AreSteps r ss → AreSteps (c ∷ (p ++ r)) (record { sign = c; number = x } ∷ ss)

-- a part, and such steps
pub record Line (w : List ℕ) (first : Option ℤ) (steps : List Signed) : Type 0 where
  pub part : List ℕ
  pub rest : List ℕ
  pub all : w ≡ part ++ rest
  pub is_part : IsPart part first
  pub are_steps : AreSteps rest steps

-- and the piece that is made of them
abbrev pub IsLine : List ℕ → Piece → Type 0
IsLine w v = (x : Option ℤ) × (ss : Vec Signed Global) × (v ≡ piece.Line x ss) × Line w x (reverse ss.items)

-- what may follow a part
abbrev pub steps_expression : Expression
steps_expression = Optional (Then (Leaf 1) (Call 0) 0)

-- number / "(" S ")"
abbrev pub part_expression : Expression
part_expression = Or (Leaf 0) (Then (Leaf 2) (Then (Call 0) (Leaf 3) 0) 0)

-- "-" S
abbrev pub negative_expression : Expression
negative_expression = Then (Map (Leaf 4) 0) (Call 0) 0

-- part ( sign S )? / "-" S
abbrev pub sum_expression : Expression
sum_expression = Or (Then part_expression steps_expression 0) negative_expression
