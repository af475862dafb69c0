-- What signs make of numbers, and what steps make of a number, from the left.
use Rattle.std.specs.Prelude.{◌≡◌, ℕ, ℤ, ◌+ℤ◌, ◌-ℤ◌, ◌*ℤ◌, neg_ℤ, int_div, int_rem, FitsSigned, cond, ◌==◌, List, [], ◌∷◌, ◌⊎◌, ⊤}
use Rattle.std.specs.Int.{CanDivide, w64}
use Rattle.chumsky_input.specs.declared.span.SimpleSpan.{SimpleSpan}
use Rattle.arithmetic.specs.declared.Value.{Value}
use Rattle.arithmetic.specs.declared.Value.TheVariants as node

-- what a minus (45) makes of the number after it; any other sign leaves it
abbrev pub signed : ℕ → ℤ → ℤ
signed sign n = cond (sign == 45) (neg_ℤ n) n

-- and whether an `i64` holds that
abbrev pub CanSign : ℕ → ℤ → Type 0
CanSign sign n = cond (sign == 45) (FitsSigned w64 (neg_ℤ n)) ⊤

-- what a sign makes of the numbers before and after it: `+` (43), `-` (45), `*` (42), `/` (47), and else `%`
abbrev pub made_by : ℕ → ℤ → ℤ → ℤ
made_by sign a b = cond (sign == 43) (a +ℤ b) (cond (sign == 45) (a -ℤ b) (cond (sign == 42) (a *ℤ b) (cond (sign == 47) (int_div a b) (int_rem a b))))

-- and whether an `i64` holds that, and nothing is divided by zero
abbrev pub CanMake : ℕ → ℤ → ℤ → Type 0
CanMake sign a b = cond (sign == 43) (FitsSigned w64 (a +ℤ b)) (cond (sign == 45) (FitsSigned w64 (a -ℤ b)) (cond (sign == 42) (FitsSigned w64 (a *ℤ b)) (CanDivide w64 a b)))

-- what steps make of a number, each of what those before it made; what is no step makes nothing
abbrev pub from_left : ℤ → List Value → ℤ
from_left n [] = n
from_left n (node.Step s ∷ vs) = from_left (made_by s.sign n s.number) vs
from_left n (v ∷ vs) = from_left n vs

-- each of them can be worked out
abbrev pub CanAll : ℤ → List Value → Type 0
CanAll n [] = ⊤
CanAll n (node.Step s ∷ vs) = CanMake s.sign n s.number × CanAll (made_by s.sign n s.number) vs
CanAll n (v ∷ vs) = CanAll n vs

-- the first that can't be worked out has its sign there
abbrev pub StopsAt : ℤ → List Value → SimpleSpan → Type 0
StopsAt n [] span = ⊥
StopsAt n (node.Step s ∷ vs) span = ((CanMake s.sign n s.number → ⊥) × (span ≡ s.span)) ⊎ (CanMake s.sign n s.number × StopsAt (made_by s.sign n s.number) vs span)
StopsAt n (v ∷ vs) span = StopsAt n vs span
