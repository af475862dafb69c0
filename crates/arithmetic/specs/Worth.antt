-- What the values of the rules' nodes are made of, and what they come to.
use Rattle.std.specs.Prelude.{◌≡◌, List, ⊤}
use Rattle.chumsky_input.specs.declared.span.SimpleSpan.{SimpleSpan}
use Rattle.arithmetic.specs.Steps.{signed, CanSign, from_left, CanAll, StopsAt}
use Rattle.arithmetic.specs.declared.Value.{Value}
use Rattle.arithmetic.specs.declared.Value.TheOpen.{Value-F}
use Rattle.arithmetic.specs.declared.Value.TheVariants as node

-- a sign and a number are a step, and a number and steps a chain; of any other two the first stands, as what is in brackets
abbrev pub paired : Value → Value-F Value → Value-F Value → Value
paired v (Value-F.Sign sign span) (Value-F.Number n) = node.Step (record { sign = sign; span = span; number = n })
paired v (Value-F.Number n) (Value-F.Steps steps) = node.Chain n steps
paired v first second = v

-- these are the steps, all of them in order
abbrev pub AreSteps : List Value → Value-F Value → Type 0
AreSteps items (Value-F.Steps steps) = steps.items ≡ items
AreSteps items other = ⊥

-- the value comes to a number
abbrev pub HasWorth : Value-F Value → Type 0
HasWorth (Value-F.TooLarge wrong) = ⊥
HasWorth (Value-F.Step s) = CanSign s.sign s.number
HasWorth (Value-F.Chain n steps) = CanAll n steps.items
HasWorth other = ⊤

-- which: of a step what its sign makes of its number, of a chain what the steps make of it from the left; any other is itself
abbrev pub worth : Value → Value-F Value → Value
worth v (Value-F.Step s) = node.Number (signed s.sign s.number)
worth v (Value-F.Chain n steps) = node.Number (from_left n steps.items)
worth v other = v

-- why it comes to none stands there
abbrev pub LacksWorthAt : Value-F Value → SimpleSpan → Type 0
LacksWorthAt (Value-F.TooLarge wrong) span = span ≡ wrong.span
LacksWorthAt (Value-F.Step s) span = span ≡ s.span
LacksWorthAt (Value-F.Chain n steps) span = StopsAt n steps.items span
LacksWorthAt other span = ⊥
