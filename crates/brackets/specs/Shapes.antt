-- Round brackets around square ones, and these around round ones.
use Rattle.std.specs.Prelude.{ℕ, Bool, true, false}
use Rattle.chumsky_input.specs.Outcome.{Meaning, Agreeing}
use Rattle.chumsky_parser.specs.FailureLaws.{SameUnit}
use Rattle.chumsky_parser.specs.Ignoring.{Gives, IgnoringFirst, Between}
use Rattle.chumsky_parser.specs.IgnoringLaws.{gives-agrees, ignoring_first-agrees, between-agrees}
use Rattle.chumsky_combinator.specs.Optional.{OrNone}
use Rattle.chumsky_combinator.specs.OptionalLaws.{or_none-agrees}
use Rattle.chumsky_descent.specs.Calls.{Said, Together}

module _ {Tok Cx St Mk Er V : Type 0} (mark : St → Mk) (back : St → Mk → St) (safe : Type 0) (token : ℕ → Meaning Tok Cx St Er V) (same : ℕ → V → V → Type 0) (agrees : (c : ℕ) → Agreeing (same c) (token c) (token c)) where
  -- a pair of these brackets, perhaps with something in it
  abbrev pub Pair : ℕ → ℕ → Meaning Tok Cx St Er (Unit {0}) → Meaning Tok Cx St Er (Unit {0})
  Pair opening closing inside = IgnoringFirst (Between (token opening) (OrNone mark back safe inside) (token closing)) (Gives tt)

  pair-agrees : (opening closing : ℕ) (inside : Meaning Tok Cx St Er (Unit {0})) → Agreeing SameUnit inside inside → Agreeing SameUnit (Pair opening closing inside) (Pair opening closing inside)
  pair-agrees opening closing inside call =
      ignoring_first-agrees _ _ _ SameUnit (between-agrees _ _ _ _ _ _ (agrees opening) (or_none-agrees _ _ _ _ SameUnit call) (agrees closing)) (gives-agrees tt SameUnit tt)

  -- round ones with square ones in them, and square ones with round ones in them
  abbrev pub of_shape : Bool → ((called : Bool) → Meaning Tok Cx St Er (Unit {0})) → Meaning Tok Cx St Er (Unit {0})
  of_shape true calls = Pair 40 41 (calls false)
  of_shape false calls = Pair 91 93 (calls true)

  pub of_shape-agrees : (name : Bool) (calls : (called : Bool) → Meaning Tok Cx St Er (Unit {0})) → ((called : Bool) → Agreeing SameUnit (calls called) (calls called)) → Agreeing SameUnit (of_shape name calls) (of_shape name calls)
  of_shape-agrees true calls agree = pair-agrees 40 41 (calls false) (agree false)
  of_shape-agrees false calls agree = pair-agrees 91 93 (calls true) (agree true)

  abbrev pub shapes : {spare : Type 0} → Bool → Said Tok Cx St Er spare (Unit {0})
  shapes name = Together (λ _. SameUnit) (λ name depth calls. of_shape name calls) (λ depth agree name. of_shape-agrees name _ agree) name
