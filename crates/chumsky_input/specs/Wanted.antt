-- What was expected, whether its token is there or pointed to.
use Rattle.std.specs.Prelude.{ℕ, Bool, true, false, ◌==◌, List, [], ◌∷◌, Option, Some, None, ⊤, ◌≡◌, map}
use Rattle.std.specs.Cmp.Lexicographic.{pointwise}
use Rattle.std.specs.Option.{option_eq}
use Rattle.std.specs.Ordering.{on, eq_of_both}
use Rattle.chumsky_input.specs.Maybe.{maybe_value, OwnsFreely}
use Rattle.chumsky_input.specs.declared.util.MaybeRef.TheVariants.{Ref, Val}
use Rattle.std.specs.Iterator.{Drains}
use Rattle.chumsky_input.specs.declared.util.DefaultExpected.{DefaultExpected}
use Rattle.chumsky_input.specs.declared.util.DefaultExpected.TheVariants as expected
use Rattle.chumsky_input.specs.declared.util.MaybeLabel.{MaybeLabel}
use Rattle.chumsky_input.specs.declared.util.MaybeLabel.TheVariants as maybe
use Rattle.chumsky_input.specs.declared.util.Plain.{Plain}
use Rattle.chumsky_input.specs.declared.util.Plain.TheVariants as plain
use Rattle.chumsky_input.specs.declared.util.Sole.{Sole}
use Rattle.chumsky_input.specs.declared.util.Sole.TheVariants as sole

-- what was expected; of a label its text
pub data Wanted (T : Type 0) : Type 0 where
  Token : T → Wanted T
  Any : Wanted T
  SomethingElse : Wanted T
  NothingElse : Wanted T
  EndOfInput : Wanted T
  Label : List ℕ → Wanted T

abbrev pub wanted : {T : Type 0} → DefaultExpected T → Wanted T
wanted (expected.Token t) = Token (maybe_value t)
wanted expected.Any = Any
wanted expected.SomethingElse = SomethingElse
wanted expected.NothingElse = NothingElse
wanted expected.EndOfInput = EndOfInput

-- the expectation with f of its token
abbrev pub wanted_map : {T S : Type 0} → (T → S) → Wanted T → Wanted S
wanted_map f (Token t) = Token (f t)
wanted_map f Any = Any
wanted_map f SomethingElse = SomethingElse
wanted_map f NothingElse = NothingElse
wanted_map f EndOfInput = EndOfInput
wanted_map f (Label text) = Label text

-- the text of a label
abbrev pub label_text : {T : Type 0} → Wanted T → Option (List ℕ)
label_text (Label text) = Some text
label_text _ = None

-- the expectation for who knows no labels: what a label names is something else
abbrev pub unlabelled : {T : Type 0} → Wanted T → Wanted T
unlabelled (Label _) = SomethingElse
unlabelled w = w

-- an expectation, or the text of a label
abbrev pub maybe_wanted : {T : Type 0} → MaybeLabel T → Wanted T
maybe_wanted (maybe.Expected e) = wanted e
maybe_wanted (maybe.Label text) = Label text.now

-- 0 for a token, and a number for each other expectation
abbrev pub wanted_tag : {T : Type 0} → Wanted T → ℕ
wanted_tag (Token _) = 0
wanted_tag Any = 1
wanted_tag SomethingElse = 2
wanted_tag NothingElse = 3
wanted_tag EndOfInput = 4
wanted_tag (Label _) = 5

-- the token of an expectation that names one
abbrev pub named_token : {T : Type 0} → Wanted T → Option T
named_token (Token t) = Some t
named_token _ = None

-- the same kind of expectation, of two labels with the same text, and of two tokens the same one
abbrev pub wanted_same : {T : Type 0} → (T → T → Bool) → Wanted T → Wanted T → Bool
wanted_same same = eq_of_both (on wanted_tag ◌==◌) (eq_of_both (on label_text (option_eq (pointwise ◌==◌))) (on named_token (option_eq same)))

-- whether it names no token that is only pointed to
abbrev pub owns_token : {T : Type 0} → DefaultExpected T → Bool
owns_token (expected.Token (Ref _)) = false
owns_token (expected.Token (Val _)) = true
owns_token expected.Any = true
owns_token expected.SomethingElse = true
owns_token expected.NothingElse = true
owns_token expected.EndOfInput = true

-- that its token, if it names one, is its own, or a clone of it never fails
abbrev pub WantsFreely : {T : Type 0} → (T → Type 0) → DefaultExpected T → Type 0
WantsFreely free (expected.Token t) = OwnsFreely free t
WantsFreely free expected.Any = ⊤
WantsFreely free expected.SomethingElse = ⊤
WantsFreely free expected.NothingElse = ⊤
WantsFreely free expected.EndOfInput = ⊤

abbrev pub plain_wanted : {T : Type 0} → Plain → List (Wanted T)
plain_wanted plain.Nothing = []
plain_wanted plain.Any = Any ∷ []
plain_wanted plain.SomethingElse = SomethingElse ∷ []
plain_wanted plain.NothingElse = NothingElse ∷ []
plain_wanted plain.EndOfInput = EndOfInput ∷ []
plain_wanted (plain.Label text) = Label text.now ∷ []

-- the token, or what else was expected
abbrev pub sole_wanted : {T : Type 0} → Sole T → List (Wanted T)
sole_wanted (sole.Token t) = Token t.now ∷ []
sole_wanted (sole.Other p) = plain_wanted p

-- however it is drained, an iterator gives items that say this
abbrev pub Shows : {S A T : Type 0} → (S → Option A → S → Type 0) → (A → Wanted T) → S → List (Wanted T) → Type 0
Shows {S} {A} steps says s es = (xs : List A) → Drains steps s xs → map says xs ≡ es
