-- The language of an expression, of those of leaves and of calls; and of a call of a rule, under so many open calls.
-- Main words: Makes, tried_language, expression_language, rule_language. Read first: Expression.antt, Language.antt of chumsky_parser.
use Rattle.std.specs.Prelude.{ℕ, zero, suc, true, Option, Some, None, List, slice_get, ⊤}
use Rattle.chumsky_parser.specs.Ending.{Refused}
use Rattle.chumsky_parser.specs.Language.{Language, unsaid}
use Rattle.chumsky_parser.specs.ChoiceLanguage.{or_language}
use Rattle.chumsky_parser.specs.SequenceLanguage.{then_language}
use Rattle.chumsky_combinator.specs.MappedLanguage.{map_language}
use Rattle.chumsky_combinator.specs.OptionalLanguage.{or_not_language}
use Rattle.chumsky_choice.specs.ChoiceLanguages.{no_language}
use Rattle.chumsky_items.specs.ListLanguage.{collected_language}
use Rattle.chumsky_items.specs.RepeatedLanguage.{repeated_language}
use Rattle.chumsky_items.specs.SeparatedLanguage.{separated_language}
use Rattle.chumsky_judge.specs.Picked.{picked_language}
use Rattle.chumsky_judge.specs.JudgedLanguage.{not_language, and_is_language, rewind_language}
use Rattle.chumsky_recursive.specs.Means.{AreThose, bounds_of}
use Rattle.chumsky_grammars.specs.Expression.{Expression, Leaf, Call, Then, Or, Fail, Map, TryMap, Optional, Repeated, Separated, Not, And, Ahead, Unsaid}

-- what may be made of two values by the function of a number, of a value by the mapper of one, of one that may be absent, of none, and of those of a list;
-- and what the mapper of a number that may refuse makes of a word, if anything, where that is said
pub record Makes (Tok V : Type 0) : Type 1 where
  pub pair : ℕ → V × V → V → Type 0
  pub map : ℕ → V → V → Type 0
  pub option : Option V → V → Type 0
  pub unit : V → Type 0
  pub list : List V → V → Type 0
  pub picks : Option (ℕ → List Tok → Option V)

-- the same, where each run may take memory
abbrev pub in_memory : {Tok V : Type 0} → Language Tok V → Language Tok V
in_memory F = record F { takes_no_memory = ⊥ }

-- the part's words, with what is made of their values
abbrev pub made_language : {Tok V W : Type 0} → (V → W → Type 0) → Language Tok V → Language Tok W
made_language makes F = in_memory (map_language makes F)

-- the part's words of which the mapper of this number makes something, with what it makes; where that isn't said, nothing is
abbrev pub tried_language : {Tok V : Type 0} → Option (ℕ → List Tok → Option V) → ℕ → Language Tok V → Language Tok V
tried_language (Some picks) f F = in_memory (picked_language (picks f) F)
tried_language None f F = unsaid

module _ {Tok V : Type 0} (makes : Makes Tok V) (leaf call : ℕ → Language Tok V) where
  -- an expression is the operation of its name
  abbrev pub expression_language : Expression → Language Tok V
  expression_language (Leaf n) = in_memory (leaf n)
  expression_language (Call r) = call r
  expression_language (Then e f n) = made_language (makes.pair n) (then_language (expression_language e) (expression_language f))
  expression_language (Or e f) = or_language (expression_language e) (expression_language f)
  expression_language Fail = in_memory no_language
  expression_language (Map e f) = made_language (makes.map f) (expression_language e)
  expression_language (TryMap e f) = tried_language makes.picks f (expression_language e)
  expression_language (Optional e) = made_language makes.option (or_not_language (expression_language e))
  expression_language (Repeated e least most) = made_language makes.list (collected_language (repeated_language (expression_language e) least most) AreThose ⊥)
  expression_language (Separated e f config) = made_language makes.list (collected_language (separated_language (expression_language f) (expression_language e) (bounds_of config)) AreThose ⊥)
  expression_language (Not e) = made_language (λ _. makes.unit) (not_language (expression_language e))
  expression_language (And e f) = and_is_language (expression_language e) (expression_language f)
  expression_language (Ahead e) = rewind_language (expression_language e)
  expression_language Unsaid = unsaid

  -- the body of a rule, if it is there
  abbrev pub body_language : Option Expression → Language Tok V
  body_language (Some e) = expression_language e
  body_language None = unsaid

-- no word: each text is refused
abbrev pub too_deep : {Tok V : Type 0} → Language Tok V
too_deep = record {
  said = true;
  ends = λ _. Refused;
  value = λ _ _. ⊥;
  word = λ _. ⊥;
  stands_for = λ _ _. ⊥;
  follow = λ _. ⊤;
  unambiguous = ⊤;
  refused_from = Some zero;
  moves = true;
  takes_no_memory = ⊥;
}

module _ {Tok V : Type 0} (makes : Makes Tok V) (leaf : ℕ → Language Tok V) (rules : List Expression) where
  -- a call of a rule, where so many more may be open: its body, and too deep where none may
  abbrev pub rule_language : ℕ → ℕ → Language Tok V
  rule_language zero r = too_deep
  rule_language (suc more) r = body_language makes leaf (rule_language more) (slice_get rules r)
