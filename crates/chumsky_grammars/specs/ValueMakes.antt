-- What value functions make of values, and that those that may refuse decide by the word.
-- Main words: makes_by, MapsDecide. Read first: Deciding.antt.
use Rattle.std.specs.Prelude.{ℕ, Option, List}
use Rattle.chumsky_parser.specs.Language.{Language}
use Rattle.chumsky_recursive.specs.declared.leaves.Values as values_trait
use Rattle.chumsky_grammars.specs.Deciding.{EachDecides}
use Rattle.chumsky_grammars.specs.Expression.{Expression}
use Rattle.chumsky_grammars.specs.RuleLanguage.{Makes}

-- what may be made of values; and, where that is said, what mappers that may refuse make of a word
abbrev pub makes_by : {Tok W Sp R V : Type 0} → values_trait.Ghosts W Sp R V → W → Option (ℕ → List Tok → Option V) → Makes Tok V
makes_by functions self picks = record {
  pair = functions.pair_gives self;
  map = functions.map_gives self;
  option = functions.option_gives self;
  unit = functions.unit_gives self;
  list = functions.list_gives self;
  picks = picks;
}

-- each mapper of the rules that may refuse decides by the word of its part, where it is said what they make of words
abbrev pub MapsDecide : {Tok W Sp R V : Type 0} → values_trait.Ghosts W Sp R V → W → Option (ℕ → List Tok → Option V) → (ℕ → Language Tok V) → List Expression → Type 0
MapsDecide functions self picks leaf rules = EachDecides (makes_by functions self picks) leaf rules (functions.try_gives self)
