-- Where what mappers that may refuse make of a value is known by the word of their part.
-- Main words: tried_parts, DecidesByWord, EachDecides. Read first: RuleLanguage.antt.
use Rattle.std.specs.Prelude.{◌≡◌, ℕ, Option, List, [], ◌∷◌, ◌++◌, Result, IfSome}
use Rattle.std.specs.List.{AllByRecursion}
use Rattle.std.specs.Result.{result_ok}
use Rattle.chumsky_parser.specs.Language.{Language}
use Rattle.chumsky_grammars.specs.Expression.{Expression, Leaf, Call, Then, Or, Fail, Map, TryMap, Optional, Repeated, Separated, Not, And, Ahead, Unsaid}
use Rattle.chumsky_grammars.specs.RuleLanguage.{Makes, expression_language, rule_language}

-- the number of each mapper that may refuse, with its part
abbrev pub tried_parts : Expression → List (ℕ × Expression)
tried_parts (Leaf n) = []
tried_parts (Call r) = []
tried_parts (Then e f n) = tried_parts e ++ tried_parts f
tried_parts (Or e f) = tried_parts e ++ tried_parts f
tried_parts Fail = []
tried_parts (Map e f) = tried_parts e
tried_parts (TryMap e f) = (f, e) ∷ tried_parts e
tried_parts (Optional e) = tried_parts e
tried_parts (Repeated e least most) = tried_parts e
tried_parts (Separated e f config) = tried_parts e ++ tried_parts f
tried_parts (Not e) = tried_parts e
tried_parts (And e f) = tried_parts e ++ tried_parts f
tried_parts (Ahead e) = tried_parts e
tried_parts Unsaid = []

-- to each value of a word, whatever its span, the mapper answers what is picked of the word, and an error where nothing is
abbrev pub DecidesByWord : {Tok V Sp Er : Type 0} → (List Tok → Option V) → (List Tok → V → Type 0) → (V → Sp → Result V Er → Type 0) → Type 0
DecidesByWord {Tok} {V} {Sp} {Er} picks stands_for gives = (w : List Tok) (v : V) (span : Sp) (r : Result V Er) → stands_for w v → gives v span r → result_ok r ≡ picks w

module _ {Tok V Sp Er : Type 0} (makes : Makes Tok V) (leaf : ℕ → Language Tok V) (rules : List Expression) (gives : ℕ → V → Sp → Result V Er → Type 0) where
  -- so each such mapper in the rules, however many calls are open
  abbrev pub EachPicks : (ℕ → List Tok → Option V) → Type 0
  EachPicks picks = (n : ℕ) → AllByRecursion (λ e. AllByRecursion (λ q. DecidesByWord (picks q.0) (expression_language makes leaf (rule_language makes leaf rules n) q.1).stands_for (gives q.0)) (tried_parts e)) rules

  -- where it is said what they make of words
  abbrev pub EachDecides : Type 0
  EachDecides = IfSome makes.picks EachPicks
