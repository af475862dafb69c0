-- Rules as parsing expressions: what the body of a rule is made of, without the numbers of nodes.
-- Main words: Expression, choice_of.
use Rattle.std.specs.Prelude.{ℕ, Option, List, [], ◌∷◌}
use Rattle.chumsky_rules.specs.declared.kinds.SepCfg.{SepCfg}

pub data Expression : Type 0 where
  -- a leaf, by its number
  Leaf : ℕ → Expression
  -- a call of a rule, by its number
  Call : ℕ → Expression
  -- one after another, with the value that the function of this number makes of theirs
  Then : Expression → Expression → ℕ → Expression
  -- the second where the first fails
  Or : Expression → Expression → Expression
  -- a failure on each text
  Fail : Expression
  -- with the value that the mapper of this number makes
  Map : Expression → ℕ → Expression
  -- with the value that the mapper of this number makes, which may refuse
  TryMap : Expression → ℕ → Expression
  -- or nothing
  Optional : Expression → Expression
  -- again and again until it fails, at least and at most so often
  Repeated : Expression → ℕ → Option ℕ → Expression
  -- the first again and again, with the second between
  Separated : Expression → Expression → SepCfg → Expression
  -- nothing, where it fails
  Not : Expression → Expression
  -- the first, where the second succeeds too
  And : Expression → Expression → Expression
  -- it, and back to where it began
  Ahead : Expression → Expression
  -- of which nothing is said
  Unsaid : Expression

-- the first of these that doesn't fail
abbrev pub choice_of : List Expression → Expression
choice_of [] = Fail
choice_of (e ∷ []) = e
choice_of (e ∷ f ∷ es) = Or e (choice_of (f ∷ es))
