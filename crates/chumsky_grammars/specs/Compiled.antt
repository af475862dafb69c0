-- The expressions of the rules of a grammar.
-- Main words: body_expression, expressions_of, IsNode, IsOneRule. Read first: Expression.antt.
use Rattle.std.specs.Prelude.{◌≡◌, ℕ, zero, suc, ◌<◌, map, List, [], ◌∷◌, length, Option, Some, None, slice_get}
use Rattle.chumsky_rules.specs.declared.kinds.NodeKind.{NodeKind}
use Rattle.chumsky_rules.specs.declared.kinds.NodeKind.TheVariants as kind
use Rattle.chumsky_rules.specs.Tables.{Tables}
use Rattle.chumsky_grammars.specs.Expression.{Expression, Leaf, Call, Then, Map, TryMap, Optional, Repeated, Separated, Not, And, Ahead, Unsaid, choice_of}

-- a node, of its parts
abbrev pub kind_expression : (ℕ → Expression) → NodeKind → Expression
kind_expression part (kind.Leaf n) = Leaf n
kind_expression part (kind.Rule r) = Call r
kind_expression part (kind.Then n m f) = Then (part n) (part m) f
kind_expression part (kind.Choice v) = choice_of (map part v.items)
kind_expression part (kind.Repeated n least most) = Repeated (part n) least most
kind_expression part (kind.SeparatedBy n m config) = Separated (part n) (part m) config
kind_expression part (kind.OrNot n) = Optional (part n)
kind_expression part (kind.Not n) = Not (part n)
kind_expression part (kind.AndIs n m) = And (part n) (part m)
kind_expression part (kind.Rewind n) = Ahead (part n)
kind_expression part (kind.Map n f) = Map (part n) f
kind_expression part (kind.TryMap n f) = TryMap (part n) f

abbrev pub known_expression : (ℕ → Expression) → Option NodeKind → Expression
known_expression part None = Unsaid
known_expression part (Some k) = kind_expression part k

-- the nodes below a bound
abbrev pub node_expression : List NodeKind → ℕ → ℕ → Expression
node_expression nodes zero n = Unsaid
node_expression nodes (suc bound) n = known_expression (node_expression nodes bound) (slice_get nodes n)

-- the body of a rule
abbrev pub body_expression : List NodeKind → Option ℕ → Expression
body_expression nodes None = Unsaid
body_expression nodes (Some n) = node_expression nodes (suc n) n

-- the bodies of all rules
abbrev pub expressions_of : Tables → List Expression
expressions_of g = map (body_expression g.nodes) g.bodies

-- a node has that expression, and each leaf is below that number
pub record IsNode (leaves : ℕ) (e : Expression) (nodes : List NodeKind) (n : ℕ) : Type 0 where
  pub expression : body_expression nodes (Some n) ≡ e
  pub there : n < length nodes
  pub known : (m k : ℕ) → slice_get nodes m ≡ Some (kind.Leaf k) → k < leaves

-- there is one rule, and its body is such a node
pub record IsOneRule (leaves : ℕ) (e : Expression) (g : Tables) : Type 0 where
  pub body : ℕ
  pub bodies : g.bodies ≡ Some body ∷ []
  pub is_body : IsNode leaves e g.nodes body
