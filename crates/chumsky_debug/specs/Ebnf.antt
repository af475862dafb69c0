-- What is printed of rules as EBNF.
-- Main word: ebnf_text. Read first: Names.antt, Lines.antt.
use Rattle.std.specs.Prelude.{ℕ, zero, suc, ◌-◌, ◌==◌, Bool, true, false, nat_eq, nat_lt, min, if◌then◌else◌, List, [], ◌∷◌, ◌++◌, length, flat_map, Option, Some, None, slice_get, codes, decimal}
use Rattle.std.specs.Option.{option_map}
use Rattle.chumsky_rules.specs.declared.kinds.NodeKind.{NodeKind}
use Rattle.chumsky_rules.specs.declared.kinds.SepCfg.{SepCfg}
use Rattle.chumsky_rules.specs.declared.kinds.NodeKind.TheVariants.{Leaf, Rule, Then, Choice, Repeated, SeparatedBy, OrNot, Not, AndIs, Rewind, Map, TryMap}
use Rattle.chumsky_rules.specs.Tables.{Tables}
use Rattle.chumsky_debug.specs.declared.debug.DebugInfo.{DebugInfo}
use Rattle.chumsky_debug.specs.Names.{least_of, name_text, times_text}
use Rattle.chumsky_debug.specs.Lines.{has_line}

-- how tightly what is printed of a kind holds together: alternatives, sequences, what has a prefix, what has a suffix, names
abbrev pub level_of : NodeKind → ℕ
level_of (Leaf n) = 4
level_of (Rule r) = 4
level_of (Then a b f) = 1
level_of (Choice v) = 0
level_of (Repeated a least most) = 3
level_of (SeparatedBy a b cfg) = 1
level_of (OrNot a) = 3
level_of (Not a) = 2
level_of (AndIs a b) = 1
level_of (Rewind a) = 2
level_of (Map a f) = 4
level_of (TryMap a f) = 4

-- in brackets, if so
abbrev pub enclosed : Bool → List ℕ → List ℕ
enclosed true text = codes "(" ++ (text ++ codes ")")
enclosed false text = text

-- the bounds of the items after the first
abbrev pub others_text : ℕ → Option ℕ → List ℕ
others_text least most = times_text (least_of least most - 1) (option_map (λ n. n - 1) most)

abbrev pub node_name : ℕ → List ℕ
node_name n = codes "node" ++ decimal n

abbrev pub rule_name : DebugInfo → ℕ → List ℕ
rule_name info r = name_text info.rule_names.now (codes "rule") r

abbrev pub leaf_name : DebugInfo → ℕ → List ℕ
leaf_name info n = name_text info.leaf_names.now (codes "leaf") n

module _ (part : ℕ → ℕ → List ℕ) where
  -- a part that may be absent
  abbrev pub perhaps : ℕ → List ℕ
  perhaps n = part 4 n ++ codes "?"

  -- the first that succeeds; without any, what fails
  abbrev pub choice_text : List ℕ → List ℕ
  choice_text [] = codes "!()"
  choice_text (n ∷ others) = part 1 n ++ flat_map (λ m. codes " | " ++ part 1 m) others

  -- a separator and an item, so often
  abbrev pub rest_text : ℕ → ℕ → SepCfg → List ℕ
  rest_text a b cfg = codes " (" ++ (part 1 b ++ (codes " " ++ (part 1 a ++ (codes ")" ++ others_text cfg.at_least cfg.at_most))))

  -- the others, unless the cap is one
  abbrev pub more_text : ℕ → ℕ → SepCfg → Option ℕ → List ℕ
  more_text a b cfg (Some (suc zero)) = []
  more_text a b cfg (Some zero) = rest_text a b cfg
  more_text a b cfg (Some (suc (suc n))) = rest_text a b cfg
  more_text a b cfg None = rest_text a b cfg

  abbrev pub trailing_text : ℕ → Bool → List ℕ
  trailing_text b true = codes " " ++ perhaps b
  trailing_text b false = []

  abbrev pub leading_text : ℕ → Bool → List ℕ
  leading_text b true = perhaps b ++ codes " "
  leading_text b false = []

  -- one item or more
  abbrev pub items_text : ℕ → ℕ → SepCfg → List ℕ
  items_text a b cfg = part 1 a ++ (more_text a b cfg cfg.at_most ++ trailing_text b cfg.allow_trailing)

  -- items that may be absent, if so
  abbrev pub absent_text : Bool → List ℕ → List ℕ
  absent_text true text = codes "(" ++ (text ++ codes ")?")
  absent_text false text = text

  -- a list; with a cap of none, nothing
  abbrev pub listed_text : ℕ → ℕ → SepCfg → Option ℕ → List ℕ
  listed_text a b cfg (Some zero) = codes "()"
  listed_text a b cfg (Some (suc n)) = leading_text b cfg.allow_leading ++ absent_text (nat_eq cfg.at_least 0) (items_text a b cfg)
  listed_text a b cfg None = leading_text b cfg.allow_leading ++ absent_text (nat_eq cfg.at_least 0) (items_text a b cfg)

  abbrev pub list_text : ℕ → ℕ → SepCfg → List ℕ
  list_text a b cfg = listed_text a b cfg cfg.at_most

  -- a node of a kind, without brackets; of a mapper its part
  abbrev pub open_text : DebugInfo → ℕ → NodeKind → List ℕ
  open_text info level (Leaf n) = leaf_name info n
  open_text info level (Rule r) = rule_name info r
  open_text info level (Then a b f) = part 1 a ++ (codes " " ++ part 1 b)
  open_text info level (Choice v) = choice_text v.items
  open_text info level (Repeated a least most) = part 4 a ++ times_text (least_of least most) most
  open_text info level (SeparatedBy a b cfg) = list_text a b cfg
  open_text info level (OrNot a) = perhaps a
  open_text info level (Not a) = codes "!" ++ part 2 a
  open_text info level (AndIs a b) = codes "&" ++ (part 2 b ++ (codes " " ++ part 1 a))
  open_text info level (Rewind a) = codes "&" ++ part 2 a
  open_text info level (Map a f) = part level a
  open_text info level (TryMap a f) = part level a

  -- in brackets where it doesn't hold together as tightly as it has to
  abbrev pub kind_text : DebugInfo → ℕ → Option NodeKind → List ℕ
  kind_text info level None = []
  kind_text info level (Some k) = enclosed (nat_lt (level_of k) level) (open_text info level k)

-- its name where a node has a line of its own, else its text
abbrev pub named_or : Bool → ℕ → List ℕ → List ℕ
named_or true n text = node_name n
named_or false n text = text

-- a node, and a part, which are to hold together so tightly; of parts that are so many deep
unfoldable pub node_text : DebugInfo → ℕ → ℕ → ℕ → List ℕ
node_text info zero level n = []
node_text info (suc bound) level n = kind_text (λ l m. named_or (has_line info.rules.now m) m (node_text info bound l m)) info level (slice_get info.rules.now.nodes n)

abbrev pub part_text : DebugInfo → ℕ → ℕ → ℕ → List ℕ
part_text info bound level n = named_or (has_line info.rules.now n) n (node_text info bound level n)

-- a line: a name, and what it stands for
abbrev pub line_text : List ℕ → List ℕ → List ℕ
line_text name text = name ++ (codes " ::= " ++ (text ++ codes "\n"))

-- the line of a rule: parts have smaller numbers, so they are no deeper than the number of nodes
abbrev pub body_line : DebugInfo → ℕ → Option ℕ → List ℕ
body_line info r (Some n) = line_text (rule_name info r) (part_text info (length info.rules.now.nodes) 0 n)
body_line info r None = line_text (rule_name info r) (codes "/* undefined */")

abbrev pub body_at : Option (Option ℕ) → Option ℕ
body_at (Some body) = body
body_at None = None

abbrev pub rule_line : DebugInfo → ℕ → List ℕ
rule_line info r = body_line info r (body_at (slice_get info.rules.now.bodies r))

abbrev pub own_line : DebugInfo → ℕ → Bool → List ℕ
own_line info n true = line_text (node_name n) (node_text info (length info.rules.now.nodes) 0 n)
own_line info n false = []

-- the line of a node that has one
abbrev pub node_line : DebugInfo → ℕ → List ℕ
node_line info n = own_line info n (has_line info.rules.now n)

-- the lines of the numbers below a bound
unfoldable pub lines_below : (ℕ → List ℕ) → ℕ → List ℕ
lines_below line zero = []
lines_below line (suc n) = lines_below line n ++ line n

-- the line of each rule, and of each node that has one
abbrev pub ebnf_text : DebugInfo → List ℕ
ebnf_text info = lines_below (rule_line info) (length info.rules.now.bodies) ++ lines_below (node_line info) (length info.rules.now.nodes)
