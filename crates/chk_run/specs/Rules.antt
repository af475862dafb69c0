-- The rules of `loops` and of `settings`, as their nodes, and that they make a grammar.
-- Main word: MakesGrammar. Laws: RulesLaws.antt.
use Rattle.std.specs.Prelude.{◌≡◌, ℕ, ◌<◌, List, [], ◌∷◌, ◌++◌, Bool, true, false, None, length}
use Rattle.std.specs.declared.vec.Vec.{Vec}
use Rattle.std.specs.declared.alloc.Global.{Global}
use Rattle.chumsky_rules.specs.declared.kinds.NodeKind.{NodeKind}
use Rattle.chumsky_rules.specs.declared.kinds.NodeKind.TheVariants as kind
use Rattle.chumsky_rules.specs.declared.kinds.SepCfg.{SepCfg}
use Rattle.chumsky_rules.specs.Tables.{Tables}
use Rattle.chumsky_rules.specs.Closed.{IsDefined, IsKnown}
use Rattle.chumsky_rules.specs.Empty.{IsMarked}
use Rattle.chumsky_recursive.specs.Unfounded.{AreFounded}

-- the nodes of loops
abbrev pub loops_nodes : Vec ℕ Global → List NodeKind
loops_nodes v = kind.Leaf 0 ∷ kind.Leaf 1 ∷ kind.Rule 0 ∷ kind.Leaf 2 ∷ kind.Then 2 3 0 ∷ kind.Then 1 4 0 ∷ kind.Map 5 0 ∷ kind.Choice v ∷ kind.Repeated 7 0 None ∷ []

abbrev pub HasLoops : List NodeKind → ℕ → Type 0
HasLoops nodes n = (v : Vec ℕ Global) × (v.items ≡ 0 ∷ 6 ∷ []) × (nodes ≡ loops_nodes v) × (n ≡ 8)

-- values with commas between them and maybe one after the last
abbrev pub values_config : SepCfg
values_config = record { at_least = 0; at_most = None; allow_leading = false; allow_trailing = true }

-- the nodes of a value
abbrev pub first_nodes : List NodeKind
first_nodes = kind.Leaf 1 ∷ kind.TryMap 0 0 ∷ kind.Leaf 0 ∷ []

abbrev pub list_nodes : List NodeKind
list_nodes = kind.Leaf 4 ∷ kind.Rule 1 ∷ kind.Map 4 1 ∷ kind.Leaf 5 ∷ kind.SeparatedBy 5 6 values_config ∷ kind.Leaf 6 ∷ kind.Then 7 8 0 ∷ kind.Then 3 9 0 ∷ kind.Map 10 2 ∷ []

abbrev pub setting_nodes : List NodeKind
setting_nodes = kind.Leaf 0 ∷ kind.Map 13 0 ∷ kind.Leaf 2 ∷ kind.Rule 1 ∷ kind.Leaf 3 ∷ kind.Then 16 17 0 ∷ kind.Then 15 18 0 ∷ kind.Then 14 19 0 ∷ kind.Repeated 20 0 None ∷ []

abbrev pub settings_nodes : Vec ℕ Global → List NodeKind
settings_nodes v = first_nodes ++ (list_nodes ++ (kind.Choice v ∷ setting_nodes))

abbrev pub HasValue : List NodeKind → Type 0
HasValue nodes = (v : Vec ℕ Global) × (v.items ≡ 1 ∷ 2 ∷ 11 ∷ []) × (nodes ≡ first_nodes ++ (list_nodes ++ (kind.Choice v ∷ [])))

abbrev pub HasSettings : List NodeKind → Type 0
HasSettings nodes = (v : Vec ℕ Global) × (v.items ≡ 1 ∷ 2 ∷ 11 ∷ []) × (nodes ≡ settings_nodes v)

-- these rules make a grammar over so many leaves, where none may be empty
pub record MakesGrammar (g : Tables) (start count : ℕ) : Type 0 where
  pub defined : IsDefined g
  pub known : IsKnown g count
  pub started : start < length g.bodies
  pub founded : (leaves : List Bool) → ((n : ℕ) → IsMarked leaves n → ⊥) → AreFounded g leaves
