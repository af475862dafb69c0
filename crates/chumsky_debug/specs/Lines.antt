-- Which nodes have lines of their own, so that no text is printed twice.
use Rattle.std.specs.Prelude.{ℕ, zero, suc, ◌+◌, ◌==◌, Bool, true, false, not, ◌&&◌, nat_le, if◌then◌else◌, List, length, Option, Some, None, slice_get}
use Rattle.std.specs.List.{sum_by}
use Rattle.chumsky_rules.specs.declared.kinds.NodeKind.{NodeKind}
use Rattle.chumsky_rules.specs.declared.kinds.NodeKind.TheVariants.{Leaf, Rule, Then, Choice, Repeated, SeparatedBy, OrNot, Not, AndIs, Rewind, Map, TryMap}
use Rattle.chumsky_rules.specs.Tables.{Tables}

-- a leaf, a call, or a mapper of what is called so
abbrev pub called : (ℕ → Bool) → Option NodeKind → Bool
called part None = false
called part (Some (Leaf n)) = true
called part (Some (Rule r)) = true
called part (Some (Then a b f)) = false
called part (Some (Choice v)) = false
called part (Some (Repeated a least most)) = false
called part (Some (SeparatedBy a b cfg)) = false
called part (Some (OrNot a)) = false
called part (Some (Not a)) = false
called part (Some (AndIs a b)) = false
called part (Some (Rewind a)) = false
called part (Some (Map a f)) = part a
called part (Some (TryMap a f)) = part a

-- the same of a node below a bound
unfoldable pub is_named : List NodeKind → ℕ → ℕ → Bool
is_named nodes zero n = false
is_named nodes (suc bound) n = called (is_named nodes bound) (slice_get nodes n)

-- one where the two are one node
abbrev pub count_of : ℕ → ℕ → ℕ
count_of n m = if m == n then 1 else 0

-- at how many places of a kind it is printed: of a list with separators, each part at two or more
abbrev pub places_in : ℕ → NodeKind → ℕ
places_in n (Leaf m) = 0
places_in n (Rule r) = 0
places_in n (Then a b f) = count_of n a + count_of n b
places_in n (Choice v) = sum_by (count_of n) v.items
places_in n (Repeated a least most) = count_of n a
places_in n (SeparatedBy a b cfg) = (count_of n a + count_of n a) + (count_of n b + count_of n b)
places_in n (OrNot a) = count_of n a
places_in n (Not a) = count_of n a
places_in n (AndIs a b) = count_of n a + count_of n b
places_in n (Rewind a) = count_of n a
places_in n (Map a f) = count_of n a
places_in n (TryMap a f) = count_of n a

abbrev pub bodies_at : ℕ → Option ℕ → ℕ
bodies_at n (Some body) = count_of n body
bodies_at n None = 0

-- at how many places a node is printed
abbrev pub places_at : Tables → ℕ → ℕ
places_at g n = sum_by (places_in n) g.nodes + sum_by (bodies_at n) g.bodies

-- a node that would be printed at more than one place, and is called by no name, has a line of its own
abbrev pub has_line : Tables → ℕ → Bool
has_line g n = not (is_named g.nodes (length g.nodes) n) && nat_le 2 (places_at g n)
