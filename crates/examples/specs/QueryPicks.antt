-- What the parts of a query decide by their bytes: a number, a length, a head.
-- Laws: QueryPicksLaws.antt. Read first: Query.antt.
use Rattle.std.specs.Prelude.{◌≡◌, ℕ, ◌+◌, ◌*◌, nat_lt, ◌&&◌, cond, Option, Some, None, List, [], ◌∷◌}
use Rattle.std.specs.declared.alloc.Global.{Global}
use Rattle.std.specs.declared.vec.Vec.{Vec}
use Rattle.examples.specs.declared.query.Head.{Head}

-- a collection holds these
abbrev pub Holds : {V : Type 0} → List V → Vec V Global → Type 0
Holds xs v = v.items ≡ xs

-- the number of two bytes
abbrev pub number_of : List ℕ → Option ℕ
number_of (high ∷ low ∷ []) = cond (nat_lt low 256) (Some (high * 256 + low)) None
number_of _ = None

-- the length of a label in a byte
abbrev pub length_of : ℕ → Option ℕ
length_of n = cond (nat_lt 0 n && nat_lt n 64) (Some n) None

abbrev pub label_length : List ℕ → Option ℕ
label_length (n ∷ []) = length_of n
label_length _ = None

-- the head of six numbers
abbrev pub head_of : ℕ × ℕ × ℕ × ℕ × ℕ × ℕ → Head
head_of n = record { id = n.0; flags = n.1; questions = n.2; answers = n.3; authorities = n.4; additionals = n.5 }

abbrev pub packet_head : List ℕ → Option Head
packet_head (a ∷ b ∷ c ∷ d ∷ e ∷ f ∷ g ∷ h ∷ i ∷ j ∷ k ∷ l ∷ []) = Some (head_of (a * 256 + b, c * 256 + d, e * 256 + f, g * 256 + h, i * 256 + j, k * 256 + l))
packet_head _ = None
