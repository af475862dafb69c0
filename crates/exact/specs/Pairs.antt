-- How pairs of names and numbers are written, a line each, with blanks around their parts.
-- Main words: Pair, IsLine, IsPairs, HoldsPairs, ended. Laws: PairsLaws.antt. Read first: InTurn.antt, Lines.antt of chumsky_exact.
use Rattle.std.specs.Prelude.{ℕ, List, [], ◌∷◌, ◌++◌, codes, map}
use Rattle.std.specs.Borrow.{Bor}
use Rattle.std.specs.declared.alloc.Global.{Global}
use Rattle.std.specs.declared.vec.Vec.{Vec}
use Rattle.chumsky_text.specs.Names.{IsName}
use Rattle.chumsky_text.specs.Decimals.{IsDecimal}
use Rattle.chumsky_exact.specs.InTurn.{InTurn, The, Is}
use Rattle.chumsky_exact.specs.Lexemes.{AreBlanks}
use Rattle.chumsky_exact.specs.Lines.{Lines}

-- a name and a number, as they are written
abbrev pub Pair : Type 0
Pair = List ℕ × List ℕ

abbrev pub IsPair : Pair → Type 0
IsPair p = IsName p.0 × IsDecimal p.1

-- a pair in a line, as `size=10` and `  size =  10 `: its name, an equals sign and its number, with blanks around each
abbrev pub IsLine : List ℕ → Pair → Type 0
IsLine cs p = InTurn (AreBlanks ∷ The IsName p.0 ∷ AreBlanks ∷ Is (codes "=") ∷ AreBlanks ∷ The IsDecimal p.1 ∷ AreBlanks ∷ []) cs

-- these are the pairs of the text: one a line, and the last line may be ended too
abbrev pub IsPairs : List ℕ → List Pair → Type 0
IsPairs = Lines IsLine (codes "\n")

-- a pair in a line without blanks, which is ended
abbrev pub ended : Pair → List ℕ
ended p = p.0 ++ (codes "=" ++ (p.1 ++ codes "\n"))

-- the pairs of slices of a text
abbrev pub Slices : Type 0
Slices = Bor (List ℕ) × Bor (List ℕ)

abbrev pub text_of : Slices → Pair
text_of p = (p.0.now, p.1.now)

abbrev pub texts_of : List Slices → List Pair
texts_of ps = map text_of ps

abbrev pub pairs_of : Vec Slices Global → List Pair
pairs_of v = texts_of v.items

-- it holds the pairs of the text
abbrev pub HoldsPairs : List ℕ → Vec Slices Global → Type 0
HoldsPairs cs v = IsPairs cs (pairs_of v)
