-- The parser of rows accepts just these.
-- Main laws: rows-sound, rows-complete, comma_ends. Read first: Rows.antt, BitsLaws.antt.
use Rattle.std.proofs.Common.{◌≡◌, ℕ, false, nat_eq, None, List, ◌++◌, refl, sym, arith, subst}
use Rattle.std.specs.Prelude.{codes, ⊤, length, ◌<◌}
use Rattle.std.specs.declared.alloc.Global.{Global}
use Rattle.std.specs.declared.vec.Vec.{Vec}
use Rattle.chumsky_parser.specs.Ending.{DoesNotEnd}
use Rattle.chumsky_parser.specs.ItemsLanguage.{IsListFrom, ListFrom}
use Rattle.chumsky_parser.specs.Words.{IsOne}
use Rattle.chumsky_primitive.specs.Literals.{equals-same, same-equals}
use Rattle.chumsky_primitive.specs.PrimitiveLanguage.{Equals, one_ends}
use Rattle.chumsky_items.specs.ListLanguage.{Holding}
use Rattle.chumsky_items.specs.ListWords.{RepeatedWord, RepeatedEnd, SeparatedWord, SeparatedEnd}
use Rattle.chumsky_exact.specs.Rendered.{OfEach, separated-written, written-separated}
use Rattle.exact.specs.Bits.{IsBit}
use Rattle.exact.specs.BitsLaws.{is_bit, bits-sound, bits-complete}
use Rattle.exact.specs.Rows.{IsRow, IsRows}

abbrev pub Comma : List ℕ → Type 0
Comma = Equals nat_eq (codes ",")

-- the words of a row, and the bits that one stands for
abbrev pub RowWord : List ℕ → Type 0
RowWord = IsListFrom (RepeatedWord None (IsOne is_bit (λ t. ⊤))) (RepeatedEnd 1 None) 0

abbrev pub RowOf : List ℕ → Vec ℕ Global → Type 0
RowOf = Holding (ListFrom (λ k w c. RepeatedWord None (λ z. IsOne is_bit (λ t. c ≡ t) z) k w) (RepeatedEnd 1 None) 0) (λ xs v. v.items ≡ xs)

row-is : (w : List ℕ) (row : Vec ℕ Global) → RowOf w row → (w ≡ row.items) × IsRow row
row-is w row h =
    let b = bits-sound w row h in
    let e : w ≡ row.items = sym b.held in
    (e, (subst (OfEach IsBit) e b.bits, subst (λ z. 0 < length z) e b.some))

is-row : (row : Vec ℕ Global) → IsRow row → RowWord row.items
is-row row g = bits-complete row.items row (record { held = refl; bits = g.0; some = g.1 })

-- what a word stands for are its rows
pub rows-sound : (cs : List ℕ) (v : Vec (Vec ℕ Global) Global) → Holding (ListFrom (λ k w row. SeparatedWord Comma false None (λ u. RowOf u row) k w) (SeparatedEnd Comma false false 0 None) 0) (λ xs v. v.items ≡ xs) cs v → IsRows cs v
rows-sound cs v h =
    let w = separated-written (λ row. row.items) (codes ",") 0 IsRow Comma RowOf row-is (λ u e. equals-same (codes ",") u e) false h.items cs h.is in
    rw h.held (w.0, w.1)

-- and rows are a word
pub rows-complete : (cs : List ℕ) (v : Vec (Vec ℕ Global) Global) → IsRows cs v → IsListFrom (SeparatedWord Comma false None RowWord) (SeparatedEnd Comma false false 0 None) 0 cs
rows-complete cs v i = written-separated (λ row. row.items) (codes ",") 0 IsRow Comma RowWord is-row (same-equals (codes ",")) false v.items cs i.0 i.1 (omega arith)

-- no bit goes on with a row at a comma
pub comma_ends : (w rest : List ℕ) → Comma w → DoesNotEnd (one_ends is_bit (w ++ rest))
comma_ends w rest d = let e : w ≡ codes "," = equals-same (codes ",") w d in rw e tt
