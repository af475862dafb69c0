-- What a line of pairs is to its parser, and that a text is of one list of pairs.
-- Main laws: pairs-sound, pairs-complete, pairs-once, line-pair. Read first: Pairs.antt, Pieces.antt and Lexemes.antt of chumsky_exact.
use Rattle.std.proofs.Common.{◌≡◌, ℕ, List, [], ◌++◌, refl, sym, ◌∙◌, subst}
use Rattle.std.specs.Prelude.{codes}
use Rattle.std.specs.declared.alloc.Global.{Global}
use Rattle.std.specs.declared.vec.Vec.{Vec}
use Rattle.chumsky_parser.specs.Words.{StopsAt}
use Rattle.chumsky_items.specs.ListLanguage.{Holding}
use Rattle.chumsky_text.specs.Decimals.{IsDecimal}
use Rattle.chumsky_text.specs.Names.{IsName}
use Rattle.chumsky_exact.specs.InTurn.{Is, Tree, Part, Then, Ahead, leaves, Words, Turn, same, from_of, as_defined, as_parsed, turned}
use Rattle.chumsky_exact.specs.Lexemes.{AreBlanks, blanks, name, number, fixed, only, before_one, sliced_name, sliced_number, spelled, the, the_number, spells}
use Rattle.chumsky_exact.specs.Lines.{LinesOf, AreLines, collected-lines, lines-list, lines-once}
use Rattle.chumsky_exact.specs.Pieces.{Piece, word_of, row-once, row-some}
use Rattle.chumsky_exact.specs.Ranges.{Only, barred}
use Rattle.exact.specs.Pairs.{Pair, IsPair, IsLine, IsPairs, Slices, text_of, HoldsPairs}

-- a line as its parser nests its parts
abbrev pub nested : {A : Type 1} → A → A → A → A → A → Tree A
nested blank name sign number end = Then (Part blank) (Then (Then (Part name) (Then (Part blank) (Then (Part sign) (Part blank)))) (Then (Part number) (Then (Part blank) (Ahead end))))

abbrev pub line : Tree Piece
line = nested blanks name (fixed (codes "=")) number (before_one (codes "\n"))

-- what is known of each part of a word, with what that says; and what a line says of each, with the words that these are
abbrev pub heard : Slices → Tree (Turn ℕ)
heard s = nested (same AreBlanks) (sliced_name s.0) (spelled (codes "=")) (sliced_number s.1) (same (Is []))

abbrev pub told : Pair → Tree (Turn ℕ)
told p = nested (same AreBlanks) (the IsName p.0) (spells (codes "=")) (the_number p.1) (same (Is []))

-- so a list of words stands for the pairs of the text, and pairs are such a word
pub pairs-sound : (cs : List ℕ) (v : Vec Slices Global) → Holding (LinesOf (λ w s. Words from_of (heard s) w) (codes "\n") 0) (λ xs v. v.items ≡ xs) cs v → HoldsPairs cs v
pairs-sound cs v h = collected-lines (λ w s. Words from_of (heard s) w) IsLine text_of (λ w s i. as_defined (heard s) w i) (codes "\n") cs v h

pub pairs-complete : (cs : List ℕ) (ps : List Pair) → IsPairs cs ps → AreLines (Words word_of line) (codes "\n") 0 cs
pairs-complete cs ps i = lines-list IsLine (Words word_of line) (λ w p j. as_parsed (told p) w j) (codes "\n") i

-- one line alone is at the front of a text, before its end
abbrev AtEnd : List ℕ → Type 0
AtEnd = StopsAt (barred (Only (only (codes "\n"))))

line-once : (w u x y : List ℕ) (p q : Pair) → IsLine w p → IsLine u q → AtEnd x → AtEnd y → w ++ x ≡ u ++ y → (p ≡ q) × (x ≡ y)
line-once w u x y p q i j s t e =
    let r = row-once (leaves line []) (Only (only (codes "\n"))) refl w u x y (turned (leaves (told p) []) w i) (turned (leaves (told q) []) u j) s t e in
    let a : p.0 ≡ q.0 = sym i.is_second.is_first.1 ∙ r.0.1.0 ∙ j.is_second.is_first.1 in
    let m = i.is_second.is_second.is_second.is_second.is_second in
    let n = j.is_second.is_second.is_second.is_second.is_second in
    let b : p.1 ≡ q.1 = sym m.is_first.1 ∙ r.0.1.1.1.1.1.0 ∙ n.is_first.1 in
    let both : ◌≡◌ {A = Pair} (p.0, p.1) (q.0, q.1) = cc (a, b) in
    (both, r.1)

-- so a text is of one list of pairs
pub pairs-once : (cs : List ℕ) (ps qs : List Pair) → IsPairs cs ps → IsPairs cs qs → ps ≡ qs
pairs-once cs ps qs g h = lines-once IsLine 10 [] (λ p i. row-some (leaves line []) refl (turned (leaves (told p) []) [] i)) AtEnd tt (λ rest. refl) line-once cs ps qs g h

-- and what a line says is a pair
pub line-pair : (w : List ℕ) (p : Pair) → IsLine w p → IsPair p
line-pair w p i =
    let n = i.is_second.is_second.is_second.is_second.is_second in
    (subst IsName i.is_second.is_first.1 i.is_second.is_first.0, subst IsDecimal n.is_first.1 n.is_first.0)
