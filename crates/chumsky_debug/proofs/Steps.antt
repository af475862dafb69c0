-- One step of what goes down a bound.
use Rattle.std.proofs.Common.{◌≡◌, ◌<◌, ◌≤◌, ℕ, zero, suc, ◌+◌, ◌-◌, ◌++◌, ◌∷◌, List, [], Option, false, refl, sym, ap, ◌∙◌, arith, slice_get, length, take, drop, get_or}
use Rattle.std.specs.List.{flat_map}
use Rattle.std.proofs.lemmas.List.{append-nil, take_all, take_more}
use Rattle.std.proofs.lemmas.Grind.{flat_map-append}
use Rattle.chumsky_rules.specs.declared.kinds.NodeKind.{NodeKind}
use Rattle.chumsky_debug.specs.declared.debug.DebugInfo.{DebugInfo}
use Rattle.chumsky_debug.specs.Ebnf.{kind_text, lines_below, node_text, part_text}
use Rattle.chumsky_debug.specs.Lines.{called, is_named}

less_one : (n : ℕ) → n ≡ suc n - 1
less_one n = omega arith

pub named_step : (nodes : List NodeKind) (bound n : ℕ) (k : Option NodeKind) → (bound ≡ 0 → ⊥) → slice_get nodes n ≡ k → is_named nodes bound n ≡ called (is_named nodes (bound - 1)) k
unfolding is_named
named_step nodes zero n k some is = absurd (some refl)
named_step nodes (suc bound) n k some is = ap (called (is_named nodes bound)) is ∙ ap (λ b. called (is_named nodes b) k) (less_one bound)

pub named_none : (nodes : List NodeKind) (n : ℕ) → is_named nodes 0 n ≡ false
unfolding is_named
named_none nodes n = refl

pub node_step : (info : DebugInfo) (bound level n : ℕ) (k : Option NodeKind) → (bound ≡ 0 → ⊥)
    → slice_get info.rules.now.nodes n ≡ k
    → node_text info bound level n ≡ kind_text (part_text info (bound - 1)) info level k
unfolding node_text
node_step info zero level n k some is = absurd (some refl)
node_step info (suc bound) level n k some is = ap (kind_text (part_text info bound) info level) is ∙ ap (λ b. kind_text (part_text info b) info level k) (less_one bound)

pub node_none : (info : DebugInfo) (level n : ℕ) → node_text info 0 level n ≡ []
unfolding node_text
node_none info level n = refl

pub lines_more : (line : ℕ → List ℕ) (n : ℕ) → lines_below line (n + 1) ≡ lines_below line n ++ line n
unfolding lines_below
lines_more line n = let one : n + 1 ≡ suc n = omega arith in ap (lines_below line) one

pub lines_none : (line : ℕ → List ℕ) → lines_below line 0 ≡ []
unfolding lines_below
lines_none line = refl

-- what is printed of one more of a list
pub each_more : (f : ℕ → List ℕ) (xs : List ℕ) (i x : ℕ) → i < length xs → x ≡ get_or xs i x → flat_map f (take (i + 1) xs) ≡ flat_map f (take i xs) ++ f x
each_more f xs i x within is =
    ap (flat_map f) (take_more xs i x within) ∙ flat_map-append f (take i xs) (get_or xs i x ∷ [])
    ∙ ap (λ text. flat_map f (take i xs) ++ text) (append-nil (f (get_or xs i x)) ∙ ap f (sym is))

-- those after the first
abbrev pub others_of : List ℕ → List ℕ
others_of xs = take (length xs - 1) (drop 1 xs)

-- the first and all others are the list
pub first_and_others : (xs : List ℕ) (i : ℕ) → 0 < length xs → length (others_of xs) ≤ i → get_or xs 0 0 ∷ take i (others_of xs) ≡ xs
first_and_others [] i some all = absurd (omega arith)
first_and_others (x ∷ xs) i some all =
    let whole : take (length (x ∷ xs) - 1) xs ≡ xs = take_all (length (x ∷ xs) - 1) xs (omega arith) in
    ap (λ others. x ∷ others) (ap (take i) whole ∙ take_all i xs (omega (arith, ap length whole, all)))
