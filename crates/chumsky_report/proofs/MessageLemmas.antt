-- The items of a list of patterns, one after another.
use Rattle.std.proofs.Common.{arith, rules, ◌≡◌, refl, sym, ap, subst, ◌∙◌, ℕ, zero, suc, ◌+◌, ◌-◌, ◌<◌, Bool, true, false, cond, nat_eq, List, [], ◌∷◌, ◌++◌, length, take, drop, Option}
use Rattle.std.proofs.lemmas.List.{append_assoc}
use Rattle.std.proofs.Output.{has_written_append, writes_in_calls_nil}
use Rattle.std.specs.Prelude.{codes, nat_le}
use Rattle.std.specs.Fmt.{HasWritten, IsPlainFormatter}
use Rattle.std.specs.declared.fmt.Formatter.{Formatter}
use Rattle.chumsky_input.specs.declared.rich.RichPattern.{RichPattern}
use Rattle.chumsky_report.specs.Message.{following, item_length, item_text, is_labelled, before_items, items, separator, others_text, listed}

module _ {T : Type 0} (number : T → ℕ) (text : T → List ℕ) (word : T → T → Option (List ℕ)) where
  item_some : (n : ℕ) (b : Bool) → 0 < cond b (1 + n) 1
  item_some n true = omega arith
  item_some n false = omega arith

  items_skip : (all : List (RichPattern T)) (n : ℕ) (ps : List (RichPattern T)) → items number text word all n ps ≡ items number text word all 0 (drop n ps)
  items_skip all zero ps = refl
  items_skip all (suc n) [] = refl
  items_skip all (suc n) (p ∷ ps) = items_skip all n ps

  -- the first item, and those after it
  items_step : (all ps : List (RichPattern T)) → 0 < length ps
      → items number text word all 0 ps ≡ before_items number text word all (take (item_length number text word ps) ps) (items number text word all 0 (drop (item_length number text word ps) ps))
  items_step all [] l = absurd (omega arith)
  items_step all (p ∷ ps) l =
      let n = item_length number text word (p ∷ ps) in
      let some : 0 < n = item_some (following number text word p ps) (nat_le 2 (following number text word p ps)) in
      let e : suc (n - 1) ≡ n = omega (arith, some) in
      ap (λ r. before_items number text word all (take n (p ∷ ps)) r) (items_skip all (n - 1) ps ∙ ap (λ k. items number text word all 0 (drop k (p ∷ ps))) e)

  -- a first item that a label says too
  pub labelled_step : (all ps : List (RichPattern T)) → 0 < length ps → is_labelled number text word all (take (item_length number text word ps) ps) ≡ true
      → items number text word all 0 ps ≡ items number text word all 0 (drop (item_length number text word ps) ps)
  labelled_step all ps l e =
      let later = items number text word all 0 (drop (item_length number text word ps) ps) in
      items_step all ps l ∙ ap (λ b. cond b later (item_text number text word (take (item_length number text word ps) ps) ∷ later)) e

  -- any other first item
  said_step : (all ps : List (RichPattern T)) → 0 < length ps → is_labelled number text word all (take (item_length number text word ps) ps) ≡ false
      → items number text word all 0 ps ≡ item_text number text word (take (item_length number text word ps) ps) ∷ items number text word all 0 (drop (item_length number text word ps) ps)
  said_step all ps l e =
      let later = items number text word all 0 (drop (item_length number text word ps) ps) in
      items_step all ps l ∙ ap (λ b. cond b later (item_text number text word (take (item_length number text word ps) ps) ∷ later)) e

  pub separator_last : (all rest : List (RichPattern T)) → nat_eq (length rest) 0 ≡ true → separator (items number text word all 0 rest) ≡ codes " or "
  separator_last all [] e = refl
  separator_last all (p ∷ rest) e = search rules

  pub separator_between : (all rest : List (RichPattern T)) → nat_eq (length rest) 0 ≡ false
      → is_labelled number text word all (take (item_length number text word rest) rest) ≡ false → separator (items number text word all 0 rest) ≡ codes ", "
  separator_between all [] e s = search rules
  separator_between all (p ∷ rest) e s = ap separator (said_step all (p ∷ rest) (omega arith) s)

  module _ {W : Type 0} (took : W → List ℕ → W → Type 0) where
    pub first_item : (f g h : Formatter W) (all whole ps item rest : List (RichPattern T)) → 0 < length ps
        → items number text word all 0 ps ≡ items number text word all 0 whole
        → is_labelled number text word all (take (item_length number text word ps) ps) ≡ false
        → item ≡ take (item_length number text word ps) ps
        → items number text word all 0 rest ≡ items number text word all 0 (drop (item_length number text word ps) ps)
        → HasWritten took f (item_text number text word item) g
        → (IsPlainFormatter g → HasWritten took g (others_text (items number text word all 0 rest)) h)
        → HasWritten took f (listed (items number text word all 0 whole)) h
    first_item f g h all whole ps item rest l w s i r x y =
        subst (λ t. HasWritten took f t h)
        (ap (λ q. item_text number text word q ++ others_text (items number text word all 0 rest)) i
        ∙ ap (λ q. item_text number text word (take (item_length number text word ps) ps) ++ others_text q) r
        ∙ sym (ap listed (sym w ∙ said_step all ps l s)))
        (has_written_append took f (item_text number text word item) g (others_text (items number text word all 0 rest)) h x (y x.plain))

    pub next_item : (f g h : Formatter W) (all ps item rest : List (RichPattern T)) (before : List ℕ) → 0 < length ps
        → is_labelled number text word all (take (item_length number text word ps) ps) ≡ false
        → item ≡ take (item_length number text word ps) ps
        → items number text word all 0 rest ≡ items number text word all 0 (drop (item_length number text word ps) ps)
        → before ≡ separator (items number text word all 0 rest)
        → HasWritten took f (before ++ item_text number text word item) g
        → (IsPlainFormatter g → HasWritten took g (others_text (items number text word all 0 rest)) h)
        → HasWritten took f (others_text (items number text word all 0 ps)) h
    next_item f g h all ps item rest before l s i r b x y =
        subst (λ t. HasWritten took f t h)
        (append_assoc before (item_text number text word item) (others_text (items number text word all 0 rest))
        ∙ ap (λ q. q ++ (item_text number text word item ++ others_text (items number text word all 0 rest))) b
        ∙ ap (λ q. separator (items number text word all 0 rest) ++ (item_text number text word q ++ others_text (items number text word all 0 rest))) i
        ∙ ap (λ q. separator q ++ (item_text number text word (take (item_length number text word ps) ps) ++ others_text q)) r
        ∙ sym (ap others_text (said_step all ps l s)))
        (has_written_append took f (before ++ item_text number text word item) g (others_text (items number text word all 0 rest)) h x (y x.plain))

    pub none_left : (f : Formatter W) (all rest : List (RichPattern T)) → length rest ≡ 0 → IsPlainFormatter f
        → HasWritten took f (others_text (items number text word all 0 rest)) f
    none_left f all [] l p = record { wrote = writes_in_calls_nil took f.writer; plain = p }
    none_left f all (q ∷ rest) l p = absurd (omega arith)
