-- Patterns written one after another.
use Rattle.std.proofs.Common.{arith, rules, ◌≡◌, refl, ap, subst, ◌∙◌, ℕ, ◌-◌, ◌<◌, ◌≤◌, true, false, nat_eq, List, [], ◌∷◌, length, take, drop, get_or, IsOk, Result}
use Rattle.std.proofs.lemmas.List.{take_all}
use Rattle.std.proofs.Output.{has_written_append, writes_in_calls_nil, then_text_assoc}
use Rattle.std.specs.Prelude.{Option, Some, None, codes}
use Rattle.std.specs.Option.{IfSome}
use Rattle.std.specs.Fmt.{◌++?◌, HasWritten, IsPlainFormatter, DisplaysOnOk}
use Rattle.std.specs.declared.fmt.Error.{Error}
use Rattle.std.specs.declared.fmt.Formatter.{Formatter}
use Rattle.chumsky_input.specs.Display.{separator, pattern_text, others_text}
use Rattle.chumsky_input.specs.declared.rich.RichPattern.{RichPattern}

pub separator_last : {T : Type 0} (later : List (RichPattern T)) → nat_eq (length later) 0 ≡ true → separator later ≡ codes " or "
separator_last [] e = refl
separator_last (p ∷ later) e = search rules

pub separator_between : {T : Type 0} (later : List (RichPattern T)) → nat_eq (length later) 0 ≡ false → separator later ≡ codes ", "
separator_between [] e = search rules
separator_between (p ∷ later) e = refl

module _ {W : Type 0} (took : W → List ℕ → W → Type 0) where
  abbrev pub Shows : Formatter W → Option (List ℕ) → Formatter W → Type 0
  Shows f o g = IfSome o (λ bs. HasWritten took f bs g)

  pub shows_from : (f g : Formatter W) (r : Result (Unit {0}) Error) (o : Option (List ℕ)) → DisplaysOnOk took f r o g → IsPlainFormatter f → IsOk r → Shows f o g
  shows_from f g r None x p ok = tt
  shows_from f g r (Some a) x p ok = x p ok

  pub shows_to : (f g : Formatter W) (r : Result (Unit {0}) Error) (o : Option (List ℕ)) → (IsPlainFormatter f → Shows f o g) → DisplaysOnOk took f r o g
  shows_to f g r None k = tt
  shows_to f g r (Some a) k = λ p ok. k p

  shows_then : (f g h : Formatter W) (o p : Option (List ℕ)) → Shows f o g → (IsPlainFormatter g → Shows g p h) → Shows f (o ++? p) h
  shows_then f g h None p x y = tt
  shows_then f g h (Some a) None x y = tt
  shows_then f g h (Some a) (Some b) x y = has_written_append took f a g b h x (y x.plain)

  pub nothing_written : (f : Formatter W) → IsPlainFormatter f → HasWritten took f [] f
  nothing_written f p = record { wrote = writes_in_calls_nil took f.writer; plain = p }

  -- nothing is left
  pub none_left : {T : Type 0} (shown : T → Option (List ℕ)) (f : Formatter W) (rest : List (RichPattern T)) → length rest < 1 → IsPlainFormatter f → Shows f (others_text shown rest) f
  none_left shown f [] l p = nothing_written f p
  none_left shown f (q ∷ rest) l p = absurd (omega arith)

  -- one pattern, and then the others
  pub one_more : {T : Type 0} (shown : T → Option (List ℕ)) (f g h : Formatter W) (rest : List (RichPattern T)) (p : RichPattern T) (before : List ℕ)
      → 1 ≤ length rest → p ≡ get_or rest 0 p → before ≡ separator (take (length rest - 1) (drop 1 rest))
      → Shows f (Some before ++? pattern_text shown p) g
      → (IsPlainFormatter g → Shows g (others_text shown (take (length rest - 1) (drop 1 rest))) h)
      → Shows f (others_text shown rest) h
  one_more shown f g h [] p before l is b x y = absurd (omega arith)
  one_more shown f g h (q ∷ later) p before l is b x y =
      let all : take (length (q ∷ later) - 1) later ≡ later = take_all _ later (omega arith) in
      subst (λ t. Shows f t h) (then_text_assoc (Some before) (pattern_text shown p) (others_text shown later)
      ∙ ap (λ t. Some t ++? (pattern_text shown p ++? others_text shown later)) (b ∙ ap separator all)
      ∙ ap (λ t. Some (separator later) ++? (pattern_text shown t ++? others_text shown later)) is)
      (shows_then f g h (Some before ++? pattern_text shown p) (others_text shown later) x
      (λ plain. subst (λ t. Shows g (others_text shown t) h) all (y plain)))
