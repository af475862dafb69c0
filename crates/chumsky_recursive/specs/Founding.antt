-- What the lemmas on founded rules ask, from what actions promise.
use Rattle.std.proofs.Common.{◌≡◌, ◌∙◌, ℕ, ◌<◌, Bool, true, false, refl, sym, subst, arith}
use Rattle.std.proofs.lemmas.List.FromFn.{get_or-map-range_with_len}
use Rattle.chumsky_input.specs.Layout.{Layout}
use Rattle.chumsky_input.specs.declared.stop.Stop.{Stop}
use Rattle.chumsky_input.specs.Outcome.{Meaning, IsAnswer, EndsAfterStart}
use Rattle.chumsky_parser.specs.Progress.{IsYes}
use Rattle.chumsky_parser.specs.Progress.{Moves}
use Rattle.chumsky_rules.specs.declared.kinds.NodeKind.TheVariants.{Leaf}
use Rattle.chumsky_rules.specs.Tables.{Tables}
use Rattle.chumsky_rules.specs.Closed.{IsKnown}
use Rattle.chumsky_rules.specs.Empty.{IsMarked, IsNode}
use Rattle.chumsky_recursive.specs.InPlace.{InPlace}
use Rattle.chumsky_recursive.specs.Moving.{answers_of}
use Rattle.chumsky_recursive.specs.Staying.{StaysOnlyIf}
use Rattle.chumsky_recursive.specs.Reach.{Reach, Reach-refl, Reach-trans}
use Rattle.chumsky_recursive.specs.Going.{SucceedsBy}
use Rattle.chumsky_recursive.specs.Refused.{LeafHalts}

module _ {Tok Cx St Er V : Type 0} where
  -- a leaf that ends within the tokens goes forward and stays there
  pub in_place-goes : (m : Meaning Tok Cx St Er V) → EndsAfterStart m → SucceedsBy Reach Reach-refl Reach-trans (InPlace m)
  in_place-goes m h b o k v y = (h b o k.meant (subst IsAnswer (sym y) tt), λ _. k.within v y)

  -- a leaf that halts, halts by what it means alone
  pub in_place-halts : (leaf : ℕ → Meaning Tok Cx St Er V) (g : Tables) (tokens : Layout Tok) (s : Stop) → LeafHalts (λ n. InPlace (leaf n)) g tokens s → LeafHalts leaf g tokens s
  in_place-halts leaf g tokens s h = record { number = h.number; node = h.node; is = h.is; begun = h.begun; on = h.on; there = h.there; out = h.out; meant = h.meant.meant; halts = h.halts }

  marked_or : (f : ℕ → Bool) (m : Meaning Tok Cx St Er V) (count x : ℕ) → x < count → (f x ≡ false → Moves m) → (t : Bool) → f x ≡ t → StaysOnlyIf (IsMarked (answers_of f count) x) (InPlace m)
  marked_or f m count x l h true e b o k v y s = get_or-map-range_with_len f 0 count x x false l (omega arith) ∙ e
  marked_or f m count x l h false e b o k v y s = let w = h e b o k.meant (subst IsYes (sym y) tt) in absurd (omega arith)

  -- a leaf node of closed rules stays where it begins only if its answer says so
  pub leaf-moves : (f : ℕ → Bool) (leaf : ℕ → Meaning Tok Cx St Er V) (count : ℕ) (g : Tables) → IsKnown g count
      → ((x : ℕ) → f x ≡ false → Moves (leaf x)) → (n x : ℕ) → IsNode g n (Leaf x)
      → StaysOnlyIf (IsMarked (answers_of f count) x) (InPlace (leaf x))
  leaf-moves f leaf count g known h n x is = marked_or f (leaf x) count x (known n x is) (h x) (f x) refl
