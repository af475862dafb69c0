-- What is left of what is folded out of items from the last one back.
use Rattle.std.proofs.Common.{true, Some, List, [], ◌∷◌, ◌++◌, refl, sym, subst, Ok}
use Rattle.chumsky_input.specs.Held.{Held}
use Rattle.chumsky_input.specs.Run.{Ran}
use Rattle.chumsky_parser.specs.Chained.{Given}
use Rattle.chumsky_parser.proofs.ChainedLemmas.{ran-given, ran-weaker}
use Rattle.chumsky_folds.specs.FoldingBack.{FoldsRight, FoldedBack}

module _ {A V : Type 0} (steps : V → A → A → Type 0) where
  -- what is left of a list, after its last item was taken
  pub folds_right-less : (xs : List V) (x : V) (a b z : A) → steps x a b → FoldsRight steps b xs z → FoldsRight steps a (xs ++ x ∷ []) z
  folds_right-less [] x a b z s f = (a, refl, subst (λ y. steps x a y) (sym f) s)
  folds_right-less (y ∷ ys) x a b z s f = (f.0, folds_right-less ys x a b f.0 s f.1, f.2)

module _ {Tok Cx St Er V C A : Type 0} {merged : Er → Er → Er} {safe : Type 0} {holds : List V → C → Type 0} {steps : V → A → A → Type 0} {now : Held Tok Cx St Er} where
  pub ran-folded_back : {c : C} {a z : A} (xs : List V) → holds xs c → FoldsRight steps a xs z → Ran merged safe (FoldedBack holds steps (Some c) (Some a)) true now now (Ok (Some z))
  ran-folded_back {c} {a} {z} xs h f =
      ran-weaker merged safe (Given (Some z)) (FoldedBack holds steps (Some c) (Some a)) true now now (Ok (Some z))
      (λ o m. record { value = Some z; is = (xs, h, f); given = m }) ran-given
