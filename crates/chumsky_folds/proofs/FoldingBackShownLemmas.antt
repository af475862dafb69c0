-- What is left of what is folded out of items from the last one back by what is shown the run.
use Rattle.std.proofs.Common.{◌≡◌, ℕ, true, false, Option, Some, None, List, [], ◌∷◌, ◌++◌, refl, sym, ap, subst, ◌∙◌, Result, Ok}
use Rattle.std.proofs.lemmas.List.{append-nil}
use Rattle.chumsky_input.specs.declared.input.Input as input_trait
use Rattle.chumsky_input.specs.declared.stop.Fault.{Fault}
use Rattle.chumsky_input.specs.Extra.{Shown, shown_from}
use Rattle.chumsky_input.specs.Held.{Held}
use Rattle.chumsky_input.specs.Outcome.{Meaning, Yes}
use Rattle.chumsky_input.specs.Run.{Ran}
use Rattle.chumsky_input.proofs.PrimaryLemmas.{kept-same}
use Rattle.chumsky_parser.specs.Items.{Next}
use Rattle.chumsky_parser.specs.Showing.{GivesShown}
use Rattle.chumsky_items.specs.Consumers.{Passes, Appends, Collected, Collects}
use Rattle.chumsky_items.proofs.PassedLemmas.{ran-passed}
use Rattle.chumsky_folds.specs.Placed.{Placed, places_of}
use Rattle.chumsky_folds.proofs.PlacedLemmas.{passes-placed, places-more}
use Rattle.chumsky_folds.specs.FoldingBackShown.{FoldsRightShown, FoldedBackShown}

module _ {Tok Cx St V A : Type 0} (folds : GivesShown Tok Cx St (V × A) A) where
  -- what is left of a list, after its last item was taken
  pub folds_right_shown-less : (run : Shown Tok Cx St) (a b z : A) (s t : St) (xs : List (V × ℕ)) (x : V × ℕ)
      → folds (x.0, a) (record run { from = x.1 }) b t → FoldsRightShown folds (record run { state = t }) b xs z s
      → FoldsRightShown folds run a (xs ++ x ∷ []) z s
  folds_right_shown-less run a b z s t [] x m f = (
    a,
    run.state,
    (refl, refl),
    subst (λ y. folds (x.0, a) (record run { from = x.1 }) y s) (sym f.0)
        (subst (λ y. folds (x.0, a) (record run { from = x.1 }) b y) (sym f.1) m),
  )
  folds_right_shown-less run a b z s t (y ∷ ys) x m f = (f.0, f.1, folds_right_shown-less run a b f.0 f.1 t ys x m f.2, f.3)

module _ {I Cu Tok Sp Cx St Er V A : Type 0} (source : input_trait.Ghosts I Cu Tok Sp) (folds : GivesShown Tok Cx St (V × A) A) (start mid new : Held Tok Cx St Er) where
  -- the last item was taken: what is left of the fold is what was left before
  pub folds_back-on : (items left rest : List (V × Cu)) (x : V × Cu) (last a b : A) → left ≡ rest ++ x ∷ []
      → new ≡ record mid { state = new.state } → folds (x.0, a) (shown_from (source.place x.1) mid) b new.state
      → ((z : A) (s : St) → FoldsRightShown folds (shown_from mid.place mid) a (places_of source left) z s → FoldsRightShown folds (shown_from start.place start) last (places_of source items) z s)
      → (z : A) (s : St) → FoldsRightShown folds (shown_from new.place new) b (places_of source rest) z s → FoldsRightShown folds (shown_from start.place start) last (places_of source items) z s
  folds_back-on items left rest x last a b e n m so z s f =
      let run : Shown Tok Cx St = shown_from mid.place mid in
      let there : shown_from new.place new ≡ record run { state = new.state } = ap (λ (h : Held Tok Cx St Er). shown_from h.place h) n in
      let less = folds_right_shown-less folds run a b z s new.state (places_of source rest) (x.0, source.place x.1) m (subst (λ r. FoldsRightShown folds r b (places_of source rest) z s) there f) in
      so z s (subst (λ l. FoldsRightShown folds run a l z s) (sym (ap (places_of source) e ∙ places-more source rest x)) less)

module _ {Tok Cx St Er : Type 0} (start mid new : Held Tok Cx St Er) where
  -- only the state has changed
  pub moves-on : mid ≡ record start { state = mid.state } → new ≡ record mid { state = new.state } → new ≡ record start { state = new.state }
  moves-on m n = n ∙ ap (λ (h : Held Tok Cx St Er). record h { state = new.state }) m

module _ {Tok Cx St Er V C A : Type 0} {merged : Er → Er → Er} {safe : Type 0} {holds : List (V × ℕ) → C → Type 0} {folds : GivesShown Tok Cx St (V × A) A} {mid : Held Tok Cx St Er} where
  -- the folder was called for each item, and left what it was lent but for the state
  pub ran-folded_back_shown : {c : C} {a z : A} {new : Held Tok Cx St Er} (xs : List (V × ℕ)) → holds xs c
      → FoldsRightShown folds (shown_from mid.place mid) a xs z new.state → new ≡ record mid { state = new.state }
      → Ran merged safe (FoldedBackShown holds folds (Some c) (Some a)) true mid new (Ok (Some z))
  ran-folded_back_shown {c} {a} {z} {new} xs h f n =
      record {
        outcome = record { verdict = Yes (Some z); end = mid.place; state = new.state; events = []; emitted = [] };
        meant = record { by_value = (xs, z, new.state, h, f, refl) };
        answered = refl;
        state = refl;
        left = record {
          end = ap (λ (y : Held Tok Cx St Er). y.place) n;
          kept = ap (λ (y : Held Tok Cx St Er). y.kept) n ∙ kept-same merged mid.kept;
          emitted = ap (λ (y : Held Tok Cx St Er). y.emitted) n ∙ sym (append-nil mid.emitted);
          stopped = ap (λ (y : Held Tok Cx St Er). y.stopped) n;
        };
        same = record { tokens = ap (λ (y : Held Tok Cx St Er). y.tokens) n; context = ap (λ (y : Held Tok Cx St Er). y.context) n };
      }

module _ {Tok Cx St Er S V C : Type 0} {merged : Er → Er → Er} {safe : Type 0} {gives : S → Meaning Tok Cx St Er (Next S V)} {begins : Meaning Tok Cx St Er S} {old new : Held Tok Cx St Er} where
  -- without values nothing is collected
  pub placed-passed : (holds : List (V × ℕ) → C → Type 0) (r : Result (Option C) Fault)
      → Ran merged safe (Passes gives begins C) false old new r
      → Ran merged safe (Collects (λ s. Placed (gives s)) begins holds ⊥) false old new r
  placed-passed holds r h =
      ran-passed (λ s. Placed (gives s)) (λ s. Placed (gives s)) (Appends ⊥) (Collected holds) (λ s b o w m. m)
      (λ v b o m. m) (λ b o m. record { value = None; is = tt; given = m }) begins [] r
      (passes-placed gives begins r h)
