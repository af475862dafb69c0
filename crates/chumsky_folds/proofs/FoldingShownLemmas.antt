-- What is left of what is folded out of items by what is shown the run.
use Rattle.std.proofs.Common.{◌≡◌, ℕ, Bool, true, false, Option, Some, None, Result, Ok, Err}
use Rattle.chumsky_input.specs.declared.stop.Fault.{Fault}
use Rattle.chumsky_input.specs.Held.{Held}
use Rattle.chumsky_input.specs.Outcome.{Meaning, Beginning, Outcome}
use Rattle.chumsky_input.specs.Run.{Ran}
use Rattle.chumsky_parser.specs.Chained.{Chained, Asked, Given}
use Rattle.chumsky_parser.specs.Items.{Next, Items}
use Rattle.chumsky_parser.specs.Showing.{GivesShown}
use Rattle.chumsky_parser.proofs.ChainedLemmas.{failed, chained, ran-weaker, chained-weaker}
use Rattle.chumsky_items.specs.Consumers.{Passes}
use Rattle.chumsky_items.proofs.PassedLemmas.{from_made}
use Rattle.chumsky_folds.specs.FoldingShown.{TakesAll, TakesShown, FoldsShown}

module _ {Tok Cx St Er S V A : Type 0} {merged : Er → Er → Er} {safe : Type 0}
    {gives : S → Meaning Tok Cx St Er (Next S V)} {begins : Meaning Tok Cx St Er S}
    {more : Option A → Option V → Meaning Tok Cx St Er A} {old new : Held Tok Cx St Er} where
  -- a run over items that makes a value from this one
  pub takes-all : {first : A} {r : Result (Option A) Fault}
      → Ran merged safe (Items gives more Given begins first) true old new r
      → Ran merged safe (TakesAll gives begins more (Some first)) true old new r
  takes-all {first} {r} h =
      ran-weaker merged safe (Items gives more Given begins first) (TakesAll gives begins more (Some first)) true old
      new r (λ o m. record { room = m.room; full = m.full; run = m.run }) h

module _ {Tok Cx St Er S V A : Type 0} {merged : Er → Er → Er} {safe : Type 0} {gives : S → Meaning Tok Cx St Er (Next S V)} {begins : Meaning Tok Cx St Er S} {old new : Held Tok Cx St Er} where
  -- a run without values makes nothing
  pub takes-passed : (more : Option A → Option V → Meaning Tok Cx St Er A)
      → ((v : Option V) (b : Beginning Tok Cx St) (o : Outcome A Er St) → Given None b o → more None v b o)
      → (r : Result (Option A) Fault) → Ran merged safe (Passes gives begins A) false old new r
      → Ran merged safe (TakesAll gives begins more None) false old new r
  takes-passed more hm r h =
      ran-weaker merged safe (Passes gives begins A) (TakesAll gives begins more None) false old new r
      (λ o m. record {
        room = m.room;
        full = m.full;
        run = chained-weaker _ _ _ (λ s c q e. from_made gives gives more Given (λ s b o w m. m) hm (λ b o m. m) m.room s c q e) (Asked true begins) (Asked true begins) (λ q z. z) o m.run;
      }) h

  pub shown-passed : (folds : GivesShown Tok Cx St (A × V) A) (from : ℕ) (r : Result (Option A) Fault)
      → Ran merged safe (Passes gives begins A) false old new r
      → Ran merged safe (TakesAll gives begins (TakesShown folds from) None) false old new r
  shown-passed folds from r h = takes-passed (TakesShown folds from) (λ v b o m. record { by_value = m }) r h

module _ {Tok Cx St Er S V A : Type 0} {merged : Er → Er → Er} {safe : Type 0}
    {gives : S → Meaning Tok Cx St Er (Next S V)} {begins : Meaning Tok Cx St Er S}
    {folds : GivesShown Tok Cx St (A × V) A} {part : Meaning Tok Cx St Er A} {wanted : Bool}
    {old : Held Tok Cx St Er} where
  run : {new : Held Tok Cx St Er} {r : Result (Option A) Fault}
      → Ran merged safe (Chained part (TakesAll gives begins (TakesShown folds old.place))) wanted old new r
      → Ran merged safe (FoldsShown gives begins folds part) wanted old new r
  run {new} {r} h = ran-weaker merged safe (Chained part (TakesAll gives begins (TakesShown folds old.place))) (FoldsShown gives begins folds part) wanted old new r (λ o m. record { run = m }) h

  module _ {mid : Held Tok Cx St Er} {x : Result (Option A) Fault} (h : Ran merged safe part wanted old mid x) where
    pub folds_shown-failed : {f : Fault} {y : Result (Option A) Fault} → x ≡ Err f → y ≡ Err f → Ran merged safe (FoldsShown gives begins folds part) wanted old mid y
    folds_shown-failed e d = run (failed h e d)

    pub folds_shown-folded : {a : Option A} {new : Held Tok Cx St Er} {r : Result (Option A) Fault} → x ≡ Ok a → Ran merged safe (TakesAll gives begins (TakesShown folds old.place) a) wanted mid new r
        → Ran merged safe (FoldsShown gives begins folds part) wanted old new r
    folds_shown-folded e k = run (chained h e k)
