-- What is left of what is folded out of items.
use Rattle.std.proofs.Common.{false, Option, None, refl, Result}
use Rattle.chumsky_input.specs.declared.stop.Fault.{Fault}
use Rattle.chumsky_input.specs.Held.{Held}
use Rattle.chumsky_input.specs.Outcome.{Meaning}
use Rattle.chumsky_input.specs.Run.{Ran}
use Rattle.chumsky_parser.specs.Items.{Next}
use Rattle.chumsky_parser.proofs.ChainedLemmas.{chained}
use Rattle.chumsky_parser.proofs.IgnoringLemmas.{ran-uncopied}
use Rattle.chumsky_items.specs.Consumers.{Passes}
use Rattle.chumsky_items.proofs.ConsumersLemmas.{collects-passed}
use Rattle.chumsky_folds.specs.Folding.{FoldsFrom, FoldsItems, FoldsFromCopy}
use Rattle.std.specs.Prelude.{⊤}

module _ {Tok Cx St Er S V A : Type 0} {merged : Er → Er → Er} {safe : Type 0} {gives : S → Meaning Tok Cx St Er (Next S V)} {begins : Meaning Tok Cx St Er S} {old new : Held Tok Cx St Er} where
  -- without a value nothing is folded
  pub folds-passed : (steps : A → V → A → Type 0) (a : Option A) (r : Result (Option A) Fault)
      → Ran merged safe (Passes gives begins A) false old new r
      → Ran merged safe (FoldsItems gives begins steps a) false old new r
  folds-passed steps a r h = collects-passed (FoldsFrom steps a) ⊤ r h

  pub folds_copy-passed : (steps : A → V → A → Type 0) (copies : A → Type 0) (quiet : Type 0) (r : Result (Option A) Fault)
      → Ran merged safe (Passes gives begins A) false old new r
      → Ran merged safe (FoldsFromCopy gives begins steps copies quiet) false old new r
  folds_copy-passed steps copies quiet r h = chained ran-uncopied refl (folds-passed steps None r h)
