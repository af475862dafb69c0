-- What a label makes of a `Rich`.
-- Main laws: rich_label-once, rich_label-is. Read first: Labelling.antt.
use Rattle.std.specs.Prelude.{◌≡◌, ℕ, Bool, List, [], ◌∷◌, refl}
use Rattle.std.proofs.Common.{sym, ◌∙◌, ap}
use Rattle.chumsky_input.specs.Wanted.{Label}
use Rattle.chumsky_input.specs.Rich.{RichSeen, rich_span, rich_found, rich_seen, rich_expectation, rich_labelled}
use Rattle.chumsky_input.specs.declared.rich.Rich.{Rich}
use Rattle.chumsky_judge.specs.MapErr.{MapsOnce}
use Rattle.chumsky_label.specs.Labelling.{LabelsSeen}

module _ {T S : Type 0} (seen : T → S) (same : S → S → Bool) (text : List ℕ) where
  -- where e stands and with what it found, just the label was expected
  abbrev labelled_rich : Rich T → RichSeen S
  labelled_rich e = rich_expectation seen same (Label text ∷ []) (rich_found e) (rich_span e)

  pub rich_label-is : (e : Rich T) → labelled_rich e ≡ rich_labelled text (rich_seen seen e)
  rich_label-is e = refl

  -- of errors that count as one, the label makes one
  pub rich_label-once : MapsOnce (LabelsSeen (rich_seen seen) labelled_rich)
  rich_label-once e r r' m n = sym m.says ∙ ap (rich_labelled text) (m.counts ∙ sym n.counts) ∙ n.says
