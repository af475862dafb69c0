-- What a label makes of an error.
-- Main words: Labelling, LabelsSeen.
use Rattle.std.specs.Prelude.{◌≡◌}
use Rattle.chumsky_input.specs.declared.error.Error as error_trait

-- what counts of the error that a label makes of one, whatever counts of errors
abbrev pub Labelling : (Er I Tok Sp L : Type 0) → Type 1
Labelling Er I Tok Sp L = (errors : error_trait.Ghosts Er I Tok Sp) → L → Er → errors.Seen

-- of an error that counts as e, the label makes one that counts as r
pub record LabelsSeen {E S : Type 0} (seen labelled : E → S) (e r : S) : Type 0 where
  pub error : E
  pub counts : seen error ≡ e
  pub says : labelled error ≡ r
