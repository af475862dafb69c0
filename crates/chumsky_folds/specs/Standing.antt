-- Where every run stands: at a cursor, in a state.
-- Main word: AtCursor. Read first: Compared.antt.
use Rattle.std.specs.Prelude.{◌≡◌, ℕ, List}
use Rattle.chumsky_input.specs.Layout.{Layout}
use Rattle.chumsky_input.specs.declared.inspector.Inspector as inspector_trait
use Rattle.chumsky_input.specs.declared.input.Input as input_trait

module _ {I Cu Tok Sp St Mk : Type 0} (source : input_trait.Ghosts I Cu Tok Sp) (states : inspector_trait.Ghosts St I Mk Tok Sp) where
  -- a cursor of these tokens is at this place, and a state shows as this one
  pub record AtCursor (tokens : Layout Tok) (place : ℕ) (state : states.Seen) : Type 0 where
    pub cursor : Cu
    pub in_tokens : source.cursor_tokens cursor ≡ tokens
    pub is_at : source.place cursor ≡ place
    pub held : St
    pub shows : states.seen held ≡ state
