-- The laws of the parts of a list in turn.
use Rattle.std.proofs.Common.{Option, Some, None, List, [], ◌∷◌}
use Rattle.arrayvec.specs.ArrayVec.{ArrayVec}
use Rattle.chumsky_input.specs.Outcome.{Meaning, SameValue, EndsAfterStart, Agreeing}
use Rattle.chumsky_parser.specs.Failure.{wanting}
use Rattle.chumsky_parser.specs.Laws.{chained-ends, chained-agrees, given-ends, given-agrees}
use Rattle.chumsky_parser.specs.FailureLaws.{wanting-same}
use Rattle.chumsky_parser.specs.ChoiceLaws.{AllEnd, AllAgree}
use Rattle.chumsky_group.specs.InTurn.{item_before, SameVectors, InTurn}

module _ {V : Type 0} (s : V → V → Type 0) (ss : List (V → V → Type 0)) where
  item_before-same : (v w : Option V) (vs ws : Option (ArrayVec V)) → SameValue s v w → SameValue (SameVectors ss) vs ws → SameValue (SameVectors (s ∷ ss)) (item_before v vs) (item_before w ws)
  item_before-same (Some v) (Some w) (Some vs) (Some ws) e d = (e, d)
  item_before-same (Some v) (Some w) (Some vs) None e d = tt
  item_before-same (Some v) (Some w) None ws e d = tt
  item_before-same (Some v) None (Some vs) ws e d = tt
  item_before-same (Some v) None None ws e d = tt
  item_before-same None w vs ws e d = tt

module _ {Tok Cx St Er V : Type 0} where
  pub in_turn-ends : (ms : List (Meaning Tok Cx St Er V)) → AllEnd ms → EndsAfterStart (InTurn ms)
  in_turn-ends [] h = λ b. given-ends (wanting b.wanted (record { items = [] })) b
  in_turn-ends (m ∷ ms) h = chained-ends m _ h.each.0 (λ v. chained-ends (InTurn ms) _ (in_turn-ends ms (record { each = h.each.1 })) (λ vs. given-ends (item_before v vs)))

  pub in_turn-agrees : (ss : List (V → V → Type 0)) (ms : List (Meaning Tok Cx St Er V)) → AllAgree ss ms → Agreeing (SameVectors ss) (InTurn ms) (InTurn ms)
  in_turn-agrees [] [] h = λ b c. given-agrees (SameVectors []) _ _ (wanting-same (SameVectors []) b.wanted c.wanted (record { items = [] }) tt) b c
  in_turn-agrees [] (m ∷ ms) h = absurd h.each
  in_turn-agrees (s ∷ ss) [] h = absurd h.each
  in_turn-agrees (s ∷ ss) (m ∷ ms) h =
      chained-agrees m m _ _ s (SameVectors (s ∷ ss)) h.each.0
      (λ v w e. chained-agrees (InTurn ms) (InTurn ms) _ _ (SameVectors ss) (SameVectors (s ∷ ss)) (in_turn-agrees ss ms (record { each = h.each.1 }))
      (λ vs ws d. given-agrees (SameVectors (s ∷ ss)) (item_before v vs) (item_before w ws) (item_before-same s ss v w vs ws e d)))
