-- A group moves where one of its parts does.
-- Main laws: group-moves. Read first: Progress.antt of the parsers.
use Rattle.std.proofs.Common.{◌≡◌, Bool, true, ◌||◌, Option, List, [], ◌∷◌, refl, arith, inl, inr, map}
use Rattle.std.specs.List.{list_any}
use Rattle.chumsky_input.specs.Outcome.{Meaning, EndsAfterStart}
use Rattle.chumsky_parser.specs.Chained.{Chained, Sequence, Given}
use Rattle.chumsky_parser.specs.ChoiceLaws.{each-ends}
use Rattle.chumsky_parser.specs.Laws.{chained-ends, given-ends, sequence-ends}
use Rattle.chumsky_group.specs.InTurn.{InTurn, item_before}
use Rattle.chumsky_group.specs.InTurnLaws.{in_turn-ends}
use Rattle.chumsky_group.specs.Regrouped.{Regrouped}
use Rattle.chumsky_parser.specs.Progress.{Moves}
use Rattle.chumsky_parser.specs.ProgressLaws.{either-true, chained-first, chained-second, sequence-moves}

-- of parts in turn so far: no answer ends before its start, and where this is true, each yes ends past it
pub record SoFarMoves {Tok Cx St Er V : Type 0} (sure : Bool) (m : Meaning Tok Cx St Er V) : Type 0 where
  pub ends : EndsAfterStart m
  pub moves : sure ≡ true → Moves m

module _ {Tok Cx St Er V : Type 0} where
  pub first-part : {a : Bool} {m : Meaning Tok Cx St Er V} → EndsAfterStart m → (a ≡ true → Moves m) → SoFarMoves a m
  first-part h k = record { ends = h; moves = k }

  pub and-part : {W : Type 0} {a c : Bool} {m : Meaning Tok Cx St Er V} {n : Meaning Tok Cx St Er W} → SoFarMoves a m → EndsAfterStart n → (c ≡ true → Moves n) → SoFarMoves (a || c) (Sequence m n)
  and-part {a} {c} {m} {n} s h k = record { ends = sequence-ends m n s.ends h; moves = sequence-moves m n a c s.ends h s.moves k }

  -- parts in turn, their values put together anew
  pub group-moves : {W : Type 0} (f : V → W) {a : Bool} {m : Meaning Tok Cx St Er V} → SoFarMoves a m → a ≡ true → Moves (Regrouped f m)
  group-moves f {m} s e = chained-first m _ (s.moves e) (λ v. given-ends _)

module _ {X Tok Cx St Er V : Type 0} (meaning : X → Meaning Tok Cx St Er V) (test : X → Bool) (ends : (x : X) → EndsAfterStart (meaning x)) (h : (x : X) → test x ≡ true → Moves (meaning x)) where
  -- the parts of a list in turn, where one of them moves
  pub in_turn-moves : (xs : List X) → list_any test xs ≡ true → Moves (InTurn (map meaning xs))
  in_turn-moves [] e = absurd (cc)
  in_turn-moves (x ∷ xs) e =
      let rest : (v : Option V) → EndsAfterStart (Chained (InTurn (map meaning xs)) (λ vs. Given (item_before v vs))) =
      λ v. chained-ends (InTurn (map meaning xs)) _ (in_turn-ends (map meaning xs) (each-ends meaning ends xs))
      (λ vs. given-ends (item_before v vs)) in
      elim (either-true (test x) (list_any test xs) e) [
        | inl t ↦ chained-first (meaning x) _ (h x t) rest
        | inr t ↦ chained-second (meaning x) _ (ends x) (λ v. chained-first (InTurn (map meaning xs)) _ (in_turn-moves xs t) (λ vs. given-ends (item_before v vs)))
      ]
