-- Why no item is given any more once none was.
use Rattle.std.proofs.Common.{◌≡◌, ℕ, ◌+◌, ◌^◌, Bool, true, false, nat_lt, Option, Some, None, List, [], ◌∷◌, refl, sym, subst, Result, Ok, Err}
use Rattle.std.specs.Prelude.{⊤}
use Rattle.std.specs.Bool.{MatchBool}
use Rattle.chumsky_input.specs.declared.stop.Stop.TheVariants.{CountTooLarge}
use Rattle.chumsky_input.specs.declared.stop.Fault.{Fault}
use Rattle.chumsky_input.specs.declared.stop.Fault.TheVariants as fault
use Rattle.chumsky_input.specs.Held.{Held}
use Rattle.chumsky_input.specs.Outcome.{Meaning}
use Rattle.chumsky_parser.specs.Items.{Next}
use Rattle.chumsky_parse_iter.specs.declared.parse_iter.Phase.{Phase}
use Rattle.chumsky_parse_iter.specs.declared.parse_iter.Phase.TheVariants.{Unbegun, Running, Ended, Refused}
use Rattle.chumsky_parse_iter.specs.Finish.{Called, AllNone, StaysNone}
use Rattle.chumsky_parse_iter.specs.Walk.{GivesCounted, WalksOn}

-- the run has ended, or was refused
abbrev IsOver : {S : Type 0} → Phase S → Type 0
IsOver Unbegun = ⊥
IsOver (Running s) = ⊥
IsOver Ended = ⊤
IsOver (Refused f) = ⊤

module _ {Tok Cx St Er S V : Type 0} (merged : Er → Er → Er) (safe : Type 0) (begins : Meaning Tok Cx St Er S) (gives : S → Meaning Tok Cx St Er (Next S V)) where
  fits_over : (fit : Bool) (y : V × S) (r : Option V) → r ≡ None → (p : Phase S) (n m : ℕ)
      → MatchBool fit ((r ≡ Some y.0) × (p ≡ Running y.1) × (m ≡ n + 1)) ((r ≡ None) × (p ≡ Refused (fault.Stop CountTooLarge)) × (m ≡ n))
      → IsOver p
  fits_over true y r i p n m h = let e = h.0 in let no : ⊥ = cc in absurd no
  fits_over false y r i p n m h = subst IsOver (sym h.1) tt

  counted_over : (a : Result (Option (V × S)) Fault) (p : Phase S) (n m : ℕ) → GivesCounted n a None p m → IsOver p
  counted_over (Ok (Some y)) p n m c = fits_over (nat_lt (n + 1) (2 ^ 64)) y None refl p n m c
  counted_over (Ok None) p n m c = subst IsOver (sym c.1) tt
  counted_over (Err f) p n m c = subst IsOver (sym c.1) tt

  -- a call that gave none leaves a run that is over
  walk_over : (p q : Phase S) (old new : Held Tok Cx St Er) (n m : ℕ) → WalksOn merged safe begins gives p old n None q new m → IsOver q
  walk_over Unbegun q old new n m w = counted_over w.answer q n m w.counted
  walk_over (Running s) q old new n m w = counted_over w.answer q n m w.counted
  walk_over Ended q old new n m w = subst IsOver (sym w.1) tt
  walk_over (Refused f) q old new n m w = subst IsOver (sym w.1) tt

  -- and then no call gives any
  over_on : (p q : Phase S) (old new : Held Tok Cx St Er) (n m : ℕ) (r : Option V) → IsOver p → WalksOn merged safe begins gives p old n r q new m → (r ≡ None) × IsOver q
  over_on Unbegun q old new n m r i w = absurd i
  over_on (Running s) q old new n m r i w = absurd i
  over_on Ended q old new n m r i w = (w.0, subst IsOver (sym w.1) tt)
  over_on (Refused f) q old new n m r i w = (w.0, subst IsOver (sym w.1) tt)

module _ {Tok Cx St Er S V T K : Type 0} (merged : Er → Er → Er) (safe : Type 0) (begins : K → Meaning Tok Cx St Er S)
    (gives : K → S → Meaning Tok Cx St Er (Next S V)) (nexts : T → Option V → T → Type 0) (key : T → K)
    (phase : T → Phase S) (holds : T → Held Tok Cx St Er) (given : T → ℕ)
    (walks : (w : T) (r : Option V) (v : T) → nexts w r v → WalksOn merged safe (begins (key w)) (gives (key w)) (phase w) (holds w) (given w) r (phase v) (holds v) (given v)) where
  all-none : (rs : List (Option V)) (w v : T) → IsOver (phase w) → Called nexts w rs v → AllNone rs
  all-none [] w v i c = tt
  all-none (r ∷ rs) w v i c =
      let k = over_on merged safe (begins (key w)) (gives (key w)) (phase w) (phase c.0) (holds w) (holds c.0) (given w) (given c.0) r i (walks w r c.0 c.1) in
      (k.0, all-none rs c.0 v k.1 c.2)

  pub stays-none : (rs : List (Option V)) (w v : T) → Called nexts w rs v → StaysNone rs
  stays-none [] w v c = tt
  stays-none (Some x ∷ rs) w v c = stays-none rs c.0 v c.2
  stays-none (None ∷ rs) w v c = all-none rs c.0 v (walk_over merged safe (begins (key w)) (gives (key w)) (phase w) (phase c.0) (holds w) (holds c.0) (given w) (given c.0) (walks w None c.0 c.1)) c.2
