-- What is left of turns.
use Rattle.std.proofs.Common.{◌≡◌, ℕ, ◌<◌, ◌≤◌, ◌-◌, length, ap, arith, Bool, true, false, Option, Some, None, Result, Ok, Err, refl}
use Rattle.chumsky_input.specs.Layout.{Layout, same_list}
use Rattle.chumsky_input.specs.declared.stop.Fault.{Fault}
use Rattle.chumsky_input.specs.Held.{Held}
use Rattle.chumsky_input.specs.Outcome.{Meaning}
use Rattle.chumsky_input.specs.Run.{Ran, begin}
use Rattle.chumsky_parser.specs.Chained.{Chained}
use Rattle.chumsky_parser.proofs.ChainedLemmas.{chained, failed, ran-given, ran-weaker}
use Rattle.chumsky_recovery.specs.Turns.{Turn, Again, Last, AfterTurn, AllTurns, with_last, without_last, if_last}
use Rattle.chumsky_recovery.specs.TurnsLaws.{all_turns-unrolled}

module _ {Tok Cx St Er V : Type 0} (merged : Er → Er → Er) (safe : Type 0) (turn : Meaning Tok Cx St Er (Turn V)) (w : Bool) where
  -- whatever turns do from now, all of them do from the start
  pub record TurnsFrom (old now : Held Tok Cx St Er) : Type 0 where
    pub on : (new : Held Tok Cx St Er) (r : Result (Option V) Fault) → Ran merged safe (AllTurns turn) w now new r → Ran merged safe (AllTurns turn) w old new r

module _ {Tok Cx St Er V : Type 0} {merged : Er → Er → Er} {safe : Type 0} {turn : Meaning Tok Cx St Er (Turn V)} {w : Bool} {old : Held Tok Cx St Er} where
  pub turns-begun : TurnsFrom merged safe turn w old old
  turns-begun = record { on = λ new r h. h }

  module _ {now mid : Held Tok Cx St Er} {x : Result (Option (Turn V)) Fault} (so : TurnsFrom merged safe turn w old now) (h : Ran merged safe turn w now mid x) where
    unrolls : {new : Held Tok Cx St Er} {r : Result (Option V) Fault} → Ran merged safe (Chained turn (AfterTurn (AllTurns turn))) w now new r → Ran merged safe (AllTurns turn) w now new r
    unrolls {new} {r} k = ran-weaker merged safe (Chained turn (AfterTurn (AllTurns turn))) (AllTurns turn) w now new r (all_turns-unrolled turn (begin w now)) k

    -- another turn
    pub turns-again : x ≡ Ok (Some Again) → TurnsFrom merged safe turn w old mid
    turns-again e = record { on = λ new r k. so.on new r (unrolls (chained h e k)) }

    -- the last turn
    pub turns-last : {v : Option V} → x ≡ Ok (Some (Last v)) → Ran merged safe (AllTurns turn) w old mid (Ok v)
    turns-last e = so.on mid _ (unrolls (chained h e ran-given))

    -- one that did not succeed
    pub turns-failed : {f : Fault} {y : Result (Option V) Fault} → x ≡ Err f → y ≡ Err f → Ran merged safe (AllTurns turn) w old mid y
    turns-failed e d = so.on mid _ (unrolls (failed h e d))

-- what a turn answered, as proofs cite it
module _ {V : Type 0} where
  pub if_found : {b : Bool} {x : Result Bool Fault} → x ≡ Ok b → b ≡ true → if_last {V = V} x ≡ Ok (Some (Last None))
  if_found e d = rw (e, d) refl

  pub if_skipped : {b : Bool} {x : Result Bool Fault} → x ≡ Ok b → b ≡ false → if_last {V = V} x ≡ Ok (Some Again)
  if_skipped e d = rw (e, d) refl

  pub if_fault : {f : Fault} {x : Result Bool Fault} → x ≡ Err f → if_last {V = V} x ≡ Err f
  if_fault e = rw e refl

  pub emit_last : {v : V} {o : Option V} {x : Result (Option V) Fault} → x ≡ Ok o → o ≡ Some v → with_last x ≡ Ok (Some (Last (Some v)))
  emit_last e d = rw (e, d) refl

  pub emit_again : {o : Option V} {x : Result (Option V) Fault} → x ≡ Ok o → o ≡ None → with_last x ≡ Ok (Some Again)
  emit_again e d = rw (e, d) refl

  pub emit_no_turn : {f : Fault} {x : Result (Option V) Fault} → x ≡ Err f → with_last x ≡ Err f
  emit_no_turn e = rw e refl

  pub check_last : {u : Unit {0}} {o : Option (Unit {0})} {x : Result (Option (Unit {0})) Fault} → x ≡ Ok o → o ≡ Some u → without_last {V = V} x ≡ Ok (Some (Last None))
  check_last e d = rw (e, d) refl

  pub check_again : {o : Option (Unit {0})} {x : Result (Option (Unit {0})) Fault} → x ≡ Ok o → o ≡ None → without_last {V = V} x ≡ Ok (Some Again)
  check_again e d = rw (e, d) refl

  pub check_no_turn : {f : Fault} {x : Result (Option (Unit {0})) Fault} → x ≡ Err f → without_last {V = V} x ≡ Err f
  check_no_turn e = rw e refl

-- fewer tokens are left after a turn that took some
pub fewer_left : {T : Type 0} (ts us : Layout T) (p q : ℕ) → us ≡ ts → p < q → q ≤ length us.list → length us.list - q < length ts.list - p
fewer_left ts us p q e l w = let same = ap length (same_list e) in omega (arith, same, l, w)
