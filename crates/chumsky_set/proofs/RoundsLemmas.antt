-- What rounds leave.
use Rattle.std.proofs.Common.{◌≡◌, ℕ, ◌<◌, ◌+◌, ◌||◌, Bool, true, false, Option, Some, Result, Ok, Err, List, [], ◌∷◌, refl, arith}
use Rattle.chumsky_input.specs.declared.stop.Fault.{Fault}
use Rattle.chumsky_input.specs.Held.{Held}
use Rattle.chumsky_input.specs.Run.{Ran}
use Rattle.chumsky_parser.proofs.ChainedLemmas.{ran-weaker, chained, failed}
use Rattle.chumsky_set.specs.AnyOrder.{Row, TookNone, TookSome, Rounds, AnyOrder}
use Rattle.chumsky_set.specs.Passes.{Lessens}

module _ {Tok Cx St Er T V : Type 0} (merged : Er → Er → Er) (safe : Type 0) (row : Row Tok Cx St Er T V) (wanted : Bool) where
  -- what is a run of the rest from here is one of the whole
  abbrev pub Resumes : T → Held Tok Cx St Er → T → Held Tok Cx St Er → Type 0
  Resumes start old t mid = (new : Held Tok Cx St Er) (r : Result (Option V) Fault) → Ran merged safe (AnyOrder row t) wanted mid new r → Ran merged safe (AnyOrder row start) wanted old new r

module _ {Tok Cx St Er T V : Type 0} {merged : Er → Er → Er} {safe : Type 0} (row : Row Tok Cx St Er T V) {wanted : Bool} {t : T} {old new : Held Tok Cx St Er} where
  in_rounds : (us : List T) {r : Result (Option V) Fault} → Ran merged safe (Rounds row us t) wanted old new r → Ran merged safe (AnyOrder row t) wanted old new r
  in_rounds us {r} h = ran-weaker merged safe (Rounds row us t) (AnyOrder row t) wanted old new r (λ o k. record { rounds = us; run = k }) h

module _ {Tok Cx St Er T V : Type 0} {merged : Er → Er → Er} {safe : Type 0} (row : Row Tok Cx St Er T V) {wanted : Bool} {t u : T} {old mid new : Held Tok Cx St Er} where
  -- a round that took a part, and then the rest
  again : {x : Result (Option T) Fault} {r : Result (Option V) Fault} → Ran merged safe (row.pass t) wanted old mid x → x ≡ Ok (Some u) → row.left u < row.left t
      → Ran merged safe (AnyOrder row u) wanted mid new r → Ran merged safe (AnyOrder row t) wanted old new r
  again {x} {r} h e l k =
      let us = k.meant.rounds in
      let rest : Ran merged safe (Rounds row us u) wanted mid new r = record { outcome = k.outcome; meant = k.meant.run; answered = k.answered; state = k.state; left = k.left; same = k.same } in
      in_rounds row (u ∷ us) (chained h e (ran-weaker merged safe (Rounds row us u) (TookSome row t u (Rounds row us u) (Some u)) wanted mid new r (λ o m. (refl, l, m)) rest))

  -- a round that took none, and then the last pass
  at_last : {x : Result (Option T) Fault} {r : Result (Option V) Fault} → Ran merged safe (row.pass t) wanted old mid x → x ≡ Ok (Some u) → row.left u ≡ row.left t
      → Ran merged safe (row.last u) wanted mid new r → Ran merged safe (AnyOrder row t) wanted old new r
  at_last {x} {r} h e l k =
      in_rounds row [] (chained h e (ran-weaker merged safe (row.last u) (TookNone row t (Some u)) wanted mid new r (λ o m. (l, m)) k))

module _ {Tok Cx St Er T V : Type 0} {merged : Er → Er → Er} {safe : Type 0} (row : Row Tok Cx St Er T V) {wanted : Bool} {t : T} {old new : Held Tok Cx St Er} where
  -- a round that was refused
  refused : {x : Result (Option T) Fault} {y : Result (Option V) Fault} {f : Fault}
      → Ran merged safe (row.pass t) wanted old new x → x ≡ Err f → y ≡ Err f
      → Ran merged safe (AnyOrder row t) wanted old new y
  refused h e d = in_rounds row [] (failed h e d)

module _ {Tok Cx St Er T V : Type 0} {merged : Er → Er → Er} {safe : Type 0} (row : Row Tok Cx St Er T V) {wanted : Bool} {start t u : T} {old mid next : Held Tok Cx St Er} where
  pub rounds_go_on : {x : Result (Option T) Fault} → Resumes merged safe row wanted start old t mid → Ran merged safe (row.pass t) wanted mid next x → x ≡ Ok (Some u) → row.left u < row.left t
      → Resumes merged safe row wanted start old u next
  rounds_go_on k h e l = λ new r m. k new r (again row h e l m)

  pub rounds_end : {new : Held Tok Cx St Er} {x : Result (Option T) Fault} {r : Result (Option V) Fault}
      → Resumes merged safe row wanted start old t mid → Ran merged safe (row.pass t) wanted mid next x
      → x ≡ Ok (Some u) → row.left u ≡ row.left t
      → Ran merged safe (row.last u) wanted next new r → Ran merged safe (AnyOrder row start) wanted old new r
  rounds_end {new} {x} {r} k h e l m = k new r (at_last row h e l m)

module _ {Tok Cx St Er T V : Type 0} {merged : Er → Er → Er} {safe : Type 0} (row : Row Tok Cx St Er T V) {wanted : Bool} {start t : T} {old mid new : Held Tok Cx St Er} where
  pub round_failed : {x : Result (Option T) Fault} {y : Result (Option V) Fault} {f : Fault}
      → Resumes merged safe row wanted start old t mid → Ran merged safe (row.pass t) wanted mid new x → x ≡ Err f
      → y ≡ Err f
      → Ran merged safe (AnyOrder row start) wanted old new y
  round_failed {x} {y} k h e d = k new y (refused row h e d)

-- of a part and the others
pub lessens_both : (a b c d : ℕ) (x y : Bool) → Lessens a b x → Lessens c d y → Lessens (a + c) (b + d) (x || y)
lessens_both a b c d true true l m = omega (arith, l, m)
lessens_both a b c d true false l m = omega (arith, l, m)
lessens_both a b c d false true l m = omega (arith, l, m)
lessens_both a b c d false false l m = omega (arith, l, m)
