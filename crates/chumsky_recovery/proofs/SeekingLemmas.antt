-- What looking, skipping and trying again leave.
use Rattle.std.proofs.Common.{◌≡◌, ℕ, Bool, true, false, nat_eq, Option, Some, None, refl, Result, Ok, Err}
use Rattle.std.proofs.lemmas.Bool.{eq-eqb, ne_eqb}
use Rattle.chumsky_input.specs.declared.stop.Fault.{Fault}
use Rattle.chumsky_input.specs.declared.stop.Fault.TheVariants as fault
use Rattle.chumsky_input.specs.declared.stop.Stop.{Stop}
use Rattle.chumsky_input.specs.declared.stop.Stop.TheVariants.{Memory, NoProgress}
use Rattle.chumsky_input.specs.Held.{Held, Marks}
use Rattle.chumsky_input.specs.Outcome.{Meaning}
use Rattle.chumsky_input.specs.Run.{Ran, marked_here, gone_back, without_value}
use Rattle.chumsky_parser.specs.Choice.{OrElse}
use Rattle.chumsky_parser.proofs.ChoiceLemmas.{ran-first, ran-second, ran-unmarked, ran-unrestored}
use Rattle.chumsky_parser.specs.Chained.{Chained, Asked, Given}
use Rattle.chumsky_parser.proofs.ChainedLemmas.{chained, failed, ran-asked, ran-given, ran-weaker}
use Rattle.chumsky_parser.specs.Failure.{IsWanted}
use Rattle.chumsky_parser.proofs.FailureLemmas.{ran-stops}
use Rattle.chumsky_recovery.specs.Turns.{Turn, Again, Last, AllTurns, again_after}
use Rattle.chumsky_recovery.specs.Seeking.{GoesOnIf, SkipsOn, Seeks, FallsBack, MeansSkipUntil}

module _ {Tok Cx St Er X : Type 0} {merged : Er → Er → Er} {safe : Type 0} {w : Bool} {new : Held Tok Cx St Er} where
  goes_on : (start : ℕ) (stuck : Bool) {r : Result (Option (Turn X)) Fault} → nat_eq new.place start ≡ stuck
      → Ran merged safe (GoesOnIf stuck) w new new r
      → Ran merged safe (λ c. GoesOnIf (nat_eq c.start start) c) w new new r
  goes_on start stuck {r} e h = ran-weaker merged safe (GoesOnIf (nat_eq new.place start)) (λ c. GoesOnIf (nat_eq c.start start) c) w new new r (λ o m. m) (rw e h)

module _ {Tok Cx St Er W X : Type 0} {merged : Er → Er → Er} {safe : Type 0} {skip : Meaning Tok Cx St Er W} {w : Bool} {old new : Held Tok Cx St Er} where
  skips : {r : Result (Option (Turn X)) Fault} → Ran merged safe (Chained (Asked false skip) (λ _ c. GoesOnIf (nat_eq c.start old.place) c)) w old new r → Ran merged safe (SkipsOn skip) w old new r
  skips {r} h = ran-weaker merged safe (Chained (Asked false skip) (λ _ c. GoesOnIf (nat_eq c.start old.place) c)) (SkipsOn skip) w old new r (λ o m. record { run = m }) h

  pub skips-failed : {x : Result (Option W) Fault} {f : Fault} {y : Result (Option (Turn X)) Fault}
      → Ran merged safe skip false old new x → x ≡ Err f → y ≡ Err f → Ran merged safe (SkipsOn skip) w old new y
  skips-failed h e d = skips (failed (ran-asked h) e d)

  -- it took nothing
  pub skips-stuck : {x : Result (Option W) Fault} {v : Option W} → Ran merged safe skip false old new x → x ≡ Ok v
      → new.place ≡ old.place → Ran merged safe (SkipsOn {X = X} skip) w old new (Err (fault.Stop NoProgress))
  skips-stuck h e s = skips (chained (ran-asked h) e (goes_on old.place true (eq-eqb new.place old.place s) (ran-stops NoProgress)))

  -- it took something
  pub skips-on : {x : Result (Option W) Fault} {v : Option W} → Ran merged safe skip false old new x → x ≡ Ok v
      → (new.place ≡ old.place → ⊥) → Ran merged safe (SkipsOn {X = X} skip) w old new (Ok (Some Again))
  skips-on h e s = skips (chained (ran-asked h) e (goes_on old.place false (ne_eqb new.place old.place s) ran-given))

  -- a skip that did not succeed, as what it answers
  pub skips-err : {x : Result (Unit {0}) Fault} {f : Fault} {y : Result (Option (Turn X)) Fault}
      → Ran merged safe (SkipsOn {X = X} skip) w old new (again_after x) → x ≡ Err f → y ≡ Err f
      → Ran merged safe (SkipsOn skip) w old new y
  skips-err h e d = rw d (rw e at h)

  pub skips-ok : {x : Result (Unit {0}) Fault} {u : Unit {0}}
      → Ran merged safe (SkipsOn {X = X} skip) w old new (again_after x) → x ≡ Ok u
      → Ran merged safe (SkipsOn {X = X} skip) w old new (Ok (Some Again))
  skips-ok h e = rw e at h

abbrev Found : {Tok Cx St Er V X : Type 0} → Meaning Tok Cx St Er V → Meaning Tok Cx St Er (Turn X)
Found until = Chained (Asked false until) (λ _. Given (Some (Last None)))

module _ {Tok Cx St Mk Er V W X : Type 0} {merged : Er → Er → Er} {safe : Type 0} {mark : St → Mk}
    {back : St → Mk → St} {quiet : Type 0} {until : Meaning Tok Cx St Er V} {skip : Meaning Tok Cx St Er W} {w : Bool}
    {old : Held Tok Cx St Er} where
  seeks : {new : Held Tok Cx St Er} {r : Result (Option (Turn X)) Fault}
      → Ran merged safe (OrElse mark back quiet (Found until) (SkipsOn skip)) w old new r
      → Ran merged safe (Seeks mark back quiet until skip) w old new r
  seeks {new} {r} h = ran-weaker merged safe (OrElse mark back quiet (Found until) (SkipsOn skip)) (Seeks mark back quiet until skip) w old new r (λ o m. record { run = m }) h

  -- out of memory at the mark
  pub seeks-unmarked : {new : Held Tok Cx St Er} → new ≡ old → (quiet → ⊥) → Ran merged safe (Seeks {X = X} mark back quiet until skip) w old new (Err (fault.Stop Memory))
  seeks-unmarked {new} e may = seeks (ran-unmarked merged safe mark back quiet (Found until) (SkipsOn skip) w old new e may)

  module _ {mid : Held Tok Cx St Er} {x : Result (Option V) Fault} (h : Ran merged safe until false old mid x) where
    -- it was found
    pub seeks-found : {v : Option V} → x ≡ Ok v → Ran merged safe (Seeks {X = X} mark back quiet until skip) w old mid (Ok (Some (Last None)))
    seeks-found e = seeks (ran-first merged safe mark back quiet (Found until) (SkipsOn skip) w old mid _ (chained (ran-asked h) e ran-given) (λ z. cc))

    pub seeks-stops : {s : Stop} → x ≡ Err (fault.Stop s) → Ran merged safe (Seeks {X = X} mark back quiet until skip) w old mid (Err (fault.Stop s))
    seeks-stops e = seeks (ran-first merged safe mark back quiet (Found until) (SkipsOn skip) w old mid _ (failed (ran-asked h) e refl) (λ z. cc))

    -- out of memory going back
    pub seeks-unrestored : {new : Held Tok Cx St Er} → x ≡ Err fault.Fail → new ≡ mid → (quiet → ⊥) → Ran merged safe (Seeks {X = X} mark back quiet until skip) w old new (Err (fault.Stop Memory))
    seeks-unrestored {new} e n may = seeks (ran-unrestored merged safe mark back quiet (Found until) (SkipsOn skip) w old mid new (failed (ran-asked h) e refl) n may)

    -- it was not found, and the skip stands
    pub seeks-skips : {m : Marks Tok Mk} {bk new : Held Tok Cx St Er} {r : Result (Option (Turn X)) Fault}
        → x ≡ Err fault.Fail → m ≡ marked_here mark old → bk ≡ gone_back back mid m
        → Ran merged safe (SkipsOn skip) w bk new r → Ran merged safe (Seeks mark back quiet until skip) w old new r
    seeks-skips {m} {bk} {new} {r} e q n k = seeks (ran-second merged safe mark back quiet (Found until) (SkipsOn skip) w old m mid bk new r (failed (ran-asked h) e refl) q n k)

module _ {Tok Cx St Er V : Type 0} {merged : Er → Er → Er} {safe : Type 0} {gives : V → Type 0} {w : Bool} {now : Held Tok Cx St Er} where
  falls_back : (v : Option V) → IsWanted gives w v → Ran merged safe (FallsBack gives) w now now (Ok v)
  falls_back v i = ran-weaker merged safe (Given v) (FallsBack gives) w now now (Ok v) (λ o m. record { value = v; gave = i; given = m }) ran-given

module _ {Tok Cx St Mk Er U W V : Type 0} {merged : Er → Er → Er} {safe : Type 0} {mark : St → Mk}
    {back : St → Mk → St} {quiet : Type 0} {until : Meaning Tok Cx St Er U} {skip : Meaning Tok Cx St Er W}
    {gives : V → Type 0} {old new : Held Tok Cx St Er} where
  skips_until : (w : Bool) {r : Result (Option V) Fault}
      → Ran merged safe (Chained (AllTurns {V = Unit {0}} (Seeks mark back quiet until skip)) (λ _. FallsBack gives)) w old new r
      → Ran merged safe (MeansSkipUntil mark back quiet until skip gives) w old new r
  skips_until w {r} h =
      ran-weaker merged safe
      (Chained (AllTurns {V = Unit {0}} (Seeks mark back quiet until skip)) (λ _. FallsBack gives))
      (MeansSkipUntil mark back quiet until skip gives) w old new r (λ o m. record { run = m }) h

  -- the turns did not succeed
  pub skip_until-failed : {x : Result (Option (Unit {0})) Fault} {f : Fault} {y : Result (Option V) Fault}
      → Ran merged safe (AllTurns {V = Unit {0}} (Seeks mark back quiet until skip)) true old new x → x ≡ Err f
      → y ≡ Err f → Ran merged safe (MeansSkipUntil mark back quiet until skip gives) true old new y
  skip_until-failed h e d = skips_until true (failed h e d)

  -- they did, and the fallback gave a value
  pub skip_until-value : {x : Result (Option (Unit {0})) Fault} {u : Option (Unit {0})} {v : V}
      → Ran merged safe (AllTurns {V = Unit {0}} (Seeks mark back quiet until skip)) true old new x → x ≡ Ok u
      → gives v → Ran merged safe (MeansSkipUntil mark back quiet until skip gives) true old new (Ok (Some v))
  skip_until-value {v = v} h e i = skips_until true (chained h e (falls_back (Some v) i))

  -- the same without a value
  pub skip_until-check : (x : Result (Unit {0}) Fault)
      → Ran merged safe (AllTurns {V = Unit {0}} (Seeks mark back quiet until skip)) false old new (without_value x)
      → Ran merged safe (MeansSkipUntil mark back quiet until skip gives) false old new (without_value x)
  skip_until-check (Ok u) h = skips_until false (chained h refl (falls_back None tt))
  skip_until-check (Err f) h = skips_until false (failed h refl refl)
