-- What any token leaves.
use Rattle.std.proofs.Common.{◌≡◌, ◌+◌, Bool, true, false, Option, Some, None, [], ◌∷◌, refl, subst, Ok, Err, inl, inr}
use Rattle.std.specs.Prelude.{slice_get, is_some}
use Rattle.chumsky_input.specs.declared.error.Error as error_trait
use Rattle.chumsky_input.specs.declared.inspector.Inspector as inspector_trait
use Rattle.chumsky_input.specs.declared.input.Input as input_trait
use Rattle.chumsky_input.specs.declared.stop.Fault.{Fault}
use Rattle.chumsky_input.specs.declared.stop.Fault.TheVariants as fault
use Rattle.chumsky_input.specs.declared.stop.Stop.TheVariants.{Memory}
use Rattle.chumsky_input.specs.Held.{Held}
use Rattle.chumsky_input.specs.Wanted as wanted
use Rattle.chumsky_input.specs.Run.{Ran, took, LacksToken, Fails}
use Rattle.chumsky_parser.specs.Failure.{expects}
use Rattle.chumsky_parser.proofs.FailureLemmas.{ran-yes, ran-halts, ran-misses}
use Rattle.chumsky_primitive.specs.Any.{MeansAny}

module _ {Tok Cx St Er : Type 0} (after : St → Tok → St) (old : Held Tok Cx St Er) where
  stays : (t : Option Tok) (new : Held Tok Cx St Er) → is_some t ≡ false → new ≡ took after old t → (t ≡ None) × (new ≡ old)
  stays None new s k = (refl, k)
  stays (Some t) new s k = let no : ⊥ = cc in absurd no

  -- where no token is there, none is taken
  pub any_stays : (new : Held Tok Cx St Er) → is_some (slice_get old.tokens.list old.place) ≡ false
      → new ≡ took after old (slice_get old.tokens.list old.place)
      → (slice_get old.tokens.list old.place ≡ None) × (new ≡ old)
  any_stays new s k = stays _ new s k

module _ {I Tok Sp Cu Er St Mk Cx V : Type 0} (source : input_trait.Ghosts I Cu Tok Sp) (IsOf : Tok → V → Type 0)
    (safe : Tok → Type 0) (errors : error_trait.Ghosts Er I Tok Sp) (states : inspector_trait.Ghosts St I Mk Tok Sp)
    (old : Held Tok Cx states.Seen errors.Seen) where
  pub any_takes : (t : Tok) (v : V) (new : Held Tok Cx states.Seen errors.Seen) → slice_get old.tokens.list old.place ≡ Some t → IsOf t v → new ≡ took states.after old (Some t)
      → Ran errors.merged errors.takes_no_memory (MeansAny source IsOf safe errors states) true old new (Ok (Some v))
  any_takes t v new e s k =
      rw k (ran-yes errors.merged errors.takes_no_memory _ true old (Some v) (old.place + 1) (states.after old.state t)
      (record { by_token = rw e (inr (record { value = Some v; is_value = s; outcome = refl })) }))

  skips : (t : Option Tok) (new : Held Tok Cx states.Seen errors.Seen) → slice_get old.tokens.list old.place ≡ t → is_some t ≡ true → new ≡ took states.after old t
      → Ran errors.merged errors.takes_no_memory (MeansAny source IsOf safe errors states) false old new (Ok None)
  skips (Some t) new e s k =
      rw k (ran-yes errors.merged errors.takes_no_memory _ false old None (old.place + 1) (states.after old.state t)
      (record { by_token = rw e (inr (record { value = None; is_value = tt; outcome = refl })) }))
  skips None new e s k = let no : ⊥ = cc in absurd no

  pub any_skips : (new : Held Tok Cx states.Seen errors.Seen) → is_some (slice_get old.tokens.list old.place) ≡ true → new ≡ took states.after old (slice_get old.tokens.list old.place)
      → Ran errors.merged errors.takes_no_memory (MeansAny source IsOf safe errors states) false old new (Ok None)
  any_skips new s k = skips (slice_get old.tokens.list old.place) new refl s k

  misses : (w : Bool) (new : Held Tok Cx states.Seen errors.Seen) (f : Fault) → slice_get old.tokens.list old.place ≡ None
      → Fails errors.merged errors.takes_no_memory (expects source errors old.tokens (wanted.Any ∷ []) None old.place old.place) old new f
      → Ran errors.merged errors.takes_no_memory (MeansAny source IsOf safe errors states) w old new (Err f)
  misses w new f e k = ran-misses errors.merged errors.takes_no_memory _ w old _ new f k (λ o h. record { by_token = rw e h })

  pub any_misses : (w : Bool) (mid new : Held Tok Cx states.Seen errors.Seen) (f : Fault) → slice_get old.tokens.list old.place ≡ None → mid ≡ old
      → Fails errors.merged errors.takes_no_memory (expects source errors mid.tokens (wanted.Any ∷ []) None mid.place mid.place) mid new f
      → Ran errors.merged errors.takes_no_memory (MeansAny source IsOf safe errors states) w old new (Err f)
  any_misses w mid new f e s k =
      misses w new f e
      (subst
      (λ (h : Held Tok Cx states.Seen errors.Seen). Fails errors.merged errors.takes_no_memory
      (expects source errors h.tokens (wanted.Any ∷ []) None h.place h.place) h new f)
      s k)

  pub any_lacks : (new : Held Tok Cx states.Seen errors.Seen) → LacksToken safe old new
      → Ran errors.merged errors.takes_no_memory (MeansAny source IsOf safe errors states) true old new (Err (fault.Stop Memory))
  any_lacks new k =
      rw k.0 (ran-halts errors.merged errors.takes_no_memory _ true old old (record { tokens = refl; context = refl }) refl
      (λ o v s. record { by_token = rw k.1.1 (inl ((refl, k.1.2), v, s)) }))
