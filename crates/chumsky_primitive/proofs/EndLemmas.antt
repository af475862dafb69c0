-- What the end of input leaves.
use Rattle.std.proofs.Common.{◌≡◌, ℕ, ◌+◌, Bool, Some, None, [], ◌∷◌, refl, sym, ◌∙◌, ap, Ok, Err, inl, inr, length}
use Rattle.std.specs.Prelude.{slice_get, take}
use Rattle.std.proofs.Math.Seq.{take-length}
use Rattle.chumsky_input.specs.declared.error.Error as error_trait
use Rattle.chumsky_input.specs.declared.inspector.Inspector as inspector_trait
use Rattle.chumsky_input.specs.declared.input.Input as input_trait
use Rattle.chumsky_input.specs.declared.stop.Fault.{Fault}
use Rattle.chumsky_input.specs.declared.stop.Fault.TheVariants as fault
use Rattle.chumsky_input.specs.declared.stop.Stop.TheVariants.{Memory}
use Rattle.chumsky_input.specs.Held.{Held, Marks}
use Rattle.chumsky_input.specs.Wanted as wanted
use Rattle.chumsky_input.specs.Run.{Ran, took, Fails, gone_back, marked_here}
use Rattle.chumsky_parser.proofs.ChainedLemmas.{ran-moved}
use Rattle.chumsky_parser.specs.Failure.{Misses, expects, wanting}
use Rattle.chumsky_parser.proofs.FailureLemmas.{ran-yes, ran-halts, ran-misses}
use Rattle.chumsky_primitive.specs.End.{MeansEnd}

module _ {I Tok Sp Cu Er St Mk Cx : Type 0} (source : input_trait.Ghosts I Cu Tok Sp)
    (errors : error_trait.Ghosts Er I Tok Sp) (states : inspector_trait.Ghosts St I Mk Tok Sp) (w : Bool)
    (old : Held Tok Cx states.Seen errors.Seen) where
  pub end_there : (new : Held Tok Cx states.Seen errors.Seen) → None ≡ slice_get old.tokens.list old.place → new ≡ old
      → Ran errors.merged errors.takes_no_memory (MeansEnd source errors states) w old new (Ok (wanting w tt))
  end_there new e k =
      rw k (ran-yes errors.merged errors.takes_no_memory _ w old (wanting w tt) old.place old.state (record { by_token = rw (sym e) (inr refl) }))

  pub end_unmarked : (new : Held Tok Cx states.Seen errors.Seen) → new ≡ old → (states.takes_no_memory → ⊥)
      → Ran errors.merged errors.takes_no_memory (MeansEnd source errors states) w old new (Err (fault.Stop Memory))
  end_unmarked new k may =
      rw k (ran-halts errors.merged errors.takes_no_memory _ w old old (record { tokens = refl; context = refl }) refl (λ o v s. record { by_token = inl (may, v, s) }))

  pub end_unrestored : (t : Tok) (mid new : Held Tok Cx states.Seen errors.Seen)
      → Some t ≡ slice_get old.tokens.list old.place → mid ≡ took states.after old (Some t) → new ≡ mid
      → (states.takes_no_memory → ⊥)
      → Ran errors.merged errors.takes_no_memory (MeansEnd source errors states) w old new (Err (fault.Stop Memory))
  end_unrestored t mid new e k n may =
      rw (n, k) (ran-halts errors.merged errors.takes_no_memory _ w old (took states.after old (Some t)) (record { tokens = refl; context = refl }) refl
      (λ o v s. record { by_token = rw (sym e) (inr (inl (may, v, s))) }))

  -- the event of the end, where the token was taken and gone back from
  back_from : (t : Tok) (new : Held Tok Cx states.Seen errors.Seen) (f : Fault) → Some t ≡ slice_get old.tokens.list old.place
      → Fails errors.merged errors.takes_no_memory
      (expects source errors old.tokens (wanted.EndOfInput ∷ []) (Some t) old.place (old.place + 1))
      (record old { state = states.back (states.after old.state t) (states.mark old.state) }) new f
      → Ran errors.merged errors.takes_no_memory (MeansEnd source errors states) w old new (Err f)
  back_from t new f e k =
      ran-moved (record { tokens = refl; context = refl }) refl refl refl (λ o h. record { by_token = rw (sym e) (inr (inr h)) })
      (ran-misses errors.merged errors.takes_no_memory
      (λ b o. Misses errors.takes_no_memory
      (expects source errors b.tokens (wanted.EndOfInput ∷ []) (Some t) b.start (b.start + 1)) b.start
      (states.back (states.after old.state t) (states.mark old.state)) o)
      w (record old { state = states.back (states.after old.state t) (states.mark old.state) }) _ new f k (λ o h. h))

  pub end_misses : (t : Tok) (m : Marks Tok states.Marked) (past : ℕ) (mid back new : Held Tok Cx states.Seen errors.Seen) (f : Fault)
      → Some t ≡ slice_get old.tokens.list old.place → m ≡ marked_here states.mark old → mid ≡ took states.after old (Some t) → past ≡ mid.place → back ≡ gone_back states.back mid m
      → Fails errors.merged errors.takes_no_memory (expects source errors m.tokens (wanted.EndOfInput ∷ []) (Some t) m.place past) back new f
      → Ran errors.merged errors.takes_no_memory (MeansEnd source errors states) w old new (Err f)
  end_misses t m past mid back new f e q k p n h =
      let uncut : take (length old.emitted) old.emitted ≡ old.emitted = take-length old.emitted in
      let there : back ≡ record old { state = states.back (states.after old.state t) (states.mark old.state) } =
      n ∙ ap (λ (x : Held Tok Cx states.Seen errors.Seen). gone_back states.back x m) k
      ∙ ap (gone_back states.back (took states.after old (Some t))) q
      ∙ ap (λ es. record old { state = states.back (states.after old.state t) (states.mark old.state); emitted = es }) uncut in
      let far : past ≡ old.place + 1 = p ∙ ap (λ (x : Held Tok Cx states.Seen errors.Seen). x.place) k in
      back_from t new f e (rw (there, q, far) at h)
