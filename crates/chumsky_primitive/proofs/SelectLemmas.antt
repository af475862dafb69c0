-- What a picked token leaves, and one that is not.
use Rattle.std.proofs.Common.{◌≡◌, ℕ, ◌+◌, Bool, true, false, Option, Some, None, [], ◌∷◌, refl, sym, ◌∙◌, ap, subst, Result, Ok, Err, inl, inr, length}
use Rattle.std.specs.Prelude.{slice_get, take}
use Rattle.std.proofs.Math.Seq.{take-length}
use Rattle.chumsky_input.specs.declared.error.Error as error_trait
use Rattle.chumsky_input.specs.declared.inspector.Inspector as inspector_trait
use Rattle.chumsky_input.specs.declared.input.Input as input_trait
use Rattle.chumsky_input.specs.declared.stop.Fault.{Fault}
use Rattle.chumsky_input.specs.declared.stop.Fault.TheVariants as fault
use Rattle.chumsky_input.specs.declared.stop.Stop.TheVariants.{Memory}
use Rattle.chumsky_input.specs.Extra.{shown_from}
use Rattle.chumsky_input.specs.Held.{Held, Marks}
use Rattle.chumsky_input.specs.Wanted as wanted
use Rattle.chumsky_input.specs.Run.{Ran, begin, took, with_value, without_value, Fails, gone_back, marked_here}
use Rattle.chumsky_parser.proofs.ChainedLemmas.{ran-moved}
use Rattle.chumsky_parser.specs.Failure.{Misses, expects, wanting, asked}
use Rattle.chumsky_parser.proofs.FailureLemmas.{ran-yes, ran-halts, ran-misses}
use Rattle.chumsky_primitive.specs.Select.{Picks, MeansSelect, MissesFrom, over}

module _ {I Tok Sp Cu Er St Mk Cx V : Type 0} (source : input_trait.Ghosts I Cu Tok Sp) (safe : Tok → Type 0)
    (errors : error_trait.Ghosts Er I Tok Sp) (states : inspector_trait.Ghosts St I Mk Tok Sp)
    (picks : Picks Tok Cx states.Seen V) (w : Bool) (old : Held Tok Cx states.Seen errors.Seen) where
  pub select_unmarked : (x : Result V Fault) → x ≡ Err (fault.Stop Memory) → (states.takes_no_memory → ⊥)
      → Ran errors.merged errors.takes_no_memory (MeansSelect source safe errors states picks) w old old (asked w x)
  select_unmarked x e may =
      rw e
      (ran-halts errors.merged errors.takes_no_memory (MeansSelect source safe errors states picks) w old old
      (record { tokens = refl; context = refl }) refl (λ o v s. record { by_token = inl (may, v, s) }))

  at_end : (new : Held Tok Cx states.Seen errors.Seen) (f : Fault) → None ≡ slice_get old.tokens.list old.place
      → Fails errors.merged errors.takes_no_memory (expects source errors old.tokens (wanted.SomethingElse ∷ []) None old.place old.place) old new f
      → Ran errors.merged errors.takes_no_memory (MeansSelect source safe errors states picks) w old new (Err f)
  at_end new f e k = ran-misses errors.merged errors.takes_no_memory (MeansSelect source safe errors states picks) w old _ new f k (λ o h. record { by_token = rw (sym e) (inr h) })

  pub select_ends_input : (mid new : Held Tok Cx states.Seen errors.Seen) (f : Fault) → None ≡ slice_get old.tokens.list old.place → mid ≡ old
      → Fails errors.merged errors.takes_no_memory (expects source errors mid.tokens (wanted.SomethingElse ∷ []) None mid.place mid.place) mid new f
      → Ran errors.merged errors.takes_no_memory (MeansSelect source safe errors states picks) w old new (Err f)
  select_ends_input mid new f e s k =
      at_end new f e
      (subst
      (λ (h : Held Tok Cx states.Seen errors.Seen). Fails errors.merged errors.takes_no_memory
      (expects source errors h.tokens (wanted.SomethingElse ∷ []) None h.place h.place) h new f)
      s k)

  module _ (t : Tok) (there : Some t ≡ slice_get old.tokens.list old.place) (mid : Held Tok Cx states.Seen errors.Seen) (taken : mid ≡ took states.after old (Some t)) where
    pub select_lacks : (x : Result V Fault) → x ≡ Err (fault.Stop Memory) → (safe t → ⊥)
        → Ran errors.merged errors.takes_no_memory (MeansSelect source safe errors states picks) w old mid (asked w x)
    select_lacks x e may =
        rw (e, taken)
        (ran-halts errors.merged errors.takes_no_memory (MeansSelect source safe errors states picks) w old (took states.after old (Some t)) (record { tokens = refl; context = refl }) refl
        (λ o v s. record { by_token = rw (sym there) (inr (inl (may, v, s))) }))

    module _ (m : Marks Tok states.Marked) (marked : m ≡ marked_here states.mark old) (left : Held Tok Cx states.Seen errors.Seen) (s : states.Seen) (called : left ≡ record mid { state = s }) where
      shown_there : (r : Option V) → picks t (shown_from m.place mid) r s → picks t (over states.after t (begin w old)) r s
      shown_there r h = subst (λ x. picks t x r s) (cc (taken, marked)) h

      left_there : left ≡ record old { place = old.place + 1; state = s }
      left_there = called ∙ ap (λ (h : Held Tok Cx states.Seen errors.Seen). record h { state = s }) taken

      pub select_takes : (v : V) → picks t (shown_from m.place mid) (Some v) s
          → Ran errors.merged errors.takes_no_memory (MeansSelect source safe errors states picks) w old left (Ok (wanting w v))
      select_takes v h =
          rw left_there (ran-yes errors.merged errors.takes_no_memory (MeansSelect source safe errors states picks) w old (wanting w v) (old.place + 1) s
          (record { by_token = rw (sym there) (inr (inr (record { answer = Some v; state = s; picked = shown_there (Some v) h; outcome = refl }))) }))

      select_unrestored : (new : Held Tok Cx states.Seen errors.Seen) (x : Result V Fault)
          → picks t (shown_from m.place mid) None s → new ≡ left → x ≡ Err (fault.Stop Memory)
          → (states.takes_no_memory → ⊥)
          → Ran errors.merged errors.takes_no_memory (MeansSelect source safe errors states picks) w old new (asked w x)
      select_unrestored new x h n e may =
          rw (e, n, left_there)
          (ran-halts errors.merged errors.takes_no_memory (MeansSelect source safe errors states picks) w old (record old { place = old.place + 1; state = s }) (record { tokens = refl; context = refl }) refl
          (λ o v q. record { by_token = rw (sym there) (inr (inr (record { answer = None; state = s; picked = shown_there None h; outcome = inl (may, v, q) }))) }))

      -- the event of a token that is gone back from
      back_from : (new : Held Tok Cx states.Seen errors.Seen) (f : Fault) → picks t (shown_from m.place mid) None s
          → Fails errors.merged errors.takes_no_memory
          (expects source errors old.tokens (wanted.SomethingElse ∷ []) (Some t) old.place (old.place + 1))
          (record old { state = states.back s (states.mark old.state) }) new f
          → Ran errors.merged errors.takes_no_memory (MeansSelect source safe errors states picks) w old new (Err f)
      back_from new f h k =
          ran-moved (record { tokens = refl; context = refl })
          refl refl refl (λ o q. record { by_token = rw (sym there) (inr (inr (record { answer = None; state = s; picked = shown_there None h; outcome = inr q }))) })
          (ran-misses errors.merged errors.takes_no_memory
          (λ b o. Misses errors.takes_no_memory (expects source errors b.tokens (wanted.SomethingElse ∷ []) (Some t) b.start (b.start + 1)) b.start (states.back s (states.mark old.state)) o)
          w (record old { state = states.back s (states.mark old.state) }) _ new f k (λ o q. q))

      select_misses : (past : ℕ) (back new : Held Tok Cx states.Seen errors.Seen) (f : Fault) → picks t (shown_from m.place mid) None s
          → past ≡ left.place → back ≡ gone_back states.back left m
          → Fails errors.merged errors.takes_no_memory (expects source errors m.tokens (wanted.SomethingElse ∷ []) (Some t) m.place past) back new f
          → Ran errors.merged errors.takes_no_memory (MeansSelect source safe errors states picks) w old new (Err f)
      select_misses past back new f h l n k =
          let uncut : take (length old.emitted) old.emitted ≡ old.emitted = take-length old.emitted in
          let gone : back ≡ record old { state = states.back s (states.mark old.state) } =
          n ∙ ap (λ (x : Held Tok Cx states.Seen errors.Seen). gone_back states.back x m) left_there
          ∙ ap (gone_back states.back (record old { place = old.place + 1; state = s })) marked
          ∙ ap (λ es. record old { state = states.back s (states.mark old.state); emitted = es }) uncut in
          let far : past ≡ old.place + 1 = l ∙ ap (λ (x : Held Tok Cx states.Seen errors.Seen). x.place) left_there in
          back_from new f h (rw (gone, marked, far) at k)

      pub select_not_picked : (new : Held Tok Cx states.Seen errors.Seen) (f : Fault) → picks t (shown_from m.place mid) None s → MissesFrom source errors states m t left new f
          → Ran errors.merged errors.takes_no_memory (MeansSelect source safe errors states picks) w old new (Err f)
      select_not_picked new f h (inl (n, may, e)) = select_unrestored new (Err f) h n (ap Err e) may
      select_not_picked new f h (inr k) = select_misses left.place (gone_back states.back left m) new f h refl refl k

pub asked_value : {V : Type 0} (x : Result V Fault) → asked true x ≡ with_value x
asked_value (Ok v) = refl
asked_value (Err f) = refl

pub asked_ok : {V : Type 0} {x : Result V Fault} {v : V} → x ≡ Ok v → asked false x ≡ Ok None
asked_ok e = rw e

pub asked_err : {V : Type 0} {x : Result V Fault} {y : Result (Unit {0}) Fault} {f : Fault} → x ≡ Err f → y ≡ Err f → asked false x ≡ without_value {V = V} y
asked_err e d = rw (e, d)
