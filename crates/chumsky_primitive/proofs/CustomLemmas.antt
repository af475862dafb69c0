-- What a parser given by a closure leaves.
use Rattle.std.proofs.Common.{◌≡◌, ℕ, Bool, true, Option, Some, List, [], ◌∷◌, ◌++◌, Result, Ok, Err, option_to_list, refl, sym, ◌∙◌, ap, subst, inl, inr, append_assoc}
use Rattle.std.specs.Prelude.{◌⊎◌}
use Rattle.std.proofs.lemmas.List.{append-nil}
use Rattle.chumsky_input.specs.declared.stop.Stop.{Stop}
use Rattle.chumsky_input.specs.declared.stop.Stop.TheVariants.{Memory}
use Rattle.chumsky_input.specs.declared.stop.Fault.{Fault}
use Rattle.chumsky_input.specs.declared.stop.Fault.TheVariants as fault
use Rattle.chumsky_input.specs.declared.stop.Failure.{Failure}
use Rattle.chumsky_input.specs.declared.stop.Failure.TheVariants as failure
use Rattle.chumsky_input.specs.Held.{Held, first_stop, PassesOn}
use Rattle.chumsky_input.specs.Primary.{primary}
use Rattle.chumsky_input.specs.Outcome.{Event, Meaning, Outcome, Halt, Clash, HasEventAt}
use Rattle.chumsky_input.specs.Run.{Ran, begin, with_value, Adds}
use Rattle.chumsky_input.specs.Aside.{Forward, without_errors, brought_back, ClashesWith, SameButErrors}
use Rattle.chumsky_input.proofs.PrimaryLemmas.{primary-append, has_event_at-kept, has_event_at-left}
use Rattle.chumsky_parser.specs.Failure.{asked}
use Rattle.chumsky_primitive.specs.Custom.{done, OrLacksMemory, Reads, Call, MeansCustom}

module _ {V Er St : Type 0} where
  -- the first event of an outcome was refused
  lacks_merge : (whole : Outcome V Er St) (k : Option (Event Er)) (tail : List (Event Er)) (e : Event Er) → whole.events ≡ option_to_list k ++ tail → k ≡ Some e
      → OrLacksMemory whole (record { verdict = Clash e; end = whole.end; state = whole.state; events = []; emitted = [] })
  lacks_merge whole k tail e q n = inr (inl (record { before = []; event = e; after = tail; among = q ∙ ap (λ z. option_to_list z ++ tail) n; verdict = refl; earlier = refl; state = refl }))

module _ {Tok Cx St Er E V : Type 0} (merged : Er → Er → Er) (free : Type 0) (seen : E → Er) (reads : Reads Tok Cx St Er E V) (old start left : Held Tok Cx St Er) where
  abbrev calls : (w : Bool) (r : Result V (Failure E)) → reads start r left → start ≡ without_errors old → Call reads (begin w old)
  calls w r met e = record { stopped = old.stopped; returned = r; left = left; read = subst (λ z. reads z r left) e met }

  forward : Forward start left → start ≡ without_errors old → Forward (without_errors old) left
  forward h e = subst (λ z. Forward z left) e h

  pub custom_yes : {v : V} {new : Held Tok Cx St Er} → Forward start left → reads start (Ok v) left → start ≡ without_errors old
      → new ≡ brought_back merged old.kept old.emitted left → (w : Bool) → Ran merged free (MeansCustom seen reads) w old new (asked w (Ok v))
  custom_yes {v} {new} may met e n w =
      let ahead = forward may e in
      record {
        outcome = done seen (begin w old) (Ok v) left;
        meant = record { call = calls w (Ok v) met e; does = inl refl; later = λ a. ahead.place };
        answered = refl;
        state = ap (λ (z : Held Tok Cx St Er). z.state) n;
        left =
            record {
              end = ap (λ (z : Held Tok Cx St Er). z.place) n;
              kept = ap (λ (z : Held Tok Cx St Er). z.kept) n;
              emitted = ap (λ (z : Held Tok Cx St Er). z.emitted) n;
              stopped = ap (λ (z : Held Tok Cx St Er). z.stopped) n ∙ ahead.stopped;
            };
        same = record { tokens = ap (λ (z : Held Tok Cx St Er). z.tokens) n ∙ ahead.tokens; context = ap (λ (z : Held Tok Cx St Er). z.context) n ∙ ahead.context };
      }

  -- the closure's own event, after what it kept
  kept_twice : (e : Event Er)
      → primary merged (option_to_list (primary merged (option_to_list old.kept ++ option_to_list left.kept)) ++ e ∷ [])
      ≡ primary merged (option_to_list old.kept ++ (option_to_list left.kept ++ e ∷ []))
  kept_twice e = primary-append merged (option_to_list old.kept ++ option_to_list left.kept) (e ∷ []) ∙ ap (primary merged) (append_assoc (option_to_list old.kept) (option_to_list left.kept) (e ∷ []))

  event_before : (q : ℕ) → HasEventAt q (option_to_list (primary merged (option_to_list old.kept ++ option_to_list left.kept))) → HasEventAt q (option_to_list old.kept ++ option_to_list left.kept)
  event_before q h =
      subst (HasEventAt q) (append-nil (option_to_list old.kept ++ option_to_list left.kept))
      (has_event_at-kept merged q (option_to_list old.kept ++ option_to_list left.kept) []
      (subst (HasEventAt q)
      (sym (append-nil (option_to_list (primary merged (option_to_list old.kept ++ option_to_list left.kept)))))
      h))

  adds : {x : E} {mid new : Held Tok Cx St Er} → Forward start left → reads start (Err (failure.Error x)) left → start ≡ without_errors old
      → mid ≡ brought_back merged old.kept old.emitted left → (k : Fault) → Adds merged free (record { place = old.place; error = seen x }) mid new k
      → (w : Bool) → Ran merged free (MeansCustom seen reads) w old new (Err k)
  adds {x} {mid} {new} may met e n fault.Fail a w =
      let ahead = forward may e in
      record {
        outcome = done seen (begin w old) (Err (failure.Error x)) left;
        meant = record { call = calls w (Err (failure.Error x)) met e; does = inl refl; later = λ _. ahead.place };
        answered = refl;
        state = ap (λ (z : Held Tok Cx St Er). z.state) a ∙ ap (λ (z : Held Tok Cx St Er). z.state) n;
        left = record {
          end = ap (λ (z : Held Tok Cx St Er). z.place) a ∙ ap (λ (z : Held Tok Cx St Er). z.place) n;
          kept =
              ap (λ (z : Held Tok Cx St Er). z.kept) a
              ∙ ap (λ (z : Held Tok Cx St Er). primary merged
              (option_to_list z.kept ++ record { place = old.place; error = seen x } ∷ []))
              n
              ∙ kept_twice (record { place = old.place; error = seen x });
          emitted = ap (λ (z : Held Tok Cx St Er). z.emitted) a ∙ ap (λ (z : Held Tok Cx St Er). z.emitted) n;
          stopped = ap (λ (z : Held Tok Cx St Er). z.stopped) a ∙ ap (λ (z : Held Tok Cx St Er). z.stopped) n ∙ ahead.stopped;
        };
        same = record {
          tokens = ap (λ (z : Held Tok Cx St Er). z.tokens) a ∙ ap (λ (z : Held Tok Cx St Er). z.tokens) n ∙ ahead.tokens;
          context = ap (λ (z : Held Tok Cx St Er). z.context) a ∙ ap (λ (z : Held Tok Cx St Er). z.context) n ∙ ahead.context;
        };
      }
  adds {x} {mid} {new} may met e n (fault.Stop s) a w =
      let ahead = forward may e in
      let event : Event Er = record { place = old.place; error = seen x } in
      record {
        outcome = record { verdict = Clash event; end = left.place; state = left.state; events = option_to_list left.kept; emitted = [] };
        meant = record {
          call = calls w (Err (failure.Error x)) met e;
          does = inr (inl (record { before = option_to_list left.kept; event = event; after = []; among = refl; verdict = refl; earlier = refl; state = refl }));
          later = λ z. absurd z;
        };
        answered = ap (λ z. Err (fault.Stop z)) a.0;
        state = ap (λ (z : Held Tok Cx St Er). z.state) a.3 ∙ ap (λ (z : Held Tok Cx St Er). z.state) n;
        left = (
          a.1,
          event_before old.place (subst (λ (z : Held Tok Cx St Er). HasEventAt old.place (option_to_list z.kept)) n a.2),
          ap (λ (z : Held Tok Cx St Er). first_stop z.stopped Memory) a.3 ∙ ap (λ (z : Held Tok Cx St Er). first_stop z.stopped Memory) n ∙ ap (λ z. first_stop z Memory) ahead.stopped,
        );
        same = record {
          tokens = ap (λ (z : Held Tok Cx St Er). z.tokens) a.3 ∙ ap (λ (z : Held Tok Cx St Er). z.tokens) n ∙ ahead.tokens;
          context = ap (λ (z : Held Tok Cx St Er). z.context) a.3 ∙ ap (λ (z : Held Tok Cx St Er). z.context) n ∙ ahead.context;
        };
      }

  pub custom_fails : {x : E} {mid new : Held Tok Cx St Er} {k : Fault} → Forward start left → reads start (Err (failure.Error x)) left → start ≡ without_errors old
      → mid ≡ brought_back merged old.kept old.emitted left → Adds merged free (record { place = old.place; error = seen x }) mid new k
      → (w : Bool) → Ran merged free (MeansCustom seen reads) w old new (asked w (Err k))
  custom_fails {k = k} may met e n a w = adds may met e n k a w

  -- older errors could not be brought back
  refuses : (r : Result V (Failure E)) (tail : List (Event Er)) {new : Held Tok Cx St Er} (w : Bool) → reads start r left → start ≡ without_errors old → Forward (without_errors old) left
      → (let whole = done seen (begin w old) r left in (whole.events ≡ option_to_list left.kept ++ tail) × (whole.emitted ≡ left.emitted) × (whole.state ≡ left.state))
      → ClashesWith free old.kept left.kept ⊎ ¬ (left.emitted ≡ []) → SameButErrors left new
      → Ran merged free (MeansCustom seen reads) w old new (Err (fault.Stop Memory))
  refuses r tail {new} w met e ahead is (inl c) s =
      let whole = done seen (begin w old) r left in
      record {
        outcome = record { verdict = Clash c.0; end = whole.end; state = whole.state; events = []; emitted = [] };
        meant = record { call = calls w r met e; does = lacks_merge whole left.kept tail c.0 is.0 c.1; later = λ z. absurd z };
        answered = refl;
        state = ap (λ (z : Held Tok Cx St Er). z.state) s ∙ sym is.2;
        left = (c.2, has_event_at-left merged c.0.place (option_to_list old.kept) [] c.3, ap (λ (z : Held Tok Cx St Er). first_stop z.stopped Memory) s ∙ ap (λ z. first_stop z Memory) ahead.stopped);
        same = record { tokens = ap (λ (z : Held Tok Cx St Er). z.tokens) s ∙ ahead.tokens; context = ap (λ (z : Held Tok Cx St Er). z.context) s ∙ ahead.context };
      }
  refuses r tail {new} w met e ahead is (inr n) s =
      let whole = done seen (begin w old) r left in
      record {
        outcome = record { verdict = Halt Memory; end = whole.end; state = whole.state; events = []; emitted = [] };
        meant = record { call = calls w r met e; does = inr (inr (λ z. n (sym is.1 ∙ z), refl, refl)); later = λ z. absurd z };
        answered = refl;
        state = ap (λ (z : Held Tok Cx St Er). z.state) s ∙ sym is.2;
        left = ap (λ (z : Held Tok Cx St Er). first_stop z.stopped Memory) s ∙ ap (λ z. first_stop z Memory) ahead.stopped;
        same = record { tokens = ap (λ (z : Held Tok Cx St Er). z.tokens) s ∙ ahead.tokens; context = ap (λ (z : Held Tok Cx St Er). z.context) s ∙ ahead.context };
      }

  pub custom_yes_refused : {v : V} {new : Held Tok Cx St Er} → Forward start left → reads start (Ok v) left → start ≡ without_errors old
      → (ClashesWith free old.kept left.kept ⊎ ¬ (left.emitted ≡ [])) × SameButErrors left new
      → (w : Bool) → Ran merged free (MeansCustom seen reads) w old new (Err (fault.Stop Memory))
  custom_yes_refused {v} may met e n w = refuses (Ok v) [] w met e (forward may e) (sym (append-nil _), refl, refl) n.0 n.1

  pub custom_no_refused : {x : E} {new : Held Tok Cx St Er} → Forward start left → reads start (Err (failure.Error x)) left → start ≡ without_errors old
      → (ClashesWith free old.kept left.kept ⊎ ¬ (left.emitted ≡ [])) × SameButErrors left new
      → (w : Bool) → Ran merged free (MeansCustom seen reads) w old new (Err (fault.Stop Memory))
  custom_no_refused {x} may met e n w = refuses (Err (failure.Error x)) (record { place = old.place; error = seen x } ∷ []) w met e (forward may e) (refl, refl, refl) n.0 n.1

  pub custom_stops : {s : Stop} → PassesOn s start left → reads start (Err (failure.Stop s)) left → start ≡ without_errors old
      → (w : Bool) → Ran merged free (MeansCustom seen reads) w old (record left { tokens = old.tokens; place = old.place; context = old.context }) (Err (fault.Stop s))
  custom_stops {s} may met e w =
      record {
        outcome = done seen (begin w old) (Err (failure.Stop s)) left;
        meant = record { call = calls w (Err (failure.Stop s)) met e; does = inl refl; later = λ z. absurd z };
        answered = refl;
        state = refl;
        left = may ∙ ap (λ (z : Held Tok Cx St Er). first_stop z.stopped s) e;
        same = record { tokens = refl; context = refl };
      }

module _ {Tok Cx St Er V : Type 0} {merged : Er → Er → Er} {safe : Type 0} {meaning : Meaning Tok Cx St Er V} {old new : Held Tok Cx St Er} where
  -- an answer that is handed on
  pub custom_emits : (r : Result V Fault) → Ran merged safe meaning true old new (asked true r) → Ran merged safe meaning true old new (with_value r)
  custom_emits (Ok v) h = h
  custom_emits (Err k) h = h
