-- What is left of what is folded out of items by what may refuse one.
use Rattle.std.proofs.Common.{◌≡◌, ℕ, Bool, true, false, Option, Some, [], ◌∷◌, ◌++◌, refl, sym, ap, subst, ◌∙◌, Result, Ok, Err, inl, inr, option_to_list}
use Rattle.std.proofs.lemmas.List.{append-nil}
use Rattle.chumsky_input.specs.declared.stop.Fault.{Fault}
use Rattle.chumsky_input.specs.declared.stop.Fault.TheVariants as fault
use Rattle.chumsky_input.specs.Extra.{shown_from}
use Rattle.chumsky_input.specs.Held.{Held, first_stop}
use Rattle.chumsky_input.specs.declared.stop.Stop.TheVariants.{Memory}
use Rattle.chumsky_input.specs.Outcome.{Meaning, Event, Yes, No, Clash, HasEventAt}
use Rattle.chumsky_input.specs.Primary.{primary}
use Rattle.chumsky_input.specs.Run.{Ran, Adds, with_value}
use Rattle.chumsky_input.proofs.PrimaryLemmas.{kept-same}
use Rattle.chumsky_parser.specs.Chained.{Chained, Asked, Given}
use Rattle.chumsky_parser.specs.Failure.{asked}
use Rattle.chumsky_parser.specs.Items.{Next}
use Rattle.chumsky_parser.specs.Showing.{GivesShown}
use Rattle.chumsky_parser.proofs.ChainedLemmas.{failed, chained, emit_err, ran-weaker, ran-given, ran-asked}
use Rattle.chumsky_folds.specs.FoldingShown.{TakesAll}
use Rattle.chumsky_folds.specs.Placed.{Placed}
use Rattle.chumsky_folds.specs.FoldingTried.{TakesTried, where_wanted, FoldsTrying, FoldsTried}

module _ {Tok Cx St E Er V A : Type 0} {merged : Er → Er → Er} {safe : Type 0} {seen : E → Er}
    {tries : GivesShown Tok Cx St (A × V) (Result A E)} (from : ℕ) {a : A} {v : V} {place : ℕ}
    {mid : Held Tok Cx St Er} where
  -- an item was taken
  pub ran-tried : {w : A} {new : Held Tok Cx St Er} → new ≡ record mid { state = new.state }
      → tries (a, v) (shown_from from mid) (Ok w) new.state
      → Ran merged safe (TakesTried seen tries from (Some a) (Some (v, place))) true mid new (Ok (Some w))
  ran-tried {w} {new} n m =
      record {
        outcome = record { verdict = Yes (Some w); end = mid.place; state = new.state; events = []; emitted = [] };
        meant = record { by_value = (Ok w, new.state, m, refl) };
        answered = refl;
        state = refl;
        left = record {
          end = ap (λ (z : Held Tok Cx St Er). z.place) n;
          kept = ap (λ (z : Held Tok Cx St Er). z.kept) n ∙ kept-same merged mid.kept;
          emitted = ap (λ (z : Held Tok Cx St Er). z.emitted) n ∙ sym (append-nil mid.emitted);
          stopped = ap (λ (z : Held Tok Cx St Er). z.stopped) n;
        };
        same = record { tokens = ap (λ (z : Held Tok Cx St Er). z.tokens) n; context = ap (λ (z : Held Tok Cx St Er). z.context) n };
      }

  -- it was refused, and the error added
  pub ran-refused : (e : E) {left new : Held Tok Cx St Er} (f : Fault) → left ≡ record mid { state = left.state }
      → tries (a, v) (shown_from from mid) (Err e) left.state
      → Adds merged safe (record { place = place; error = seen e }) left new f
      → Ran merged safe (TakesTried seen tries from (Some a) (Some (v, place))) true mid new (Err f)
  ran-refused e {left} {new} fault.Fail n m d =
      let event : Event Er = record { place = place; error = seen e } in
      record {
        outcome = record { verdict = No; end = mid.place; state = left.state; events = event ∷ []; emitted = [] };
        meant = record { by_value = (Err e, left.state, m, record { by = inl (refl, refl); end_at = refl; left = refl; emitted = refl }) };
        answered = refl;
        state = ap (λ (z : Held Tok Cx St Er). z.state) d;
        left = record {
          end = ap (λ (z : Held Tok Cx St Er). z.place) d ∙ ap (λ (z : Held Tok Cx St Er). z.place) n;
          kept = ap (λ (z : Held Tok Cx St Er). z.kept) d ∙ ap (λ (z : Held Tok Cx St Er). primary merged (option_to_list z.kept ++ event ∷ [])) n;
          emitted = ap (λ (z : Held Tok Cx St Er). z.emitted) d ∙ ap (λ (z : Held Tok Cx St Er). z.emitted) n ∙ sym (append-nil mid.emitted);
          stopped = ap (λ (z : Held Tok Cx St Er). z.stopped) d ∙ ap (λ (z : Held Tok Cx St Er). z.stopped) n;
        };
        same =
            record {
              tokens = ap (λ (z : Held Tok Cx St Er). z.tokens) d ∙ ap (λ (z : Held Tok Cx St Er). z.tokens) n;
              context = ap (λ (z : Held Tok Cx St Er). z.context) d ∙ ap (λ (z : Held Tok Cx St Er). z.context) n;
            };
      }
  ran-refused e {left} {new} (fault.Stop s) n m d =
      let event : Event Er = record { place = place; error = seen e } in
      record {
        outcome = record { verdict = Clash event; end = mid.place; state = left.state; events = []; emitted = [] };
        meant = record { by_value = (Err e, left.state, m, record { by = inr (refl, refl); end_at = refl; left = refl; emitted = refl }) };
        answered = ap (λ z. Err (fault.Stop z)) d.0;
        state = ap (λ (z : Held Tok Cx St Er). z.state) d.3;
        left = (
          d.1,
          subst (HasEventAt place) (sym (append-nil (option_to_list mid.kept))) (subst (λ (z : Held Tok Cx St Er). HasEventAt place (option_to_list z.kept)) n d.2),
          ap (λ (z : Held Tok Cx St Er). first_stop z.stopped Memory) d.3 ∙ ap (λ (z : Held Tok Cx St Er). first_stop z.stopped Memory) n,
        );
        same =
            record {
              tokens = ap (λ (z : Held Tok Cx St Er). z.tokens) d.3 ∙ ap (λ (z : Held Tok Cx St Er). z.tokens) n;
              context = ap (λ (z : Held Tok Cx St Er). z.context) d.3 ∙ ap (λ (z : Held Tok Cx St Er). z.context) n;
            };
      }

module _ {Tok Cx St E Er S V A : Type 0} {merged : Er → Er → Er} {safe : Type 0}
    {gives : S → Meaning Tok Cx St Er (Next S V)} {begins : Meaning Tok Cx St Er S} {seen : E → Er}
    {tries : GivesShown Tok Cx St (A × V) (Result A E)} {part : Meaning Tok Cx St Er A}
    {old : Held Tok Cx St Er} where
  trying : {new : Held Tok Cx St Er} {r : Result (Option A) Fault}
      → Ran merged safe (Chained part (TakesAll (λ s. Placed (gives s)) begins (TakesTried seen tries old.place))) true old new r
      → Ran merged safe (FoldsTrying gives begins seen tries part) true old new r
  trying {new} {r} h =
      ran-weaker merged safe
      (Chained part (TakesAll (λ s. Placed (gives s)) begins (TakesTried seen tries old.place)))
      (FoldsTrying gives begins seen tries part) true old new r (λ o m. record { run = m }) h

  whole : (w : Bool) {new : Held Tok Cx St Er} {r : Result (Option A) Fault}
      → Ran merged safe (Chained (Asked true (FoldsTrying gives begins seen tries part)) (λ a. Given (where_wanted w a))) w old new r
      → Ran merged safe (FoldsTried gives begins seen tries part) w old new r
  whole w {new} {r} h =
      ran-weaker merged safe
      (Chained (Asked true (FoldsTrying gives begins seen tries part)) (λ a. Given (where_wanted w a)))
      (FoldsTried gives begins seen tries part) w old new r (λ o m. record { run = m }) h

  answered : (w : Bool) {new : Held Tok Cx St Er} (r : Result A Fault)
      → Ran merged safe (FoldsTrying gives begins seen tries part) true old new (with_value r)
      → Ran merged safe (FoldsTried gives begins seen tries part) w old new (asked w r)
  answered true (Ok z) h = whole true (chained (ran-asked h) refl ran-given)
  answered false (Ok z) h = whole false (chained (ran-asked h) refl ran-given)
  answered w (Err f) h = whole w (failed (ran-asked h) refl refl)

  module _ {mid : Held Tok Cx St Er} {x : Result (Option A) Fault} (h : Ran merged safe part true old mid x) where
    pub folds_tried-failed : (w : Bool) {f : Fault} {y : Result A Fault} → x ≡ Err f → y ≡ Err f → Ran merged safe (FoldsTried gives begins seen tries part) w old mid (asked w y)
    folds_tried-failed w {f} {y} e d = answered w y (trying (failed h e (emit_err d)))

    pub folds_tried-folded : (w : Bool) {a : Option A} {new : Held Tok Cx St Er} (r : Result A Fault) → x ≡ Ok a
        → Ran merged safe (TakesAll (λ s. Placed (gives s)) begins (TakesTried seen tries old.place) a) true mid new (with_value r)
        → Ran merged safe (FoldsTried gives begins seen tries part) w old new (asked w r)
    folds_tried-folded w r e k = answered w r (trying (chained h e k))

-- an answer that is wanted
pub asked_emits : {Tok Cx St Er A : Type 0} {merged : Er → Er → Er} {safe : Type 0} {meaning : Meaning Tok Cx St Er A}
    {old new : Held Tok Cx St Er} (r : Result A Fault)
    → Ran merged safe meaning true old new (asked true r) → Ran merged safe meaning true old new (with_value r)
asked_emits (Ok z) h = h
asked_emits (Err f) h = h
