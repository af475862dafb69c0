-- What a token leaves that passes a test, and one that doesn't.
use Rattle.std.proofs.Common.{◌≡◌, ℕ, ◌+◌, Bool, true, false, Option, Some, None, List, refl, sym, ◌∙◌, ap, Ok, Err, inl, inr}
use Rattle.std.specs.Prelude.{slice_get, option_map, MatchOption}
use Rattle.chumsky_input.specs.Layout.{Layout}
use Rattle.chumsky_input.specs.declared.error.Error as error_trait
use Rattle.chumsky_input.specs.declared.inspector.Inspector as inspector_trait
use Rattle.chumsky_input.specs.declared.input.Input as input_trait
use Rattle.chumsky_input.specs.declared.stop.Fault.{Fault}
use Rattle.chumsky_input.specs.declared.stop.Fault.TheVariants as fault
use Rattle.chumsky_input.specs.declared.stop.Stop.TheVariants.{Memory}
use Rattle.chumsky_input.specs.Held.{Held}
use Rattle.chumsky_input.specs.Wanted.{Wanted}
use Rattle.chumsky_input.specs.Outcome.{Outcome}
use Rattle.chumsky_input.specs.Run.{Ran, begin, Fails}
use Rattle.chumsky_parser.proofs.ChainedLemmas.{ran-weaker, ran-moved}
use Rattle.chumsky_parser.specs.Failure.{Misses, expects}
use Rattle.chumsky_parser.proofs.FailureLemmas.{ran-halts, ran-misses}
use Rattle.chumsky_primitive.specs.Just.{past, told}
use Rattle.chumsky_primitive.specs.OneOf.{passes, gone_back_from, StaysAt, MeansFound, MeansTested}
use Rattle.chumsky_primitive.specs.Any.{CountsAs}
use Rattle.chumsky_primitive.proofs.AnyLemmas.{any_takes, any_skips, any_lacks}

-- where a cursor stands that was moved past what was found
pub past_is : {A Tok Cu : Type 0} (value : A → Tok) (place : Cu → ℕ) (before after : Cu) (found : Option A)
    → MatchOption found (after ≡ before) (λ _. place after ≡ place before + 1)
    → place after ≡ past (option_map value found) (place before)
past_is value place before after None m = ap place m
past_is value place before after (Some t) m = m

module _ {I Tok Sp Cu Er St Mk Cx S : Type 0} (source : input_trait.Ghosts I Cu Tok Sp) (seen : Tok → S)
    (safe : Tok → Type 0) (errors : error_trait.Ghosts Er I Tok Sp) (states : inspector_trait.Ghosts St I Mk Tok Sp)
    (test : Tok → Bool) (what : List (Wanted Tok)) (old : Held Tok Cx states.Seen errors.Seen) where
  taken : {found : Option Tok} {t : Tok} {tokens : Layout Tok} {place : ℕ} (new : Held Tok Cx states.Seen errors.Seen) → found ≡ Some t → tokens ≡ old.tokens → place ≡ past found old.place
      → new ≡ record old { tokens = tokens; place = place; state = states.after old.state t } → new ≡ record old { place = old.place + 1; state = states.after old.state t }
  taken {t = t} new p l k m =
      let next = k ∙ ap (λ z. past z old.place) p in
      m ∙ cc (l, next)

  means : (w : Bool) (found : Option Tok) (e : Bool) → found ≡ slice_get old.tokens.list old.place → passes test found ≡ e
      → (o : Outcome Tok errors.Seen states.Seen) → MeansFound source seen safe errors states what found e (begin w old) o → MeansTested source seen safe errors states test what (begin w old) o
  means w found e f p o h = record { by_token = rw (sym f, p) h }

  -- a token that passes, taken by value; the same without one; and out of memory for it
  pub tested_takes : {found : Option Tok} {t v : Tok} {tokens : Layout Tok} {place : ℕ} (new : Held Tok Cx states.Seen errors.Seen)
      → found ≡ slice_get old.tokens.list old.place → (found ≡ Some t) × (test t ≡ true) → tokens ≡ old.tokens → place ≡ past found old.place → seen v ≡ seen t
      → new ≡ record old { tokens = tokens; place = place; state = states.after old.state t }
      → Ran errors.merged errors.takes_no_memory (MeansTested source seen safe errors states test what) true old new (Ok (Some v))
  tested_takes {found} {t} {v} {tokens} {place} new e p l k s m =
      ran-weaker errors.merged errors.takes_no_memory _ _ true old new (Ok (Some v)) (means true (Some t) true (sym p.0 ∙ e) p.1)
      (any_takes source (CountsAs seen) safe errors states old t v new (sym e ∙ p.0) s (taken new p.0 l k m))

  pub tested_skips : {found : Option Tok} {t : Tok} {tokens : Layout Tok} {place : ℕ} (new : Held Tok Cx states.Seen errors.Seen)
      → found ≡ slice_get old.tokens.list old.place → (found ≡ Some t) × (test t ≡ true) → tokens ≡ old.tokens → place ≡ past found old.place
      → new ≡ record old { tokens = tokens; place = place; state = states.after old.state t }
      → Ran errors.merged errors.takes_no_memory (MeansTested source seen safe errors states test what) false old new (Ok None)
  tested_skips {found} {t} {tokens} {place} new e p l k m =
      let there : slice_get old.tokens.list old.place ≡ Some t = sym e ∙ p.0 in
      ran-weaker errors.merged errors.takes_no_memory _ _ false old new (Ok None) (means false (Some t) true (sym there) p.1)
      (any_skips source (CountsAs seen) safe errors states old new (rw there refl) (rw there (taken new p.0 l k m)))

  pub tested_lacks : {found : Option Tok} {t : Tok} → found ≡ slice_get old.tokens.list old.place → (found ≡ Some t) × (test t ≡ true) → (safe t → ⊥)
      → Ran errors.merged errors.takes_no_memory (MeansTested source seen safe errors states test what) true old old (Err (fault.Stop Memory))
  tested_lacks {found} {t} e p may =
      ran-weaker errors.merged errors.takes_no_memory _ _ true old old (Err (fault.Stop Memory)) (means true (Some t) true (sym p.0 ∙ e) p.1)
      (any_lacks source (CountsAs seen) safe errors states old old (refl, (t, sym e ∙ p.0, may)))

  -- out of memory going back from what doesn't pass
  pub tested_stays : (found : Option Tok) (new : Held Tok Cx states.Seen errors.Seen)
      → found ≡ slice_get old.tokens.list old.place → passes test found ≡ false
      → StaysAt states.takes_no_memory states.after found old new
      → (w : Bool) → Ran errors.merged errors.takes_no_memory (MeansTested source seen safe errors states test what) w old new (Err (fault.Stop Memory))
  tested_stays found new f p (may, inl n) w =
      rw n (ran-halts errors.merged errors.takes_no_memory _ w old old (record { tokens = refl; context = refl }) refl (λ o v s. means w found false f p o (inl (may, v, s))))
  tested_stays found new f p (may, inr n) w =
      rw n (ran-halts errors.merged errors.takes_no_memory _ w old (record old { state = told states.after found old.state }) (record { tokens = refl; context = refl }) refl
      (λ o v s. means w found false f p o (inr (inl (may, v, s)))))

  -- the event of what doesn't pass, where that was gone back from
  back_from : (found : Option Tok) (new : Held Tok Cx states.Seen errors.Seen) (f : Fault) → found ≡ slice_get old.tokens.list old.place → passes test found ≡ false
      → Fails errors.merged errors.takes_no_memory (expects source errors old.tokens what found old.place (past found old.place)) (gone_back_from states.after states.mark states.back found old) new f
      → (w : Bool) → Ran errors.merged errors.takes_no_memory (MeansTested source seen safe errors states test what) w old new (Err f)
  back_from found new f e p k w =
      ran-moved (record { tokens = refl; context = refl }) refl refl refl (λ o h. means w found false e p o (inr (inr h)))
      (ran-misses errors.merged errors.takes_no_memory
      (λ b o. Misses errors.takes_no_memory (expects source errors b.tokens what found b.start (past found b.start))
      b.start (states.back (told states.after found old.state) (states.mark old.state)) o)
      w (gone_back_from states.after states.mark states.back found old) _ new f k (λ o h. h))

  pub tested_fails : (found : Option Tok) (to : ℕ) (mid new : Held Tok Cx states.Seen errors.Seen) (f : Fault)
      → found ≡ slice_get old.tokens.list old.place → passes test found ≡ false → mid ≡ gone_back_from states.after states.mark states.back found old → to ≡ past found old.place
      → Fails errors.merged errors.takes_no_memory (expects source errors mid.tokens what found mid.place to) mid new f
      → (w : Bool) → Ran errors.merged errors.takes_no_memory (MeansTested source seen safe errors states test what) w old new (Err f)
  tested_fails found to mid new f e p b l h w = back_from found new f e p (rw (b, l) at h) w
