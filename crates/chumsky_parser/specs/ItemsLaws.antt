-- The laws of all steps of an iteration.
use Rattle.std.proofs.Common.{◌≡◌, ℕ, zero, suc, true, Option, Some, None, subst, arith}
use Rattle.chumsky_input.specs.declared.stop.Stop.TheVariants.{CountTooLarge}
use Rattle.chumsky_input.specs.Outcome.{Meaning, SameValue, EndsAfterStart, Agreeing}
use Rattle.chumsky_parser.specs.Chained.{Chained, Asked}
use Rattle.chumsky_parser.specs.Failure.{Stops, wanting}
use Rattle.chumsky_parser.specs.FailureLaws.{stops-ends, stops-agrees, wanting-same}
use Rattle.chumsky_parser.specs.Laws.{chained-ends, chained-agrees, asked-ends, asked-agrees}
use Rattle.chumsky_parser.specs.Items.{Next, More, End, SameNext, AfterStep, FromMade, Items, ItemsEnd, ItemsAgree}
use Rattle.chumsky_parser.specs.Steps.{AllSteps, unlisted}

module _ {Tok Cx St Er S V W : Type 0} where
  pub after_step-ends : (on : Option V → S → Meaning Tok Cx St Er W) (ended : Meaning Tok Cx St Er W)
      → ((v : Option V) (s : S) → EndsAfterStart (on v s)) → EndsAfterStart ended → (x : Option (Next S V))
      → EndsAfterStart (AfterStep on ended x)
  after_step-ends on ended h e (Some (More v s)) = h v s
  after_step-ends on ended h e (Some End) = e
  after_step-ends on ended h e None = λ b o m a. absurd m

  pub after_step-agrees : (sv : V → V → Type 0) (alike : S → S → Type 0) (sw : W → W → Type 0) (on on' : Option V → S → Meaning Tok Cx St Er W) (ended ended' : Meaning Tok Cx St Er W)
      → ((v w : Option V) (s t : S) → SameValue sv v w → alike s t → Agreeing sw (on v s) (on' w t)) → Agreeing sw ended ended' → (x y : Option (Next S V)) → SameValue (SameNext sv alike) x y
      → Agreeing sw (AfterStep on ended x) (AfterStep on' ended' y)
  after_step-agrees sv alike sw on on' ended ended' h e (Some (More v s)) (Some (More w t)) z = h v w s t z.0 z.1
  after_step-agrees sv alike sw on on' ended ended' h e (Some (More v s)) (Some End) z = absurd z
  after_step-agrees sv alike sw on on' ended ended' h e (Some (More v s)) None z = λ b c o q l m n. absurd n
  after_step-agrees sv alike sw on on' ended ended' h e (Some End) (Some (More w t)) z = absurd z
  after_step-agrees sv alike sw on on' ended ended' h e (Some End) (Some End) z = e
  after_step-agrees sv alike sw on on' ended ended' h e (Some End) None z = λ b c o q l m n. absurd n
  after_step-agrees sv alike sw on on' ended ended' h e None y z = λ b c o q l m. absurd m

module _ {Tok Cx St Er S V A W : Type 0} (step : S → Meaning Tok Cx St Er (Next S V)) (more : Option A → Option V → Meaning Tok Cx St Er A) (ended : Option A → Meaning Tok Cx St Er W) where
  all_steps-ends : ((s : S) → EndsAfterStart (step s)) → ((a : Option A) (v : Option V) → EndsAfterStart (more a v))
      → ((a : Option A) → EndsAfterStart (ended a)) → (room : ℕ) (a : Option A) (s : S)
      → EndsAfterStart (AllSteps step more ended room a s)
  all_steps-ends hs hm he zero a s = chained-ends (step s) _ (hs s) (after_step-ends (λ _ _. Stops CountTooLarge) (ended a) (λ _ _. stops-ends CountTooLarge) (he a))
  all_steps-ends hs hm he (suc room) a s =
      chained-ends (step s) _ (hs s)
      (after_step-ends (λ v t. Chained (more a v) (λ c. AllSteps step more ended room c t)) (ended a)
      (λ v t. chained-ends (more a v) _ (hm a v) (λ c. all_steps-ends hs hm he room c t)) (he a))

  pub from_made-ends : ((s : S) → EndsAfterStart (step s))
      → ((a : Option A) (v : Option V) → EndsAfterStart (more a v)) → ((a : Option A) → EndsAfterStart (ended a))
      → (room : ℕ) (a : Option A) (s : Option S) → EndsAfterStart (FromMade step more ended room a s)
  from_made-ends hs hm he room a (Some s) b o m = all_steps-ends hs hm he room a s b o (unlisted step more ended room a s b o m)
  from_made-ends hs hm he room a None b o m = absurd m

  pub items-ends : (begins : Meaning Tok Cx St Er S) (first : A) → ItemsEnd begins step
      → ((a : Option A) (v : Option V) → EndsAfterStart (more a v)) → ((a : Option A) → EndsAfterStart (ended a))
      → EndsAfterStart (Items step more ended begins first)
  items-ends begins first h hm he b o m a = chained-ends (Asked true begins) _ (asked-ends true begins h.begin) (from_made-ends h.step hm he m.room (wanting b.wanted first)) b o m.run a

module _ {Tok Cx St Er S V A W : Type 0} (step step' : S → Meaning Tok Cx St Er (Next S V))
    (more more' : Option A → Option V → Meaning Tok Cx St Er A) (ended ended' : Option A → Meaning Tok Cx St Er W)
    (sv : V → V → Type 0) (alike : S → S → Type 0) (sa : A → A → Type 0) (sw : W → W → Type 0) where
  module _ (hs : (s t : S) → alike s t → Agreeing (SameNext sv alike) (step s) (step' t))
      (hm : (a c : Option A) (v w : Option V) → SameValue sa a c → SameValue sv v w → Agreeing sa (more a v) (more' c w))
      (he : (a c : Option A) → SameValue sa a c → Agreeing sw (ended a) (ended' c)) where
    all_steps-agree : (room : ℕ) (a c : Option A) (s t : S) → SameValue sa a c → alike s t → Agreeing sw (AllSteps step more ended room a s) (AllSteps step' more' ended' room c t)
    all_steps-agree zero a c s t e l =
        chained-agrees (step s) (step' t) _ _ (SameNext sv alike) sw (hs s t l)
        (after_step-agrees sv alike sw (λ _ _. Stops CountTooLarge) (λ _ _. Stops CountTooLarge) (ended a)
        (ended' c) (λ _ _ _ _ _ _. stops-agrees _ sw CountTooLarge) (he a c e))
    all_steps-agree (suc room) a c s t e l =
        chained-agrees (step s) (step' t) _ _ (SameNext sv alike) sw (hs s t l)
        (after_step-agrees sv alike sw (λ v z. Chained (more a v) (λ x. AllSteps step more ended room x z)) (λ v z. Chained (more' c v) (λ x. AllSteps step' more' ended' room x z)) (ended a) (ended' c)
        (λ v w z y d k. chained-agrees (more a v) (more' c w) _ _ sa sw (hm a c v w e d) (λ x u f. all_steps-agree room x u z y f k)) (he a c e))

    pub from_made-agree : (room : ℕ) (a c : Option A) → SameValue sa a c → (s t : Option S) → SameValue alike s t
        → Agreeing sw (FromMade step more ended room a s) (FromMade step' more' ended' room c t)
    from_made-agree room a c e (Some s) (Some t) l = λ b d o q z m n. all_steps-agree room a c s t e l b d o q z (unlisted step more ended room a s b o m) (unlisted step' more' ended' room c t d q n)
    from_made-agree room a c e (Some s) None l = λ b c o q z m n. absurd n
    from_made-agree room a c e None t l = λ b c o q z m. absurd m

    -- two runs over the same items, of which something is made in two ways
    pub two_runs-agree : (begins : Meaning Tok Cx St Er S) (first : A) → sa first first → Agreeing alike begins begins
        → Agreeing sw (Items step more ended begins first) (Items step' more' ended' begins first)
    two_runs-agree begins first s h b c o q l m n a z =
        let even : n.room ≡ m.room = omega (arith, m.full, n.full) in
        chained-agrees (Asked true begins) (Asked true begins) _ _ alike sw (asked-agrees true begins alike h)
        (from_made-agree m.room (wanting b.wanted first) (wanting c.wanted first) (wanting-same sa b.wanted c.wanted first s))
        b c o q l m.run
        (subst (λ r. Chained (Asked true begins) (FromMade step' more' ended' r (wanting c.wanted first)) c q) even n.run)
        a z

module _ {Tok Cx St Er S V A W : Type 0} (step : S → Meaning Tok Cx St Er (Next S V))
    (more : Option A → Option V → Meaning Tok Cx St Er A) (ended : Option A → Meaning Tok Cx St Er W)
    (sv : V → V → Type 0) (alike : S → S → Type 0) (sa : A → A → Type 0) (sw : W → W → Type 0) where
  pub items-agree : (begins : Meaning Tok Cx St Er S) (first : A) → sa first first → ItemsAgree sv alike begins step
      → ((a c : Option A) (v w : Option V) → SameValue sa a c → SameValue sv v w → Agreeing sa (more a v) (more c w))
      → ((a c : Option A) → SameValue sa a c → Agreeing sw (ended a) (ended c)) → Agreeing sw (Items step more ended begins first) (Items step more ended begins first)
  items-agree begins first s h hm he = two_runs-agree step step more more ended ended sv alike sa sw h.step hm he begins first s h.begin
