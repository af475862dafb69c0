-- The laws of runs under another context.
use Rattle.std.proofs.Common.{◌≡◌, ◌≤◌, ◌<◌, Bool, true, ◌||◌, Option, Some, None, subst, inl, inr}
use Rattle.chumsky_input.specs.Outcome.{Meaning, Beginning, Outcome, IsAnswer, SameValue, Alike, Agree, EndsAfterStart, Agreeing}
use Rattle.chumsky_parser.specs.Chained.{Asked, both, SamePair}
use Rattle.chumsky_parser.specs.Laws.{chained-ends, chained-agrees, asked-ends, asked-agrees, given-ends, given-agrees}
use Rattle.chumsky_parser.specs.Items.{Next, SameNext, ItemsEnd, ItemsAgree}
use Rattle.chumsky_parser.specs.Progress.{IsYes, Moves, ItemsMove}
use Rattle.chumsky_parser.specs.ProgressLaws.{either-true, asked-moves, chained-first, chained-second}
use Rattle.chumsky_context.specs.Configured.{IsDeterministic}
use Rattle.chumsky_context.specs.CarriedLaws.{carried-ends, carried-agrees}
use Rattle.chumsky_context.specs.Under.{begun_under, RunsUnder, UnderValue, UnderMade, IgnoringUnder, SequenceUnder, BeginsUnder, GivesUnder, AlikeUnder, SameAreEqual}

module _ {Tok Cx St Er V W : Type 0} (part : Meaning Tok V St Er W) where
  runs_under-ends : EndsAfterStart part → (v : Option V) (b : Beginning Tok Cx St) (o : Outcome W Er St) → RunsUnder part v b o → IsAnswer o.verdict → b.start ≤ o.end
  runs_under-ends h (Some v) b o m a = h (begun_under v b) o m a
  runs_under-ends h None b o m a = absurd m

  pub under-ends : EndsAfterStart part → (v : Option V) → EndsAfterStart (UnderValue {Cx = Cx} part v)
  under-ends h v b o m a = runs_under-ends h v b o m.runs a

  pub under_made-ends : (makes : Cx → V → Type 0) → EndsAfterStart part → EndsAfterStart (UnderMade makes part)
  under_made-ends makes h b o m a = h (begun_under m.context b) o m.runs a

  runs_under-moves : Moves part → (v : Option V) (b : Beginning Tok Cx St) (o : Outcome W Er St) → RunsUnder part v b o → IsYes o.verdict → b.start < o.end
  runs_under-moves h (Some v) b o m y = h (begun_under v b) o m y
  runs_under-moves h None b o m y = absurd m

  pub under-moves : Moves part → (v : Option V) → Moves (UnderValue {Cx = Cx} part v)
  under-moves h v b o m y = runs_under-moves h v b o m.runs y

  pub under_made-moves : (makes : Cx → V → Type 0) → Moves part → Moves (UnderMade makes part)
  under_made-moves makes h b o m y = h (begun_under m.context b) o m.runs y

  pub under_made-agrees : (makes : Cx → V → Type 0) → IsDeterministic makes → (same : W → W → Type 0) → Agreeing same part part → Agreeing same (UnderMade makes part) (UnderMade makes part)
  under_made-agrees makes one same h b c o q alike m n a z =
      let e : m.context ≡ n.context = one c.context m.context n.context (subst (λ x. makes x m.context) alike.context m.made) n.made in
      h (begun_under m.context b) (begun_under n.context c) o q (record { tokens = alike.tokens; start = alike.start; context = e; state = alike.state }) m.runs n.runs a z

module _ {Tok Cx St Er V W : Type 0} (part part' : Meaning Tok V St Er W) where
  runs_under-agrees : (sv : V → V → Type 0) (sw : W → W → Type 0) → SameAreEqual sv → Agreeing sw part part' → (v w : Option V) → SameValue sv v w → (b c : Beginning Tok Cx St) (o q : Outcome W Er St)
      → Alike b c → RunsUnder part v b o → RunsUnder part' w c q → IsAnswer o.verdict → IsAnswer q.verdict → Agree sw o q
  runs_under-agrees sv sw equal h (Some v) (Some w) s b c o q alike m n a z =
      h (begun_under v b) (begun_under w c) o q (record { tokens = alike.tokens; start = alike.start; context = equal v w s; state = alike.state }) m n a z
  runs_under-agrees sv sw equal h (Some v) None s b c o q alike m n a z = absurd n
  runs_under-agrees sv sw equal h None w s b c o q alike m n a z = absurd m

  pub under-agrees : (sv : V → V → Type 0) (sw : W → W → Type 0) → SameAreEqual sv → Agreeing sw part part'
      → (v w : Option V) → SameValue sv v w → Agreeing sw (UnderValue {Cx = Cx} part v) (UnderValue part' w)
  under-agrees sv sw equal h v w s b c o q alike m n a z = runs_under-agrees sv sw equal h v w s b c o q alike m.runs n.runs a z

module _ {V W : Type 0} (sv : V → V → Type 0) (sw : W → W → Type 0) where
  both-same : (v v' : Option V) (w w' : Option W) → SameValue sv v v' → SameValue sw w w' → SameValue (SamePair sv sw) (both v w) (both v' w')
  both-same (Some v) (Some v') (Some w) (Some w') e d = (e, d)
  both-same (Some v) (Some v') (Some w) None e d = tt
  both-same (Some v) (Some v') None w' e d = tt
  both-same (Some v) None (Some w) w' e d = tt
  both-same (Some v) None None w' e d = tt
  both-same None v' w w' e d = tt

module _ {Tok Cx St Er V W : Type 0} (first : Meaning Tok Cx St Er V) (second : Meaning Tok V St Er W) where
  pub ignoring_under-ends : EndsAfterStart first → EndsAfterStart second → EndsAfterStart (IgnoringUnder first second)
  ignoring_under-ends f s = chained-ends (Asked true first) _ (asked-ends true first f) (λ v. under-ends second s v)

  pub sequence_under-ends : EndsAfterStart first → EndsAfterStart second → EndsAfterStart (SequenceUnder first second)
  sequence_under-ends f s = chained-ends (Asked true first) _ (asked-ends true first f) (λ v. chained-ends (UnderValue second v) _ (under-ends second s v) (λ w. given-ends (both v w)))

  pub ignoring_under-moves : (a b : Bool) → EndsAfterStart first → EndsAfterStart second → (a ≡ true → Moves first) → (b ≡ true → Moves second) → (a || b) ≡ true → Moves (IgnoringUnder first second)
  ignoring_under-moves a b ef es hf hs e =
      elim (either-true a b e) [
        | inl x ↦ chained-first (Asked true first) _ (asked-moves true first (hf x)) (λ v. under-ends second es v)
        | inr x ↦ chained-second (Asked true first) _ (asked-ends true first ef) (λ v. under-moves second (hs x) v)
      ]

  pub sequence_under-moves : (a b : Bool) → EndsAfterStart first → EndsAfterStart second → (a ≡ true → Moves first) → (b ≡ true → Moves second) → (a || b) ≡ true → Moves (SequenceUnder first second)
  sequence_under-moves a b ef es hf hs e =
      elim (either-true a b e) [
        | inl x ↦ chained-first (Asked true first) _ (asked-moves true first (hf x)) (λ v. chained-ends (UnderValue second v) _ (under-ends second es v) (λ w. given-ends (both v w)))
        | inr x ↦ chained-second (Asked true first) _ (asked-ends true first ef) (λ v. chained-first (UnderValue second v) _ (under-moves second (hs x) v) (λ w. given-ends (both v w)))
      ]

  module _ (sv : V → V → Type 0) (sw : W → W → Type 0) (equal : SameAreEqual sv) where
    pub ignoring_under-agrees : Agreeing sv first first → Agreeing sw second second → Agreeing sw (IgnoringUnder first second) (IgnoringUnder first second)
    ignoring_under-agrees f s = chained-agrees (Asked true first) (Asked true first) _ _ sv sw (asked-agrees true first sv f) (λ v w e. under-agrees second second sv sw equal s v w e)

    pub sequence_under-agrees : Agreeing sv first first → Agreeing sw second second → Agreeing (SamePair sv sw) (SequenceUnder first second) (SequenceUnder first second)
    sequence_under-agrees f s =
        chained-agrees (Asked true first) (Asked true first) _ _ sv (SamePair sv sw) (asked-agrees true first sv f)
        (λ v v' e. chained-agrees (UnderValue second v) (UnderValue second v') _ _ sw (SamePair sv sw)
        (under-agrees second second sv sw equal s v v' e)
        (λ w w' d. given-agrees (SamePair sv sw) (both v w) (both v' w') (both-same sv sw v v' w w' e d)))

module _ {V S : Type 0} (sv : V → V → Type 0) (alike : S → S → Type 0) (equal : SameAreEqual sv) where
  made-alike : (v v' : Option V) (s s' : Option S) → SameValue sv v v' → SameValue alike s s' → SameValue (AlikeUnder alike) (both v s) (both v' s')
  made-alike (Some v) (Some v') (Some s) (Some s') e l = (equal v v' e, l)
  made-alike (Some v) (Some v') (Some s) None e l = tt
  made-alike (Some v) (Some v') None s' e l = tt
  made-alike (Some v) None (Some s) s' e l = tt
  made-alike (Some v) None None s' e l = tt
  made-alike None v' s s' e l = tt

module _ {Tok Cx St Er V S W : Type 0} (first : Meaning Tok Cx St Er V) (begins : Meaning Tok V St Er S) (gives : S → Meaning Tok V St Er (Next S W)) where
  pub under_items-end : EndsAfterStart first → ItemsEnd begins gives → ItemsEnd (BeginsUnder first begins) (GivesUnder gives)
  under_items-end f h =
      record {
        begin = chained-ends first _ f (λ v. chained-ends (UnderValue begins v) _ (under-ends begins h.begin v) (λ s. given-ends (both v s)));
        step = λ s. carried-ends (λ t. (s.0, t)) _ (under-ends (gives s.1) (h.step s.1) (Some s.0));
      }

  -- the first part runs where the iteration is made
  pub under_items-move : EndsAfterStart begins → Moves first → ItemsMove (BeginsUnder first begins) (GivesUnder gives)
  under_items-move n h = record { by = inl (chained-first first _ h (λ v. chained-ends (UnderValue begins v) _ (under-ends begins n v) (λ s. given-ends (both v s)))) }

  module _ (sv : V → V → Type 0) (sw : W → W → Type 0) (alike : S → S → Type 0) (equal : SameAreEqual sv) where
    under_step : ((s t : S) → alike s t → Agreeing (SameNext sw alike) (gives s) (gives t)) → (v w : V) (s t : S)
        → v ≡ w → alike s t
        → Agreeing (SameNext sw (AlikeUnder alike)) (GivesUnder {Cx = Cx} gives (v, s)) (GivesUnder gives (w, t))
    under_step h v w s t e l =
        carried-agrees (λ u. (v, u)) (λ u. (w, u)) _ _ sw alike (AlikeUnder alike) (λ x y i. (e, i))
        (under-agrees (gives s) (gives t) (λ x y. x ≡ y) (SameNext sw alike) (λ x y i. i) (h s t l) (Some v) (Some w) e)

    pub under_items-agree : Agreeing sv first first → ItemsAgree sw alike begins gives → ItemsAgree sw (AlikeUnder alike) (BeginsUnder first begins) (GivesUnder gives)
    under_items-agree f h =
        record {
          begin = chained-agrees first first _ _ sv (AlikeUnder alike) f
              (λ v v' e. chained-agrees (UnderValue begins v) (UnderValue begins v') _ _ alike (AlikeUnder alike)
              (under-agrees begins begins sv alike equal h.begin v v' e)
              (λ s s' l. given-agrees (AlikeUnder alike) (both v s) (both v' s') (made-alike sv alike equal v v' s s' e l)));
          step = λ s t l. under_step h.step s.0 t.0 s.1 t.1 l.0 l.1;
        }
