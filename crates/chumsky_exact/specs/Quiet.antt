-- Which parts emit no error.
-- Main word: EmitsNothing. Main laws: chained-quiet, asked-quiet, given-quiet, any-quiet, end-quiet, vetted-quiet, run-quiet, word-quiet.
use Rattle.std.proofs.Common.{◌≡◌, ℕ, Bool, true, false, Option, Some, None, List, [], ◌∷◌, ◌++◌, Result, Ok, Err, refl, sym, ◌∙◌, ap, subst, inl, inr}
use Rattle.chumsky_input.specs.Layout.{Layout}
use Rattle.chumsky_input.specs.declared.error.Error as error_trait
use Rattle.chumsky_input.specs.declared.inspector.Inspector as inspector_trait
use Rattle.chumsky_input.specs.declared.input.Input as input_trait
use Rattle.chumsky_input.specs.Outcome.{Event, Meaning, Beginning, Outcome, Verdict, Yes, No, Halt, Clash, IsAnswer}
use Rattle.chumsky_input.specs.Wanted.{Wanted}
use Rattle.chumsky_parser.specs.Chained.{Chained, Given, Asked, Follows, from}
use Rattle.chumsky_parser.specs.Failure.{Misses}
use Rattle.chumsky_primitive.specs.Any.{MeansAny, MeansAnyAt}
use Rattle.chumsky_primitive.specs.End.{MeansEnd, MeansEndAt}
use Rattle.chumsky_judge.specs.Judged.{OrClash, OrLacks, ByVerdict, NoAsOne}
use Rattle.chumsky_judge.specs.Vetted.{Vets, OnRuling, Vetting, Vetted}
use Rattle.chumsky_text.specs.TextRun.{EndsBy, RunsOn, MeansRun, AfterToken, AfterFirst, MeansWord}

-- no answer has emitted an error
abbrev pub EmitsNothing : {Tok Cx St Er V : Type 0} → Meaning Tok Cx St Er V → Type 0
EmitsNothing {Tok} {Cx} {St} {Er} {V} m = (b : Beginning Tok Cx St) (o : Outcome V Er St) → m b o → IsAnswer o.verdict → o.emitted ≡ []

-- what is made of parts that emit nothing
module _ {Tok Cx St Er V : Type 0} where
  pub given-quiet : (v : Option V) → EmitsNothing (Given {Tok = Tok} {Cx = Cx} {St = St} {Er = Er} v)
  given-quiet v b o m a = ap (λ (x : Outcome V Er St). x.emitted) m

  pub asked-quiet : (wanted : Bool) (part : Meaning Tok Cx St Er V) → EmitsNothing part → EmitsNothing (Asked wanted part)
  asked-quiet wanted part h b o m a = h (record b { wanted = wanted }) o m.run a

module _ {Tok Cx St Er V W : Type 0} (part : Meaning Tok Cx St Er V) (next : Option V → Meaning Tok Cx St Er W) where
  follows_quiet : EmitsNothing part → ((v : Option V) → EmitsNothing (next v)) → (b : Beginning Tok Cx St) (o : Outcome W Er St) (p : Outcome V Er St) (u : Verdict V Er) → p.verdict ≡ u
      → part b p → Follows u next b p o → IsAnswer o.verdict → o.emitted ≡ []
  follows_quiet hp hn b o p (Yes v) e m f a =
      let first : p.emitted ≡ [] = hp b p m (subst IsAnswer (sym e) tt) in
      let second : f.0.emitted ≡ [] = hn v (from b p) f.0 f.1 (subst IsAnswer (ap (λ (x : Outcome W Er St). x.verdict) f.2) a) in
      ap (λ (x : Outcome W Er St). x.emitted) f.2 ∙ ap (λ es. es ++ f.0.emitted) first ∙ second
  follows_quiet hp hn b o p No e m f a = ap (λ (x : Outcome W Er St). x.emitted) f ∙ hp b p m (subst IsAnswer (sym e) tt)
  follows_quiet hp hn b o p (Halt s) e m f a = absurd (subst IsAnswer (ap (λ (x : Outcome W Er St). x.verdict) f) a)
  follows_quiet hp hn b o p (Clash c) e m f a = absurd (subst IsAnswer (ap (λ (x : Outcome W Er St). x.verdict) f) a)

  pub chained-quiet : EmitsNothing part → ((v : Option V) → EmitsNothing (next v)) → EmitsNothing (Chained part next)
  chained-quiet hp hn b o m a = follows_quiet hp hn b o m.first m.first.verdict refl m.meant m.follows a

module _ {I Tok Sp Cu Er St Mk Cx : Type 0} (source : input_trait.Ghosts I Cu Tok Sp) (errors : error_trait.Ghosts Er I Tok Sp) (states : inspector_trait.Ghosts St I Mk Tok Sp) where
  end_at_quiet : (found : Option Tok) → EmitsNothing (MeansEndAt {Cx = Cx} source errors states found)
  end_at_quiet (Some t) b o (inl r) a = absurd (subst IsAnswer r.1 a)
  end_at_quiet (Some t) b o (inr (inl r)) a = absurd (subst IsAnswer r.1 a)
  end_at_quiet (Some t) b o (inr (inr f)) a = f.emitted
  end_at_quiet None b o m a = ap (λ (x : Outcome (Unit {0}) errors.Seen states.Seen). x.emitted) m

  pub end-quiet : EmitsNothing (MeansEnd {Cx = Cx} source errors states)
  end-quiet b o m a = elim m.by_token [ inl r ↦ absurd (subst IsAnswer r.1 a) | inr x ↦ end_at_quiet _ b o x a ]

module _ {V Er St : Type 0} (o : Outcome V Er St) where
  -- a failure, or a refusal of memory for its error
  misses-quiet : {safe : Type 0} {e : Event Er} {end : ℕ} {s : St} → Misses safe e end s o → IsAnswer o.verdict → o.emitted ≡ []
  misses-quiet (inl r) a = absurd (subst IsAnswer r.1 a)
  misses-quiet (inr f) a = f.emitted

  module _ (whole : Outcome V Er St) (h : whole.emitted ≡ []) where
    or_clash-quiet : OrClash whole o → o.emitted ≡ []
    or_clash-quiet (inl e) = ap (λ (x : Outcome V Er St). x.emitted) e ∙ h
    or_clash-quiet (inr c) = ap (λ (x : Outcome V Er St). x.emitted) c.2 ∙ h

    or_lacks-quiet : {safe : Type 0} → OrLacks safe whole o → IsAnswer o.verdict → o.emitted ≡ []
    or_lacks-quiet (inl r) a = absurd (subst IsAnswer r.1 a)
    or_lacks-quiet (inr c) a = or_clash-quiet c

module _ {I V Tok Sp Cu Er St Mk Cx : Type 0} (source : input_trait.Ghosts I Cu Tok Sp) (IsOf : Tok → V → Type 0)
    (safe : Tok → Type 0) (errors : error_trait.Ghosts Er I Tok Sp) (states : inspector_trait.Ghosts St I Mk Tok Sp) where
  any_at_quiet : (found : Option Tok) → EmitsNothing (MeansAnyAt {Cx = Cx} source IsOf safe errors states found)
  any_at_quiet (Some t) b o (inl r) a = absurd (subst IsAnswer r.1 a)
  any_at_quiet (Some t) b o (inr k) a = ap (λ (x : Outcome V errors.Seen states.Seen). x.emitted) k.outcome
  any_at_quiet None b o m a = misses-quiet o m a

  -- `any()`
  pub any-quiet : EmitsNothing (MeansAny {Cx = Cx} source IsOf safe errors states)
  any-quiet b o m a = any_at_quiet _ b o m.by_token a

module _ {Tok Cx St Er V W : Type 0} (merged : Er → Er → Er) (free : Type 0) (vets : Vets Tok Cx St Er V W) (part : Meaning Tok Cx St Er V) where
  ruled : (r : Result W Er) (s : St) (b : Beginning Tok Cx St) (p : Outcome V Er St) (o : Outcome W Er St) → p.emitted ≡ [] → OnRuling merged free r s b p o → IsAnswer o.verdict → o.emitted ≡ []
  ruled (Ok w) s b p o h k a = or_clash-quiet o _ h k
  ruled (Err e) s b p o h k a = or_lacks-quiet o _ h k a

  judged : EmitsNothing part → (b : Beginning Tok Cx St) (p : Outcome V Er St) (u : Verdict V Er) (o : Outcome W Er St) → p.verdict ≡ u → Asked true part b p
      → ByVerdict u (Vetting merged free vets) (NoAsOne merged) b p o → IsAnswer o.verdict → o.emitted ≡ []
  judged h b p (Yes (Some v)) o e m k a = ruled k.0 k.1 b p o (asked-quiet true part h b p m (subst IsAnswer (sym e) tt)) k.3 a
  judged h b p (Yes None) o e m k a = absurd k
  judged h b p No o e m k a = or_clash-quiet o _ (asked-quiet true part h b p m (subst IsAnswer (sym e) tt)) k
  judged h b p (Halt s) o e m k a = absurd (subst IsAnswer (ap (λ (x : Outcome W Er St). x.verdict) k) a)
  judged h b p (Clash c) o e m k a = absurd (subst IsAnswer (ap (λ (x : Outcome W Er St). x.verdict) k) a)

  -- a part whose value is judged, as `pick_by`, `filter` and `try_map`
  pub vetted-quiet : EmitsNothing part → EmitsNothing (Vetted merged free vets part)
  vetted-quiet h b o m a = judged h b m.run.first m.run.first.verdict o refl m.run.meant m.run.judges a

module _ {I Tok Sp Cu Er S W : Type 0} (source : input_trait.Ghosts I Cu Tok Sp) (errors : error_trait.Ghosts Er I Tok Sp) where
  ends_by_quiet : (what : List (Wanted Tok)) (ts : Layout Tok) (whole o : Outcome W errors.Seen S) → whole.emitted ≡ [] → EndsBy source errors what ts whole o → IsAnswer o.verdict → o.emitted ≡ []
  ends_by_quiet [] ts whole o h e a = ap (λ (x : Outcome W errors.Seen S). x.emitted) e ∙ h
  ends_by_quiet (w ∷ ws) ts whole o h k a = or_lacks-quiet o _ h k a

module _ {I Tok Sp Cu Er St Mk Cx W : Type 0} (source : input_trait.Ghosts I Cu Tok Sp) (is : Layout Tok → ℕ → ℕ → W → Type 0)
    (errors : error_trait.Ghosts Er I Tok Sp) (states : inspector_trait.Ghosts St I Mk Tok Sp) where
  runs_quiet : (place : ℕ) (test : Tok → Bool) (what : List (Wanted Tok)) → EmitsNothing (RunsOn {Cx = Cx} source is errors states place test what)
  runs_quiet place test what b o m a = ends_by_quiet source errors what b.tokens _ o refl m.outcome a

  -- a run of tokens, as `text::digits(10)`
  pub run-quiet : (test : Tok → Bool) (what : List (Wanted Tok)) → EmitsNothing (MeansRun {Cx = Cx} source is errors states test what)
  run-quiet test what b o m a = runs_quiet b.start test what b o m.run a

  module _ (begins : Tok → Bool) (goes_on : Tok → Tok → Bool) (what : List (Wanted Tok)) (rest_what : Tok → List (Wanted Tok)) where
    after_token : (passes : Bool) (t : Tok)
        → EmitsNothing (AfterToken {Cx = Cx} source is errors states begins (λ t place. RunsOn source is errors states place (goes_on t) (rest_what t)) what passes t)
    after_token true t b o m a = runs_quiet b.start (goes_on t) (rest_what t) _ o m a
    after_token false t b o m a = misses-quiet o m a

    after_first : (found : Option Tok) → EmitsNothing (AfterFirst {Cx = Cx} source is errors states begins (λ t place. RunsOn source is errors states place (goes_on t) (rest_what t)) what found)
    after_first None b o m a = misses-quiet o m a
    after_first (Some t) b o m a = after_token (begins t) t b o m a

    -- a word of tokens, as `text::int(10)`
    pub word-quiet : EmitsNothing (MeansWord {Cx = Cx} source is errors states begins goes_on what rest_what)
    word-quiet b o m a = after_first _ b o m.by_token a
