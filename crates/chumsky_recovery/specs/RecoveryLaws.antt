-- What a parser with a strategy answers follows from what it means.
use Rattle.std.proofs.Common.{◌≡◌, Option, List, [], ◌∷◌, ◌++◌, refl, sym, ◌∙◌, ap, subst, inl, inr, option_to_list}
use Rattle.std.specs.Prelude.{◌⊎◌}
use Rattle.chumsky_input.specs.Outcome.{Meaning, Beginning, Outcome, Verdict, Yes, No, Halt, Clash, Alike, Agree, Agreeing, IsAnswer, SameAnswer}
use Rattle.chumsky_input.specs.Primary.{primary}
use Rattle.chumsky_parser.specs.Chained.{retold}
use Rattle.chumsky_judge.specs.Judged.{as_one, ByVerdict, NoAsOne}
use Rattle.chumsky_judge.specs.JudgedLaws.{or_clash-whole}
use Rattle.chumsky_judge.specs.MapErr.{YesAsOne}
use Rattle.chumsky_recovery.specs.Recovered.{Final, error_of, Helped, ElseHelp, MeansRecovered}
use Rattle.chumsky_recovery.specs.Recovery.{Unneeded, Needed, InVain, AnswersOf, QuietIsPart, FailsAsPart, DoesAsPart}

some_last : {X : Type 0} (xs : List X) (x : X) → xs ++ x ∷ [] ≡ [] → ⊥
some_last [] x e = cc
some_last (y ∷ ys) x e = cc

module _ {Tok Cx St Mk Er V : Type 0} (merged : Er → Er → Er) (final : Final Tok Er) (mark : St → Mk) (back : St → Mk → St) (safe : Type 0) (part help : Meaning Tok Cx St Er V) where
  -- an answer of the whole is one of what runs with nothing kept, with its events counted as one
  one_answer : (b : Beginning Tok Cx St) (f o : Outcome V Er St) (v : Verdict V Er) → f.verdict ≡ v → ByVerdict v (YesAsOne merged) (NoAsOne merged) b f o → IsAnswer o.verdict → o ≡ as_one merged f
  one_answer b f o (Yes v) e j a = or_clash-whole j a ∙ ap (λ u. retold u (as_one merged f)) (sym e)
  one_answer b f o No e j a = or_clash-whole j a ∙ ap (λ u. retold u (as_one merged f)) (sym e)
  one_answer b f o (Halt s) e j a = absurd (subst IsAnswer (ap (λ (x : Outcome V Er St). x.verdict) j) a)
  one_answer b f o (Clash s) e j a = absurd (subst IsAnswer (ap (λ (x : Outcome V Er St). x.verdict) j) a)

  helped : (b : Beginning Tok Cx St) (p q f o : Outcome V Er St) → part b p → p.verdict ≡ No → help (record b { state = back p.state (mark b.state) }) q → o ≡ as_one merged f → IsAnswer f.verdict
      → (v : Verdict V Er) → q.verdict ≡ v → Helped merged final back safe (mark b.state) v b p q f
      → Unneeded merged final mark back part help b o ⊎ Needed merged final mark back part help b o
      ⊎ InVain merged final mark back part help b o
  helped b p q f o m n k is a (Yes v) e (inl r) = absurd (subst IsAnswer r.1 a)
  helped b p q f o m n k is a (Yes v) e (inr t) = inr (inl (record { value = v; failure = p; meant = m; fails = n; did = q; helps = k; succeeds = e; is = is ∙ ap (as_one merged) t }))
  helped b p q f o m n k is a No e (inl r) = absurd (subst IsAnswer r.1 a)
  helped b p q f o m n k is a No e (inr t) =
      let whole = is ∙ ap (as_one merged) t in
      inr (inr (record {
        failure = p;
        meant = m;
        fails = n;
        verdict = ap (λ (x : Outcome V Er St). x.verdict) whole;
        end = ap (λ (x : Outcome V Er St). x.end) whole;
        events = ap (λ (x : Outcome V Er St). x.events) whole;
        emitted = ap (λ (x : Outcome V Er St). x.emitted) whole;
      }))
  helped b p q f o m n k is a (Halt s) e t = absurd (subst IsAnswer (ap (λ (x : Outcome V Er St). x.verdict) t ∙ e) a)
  helped b p q f o m n k is a (Clash s) e t = absurd (subst IsAnswer (ap (λ (x : Outcome V Er St). x.verdict) t ∙ e) a)

  attempted : (b : Beginning Tok Cx St) (p f o : Outcome V Er St) → part b p → o ≡ as_one merged f
      → IsAnswer f.verdict → (v : Verdict V Er) → p.verdict ≡ v
      → ElseHelp merged final back safe (mark b.state) v help b p f
      → Unneeded merged final mark back part help b o ⊎ Needed merged final mark back part help b o ⊎ InVain merged final mark back part help b o
  attempted b p f o m is a (Yes v) e t = inl (record { value = v; did = p; meant = m; succeeds = e; is = is ∙ ap (as_one merged) t })
  attempted b p f o m is a No e (inl r) = absurd (subst IsAnswer r.1 a)
  attempted b p f o m is a No e (inr k) = helped b p k.0 f o m e k.1 is a k.0.verdict refl k.2
  attempted b p f o m is a (Halt s) e t = absurd (subst IsAnswer (ap (λ (x : Outcome V Er St). x.verdict) t ∙ e) a)
  attempted b p f o m is a (Clash s) e t = absurd (subst IsAnswer (ap (λ (x : Outcome V Er St). x.verdict) t ∙ e) a)

  -- each answer is a success of the part, or of the help after a failure that is told, or a failure of both
  pub recovered-answers : AnswersOf merged final mark back part help (MeansRecovered merged final mark back safe part help)
  recovered-answers b o m a =
      let is = one_answer b m.run.first o m.run.first.verdict refl m.run.judges a in
      let answered : IsAnswer m.run.first.verdict = subst IsAnswer (ap (λ (x : Outcome V Er St). x.verdict) is) a in
      elim m.run.meant.cases [
        | inl r ↦ absurd (subst IsAnswer r.1 answered)
        | inr t ↦ attempted b t.attempt m.run.first o t.meant is answered t.attempt.verdict refl t.then_help
      ]

  pub recovered-quiet : QuietIsPart part (MeansRecovered merged final mark back safe part help)
  recovered-quiet b o v m e none =
      elim (recovered-answers b o m (rw e tt)) [
        | inl u ↦ (
            let is = u.is in
            let verdict : o.verdict ≡ u.did.verdict = ap (λ (x : Outcome V Er St). x.verdict) is in
            (u.did, u.meant, sym verdict ∙ e, sym (ap (λ (x : Outcome V Er St). x.end) is), sym (ap (λ (x : Outcome V Er St). x.state) is), sym (ap (λ (x : Outcome V Er St). x.emitted) is) ∙ none)
            )
        | inr (inl n) ↦ absurd (some_last n.did.emitted (error_of merged final b n.failure) (sym (ap (λ (x : Outcome V Er St). x.emitted) n.is) ∙ none))
        | inr (inr w) ↦ (let other = w.verdict in let no : ⊥ = cc in absurd no)
      ]

  pub recovered-fails : FailsAsPart merged part (MeansRecovered merged final mark back safe part help)
  recovered-fails b o m e =
      elim (recovered-answers b o m (rw e tt)) [
        | inl u ↦ (let verdict : o.verdict ≡ u.did.verdict = ap (λ (x : Outcome V Er St). x.verdict) u.is in let succeeds = u.succeeds in let no : ⊥ = cc in absurd no)
        | inr (inl n) ↦ (let verdict : o.verdict ≡ n.did.verdict = ap (λ (x : Outcome V Er St). x.verdict) n.is in let succeeds = n.succeeds in let no : ⊥ = cc in absurd no)
        | inr (inr w) ↦ (w.failure, w.meant, w.fails, w.events, w.emitted)
      ]

  module _ (same : V → V → Type 0) (h : Agreeing same part part) where
    alike_itself : (b : Beginning Tok Cx St) → Alike b b
    alike_itself b = record { tokens = refl; start = refl; context = refl; state = refl }

    not_failed : (b : Beginning Tok Cx St) (p q : Outcome V Er St) (v : Option V) → part b p → p.verdict ≡ Yes v → part b q → q.verdict ≡ No → ⊥
    not_failed b p q v m e n d = let no : SameAnswer same p.verdict q.verdict = (h b b p q (alike_itself b) m n (rw e tt) (rw d tt)).answer in rw (e, d) at no

    pub recovered-as_part : DoesAsPart merged part (MeansRecovered merged final mark back safe part help) same
    recovered-as_part b p o v m e k a =
        elim (recovered-answers b o k a) [
          | inl u ↦ (
              let g : Agree same p u.did = h b b p u.did (alike_itself b) m u.meant (rw e tt) (rw u.succeeds tt) in
              let told : Agree same (as_one merged p) (as_one merged u.did) =
              record {
                answer = g.answer;
                end = g.end;
                state = g.state;
                events = ap (λ es. option_to_list (primary merged es)) g.events;
                emitted = g.emitted;
              }
              in
              rw u.is told
              )
          | inr (inl n) ↦ absurd (not_failed b p n.failure v m e n.meant n.fails)
          | inr (inr w) ↦ absurd (not_failed b p w.failure v m e w.meant w.fails)
        ]
