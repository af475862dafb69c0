-- What a call is that isn't made, and one that is.
use Rattle.std.proofs.Common.{◌≡◌, ◌+◌, ℕ, zero, suc, Bool, Option, Result, Err, [], refl, sym, subst, arith}
use Rattle.chumsky_input.specs.declared.stop.Stop.TheVariants.{TooDeep}
use Rattle.chumsky_input.specs.declared.stop.Fault.{Fault}
use Rattle.chumsky_input.specs.declared.stop.Fault.TheVariants as fault
use Rattle.chumsky_input.specs.Held.{Held}
use Rattle.chumsky_input.specs.Outcome.{Beginning, Outcome, Halt}
use Rattle.chumsky_input.specs.Run.{Ran}
use Rattle.chumsky_combinator.specs.Part.{Onward}
use Rattle.chumsky_descent.specs.Calls.{Said, Nothing, Means, Steady, Exact, Together, IsTooDeep, DoesCall, DoesUnder}

module _ {Tok Cx St Er spare : Type 0} where
  under_none : {V : Type 0} (said : Said Tok Cx St Er spare V) (b : Beginning Tok Cx St) (o : Outcome V Er St) → Onward IsTooDeep b o → DoesCall said zero b o
  under_none Nothing b o m = m
  under_none (Means body) b o m = m
  under_none (Steady same body keeps) b o m = m
  under_none (Exact calls bodies are intended grammar keeps) b o m = are.none b o m
  under_none (Together same bodies keep name) b o m = m

  under_more : {V : Type 0} (said : Said Tok Cx St Er spare V) (depth : ℕ) (b : Beginning Tok Cx St) (o : Outcome V Er St) → Onward (DoesUnder said depth) b o → DoesCall said (suc depth) b o
  under_more Nothing depth b o m = record { means = tt; ends = m.ends }
  under_more (Means body) depth b o m = m
  under_more (Steady same body keeps) depth b o m = m
  under_more (Exact calls bodies are intended grammar keeps) depth b o m = are.one depth b o m
  under_more (Together same bodies keep name) depth b o m = m

module _ {Tok Cx St Er spare V : Type 0} {merged : Er → Er → Er} {safe : Type 0} (said : Said Tok Cx St Er spare V) where
  -- under no depth the run stops before it begins
  pub ran-too_deep : {depth : ℕ} → depth ≡ 0 → {wanted : Bool} (h : Held Tok Cx St Er) → Ran merged safe (DoesCall said depth) wanted h h (Err (fault.Stop TooDeep))
  ran-too_deep {depth} e {wanted} h =
      subst (λ n. Ran merged safe (DoesCall said n) wanted h h (Err (fault.Stop TooDeep))) (sym e)
      (record {
        outcome = record { verdict = Halt TooDeep; end = h.place; state = h.state; events = []; emitted = [] };
        meant = under_none said _ _ (record { means = record { verdict = refl; state = refl }; ends = λ a. absurd a });
        answered = refl;
        state = refl;
        left = refl;
        same = record { tokens = refl; context = refl };
      })

  -- a call of the function under one less
  pub ran-call : (d : ℕ) {depth : ℕ} → d + 1 ≡ depth → {wanted : Bool} {old new : Held Tok Cx St Er} {result : Result (Option V) Fault}
      → Ran merged safe (Onward (DoesUnder said d)) wanted old new result → Ran merged safe (DoesCall said depth) wanted old new result
  ran-call d {depth} e {wanted} {old} {new} {result} r =
      let s : suc d ≡ depth = omega arith in
      subst (λ n. Ran merged safe (DoesCall said n) wanted old new result) s
      (record { outcome = r.outcome; meant = under_more said d _ _ r.meant; answered = r.answered; state = r.state; left = r.left; same = r.same })
