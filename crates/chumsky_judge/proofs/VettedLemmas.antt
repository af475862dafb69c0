-- What a part leaves whose value is judged.
use Rattle.std.proofs.Common.{◌≡◌, ℕ, Bool, true, Option, Some, None, ◌++◌, refl, ◌∙◌, ap, subst, Result, Ok, Err, inr}
use Rattle.chumsky_input.specs.declared.stop.Stop.{Stop}
use Rattle.chumsky_input.specs.declared.stop.Stop.TheVariants.{Memory}
use Rattle.chumsky_input.specs.declared.stop.Fault.{Fault}
use Rattle.chumsky_input.specs.declared.stop.Fault.TheVariants as fault
use Rattle.chumsky_input.specs.Held.{Held}
use Rattle.chumsky_input.specs.Outcome.{Meaning, Yes}
use Rattle.chumsky_input.specs.Run.{Ran, begin, Adds, Fails}
use Rattle.chumsky_input.specs.Aside.{ClashesWith, kept_after}
use Rattle.chumsky_parser.specs.Chained.{Asked}
use Rattle.chumsky_parser.specs.Failure.{wanting}
use Rattle.chumsky_parser.proofs.ChainedLemmas.{ran-weaker, ran-asked}
use Rattle.chumsky_judge.specs.Judged.{failing, OrLacks, Judged, NoAsOne, FailsAsOne}
use Rattle.chumsky_input.specs.Extra.{shown_from}
use Rattle.chumsky_judge.specs.TriedWith.{shown_of}
use Rattle.chumsky_judge.specs.Vetted.{Vets, Vetting, Vetted}
use Rattle.chumsky_judge.proofs.JudgeLemmas.{Went, went_yes, went_no, judge_stop, judge_as_one, judge_as_one_refused, judge_adds, judge_fails, judge_no}

module _ {Tok Cx St Er V W : Type 0} (merged : Er → Er → Er) (safe free : Type 0) (vets : Vets Tok Cx St Er V W)
    (part : Meaning Tok Cx St Er V) (w : Bool) (old mid : Held Tok Cx St Er) where
  abbrev Inside : Meaning Tok Cx St Er W
  Inside = Judged (Asked true part) (Vetting merged free vets) (NoAsOne merged)

  inside : (new : Held Tok Cx St Er) (r : Result (Option W) Fault) → Ran merged safe Inside w old new r → Ran merged safe (Vetted merged free vets part) w old new r
  inside new r h = ran-weaker merged safe _ _ w old new r (λ o k. record { run = k }) h

  module _ (v : V) (h : Ran merged safe part true (record old { kept = None }) mid (Ok (Some v))) (s : St) (here : Held Tok Cx St Er) (n : here ≡ record mid { state = s }) where
    abbrev went : Went merged safe (Asked true part) w old mid (Yes (Some v))
    went = went_yes merged safe (Asked true part) w old mid (Some v) (ran-asked h)

    says : (r : Result W Er) → vets (begin w old) mid.place mid.state v r s → vets (begin w old) went.first.end went.first.state v r s
    says r m =
        let p : mid.place ≡ went.first.end = ap (λ (z : Held Tok Cx St Er). z.place) went.left in
        let t : mid.state ≡ went.first.state = ap (λ (z : Held Tok Cx St Er). z.state) went.left in
        subst (λ (z : St). vets (begin w old) went.first.end z v r s) t (subst (λ (z : ℕ). vets (begin w old) z mid.state v r s) p m)

    refused_from : (stand : Held Tok Cx St Er) → stand ≡ record here { kept = old.kept } → stand ≡ record old { place = went.first.end; state = s; emitted = old.emitted ++ went.first.emitted }
    refused_from stand k = k ∙ ap (λ (z : Held Tok Cx St Er). record z { kept = old.kept }) (n ∙ ap (λ (z : Held Tok Cx St Er). record z { state = s }) went.left)

module _ {Tok Cx St Er V W : Type 0} {merged : Er → Er → Er} {safe free : Type 0} {vets : Vets Tok Cx St Er V W}
    {part : Meaning Tok Cx St Er V} {w : Bool} {old mid : Held Tok Cx St Er} where
  pub vetted_stops : {s : Stop} → Ran merged safe part true (record old { kept = None }) mid (Err (fault.Stop s)) → Ran merged safe (Vetted merged free vets part) w old mid (Err (fault.Stop s))
  vetted_stops h = inside merged safe free vets part w old mid mid _ (judge_stop (ran-asked h))

  pub vetted_no : {new : Held Tok Cx St Er} {f : Fault}
      → Ran merged safe part true (record old { kept = None }) mid (Err fault.Fail)
      → FailsAsOne merged safe old.kept mid new f → Ran merged safe (Vetted merged free vets part) w old new (Err f)
  vetted_no {new} {f} h k = inside merged safe free vets part w old mid new _ (judge_no (went_no merged safe (Asked true part) w old mid (ran-asked h)) new f (λ o j. j) k)

  module _ {v : V} (h : Ran merged safe part true (record old { kept = None }) mid (Ok (Some v))) (s : St) (here : Held Tok Cx St Er) (n : here ≡ record mid { state = s }) where
    pub vetted_yes : (x : W) {new : Held Tok Cx St Er} → vets (begin w old) mid.place mid.state v (Ok x) s
        → new ≡ kept_after merged old.kept here
        → Ran merged safe (Vetted merged free vets part) w old new (Ok (wanting w x))
    vetted_yes x {new} m k =
        let went = went_yes merged safe (Asked true part) w old mid (Some v) (ran-asked h) in
        inside merged safe free vets part w old mid new _
        (judge_as_one {u = Yes (wanting w x)} went s here new n tt (λ o j. (Ok x, s, says merged safe free vets part w old mid v h s here n (Ok x) m, j)) k)

    pub vetted_yes_refused : (x : W) {new : Held Tok Cx St Er} → vets (begin w old) mid.place mid.state v (Ok x) s
        → ClashesWith safe old.kept here.kept × (new ≡ record here { kept = None })
        → Ran merged safe (Vetted merged free vets part) w old new (Err (fault.Stop Memory))
    vetted_yes_refused x {new} m k =
        let went = went_yes merged safe (Asked true part) w old mid (Some v) (ran-asked h) in
        inside merged safe free vets part w old mid new _
        (judge_as_one_refused {u = Yes (wanting w x)} went s here new n (λ o j. (Ok x, s, says merged safe free vets part w old mid v h s here n (Ok x) m, j)) k)

    -- a refusal with an error that the judge gave
    pub vetted_adds : (e : Er) {stand new : Held Tok Cx St Er} {f : Fault}
        → vets (begin w old) mid.place mid.state v (Err e) s → stand ≡ record here { kept = old.kept }
        → Adds merged safe (record { place = old.place; error = e }) stand new f
        → Ran merged safe (Vetted merged free vets part) w old new (Err f)
    vetted_adds e {stand} {new} {f} m k a =
        let went = went_yes merged safe (Asked true part) w old mid (Some v) (ran-asked h) in
        inside merged safe free vets part w old mid new _
        (judge_adds went (record (failing (record { place = old.place; error = e }) went.first) { state = s })
        (record { place = old.place; error = e }) stand new f refl refl (refused_from merged safe free vets part w old mid v h s here n stand k)
        (λ o j. (Err e, s, says merged safe free vets part w old mid v h s here n (Err e) m, inr j)) a)

    -- a refusal with an error that is built
    pub vetted_fails : (e : Er) {stand new : Held Tok Cx St Er} {f : Fault} → (safe ≡ free)
        → vets (begin w old) mid.place mid.state v (Err e) s → stand ≡ record here { kept = old.kept }
        → Fails merged safe (record { place = old.place; error = e }) stand new f
        → Ran merged safe (Vetted merged free vets part) w old new (Err f)
    vetted_fails e {stand} {new} {f} u m k a =
        let went = went_yes merged safe (Asked true part) w old mid (Some v) (ran-asked h) in
        inside merged safe free vets part w old mid new _
        (judge_fails went (record (failing (record { place = old.place; error = e }) went.first) { state = s })
        (record { place = old.place; error = e }) stand new f refl refl (refused_from merged safe free vets part w old mid v h s here n stand k)
        (λ o j. (Err e, s, says merged safe free vets part w old mid v h s here n (Err e) m, subst (λ z. OrLacks z (record (failing (record { place = old.place; error = e }) went.first) { state = s }) o) u j))
        a)

module _ {Tok Cx St Er V : Type 0} {merged : Er → Er → Er} {safe : Type 0} {part : Meaning Tok Cx St Er V} (w : Bool) (old mid : Held Tok Cx St Er) where
  -- what is shown of the part that ran
  pub shown_same : {asked : Bool} {r : Result (Option V) Fault} → Ran merged safe part asked (record old { kept = None }) mid r → shown_from old.place mid ≡ shown_of (begin w old) mid.place mid.state
  shown_same h =
      let tokens : mid.tokens ≡ old.tokens = h.same.tokens in
      let context : mid.context ≡ old.context = h.same.context in
      cc (tokens, context)
