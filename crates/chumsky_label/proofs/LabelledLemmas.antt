-- What a part leaves that a label names.
use Rattle.std.proofs.Common.{◌≡◌, ℕ, ◌<◌, Bool, Option, Some, None, [], ◌∷◌, ◌++◌, refl, sym, ◌∙◌, ap, subst, arith, Result, Ok, Err, option_map, option_to_list, inl, inr}
use Rattle.std.specs.Prelude.{◌⊎◌, MatchOption, MatchResult}
use Rattle.std.proofs.lemmas.Bool.Decides.{eqb_tells}
use Rattle.chumsky_input.specs.declared.stop.Stop.{Stop}
use Rattle.chumsky_input.specs.declared.stop.Stop.TheVariants.{Memory}
use Rattle.chumsky_input.specs.declared.stop.Fault.{Fault}
use Rattle.chumsky_input.specs.declared.stop.Fault.TheVariants as fault
use Rattle.chumsky_input.specs.declared.input_ref.Located.{Located}
use Rattle.chumsky_input.specs.Held.{Held, located}
use Rattle.chumsky_input.specs.Outcome.{Event, Meaning, Outcome, Verdict, Yes, No, IsAnswer, HasEventAt}
use Rattle.chumsky_input.specs.Primary.{primary}
use Rattle.chumsky_input.specs.Run.{Ran, begin, answer}
use Rattle.chumsky_input.specs.Aside.{ClashesWith, kept_after}
use Rattle.chumsky_parser.specs.Chained.{retold}
use Rattle.chumsky_parser.proofs.ChainedLemmas.{ran-weaker}
use Rattle.chumsky_judge.specs.Judged.{ByVerdict, Judged}
use Rattle.chumsky_judge.proofs.JudgeLemmas.{Went, went_yes, went_no, judge_whole, judge_clash, judge_halts, judge_stop}
use Rattle.chumsky_input.proofs.PrimaryLemmas.{kept-nearer}
use Rattle.chumsky_label.specs.Labelling.{LabelsSeen}
use Rattle.chumsky_label.specs.Labelled.{RelabelsAt, Relabels, LabelledAs, MeansLabelled, Relabelled, KeepsLabelled, LosesLabelled}

module _ {Tok Cx St Er V : Type 0} (merged : Er → Er → Er) (safe : Type 0) (maps : Er → Er → Type 0) (free : Type 0)
    (part : Meaning Tok Cx St Er V) (w : Bool) (old mid : Held Tok Cx St Er) where
  inside : (new : Held Tok Cx St Er) (r : Result (Option V) Fault)
      → Ran merged safe
      (Judged part (λ b v p o. LabelledAs merged maps free (Yes v) b p o) (λ b p o. LabelledAs merged maps free No b p o))
      w old new r
      → Ran merged safe (MeansLabelled merged maps free part) w old new r
  inside new r h = ran-weaker merged safe _ _ w old new r (λ o k. record { run = k }) h

  module _ (u : Verdict V Er) (is : IsAnswer u) (went : Went merged safe part w old mid u)
      (judge : (o : Outcome V Er St) → LabelledAs merged maps free u (begin w old) went.first o
      → ByVerdict u (λ b v p o. LabelledAs merged maps free (Yes v) b p o)
      (λ b p o. LabelledAs merged maps free No b p o) (begin w old) went.first o) where
    kept_is : mid.kept ≡ primary merged went.first.events
    kept_is = ap (λ (z : Held Tok Cx St Er). z.kept) went.left

    keeps : (new : Held Tok Cx St Er) → KeepsLabelled merged maps old.place old.kept mid new → Ran merged safe (MeansLabelled merged maps free part) w old new (answer u)
    keeps new k =
        let whole : Outcome V Er St = record (retold u went.first) { events = option_to_list k.event } in
        inside new _ (judge_whole went whole new is (judge whole (record { says = inr (k.event, subst (λ z. Relabels maps old.place z k.event) kept_is k.relabels, inl refl) }))
        (k.left ∙ ap (λ (z : Held Tok Cx St Er). record z { kept = primary merged (option_to_list old.kept ++ option_to_list k.event) }) went.left))

    loses : (new : Held Tok Cx St Er)
        → ((free → ⊥) ⊎ ((k : Option (Event Er)) × Relabels maps old.place mid.kept k × ClashesWith safe old.kept k))
        → new ≡ record mid { kept = None }
        → Ran merged safe (MeansLabelled merged maps free part) w old new (Err (fault.Stop Memory))
    loses new (inl may) n =
        let l = n ∙ ap (λ (z : Held Tok Cx St Er). record z { kept = None }) went.left in
        inside new _ (judge_halts went new (λ o v s. judge o (record { says = inl (may, v, s ∙ ap (λ (z : Held Tok Cx St Er). z.state) l) }))
        (record { tokens = ap (λ (z : Held Tok Cx St Er). z.tokens) l; context = ap (λ (z : Held Tok Cx St Er). z.context) l }) (ap (λ (z : Held Tok Cx St Er). z.stopped) l))
    loses new (inr k) n =
        let l = n ∙ ap (λ (z : Held Tok Cx St Er). record z { kept = None }) went.left in
        let whole : Outcome V Er St = record (retold u went.first) { events = option_to_list k.0 } in
        inside new _ (judge_clash went whole k.2.0 new (ap option_to_list k.2.1) (λ o j. judge o (record { says = inr (k.0, subst (λ z. Relabels maps old.place z k.0) kept_is k.1, j) }))
        (ap (λ (z : Held Tok Cx St Er). z.state) l)
        (record { tokens = ap (λ (z : Held Tok Cx St Er). z.tokens) l; context = ap (λ (z : Held Tok Cx St Er). z.context) l })
        (ap (λ (z : Held Tok Cx St Er). z.stopped) l) k.2.2 k.2.3)

module _ {Tok Cx St Er V : Type 0} {merged : Er → Er → Er} {safe : Type 0} {maps : Er → Er → Type 0} {free : Type 0}
    {part : Meaning Tok Cx St Er V} {w : Bool} {old mid : Held Tok Cx St Er} where
  pub labelled_stops : {s : Stop} → Ran merged safe part w (record old { kept = None }) mid (Err (fault.Stop s)) → Ran merged safe (MeansLabelled merged maps free part) w old mid (Err (fault.Stop s))
  labelled_stops h = inside merged safe maps free part w old mid mid _ (judge_stop h)

  pub labelled_yes : {v : Option V} {new : Held Tok Cx St Er}
      → Ran merged safe part w (record old { kept = None }) mid (Ok v)
      → KeepsLabelled merged maps old.place old.kept mid new
      → Ran merged safe (MeansLabelled merged maps free part) w old new (Ok v)
  labelled_yes {v} {new} h k = keeps merged safe maps free part w old mid (Yes v) tt (went_yes merged safe part w old mid v h) (λ o j. j) new k

  pub labelled_yes_lost : {v : Option V} {new : Held Tok Cx St Er}
      → Ran merged safe part w (record old { kept = None }) mid (Ok v)
      → LosesLabelled safe maps free old.place old.kept mid new
      → Ran merged safe (MeansLabelled merged maps free part) w old new (Err (fault.Stop Memory))
  labelled_yes_lost {v} {new} h k = loses merged safe maps free part w old mid (Yes v) tt (went_yes merged safe part w old mid v h) (λ o j. j) new k.0 k.1

  pub labelled_no : {new : Held Tok Cx St Er}
      → Ran merged safe part w (record old { kept = None }) mid (Err fault.Fail)
      → KeepsLabelled merged maps old.place old.kept mid new
      → Ran merged safe (MeansLabelled merged maps free part) w old new (Err fault.Fail)
  labelled_no {new} h k = keeps merged safe maps free part w old mid No tt (went_no merged safe part w old mid h) (λ o j. j) new k

  pub labelled_no_lost : {new : Held Tok Cx St Er}
      → Ran merged safe part w (record old { kept = None }) mid (Err fault.Fail)
      → LosesLabelled safe maps free old.place old.kept mid new
      → Ran merged safe (MeansLabelled merged maps free part) w old new (Err (fault.Stop Memory))
  labelled_no_lost {new} h k = loses merged safe maps free part w old mid No tt (went_no merged safe part w old mid h) (λ o j. j) new k.0 k.1

module _ {Tok Cx St Er A B : Type 0} (merged : Er → Er → Er) (safe : Type 0) (maps : Er → Er → Type 0) (free : Type 0) (start : ℕ) (older : Option (Event Er)) (old mid new : Held Tok Cx St Er) where
  -- the event that is kept was labelled, and the older one is put before it
  pub keeps_older : (r : Result A B) → Relabelled maps start old mid
      → MatchResult r (λ _. new ≡ kept_after merged older mid) (λ _. ClashesWith safe older mid.kept × (new ≡ record mid { kept = None }))
      → MatchResult r (λ _. KeepsLabelled merged maps start older old new) (λ _. LosesLabelled safe maps free start older old new)
  keeps_older (Ok u) h k = record { event = h.event; relabels = h.relabels; left = k ∙ ap (λ (z : Held Tok Cx St Er). kept_after merged older z) h.left }
  keeps_older (Err e) h k = (
    inr (h.event, h.relabels, subst (ClashesWith safe older) (ap (λ (z : Held Tok Cx St Er). z.kept) h.left) k.0),
    k.1 ∙ ap (λ (z : Held Tok Cx St Er). record z { kept = None }) h.left,
  )

module _ {E Er : Type 0} (merged : Er → Er → Er) (safe : Type 0) (seen labelled : E → Er) (start : ℕ) where
  -- an event that is hidden behind an older one may as well have been labelled
  record Hidden (older kept : Option (Event Er)) : Type 0 where
    event : Option (Event Er)
    relabels : Relabels (LabelsSeen seen labelled) start kept event
    same : primary merged (option_to_list older ++ option_to_list kept) ≡ primary merged (option_to_list older ++ option_to_list event)
    clashes : ClashesWith safe older kept → ClashesWith safe older event

  hidden_some : (o x : Located E) → start < o.place → Hidden (Some (located seen o)) (Some (located seen x))
  hidden_some o x h =
      elim (eqb_tells x.place start) [
        | inl t ↦
            record {
              event = Some (record { place = x.place; error = labelled x.error });
              relabels =
                  subst
                  (λ at. RelabelsAt (LabelsSeen seen labelled) at (located seen x)
                  (Some (record { place = x.place; error = labelled x.error })))
                  (sym t.0) (labelled x.error, record { error = x.error; counts = refl; says = refl }, refl);
              same =
                  sym (kept-nearer merged (Some (located seen o)) (located seen o) (located seen x) refl (omega (arith, h, t.1)))
                  ∙ kept-nearer merged (Some (located seen o)) (located seen o) (record { place = x.place; error = labelled x.error }) refl (omega (arith, h, t.1));
              clashes = λ c.
                  let e : located seen x ≡ c.0 = cc in (
                    record { place = x.place; error = labelled x.error },
                    refl,
                    c.2,
                    subst (λ (z : Event Er). HasEventAt z.place (located seen o ∷ [])) (sym e) c.3,
                  );
            }
        | inr f ↦
            record {
              event = Some (located seen x);
              relabels = subst (λ at. RelabelsAt (LabelsSeen seen labelled) at (located seen x) (Some (located seen x))) (sym f.0) refl;
              same = refl;
              clashes = λ c. c;
            }
      ]

  hidden : (older kept : Option (Located E)) → MatchOption older ⊥ (λ o. start < o.place) → Hidden (option_map (located seen) older) (option_map (located seen) kept)
  hidden None kept h = absurd h
  hidden (Some o) None h = record { event = None; relabels = refl; same = refl; clashes = λ c. c }
  hidden (Some o) (Some x) h = hidden_some o x h

  pub keeps_hidden : {Tok Cx St A B : Type 0} (free : Type 0) (old new : Held Tok Cx St Er) (r : Result A B)
      (older kept : Option (Located E))
      → MatchOption older ⊥ (λ o. start < o.place) → old.kept ≡ option_map (located seen) kept
      → MatchResult r (λ _. new ≡ kept_after merged (option_map (located seen) older) old) (λ _. ClashesWith safe (option_map (located seen) older) old.kept × (new ≡ record old { kept = None }))
      → MatchResult r
      (λ _. KeepsLabelled merged (LabelsSeen seen labelled) start (option_map (located seen) older) old new)
      (λ _. LosesLabelled safe (LabelsSeen seen labelled) free start (option_map (located seen) older) old new)
  keeps_hidden free old new (Ok u) older kept h is k =
      let d = hidden older kept h in
      record {
        event = d.event;
        relabels = subst (λ e. Relabels (LabelsSeen seen labelled) start e d.event) (sym is) d.relabels;
        left = k ∙ ap (λ e. record old { kept = primary merged (option_to_list (option_map (located seen) older) ++ option_to_list e) }) is ∙ ap (λ e. record old { kept = e }) d.same;
      }
  keeps_hidden free old new (Err e) older kept h is k =
      let d = hidden older kept h in (
        inr (d.event, subst (λ e. Relabels (LabelsSeen seen labelled) start e d.event) (sym is) d.relabels, d.clashes (subst (ClashesWith safe (option_map (located seen) older)) is k.0)),
        k.1,
      )
