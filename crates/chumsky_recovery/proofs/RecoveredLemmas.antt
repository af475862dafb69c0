-- What a part leaves in whose place something else was run where it failed.
use Rattle.std.proofs.Common.{◌≡◌, ℕ, Bool, Option, Some, None, [], ◌∷◌, ◌++◌, refl, sym, ◌∙◌, ap, subst, Result, Ok, Err, append_assoc, option_to_list, inl, inr}
use Rattle.std.specs.Prelude.{MatchResult}
use Rattle.std.proofs.lemmas.List.{append-nil}
use Rattle.std.proofs.Math.Seq.{take-append_seam}
use Rattle.chumsky_input.specs.declared.stop.Stop.{Stop}
use Rattle.chumsky_input.specs.declared.stop.Stop.TheVariants.{Memory}
use Rattle.chumsky_input.specs.declared.stop.Fault.{Fault}
use Rattle.chumsky_input.specs.declared.stop.Fault.TheVariants as fault
use Rattle.chumsky_input.specs.Layout.{Layout}
use Rattle.chumsky_input.specs.Held.{Held, Marks}
use Rattle.chumsky_input.specs.Outcome.{Event, Meaning, Outcome, Verdict, Yes, No, Halt, Clash, IsAnswer}
use Rattle.chumsky_input.specs.Primary.{primary}
use Rattle.chumsky_input.specs.Run.{Ran, SameRun, LeavesBy, begin, answer, gone_back, marked_here, with_emitted, with_value, without_value}
use Rattle.chumsky_parser.proofs.ChainedLemmas.{ran-weaker, rebased}
use Rattle.chumsky_parser.proofs.FailureLemmas.{ran-halts}
use Rattle.chumsky_judge.specs.Judged.{Judged, NoAsOne}
use Rattle.chumsky_judge.specs.MapErr.{YesAsOne}
use Rattle.chumsky_judge.proofs.JudgeLemmas.{Went, went_yes, went_no, judge_stop, judge_as_one, judge_as_one_refused, as_left}
use Rattle.chumsky_recovery.specs.Recovered.{Final, error_of, Helped, ElseHelp, MarkedOrHelp, MeansRecovered}
use Rattle.chumsky_recovery.specs.Recovering.{TellsError, OneAnswer}

-- an answer whose value, if it has one, counts so
abbrev pub counted : {A V : Type 0} → (A → Option V) → Result A Fault → Result (Option V) Fault
counted value (Ok x) = Ok (value x)
counted value (Err f) = Err f

pub by_value : {V : Type 0} (x : Result V Fault) → counted Some x ≡ with_value x
by_value (Ok v) = refl
by_value (Err f) = refl

pub by_none : {V : Type 0} (x : Result (Unit {0}) Fault) → counted (λ _. None) x ≡ without_value {V = V} x
by_none (Ok v) = refl
by_none (Err f) = refl

module _ {Tok Cx St Mk Er V : Type 0} (merged : Er → Er → Er) (safe : Type 0) (final : Final Tok Er) (mark : St → Mk)
    (back : St → Mk → St) (quiet : Type 0) (part help : Meaning Tok Cx St Er V) (w : Bool)
    (old : Held Tok Cx St Er) where
  abbrev Inner : Meaning Tok Cx St Er V
  Inner = MarkedOrHelp merged final mark back quiet part help

  stands : (v : Verdict V Er) (o : Outcome V Er St) (r : Result (Option V) Fault) → r ≡ answer v → (r ≡ Err fault.Fail → ⊥) → ElseHelp merged final back quiet (mark old.state) v help (begin w old) o o
  stands (Yes v) o r a n = refl
  stands No o r a n = absurd (n a)
  stands (Halt s) o r a n = refl
  stands (Clash e) o r a n = refl

  -- the part's answer stands unless it is a no
  pub help_not_asked : (new : Held Tok Cx St Er) (r : Result (Option V) Fault) → Ran merged safe part w old new r → (r ≡ Err fault.Fail → ⊥) → Ran merged safe Inner w old new r
  help_not_asked new r h n =
      record {
        outcome = h.outcome;
        meant = record { cases = inr (record { attempt = h.outcome; meant = h.meant; then_help = stands h.outcome.verdict h.outcome r h.answered n }) };
        answered = h.answered;
        state = h.state;
        left = h.left;
        same = h.same;
      }

  -- out of memory at the mark
  pub help_not_marked : (new : Held Tok Cx St Er) → new ≡ old → (quiet → ⊥) → Ran merged safe Inner w old new (Err (fault.Stop Memory))
  help_not_marked new e may = rw e (ran-halts merged safe Inner w old old (record { tokens = refl; context = refl }) refl (λ o v s. record { cases = inl (may, v, s) }))

  module _ (none : old.kept ≡ None) where
    leaves : (v : Verdict V Er) (o : Outcome V Er St) (new : Held Tok Cx St Er) → IsAnswer v
        → new ≡ record old { place = o.end; state = o.state; kept = primary merged o.events; emitted = old.emitted ++ o.emitted }
        → LeavesBy merged safe v o old new
    leaves (Yes v) o new a n =
        record {
          end = ap (λ (z : Held Tok Cx St Er). z.place) n;
          kept = ap (λ (z : Held Tok Cx St Er). z.kept) n ∙ ap (λ k. primary merged (option_to_list k ++ o.events)) (sym none);
          emitted = ap (λ (z : Held Tok Cx St Er). z.emitted) n;
          stopped = ap (λ (z : Held Tok Cx St Er). z.stopped) n;
        }
    leaves No o new a n =
        record {
          end = ap (λ (z : Held Tok Cx St Er). z.place) n;
          kept = ap (λ (z : Held Tok Cx St Er). z.kept) n ∙ ap (λ k. primary merged (option_to_list k ++ o.events)) (sym none);
          emitted = ap (λ (z : Held Tok Cx St Er). z.emitted) n;
          stopped = ap (λ (z : Held Tok Cx St Er). z.stopped) n;
        }
    leaves (Halt s) o new a n = absurd a
    leaves (Clash e) o new a n = absurd a

    -- an answer of the whole, by what is left
    whole : (v : Verdict V Er) (o : Outcome V Er St) (new : Held Tok Cx St Er) → o.verdict ≡ v → IsAnswer v → Inner (begin w old) o
        → new ≡ record old { place = o.end; state = o.state; kept = primary merged o.events; emitted = old.emitted ++ o.emitted } → Ran merged safe Inner w old new (answer v)
    whole v o new e a m n =
        record {
          outcome = o;
          meant = m;
          answered = ap answer (sym e);
          state = ap (λ (z : Held Tok Cx St Er). z.state) n;
          left = subst (λ u. LeavesBy merged safe u o old new) (sym e) (leaves v o new a n);
          same = record { tokens = ap (λ (z : Held Tok Cx St Er). z.tokens) n; context = ap (λ (z : Held Tok Cx St Er). z.context) n };
        }

    module _ (mid : Held Tok Cx St Er) (h : Ran merged safe part w old mid (Err fault.Fail)) where
      pub went : Went merged safe part w old mid No
      went = went_no merged safe part w old mid (subst (λ k. Ran merged safe part w (record old { kept = k }) mid (Err fault.Fail)) none h)

      after_no : (o : Outcome V Er St) → ElseHelp merged final back quiet (mark old.state) No help (begin w old) went.first o → Inner (begin w old) o
      after_no o k =
          record {
            cases = inr
                (record { attempt = went.first; meant = went.meant; then_help = subst (λ v. ElseHelp merged final back quiet (mark old.state) v help (begin w old) went.first o) (sym went.verdict) k });
          }

      -- out of memory going back from the part
      pub help_not_reached : (new : Held Tok Cx St Er) → new ≡ record mid { kept = None } → (quiet → ⊥) → Ran merged safe Inner w old new (Err (fault.Stop Memory))
      help_not_reached new e may =
          let left : new
          ≡ record old { place = went.first.end; state = went.first.state; kept = None; emitted = old.emitted ++ went.first.emitted } =
          e ∙ ap (λ (z : Held Tok Cx St Er). record z { kept = None }) went.left in
          ran-halts merged safe Inner w old new
          (record { tokens = ap (λ (z : Held Tok Cx St Er). z.tokens) left; context = ap (λ (z : Held Tok Cx St Er). z.context) left })
          (ap (λ (z : Held Tok Cx St Er). z.stopped) left)
          (λ o v s. after_no o (inl (may, v, s ∙ ap (λ (z : Held Tok Cx St Er). z.state) left)))

      -- where the help begins, but for what is kept
      abbrev start : Held Tok Cx St Er
      start = record old { state = back went.first.state (mark old.state) }

      module _ (m : Marks Tok Mk) (bk : Held Tok Cx St Er) (q : m ≡ marked_here mark old) (n : bk ≡ gone_back back (record mid { kept = None }) m) where
        begun : bk ≡ record start { kept = None }
        begun =
            n ∙ ap (gone_back back (record mid { kept = None })) q ∙ ap (λ (z : Held Tok Cx St Er). gone_back back (record z { kept = None }) (marked_here mark old)) went.left
            ∙ ap (λ es. record start { kept = None; emitted = es }) (take-append_seam old.emitted went.first.emitted)

        module _ (far : Held Tok Cx St Er) where
          there : (r : Result (Option V) Fault) → Ran merged safe help w bk far r → Ran merged safe help w (record start { kept = None }) far r
          there r k = subst (λ (z : Held Tok Cx St Er). Ran merged safe help w z far r) begun k

          rescued : (v : Verdict V Er) (g : Went merged safe help w start far v) (o : Outcome V Er St)
              → Helped merged final back quiet (mark old.state) v (begin w old) went.first g.first o
              → Inner (begin w old) o
          rescued v g o k = after_no o (inr (g.first, g.meant, subst (λ u. Helped merged final back quiet (mark old.state) u (begin w old) went.first g.first o) (sym g.verdict) k))

          -- the help succeeded, and the error is emitted
          pub help_yes : (v : Option V) (error : Er) (new : Held Tok Cx St Er) → Ran merged safe help w bk far (Ok v)
              → error ≡ final mid.kept mid.tokens mid.place → new ≡ with_emitted far error
              → Ran merged safe Inner w old new (Ok v)
          help_yes v error new k e i =
              let g = went_yes merged safe help w start far v (there (Ok v) k) in
              let told : error ≡ error_of merged final (begin w old) went.first = e ∙ ap (λ (z : Held Tok Cx St Er). final z.kept z.tokens z.place) went.left in
              let o : Outcome V Er St = record g.first { emitted = g.first.emitted ++ error_of merged final (begin w old) went.first ∷ [] } in
              whole (Yes v) o new g.verdict tt (rescued (Yes v) g o (inr refl))
              (i ∙ ap (with_emitted far) told ∙ ap (λ (z : Held Tok Cx St Er). with_emitted z (error_of merged final (begin w old) went.first)) g.left
              ∙ ap (λ es. record old { place = g.first.end; state = g.first.state; kept = primary merged g.first.events; emitted = es })
              (append_assoc old.emitted g.first.emitted (error_of merged final (begin w old) went.first ∷ [])))

          -- a refusal after an answer of the help
          refused : (v : Verdict V Er) (g : Went merged safe help w start far v) (new : Held Tok Cx St Er) → new ≡ far
              →
              ((o : Outcome V Er St) → o.verdict ≡ Halt Memory → o.state ≡ g.first.state
              → Helped merged final back quiet (mark old.state) v (begin w old) went.first g.first o)
              → Ran merged safe Inner w old new (Err (fault.Stop Memory))
          refused v g new e k =
              let left = e ∙ g.left in
              ran-halts merged safe Inner w old new
              (record { tokens = ap (λ (z : Held Tok Cx St Er). z.tokens) left; context = ap (λ (z : Held Tok Cx St Er). z.context) left })
              (ap (λ (z : Held Tok Cx St Er). z.stopped) left)
              (λ o i s. rescued v g o (k o i (s ∙ ap (λ (z : Held Tok Cx St Er). z.state) left)))

          -- there was no memory to emit it
          pub help_untold : (v : Option V) (new : Held Tok Cx St Er) → Ran merged safe help w bk far (Ok v) → new ≡ far → Ran merged safe Inner w old new (Err (fault.Stop Memory))
          help_untold v new k e = refused (Yes v) (went_yes merged safe help w start far v (there (Ok v) k)) new e (λ o i s. inl (tt, i, s))

          -- the help failed too
          pub help_no : (new : Held Tok Cx St Er) → Ran merged safe help w bk far (Err fault.Fail)
              → new ≡ record (gone_back back far m) { kept = mid.kept }
              → Ran merged safe Inner w old new (Err fault.Fail)
          help_no new k e =
              let g = went_no merged safe help w start far (there (Err fault.Fail) k) in
              let o : Outcome V Er St = record { verdict = No; end = old.place; state = back g.first.state (mark old.state); events = went.first.events; emitted = [] } in
              whole No o new refl tt (rescued No g o (inr refl))
              (e ∙ ap (λ z. record (gone_back back far m) { kept = z }) (ap (λ (z : Held Tok Cx St Er). z.kept) went.left)
              ∙ ap (λ (z : Marks Tok Mk). record (gone_back back far z) { kept = primary merged went.first.events }) q
              ∙ ap (λ (z : Held Tok Cx St Er). record (gone_back back z (marked_here mark old)) { kept = primary merged went.first.events }) g.left
              ∙ ap (λ es. record old { state = back g.first.state (mark old.state); kept = primary merged went.first.events; emitted = es })
              (take-append_seam old.emitted g.first.emitted ∙ sym (append-nil old.emitted)))

          -- out of memory going back from the help
          pub help_not_restored : (new : Held Tok Cx St Er) → Ran merged safe help w bk far (Err fault.Fail) → new ≡ far → (quiet → ⊥) → Ran merged safe Inner w old new (Err (fault.Stop Memory))
          help_not_restored new k e may = refused No (went_no merged safe help w start far (there (Err fault.Fail) k)) new e (λ o i s. inl (may, i, s))

          stops : (v : Verdict V Er) (o : Outcome V Er St) (s : Stop) → o.verdict ≡ v → help (begin w start) o
              → Err (fault.Stop s) ≡ answer v → far.state ≡ o.state
              → LeavesBy merged safe v o (record start { kept = None }) far
              → SameRun (record start { kept = None }) far
              → Ran merged safe Inner w old far (Err (fault.Stop s))
          stops (Yes x) o s e k a t l same = let no : ⊥ = cc in absurd no
          stops No o s e k a t l same = let no : ⊥ = cc in absurd no
          stops (Halt z) o s e k a t l same =
              record {
                outcome = o;
                meant = after_no o (inr (o, k, subst (λ u. Helped merged final back quiet (mark old.state) u (begin w old) went.first o o) (sym e) refl));
                answered = a ∙ ap answer (sym e);
                state = t;
                left = subst (λ u. LeavesBy merged safe u o old far) (sym e) (rebased merged safe (Halt z) o old (record start { kept = None }) far (sym none) refl refl l);
                same = record { tokens = same.tokens; context = same.context };
              }
          stops (Clash z) o s e k a t l same =
              record {
                outcome = o;
                meant = after_no o (inr (o, k, subst (λ u. Helped merged final back quiet (mark old.state) u (begin w old) went.first o o) (sym e) refl));
                answered = a ∙ ap answer (sym e);
                state = t;
                left = subst (λ u. LeavesBy merged safe u o old far) (sym e) (rebased merged safe (Clash z) o old (record start { kept = None }) far (sym none) refl refl l);
                same = record { tokens = same.tokens; context = same.context };
              }

          -- a stop of the help
          pub help_stops : (s : Stop) → Ran merged safe help w bk far (Err (fault.Stop s)) → Ran merged safe Inner w old far (Err (fault.Stop s))
          help_stops s k = let r = there (Err (fault.Stop s)) k in stops r.outcome.verdict r.outcome s refl r.meant r.answered r.state r.left r.same

          -- what is made of the answer of the help
          pub help_answers : {A : Type 0} (value : A → Option V) (error : Er) (new : Held Tok Cx St Er) (a r : Result A Fault)
              → error ≡ final mid.kept mid.tokens mid.place → Ran merged safe help w bk far (counted value a)
              → TellsError back quiet m error mid.kept far new a r
              → Ran merged safe Inner w old new (counted value r)
          help_answers value error new (Ok x) r e k (inl t) = rw t.0 (help_yes (value x) error new k e t.1)
          help_answers value error new (Ok x) r e k (inr t) = rw t.0 (help_untold (value x) new k t.1)
          help_answers value error new (Err fault.Fail) r e k (inl t) = rw t.0 (help_no new k t.1)
          help_answers value error new (Err fault.Fail) r e k (inr t) = rw t.0 (help_not_restored new k t.2 t.1)
          help_answers value error new (Err (fault.Stop s)) r e k t = rw (t.0, t.1) (help_stops s k)

  whole_run : (new : Held Tok Cx St Er) (r : Result (Option V) Fault)
      → Ran merged safe (Judged Inner (YesAsOne merged) (NoAsOne merged)) w old new r
      → Ran merged safe (MeansRecovered merged final mark back quiet part help) w old new r
  whole_run new r h = ran-weaker merged safe _ _ w old new r (λ o k. record { run = k }) h

  -- failures of what was run with nothing kept count as one, after what was kept before
  pub recovered_answers : {A : Type 0} (value : A → Option V) (mid new : Held Tok Cx St Er) (a r : Result A Fault)
      → Ran merged safe Inner w (record old { kept = None }) mid (counted value a)
      → OneAnswer merged safe old.kept mid new a r
      → Ran merged safe (MeansRecovered merged final mark back quiet part help) w old new (counted value r)
  recovered_answers value mid new (Ok x) r h (inl t) =
      let g = went_yes merged safe Inner w old mid (value x) h in
      rw t.0 (whole_run new _ (judge_as_one {u = Yes (value x)} g g.first.state mid new (as_left g) tt (λ o j. j) t.1))
  recovered_answers value mid new (Ok x) r h (inr t) =
      let g = went_yes merged safe Inner w old mid (value x) h in
      rw t.0 (whole_run new _ (judge_as_one_refused {u = Yes (value x)} g g.first.state mid new (as_left g) (λ o j. j) (t.1, t.2)))
  recovered_answers value mid new (Err fault.Fail) r h (inl t) =
      let g = went_no merged safe Inner w old mid h in
      rw t.0 (whole_run new _ (judge_as_one {u = No} g g.first.state mid new (as_left g) tt (λ o j. j) t.1))
  recovered_answers value mid new (Err fault.Fail) r h (inr t) =
      let g = went_no merged safe Inner w old mid h in
      rw t.0 (whole_run new _ (judge_as_one_refused {u = No} g g.first.state mid new (as_left g) (λ o j. j) (t.1, t.2)))
  recovered_answers value mid new (Err (fault.Stop s)) r h t = rw (t.0, t.1) (whole_run mid _ (judge_stop h))

module _ {Tok Cx St Er A B : Type 0} where
  -- an error that counts as another was emitted
  pub emits_as : (r : Result A B) (old new : Held Tok Cx St Er) (e other : Er) → e ≡ other
      → MatchResult r (λ _. new ≡ with_emitted old e) (λ _. new ≡ old)
      → MatchResult r (λ _. new ≡ with_emitted old other) (λ _. new ≡ old)
  emits_as r old new e other is h = subst (λ z. MatchResult r (λ _. new ≡ with_emitted old z) (λ _. new ≡ old)) is h

-- the same with what was found of the calls, as proofs of combinators cite them
module _ {Tok Cx St Mk Er V : Type 0} {merged : Er → Er → Er} {safe : Type 0} {final : Final Tok Er} {mark : St → Mk}
    {back : St → Mk → St} {quiet : Type 0} {part help : Meaning Tok Cx St Er V} {w : Bool}
    {old : Held Tok Cx St Er} where
  pub not_marked : {new : Held Tok Cx St Er} → new ≡ old → (quiet → ⊥) → Ran merged safe (MarkedOrHelp merged final mark back quiet part help) w old new (Err (fault.Stop Memory))
  not_marked {new} e may = help_not_marked merged safe final mark back quiet part help w old new e may

  pub part_stands : {new : Held Tok Cx St Er} {r : Result (Option V) Fault} → Ran merged safe part w old new r
      → (r ≡ Err fault.Fail → ⊥) → Ran merged safe (MarkedOrHelp merged final mark back quiet part help) w old new r
  part_stands {new} {r} h n = help_not_asked merged safe final mark back quiet part help w old new r h n

  module _ (none : old.kept ≡ None) {mid : Held Tok Cx St Er} (h : Ran merged safe part w old mid (Err fault.Fail)) where
    pub not_reached : {new : Held Tok Cx St Er} → new ≡ record mid { kept = None } → (quiet → ⊥)
        → Ran merged safe (MarkedOrHelp merged final mark back quiet part help) w old new (Err (fault.Stop Memory))
    not_reached {new} e may = help_not_reached merged safe final mark back quiet part help w old none mid h new e may

    module _ {m : Marks Tok Mk} {bk far new : Held Tok Cx St Er} {kept : Option (Event Er)} {ts : Layout Tok}
        {end : ℕ} (q : m ≡ marked_here mark old) (n : bk ≡ gone_back back (record mid { kept = None }) m)
        (k : kept ≡ mid.kept) (t : ts ≡ mid.tokens) (p : end ≡ mid.place) where
      answers : {A : Type 0} (value : A → Option V) (a r : Result A Fault)
          → Ran merged safe help w bk far (counted value a)
          → TellsError back quiet m (final kept ts end) kept far new a r
          → Ran merged safe (MarkedOrHelp merged final mark back quiet part help) w old new (counted value r)
      answers value a r i l =
          help_answers merged safe final mark back quiet part help w old none mid h m bk q n far value
          (final kept ts end) new a r (cc (k, t, p)) i
          (subst (λ z. TellsError back quiet m (final kept ts end) z far new a r) k l)

      pub helped_emit : (a r : Result V Fault) → Ran merged safe help w bk far (with_value a)
          → TellsError back quiet m (final kept ts end) kept far new a r
          → Ran merged safe (MarkedOrHelp merged final mark back quiet part help) w old new (with_value r)
      helped_emit a r i l =
          subst (λ x. Ran merged safe (MarkedOrHelp merged final mark back quiet part help) w old new x) (by_value r)
          (answers Some a r (subst (λ x. Ran merged safe help w bk far x) (sym (by_value a)) i) l)

      pub helped_check : (a r : Result (Unit {0}) Fault) → Ran merged safe help w bk far (without_value a)
          → TellsError back quiet m (final kept ts end) kept far new a r
          → Ran merged safe (MarkedOrHelp merged final mark back quiet part help) w old new (without_value r)
      helped_check a r i l =
          subst (λ x. Ran merged safe (MarkedOrHelp merged final mark back quiet part help) w old new x) (by_none r)
          (answers (λ _. None) a r (subst (λ x. Ran merged safe help w bk far x) (sym (by_none a)) i) l)

  module _ {older : Option (Event Er)} {begun mid new : Held Tok Cx St Er} (k : older ≡ old.kept) (e : begun ≡ record old { kept = None }) where
    counts : {A : Type 0} (value : A → Option V) (a r : Result A Fault)
        → Ran merged safe (MarkedOrHelp merged final mark back quiet part help) w begun mid (counted value a)
        → OneAnswer merged safe older mid new a r
        → Ran merged safe (MeansRecovered merged final mark back quiet part help) w old new (counted value r)
    counts value a r h l =
        recovered_answers merged safe final mark back quiet part help w old value mid new a r
        (subst
        (λ (z : Held Tok Cx St Er). Ran merged safe (MarkedOrHelp merged final mark back quiet part help) w z mid (counted value a))
        e h)
        (subst (λ z. OneAnswer merged safe z mid new a r) k l)

    pub recovered_emit : (a r : Result V Fault)
        → Ran merged safe (MarkedOrHelp merged final mark back quiet part help) w begun mid (with_value a)
        → OneAnswer merged safe older mid new a r
        → Ran merged safe (MeansRecovered merged final mark back quiet part help) w old new (with_value r)
    recovered_emit a r h l =
        subst (λ x. Ran merged safe (MeansRecovered merged final mark back quiet part help) w old new x) (by_value r)
        (counts Some a r (subst (λ x. Ran merged safe (MarkedOrHelp merged final mark back quiet part help) w begun mid x) (sym (by_value a)) h) l)

    pub recovered_check : (a r : Result (Unit {0}) Fault)
        → Ran merged safe (MarkedOrHelp merged final mark back quiet part help) w begun mid (without_value a)
        → OneAnswer merged safe older mid new a r
        → Ran merged safe (MeansRecovered merged final mark back quiet part help) w old new (without_value r)
    recovered_check a r h l =
        subst (λ x. Ran merged safe (MeansRecovered merged final mark back quiet part help) w old new x) (by_none r)
        (counts (λ _. None) a r (subst (λ x. Ran merged safe (MarkedOrHelp merged final mark back quiet part help) w begun mid x) (sym (by_none a)) h) l)
