-- What a part leaves that was run with nothing kept, and what is made of it.
use Rattle.std.proofs.Common.{◌≡◌, Bool, true, false, Option, None, [], ◌∷◌, ◌++◌, refl, sym, ◌∙◌, ap, subst, Result, Ok, Err, option_to_list, inl, inr}
use Rattle.chumsky_input.specs.declared.stop.Stop.{Stop}
use Rattle.chumsky_input.specs.declared.stop.Stop.TheVariants.{Memory}
use Rattle.chumsky_input.specs.declared.stop.Fault.{Fault}
use Rattle.chumsky_input.specs.declared.stop.Fault.TheVariants as fault
use Rattle.chumsky_input.specs.Held.{Held, first_stop}
use Rattle.chumsky_input.specs.Outcome.{Event, Meaning, Outcome, Verdict, Yes, No, Halt, Clash, HasEventAt, IsAnswer}
use Rattle.chumsky_input.specs.Primary.{primary}
use Rattle.chumsky_input.specs.Run.{Ran, SameRun, Leaves, LeavesBy, begin, answer, with_value, without_value, Adds, Fails}
use Rattle.chumsky_input.specs.Aside.{ClashesWith, kept_after}
use Rattle.chumsky_input.proofs.PrimaryLemmas.{has_event_at-left, has_event_at-right}
use Rattle.chumsky_parser.specs.Chained.{retold}
use Rattle.chumsky_parser.specs.Failure.{asked}
use Rattle.chumsky_parser.proofs.ApartLemmas.{yes_of, no_of}
use Rattle.chumsky_judge.specs.Judged.{as_one, OrClash, OrLacks, OfYes, OfNo, ByVerdict, Judged, NoAsOne, FailsAsOne}

module _ {Tok Cx St Er V : Type 0} (merged : Er → Er → Er) (safe : Type 0) (part : Meaning Tok Cx St Er V) (w : Bool) (old mid : Held Tok Cx St Er) where
  -- an answer of a part that was run with nothing kept, and what it left
  pub record Went (v : Verdict V Er) : Type 0 where
    pub first : Outcome V Er St
    pub meant : part (begin w old) first
    pub verdict : first.verdict ≡ v
    pub left : mid ≡ record old { place = first.end; state = first.state; kept = primary merged first.events; emitted = old.emitted ++ first.emitted }

  went_left : (o : Outcome V Er St) → SameRun old mid → mid.state ≡ o.state
      → Leaves merged safe o (record old { kept = None }) mid
      → mid ≡ record old { place = o.end; state = o.state; kept = primary merged o.events; emitted = old.emitted ++ o.emitted }
  went_left o same s l =
      let kept : mid.kept ≡ primary merged o.events = l.kept in
      let emitted : mid.emitted ≡ old.emitted ++ o.emitted = l.emitted in
      let stopped : mid.stopped ≡ old.stopped = l.stopped in
      let whole : record mid { kept = mid.kept }
      ≡ record old { place = o.end; state = o.state; kept = primary merged o.events; emitted = old.emitted ++ o.emitted } =
      cc (same.tokens, same.context, s, l.end, kept, emitted, stopped) in
      whole

  pub went_yes : (x : Option V) → Ran merged safe part w (record old { kept = None }) mid (Ok x) → Went (Yes x)
  went_yes x h =
      let y = yes_of merged safe old mid h.outcome.verdict h.outcome x h.answered h.left in
      record { first = h.outcome; meant = h.meant; verdict = y.0; left = went_left h.outcome (record { tokens = h.same.tokens; context = h.same.context }) h.state y.1 }

  pub went_no : Ran merged safe part w (record old { kept = None }) mid (Err fault.Fail) → Went No
  went_no h =
      let y = no_of merged safe old mid h.outcome.verdict h.outcome h.answered h.left in
      record { first = h.outcome; meant = h.meant; verdict = y.0; left = went_left h.outcome (record { tokens = h.same.tokens; context = h.same.context }) h.state y.1 }

module _ {Tok Cx St Er V : Type 0} {merged : Er → Er → Er} {safe : Type 0} {part : Meaning Tok Cx St Er V} {w : Bool} {old mid : Held Tok Cx St Er} where
  pub as_left : {v : Verdict V Er} (h : Went merged safe part w old mid v) → mid ≡ record mid { state = h.first.state }
  as_left h =
      let s : mid.state ≡ h.first.state = ap (λ (z : Held Tok Cx St Er). z.state) h.left in
      ap (λ t. record mid { state = t }) s

module _ {Tok Cx St Er W : Type 0} where
  leaves_by : (merged : Er → Er → Er) (safe : Type 0) (old new : Held Tok Cx St Er) (whole : Outcome W Er St) (u : Verdict W Er)
      → IsAnswer u → Leaves merged safe whole old new → LeavesBy merged safe u whole old new
  leaves_by merged safe old new whole (Yes x) a l = l
  leaves_by merged safe old new whole No a l = l
  leaves_by merged safe old new whole (Halt s) a l = absurd a
  leaves_by merged safe old new whole (Clash e) a l = absurd a

module _ {Tok Cx St Er V W : Type 0} {merged : Er → Er → Er} {safe : Type 0} {part : Meaning Tok Cx St Er V}
    {on_yes : OfYes Tok Cx St Er V W} {on_no : OfNo Tok Cx St Er V W} {w : Bool} {old mid : Held Tok Cx St Er} where
  judged : {v : Verdict V Er} (h : Went merged safe part w old mid v) (o : Outcome W Er St) → ByVerdict v on_yes on_no (begin w old) h.first o → Judged part on_yes on_no (begin w old) o
  judged h o j = record { first = h.first; meant = h.meant; judges = subst (λ v. ByVerdict v on_yes on_no (begin w old) h.first o) (sym h.verdict) j }

  -- an outcome made of an answer of the part, whose events come after what was kept
  pub judge_whole : {v : Verdict V Er} (h : Went merged safe part w old mid v) (whole : Outcome W Er St) (new : Held Tok Cx St Er)
      → IsAnswer whole.verdict → ByVerdict v on_yes on_no (begin w old) h.first whole
      → new
      ≡ record old {
        place = whole.end;
        state = whole.state;
        kept = primary merged (option_to_list old.kept ++ whole.events);
        emitted = old.emitted ++ whole.emitted;
      }
      → Ran merged safe (Judged part on_yes on_no) w old new (answer whole.verdict)
  judge_whole {v} h whole new a j n =
      record {
        outcome = whole;
        meant = judged h whole j;
        answered = refl;
        state = ap (λ (z : Held Tok Cx St Er). z.state) n;
        left = leaves_by merged safe old new whole whole.verdict a (record {
          end = ap (λ (z : Held Tok Cx St Er). z.place) n;
          kept = ap (λ (z : Held Tok Cx St Er). z.kept) n;
          emitted = ap (λ (z : Held Tok Cx St Er). z.emitted) n;
          stopped = ap (λ (z : Held Tok Cx St Er). z.stopped) n;
        });
        same = record { tokens = ap (λ (z : Held Tok Cx St Er). z.tokens) n; context = ap (λ (z : Held Tok Cx St Er). z.context) n };
      }

  -- the merge of its one event was refused
  pub judge_clash : {v : Verdict V Er} (h : Went merged safe part w old mid v) (whole : Outcome W Er St)
      (e : Event Er) (new : Held Tok Cx St Er)
      → whole.events ≡ e ∷ []
      → ((o : Outcome W Er St) → OrClash whole o → ByVerdict v on_yes on_no (begin w old) h.first o)
      → new.state ≡ whole.state → SameRun old new → new.stopped ≡ old.stopped → (safe → ⊥)
      → HasEventAt e.place (option_to_list old.kept)
      → Ran merged safe (Judged part on_yes on_no) w old new (Err (fault.Stop Memory))
  judge_clash h whole e new only j s same stopped may there =
      let o : Outcome W Er St = record whole { verdict = Clash e; events = [] } in
      record {
        outcome = o;
        meant = judged h o (j o (inr (e, only, refl)));
        answered = refl;
        state = s;
        left = (may, has_event_at-left merged e.place (option_to_list old.kept) [] there, ap (λ z. first_stop z Memory) stopped);
        same = same;
      }

  -- a refusal of something else
  pub judge_halts : {v : Verdict V Er} (h : Went merged safe part w old mid v) (new : Held Tok Cx St Er)
      → ((o : Outcome W Er St) → o.verdict ≡ Halt Memory → o.state ≡ new.state → ByVerdict v on_yes on_no (begin w old) h.first o)
      → SameRun old new → new.stopped ≡ old.stopped → Ran merged safe (Judged part on_yes on_no) w old new (Err (fault.Stop Memory))
  judge_halts h new j same stopped =
      let o : Outcome W Er St = record { verdict = Halt Memory; end = old.place; state = new.state; events = []; emitted = [] } in
      record { outcome = o; meant = judged h o (j o refl refl); answered = refl; state = refl; left = ap (λ z. first_stop z Memory) stopped; same = same }

  stop_stands : (v : Verdict V Er) (p : Outcome V Er St) (s : Stop) → part (begin w old) p → p.verdict ≡ v
      → Err (fault.Stop s) ≡ answer v → mid.state ≡ p.state
      → LeavesBy merged safe v p (record old { kept = None }) mid → SameRun old mid
      → Ran merged safe (Judged part on_yes on_no) w old mid (Err (fault.Stop s))
  stop_stands (Yes x) p s m e a t l same = let no : ⊥ = cc in absurd no
  stop_stands No p s m e a t l same = let no : ⊥ = cc in absurd no
  stop_stands (Halt z) p s m e a t l same =
      let is : s ≡ z = cc in
      record {
        outcome = retold (Halt z) p;
        meant = record { first = p; meant = m; judges = rw e refl };
        answered = ap (λ q. Err (fault.Stop q)) is;
        state = t;
        left = l;
        same = same;
      }
  stop_stands (Clash e') p s m e a t l same =
      let is : s ≡ Memory = cc in
      record {
        outcome = retold (Clash e') p;
        meant = record { first = p; meant = m; judges = rw e refl };
        answered = ap (λ q. Err (fault.Stop q)) is;
        state = t;
        left = (l.0, has_event_at-right merged e'.place (option_to_list old.kept) p.events l.1, l.2);
        same = same;
      }

  -- a stop of the part
  pub judge_stop : {s : Stop} → Ran merged safe part w (record old { kept = None }) mid (Err (fault.Stop s)) → Ran merged safe (Judged part on_yes on_no) w old mid (Err (fault.Stop s))
  judge_stop {s} h = stop_stands h.outcome.verdict h.outcome s h.meant refl h.answered h.state h.left (record { tokens = h.same.tokens; context = h.same.context })

  -- the events of the part count as one, after what was kept; the state may be another
  pub judge_as_one : {v : Verdict V Er} {u : Verdict W Er} (h : Went merged safe part w old mid v) (s : St) (here new : Held Tok Cx St Er) → here ≡ record mid { state = s } → IsAnswer u
      → ((o : Outcome W Er St) → OrClash (record (retold u (as_one merged h.first)) { state = s }) o → ByVerdict v on_yes on_no (begin w old) h.first o)
      → new ≡ kept_after merged old.kept here → Ran merged safe (Judged part on_yes on_no) w old new (answer u)
  judge_as_one {v} {u} h s here new k a j n =
      judge_whole h (record (retold u (as_one merged h.first)) { state = s }) new a (j _ (inl refl))
      (n ∙ ap (kept_after merged old.kept) (k ∙ ap (λ (z : Held Tok Cx St Er). record z { state = s }) h.left))

  pub judge_as_one_refused : {v : Verdict V Er} {u : Verdict W Er} (h : Went merged safe part w old mid v) (s : St) (here new : Held Tok Cx St Er) → here ≡ record mid { state = s }
      → ((o : Outcome W Er St) → OrClash (record (retold u (as_one merged h.first)) { state = s }) o → ByVerdict v on_yes on_no (begin w old) h.first o)
      → ClashesWith safe old.kept here.kept × (new ≡ record here { kept = None }) → Ran merged safe (Judged part on_yes on_no) w old new (Err (fault.Stop Memory))
  judge_as_one_refused {v} {u} h s here new k j c =
      let e = c.0.0 in
      let there = k ∙ ap (λ (z : Held Tok Cx St Er). record z { state = s }) h.left in
      let left = c.1 ∙ ap (λ (z : Held Tok Cx St Er). record z { kept = None }) there in
      judge_clash h (record (retold u (as_one merged h.first)) { state = s }) e new
      (ap option_to_list (sym (ap (λ (z : Held Tok Cx St Er). z.kept) there) ∙ c.0.1)) j
      (ap (λ (z : Held Tok Cx St Er). z.state) left)
      (record { tokens = ap (λ (z : Held Tok Cx St Er). z.tokens) left; context = ap (λ (z : Held Tok Cx St Er). z.context) left }) (ap (λ (z : Held Tok Cx St Er). z.stopped) left) c.0.2 c.0.3

  -- the same of a no
  pub judge_no : (h : Went merged safe part w old mid No) (new : Held Tok Cx St Er) (f : Fault) → ((o : Outcome W Er St) → NoAsOne merged (begin w old) h.first o → on_no (begin w old) h.first o)
      → FailsAsOne merged safe old.kept mid new f → Ran merged safe (Judged part on_yes on_no) w old new (Err f)
  judge_no h new fault.Fail j k = judge_as_one {u = No} h h.first.state mid new (as_left h) tt j k
  judge_no h new (fault.Stop s) j k = rw k.0 (judge_as_one_refused {u = No} h h.first.state mid new (as_left h) j (k.1, k.2))

  pub judge_adds : {v : Verdict V Er} (h : Went merged safe part w old mid v) (whole : Outcome W Er St)
      (e : Event Er) (here new : Held Tok Cx St Er) (f : Fault)
      → whole.verdict ≡ No → whole.events ≡ e ∷ []
      → here ≡ record old { place = whole.end; state = whole.state; emitted = old.emitted ++ whole.emitted }
      → ((o : Outcome W Er St) → OrClash whole o → ByVerdict v on_yes on_no (begin w old) h.first o)
      → Adds merged safe e here new f → Ran merged safe (Judged part on_yes on_no) w old new (Err f)
  judge_adds h whole e here new fault.Fail is_no only t j a =
      let left : new ≡ record old { place = whole.end; state = whole.state; kept = primary merged (option_to_list old.kept ++ whole.events); emitted = old.emitted ++ whole.emitted } =
      a ∙ ap (λ (z : Held Tok Cx St Er). record z { kept = primary merged (option_to_list z.kept ++ e ∷ []) }) t
      ∙ ap (λ es. record old {
        place = whole.end;
        state = whole.state;
        kept = primary merged (option_to_list old.kept ++ es);
        emitted = old.emitted ++ whole.emitted;
      })
      (sym only) in
      subst (λ v. Ran merged safe (Judged part on_yes on_no) w old new (answer v)) is_no (judge_whole h whole new (rw is_no tt) (j whole (inl refl)) left)
  judge_adds h whole e here new (fault.Stop s) is_no only t j a =
      let left = a.3 ∙ ap (λ (z : Held Tok Cx St Er). record z { kept = None }) t in
      rw a.0 (judge_clash h whole e new only j (ap (λ (z : Held Tok Cx St Er). z.state) left)
      (record { tokens = ap (λ (z : Held Tok Cx St Er). z.tokens) left; context = ap (λ (z : Held Tok Cx St Er). z.context) left }) (ap (λ (z : Held Tok Cx St Er). z.stopped) left) a.1
      (subst (λ (z : Held Tok Cx St Er). HasEventAt e.place (option_to_list z.kept)) t a.2))

  -- a failure with one event, in place of those of the part
  pub judge_fails : {v : Verdict V Er} (h : Went merged safe part w old mid v) (whole : Outcome W Er St)
      (e : Event Er) (here new : Held Tok Cx St Er) (f : Fault)
      → whole.verdict ≡ No → whole.events ≡ e ∷ []
      → here ≡ record old { place = whole.end; state = whole.state; emitted = old.emitted ++ whole.emitted }
      → ((o : Outcome W Er St) → OrLacks safe whole o → ByVerdict v on_yes on_no (begin w old) h.first o)
      → Fails merged safe e here new f → Ran merged safe (Judged part on_yes on_no) w old new (Err f)
  judge_fails h whole e here new f is_no only t j (inl a) = judge_adds h whole e here new f is_no only t (λ o k. j o (inr k)) a
  judge_fails h whole e here new f is_no only t j (inr l) =
      let left = l.2 ∙ t in
      rw l.0 (judge_halts h new (λ o v s. j o (inl (l.1, v, s ∙ ap (λ (z : Held Tok Cx St Er). z.state) left)))
      (record { tokens = ap (λ (z : Held Tok Cx St Er). z.tokens) left; context = ap (λ (z : Held Tok Cx St Er). z.context) left }) (ap (λ (z : Held Tok Cx St Er). z.stopped) left))

-- what is made of a call's answer, where a value is wanted or not
pub asked_emits : {Tok Cx St Er V : Type 0} {merged : Er → Er → Er} {safe : Type 0} {meaning : Meaning Tok Cx St Er V}
    {old new : Held Tok Cx St Er} (r : Result V Fault)
    → Ran merged safe meaning true old new (asked true r) → Ran merged safe meaning true old new (with_value r)
asked_emits (Ok v) h = h
asked_emits (Err k) h = h

pub asked_checks : {Tok Cx St Er : Type 0} {merged : Er → Er → Er} {safe : Type 0}
    {meaning : Meaning Tok Cx St Er (Unit {0})} {old new : Held Tok Cx St Er} (r : Result (Unit {0}) Fault)
    → Ran merged safe meaning false old new (asked false r) → Ran merged safe meaning false old new (without_value r)
asked_checks (Ok v) h = h
asked_checks (Err k) h = h
