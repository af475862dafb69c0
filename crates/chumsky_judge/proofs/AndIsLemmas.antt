-- What looking ahead leaves.
use Rattle.std.proofs.Common.{◌≡◌, Bool, false, Option, None, ◌++◌, refl, sym, ◌∙◌, ap, subst, Result, Ok, Err, option_to_list, inl, inr}
use Rattle.chumsky_input.specs.declared.stop.Stop.{Stop}
use Rattle.chumsky_input.specs.declared.stop.Stop.TheVariants.{Memory}
use Rattle.chumsky_input.specs.declared.stop.Fault.{Fault}
use Rattle.chumsky_input.specs.declared.stop.Fault.TheVariants as fault
use Rattle.chumsky_input.specs.Held.{Held, Marks}
use Rattle.chumsky_input.specs.Outcome.{Meaning, Yes}
use Rattle.chumsky_input.specs.Primary.{primary}
use Rattle.chumsky_input.specs.Run.{Ran, begin, gone_back, marked_here, KeepsPast}
use Rattle.chumsky_input.specs.Aside.{ClashesWith, kept_after}
use Rattle.chumsky_input.proofs.PrimaryLemmas.{kept-same}
use Rattle.chumsky_parser.specs.Chained.{Chained, Asked}
use Rattle.chumsky_parser.specs.Choice.{OrElse}
use Rattle.chumsky_parser.specs.Failure.{SaysNo}
use Rattle.chumsky_parser.proofs.ChainedLemmas.{ran-weaker, ran-asked, ran-moved, chained, failed, ran-chained}
use Rattle.chumsky_parser.proofs.ChoiceLemmas.{ran-first, ran-second, ran-unmarked, ran-unrestored}
use Rattle.chumsky_parser.proofs.FailureLemmas.{ran-yes, ran-no}
use Rattle.chumsky_judge.specs.Judged.{Judged, NoAsOne, FailsAsOne}
use Rattle.chumsky_judge.specs.AndIs.{GivenAt, LooksFrom, MeansAndIs, at_start, Rewinds, MeansRewind}
use Rattle.chumsky_judge.proofs.JudgeLemmas.{Went, went_yes, went_no, judge_whole, judge_clash, judge_stop, judge_no}

module _ {Tok Cx St Mk Er V W : Type 0} (merged : Er → Er → Er) (safe : Type 0) (mark : St → Mk) (back : St → Mk → St)
    (quiet : Type 0) (part : Meaning Tok Cx St Er V) (other : Meaning Tok Cx St Er W) (w : Bool)
    (old : Held Tok Cx St Er) where
  abbrev First : Meaning Tok Cx St Er V
  First = OrElse mark back quiet part SaysNo

  and_is : (new : Held Tok Cx St Er) (r : Result (Option V) Fault)
      → Ran merged safe (Chained First (LooksFrom old.place other)) w old new r
      → Ran merged safe (MeansAndIs mark back quiet part other) w old new r
  and_is new r h = ran-weaker merged safe _ _ w old new r (λ o k. record { run = k }) h

  first_fails : (new : Held Tok Cx St Er) (f : Fault) → Ran merged safe First w old new (Err f) → Ran merged safe (MeansAndIs mark back quiet part other) w old new (Err f)
  first_fails new f h = and_is new (Err f) (failed h refl refl)

  module _ (v : Option V) (mid here : Held Tok Cx St Er) (h : Ran merged safe part w old mid (Ok v)) (n : here ≡ record mid { tokens = old.tokens; place = old.place }) where
    moved_back : here ≡ record mid { place = old.place }
    moved_back = n ∙ ap (λ t. record mid { tokens = t; place = old.place }) (sym h.same.tokens)

    looks : (new : Held Tok Cx St Er) (r : Result (Option V) Fault)
        → Ran merged safe (Chained (Asked false other) (λ _. GivenAt v mid.place)) w (record mid { place = old.place }) new r
        → Ran merged safe (MeansAndIs mark back quiet part other) w old new r
    looks new r k =
        and_is new r (ran-chained merged safe First (LooksFrom old.place other) w old v mid new r (ran-first merged safe mark back quiet part SaysNo w old mid (Ok v) h (λ q. cc))
        (ran-moved {m = Chained (Asked false other) (λ _. GivenAt v mid.place)} {n = LooksFrom old.place other v}
        {old = mid} {mid = record mid { place = old.place }} (record { tokens = refl; context = refl })
        refl refl refl (λ o z. z) k))

module _ {Tok Cx St Mk Er V W : Type 0} {merged : Er → Er → Er} {safe : Type 0} {mark : St → Mk} {back : St → Mk → St}
    {quiet : Type 0} {part : Meaning Tok Cx St Er V} {other : Meaning Tok Cx St Er W} {w : Bool}
    {old : Held Tok Cx St Er} where
  pub and_is_unmarked : {new : Held Tok Cx St Er} → new ≡ old → (quiet → ⊥) → Ran merged safe (MeansAndIs mark back quiet part other) w old new (Err (fault.Stop Memory))
  and_is_unmarked {new} e may = first_fails merged safe mark back quiet part other w old new _ (ran-unmarked merged safe mark back quiet part SaysNo w old new e may)

  pub and_is_stops : {new : Held Tok Cx St Er} {s : Stop} → Ran merged safe part w old new (Err (fault.Stop s)) → Ran merged safe (MeansAndIs mark back quiet part other) w old new (Err (fault.Stop s))
  and_is_stops {new} {s} h = first_fails merged safe mark back quiet part other w old new _ (ran-first merged safe mark back quiet part SaysNo w old new _ h (λ q. cc))

  pub and_is_unrestored : {mid new : Held Tok Cx St Er} → Ran merged safe part w old mid (Err fault.Fail) → new ≡ mid
      → (quiet → ⊥) → Ran merged safe (MeansAndIs mark back quiet part other) w old new (Err (fault.Stop Memory))
  and_is_unrestored {mid} {new} h e may = first_fails merged safe mark back quiet part other w old new _ (ran-unrestored merged safe mark back quiet part SaysNo w old mid new h e may)

  pub and_is_no : {m : Marks Tok Mk} {mid new : Held Tok Cx St Er} → Ran merged safe part w old mid (Err fault.Fail)
      → m ≡ marked_here mark old → new ≡ gone_back back mid m
      → Ran merged safe (MeansAndIs mark back quiet part other) w old new (Err fault.Fail)
  and_is_no {m} {mid} {new} h q n = first_fails merged safe mark back quiet part other w old new _ (ran-second merged safe mark back quiet part SaysNo w old m mid new new _ h q n ran-no)

  module _ {v : Option V} {mid here : Held Tok Cx St Er} (h : Ran merged safe part w old mid (Ok v)) (n : here ≡ record mid { tokens = old.tokens; place = old.place }) where
    pub and_is_yes : {x : Option W} {far new : Held Tok Cx St Er} → Ran merged safe other false here far (Ok x)
        → new ≡ record far { tokens = mid.tokens; place = mid.place }
        → Ran merged safe (MeansAndIs mark back quiet part other) w old new (Ok v)
    and_is_yes {x} {far} {new} k e =
        let there : Ran merged safe other false (record mid { place = old.place }) far (Ok x) =
        subst (λ (z : Held Tok Cx St Er). Ran merged safe other false z far (Ok x))
        (moved_back merged safe mark back quiet part other w old v mid here h n) k in
        looks merged safe mark back quiet part other w old v mid here h n new (Ok v)
        (rw (e ∙ ap (λ t. record far { tokens = t; place = mid.place }) (sym there.same.tokens))
        (chained (ran-asked there) refl (ran-yes merged safe (GivenAt v mid.place) w far v mid.place far.state refl)))

    pub and_is_missing : {f : Fault} {new : Held Tok Cx St Er} → Ran merged safe other false here new (Err f) → Ran merged safe (MeansAndIs mark back quiet part other) w old new (Err f)
    and_is_missing {f} {new} k =
        let there : Ran merged safe other false (record mid { place = old.place }) new (Err f) =
        subst (λ (z : Held Tok Cx St Er). Ran merged safe other false z new (Err f))
        (moved_back merged safe mark back quiet part other w old v mid here h n) k in
        looks merged safe mark back quiet part other w old v mid here h n new (Err f) (failed (ran-asked there) refl refl)

module _ {Tok Cx St Er V : Type 0} (merged : Er → Er → Er) (safe : Type 0) (part : Meaning Tok Cx St Er V) (w : Bool)
    (old mid : Held Tok Cx St Er) where
  rewound : (new : Held Tok Cx St Er) (r : Result (Option V) Fault)
      → Ran merged safe (Judged part (Rewinds merged) (NoAsOne merged)) w old new r
      → Ran merged safe (MeansRewind merged part) w old new r
  rewound new r h = ran-weaker merged safe _ _ w old new r (λ o k. record { run = k }) h

  module _ (v : Option V) (h : Ran merged safe part w (record old { kept = None }) mid (Ok v)) where
    abbrev went : Went merged safe part w old mid (Yes v)
    went = went_yes merged safe part w old mid v h

    kept_is : mid.kept ≡ primary merged went.first.events
    kept_is = ap (λ (z : Held Tok Cx St Er). z.kept) went.left

module _ {Tok Cx St Er V : Type 0} {merged : Er → Er → Er} {safe : Type 0} {part : Meaning Tok Cx St Er V} {w : Bool}
    {old mid : Held Tok Cx St Er} where
  pub rewind_stops : {s : Stop} → Ran merged safe part w (record old { kept = None }) mid (Err (fault.Stop s)) → Ran merged safe (MeansRewind merged part) w old mid (Err (fault.Stop s))
  rewind_stops h = rewound merged safe part w old mid mid _ (judge_stop h)

  pub rewind_no : {new : Held Tok Cx St Er} {f : Fault}
      → Ran merged safe part w (record old { kept = None }) mid (Err fault.Fail)
      → FailsAsOne merged safe old.kept mid new f → Ran merged safe (MeansRewind merged part) w old new (Err f)
  rewind_no {new} {f} h k = rewound merged safe part w old mid new _ (judge_no (went_no merged safe part w old mid h) new f (λ o j. j) k)

  module _ {v : Option V} (h : Ran merged safe part w (record old { kept = None }) mid (Ok v)) where
    -- an event past the start is dropped
    pub rewind_past : {new : Held Tok Cx St Er} → KeepsPast old.place mid.kept
        → new ≡ record mid { tokens = old.tokens; place = old.place; kept = old.kept }
        → Ran merged safe (MeansRewind merged part) w old new (Ok v)
    rewind_past {new} k e =
        let went = went_yes merged safe part w old mid v h in
        rewound merged safe part w old mid new _
        (judge_whole went (at_start merged (begin w old) v went.first None) new tt (inl (subst (KeepsPast old.place) (kept_is merged safe part w old mid v h) k, inl refl))
        (e ∙ ap (λ (z : Held Tok Cx St Er). record z { tokens = old.tokens; place = old.place; kept = old.kept })
        went.left
        ∙ ap (λ z. record old { state = went.first.state; kept = z; emitted = old.emitted ++ went.first.emitted })
        (kept-same merged old.kept)))

    -- another one is kept
    pub rewind_here : {here new : Held Tok Cx St Er} → (KeepsPast old.place mid.kept → ⊥)
        → here ≡ record mid { tokens = old.tokens; place = old.place } → new ≡ kept_after merged old.kept here
        → Ran merged safe (MeansRewind merged part) w old new (Ok v)
    rewind_here {here} {new} k e n =
        let went = went_yes merged safe part w old mid v h in
        rewound merged safe part w old mid new _
        (judge_whole went (at_start merged (begin w old) v went.first (primary merged went.first.events)) new tt (inr ((λ z. k (subst (KeepsPast old.place) (sym (kept_is merged safe part w old mid v h)) z)), inl refl))
        (n ∙ ap (kept_after merged old.kept) (e ∙ ap (λ (z : Held Tok Cx St Er). record z { tokens = old.tokens; place = old.place }) went.left)))

    pub rewind_here_refused : {here new : Held Tok Cx St Er} → (KeepsPast old.place mid.kept → ⊥)
        → here ≡ record mid { tokens = old.tokens; place = old.place }
        → ClashesWith safe old.kept here.kept × (new ≡ record here { kept = None })
        → Ran merged safe (MeansRewind merged part) w old new (Err (fault.Stop Memory))
    rewind_here_refused {here} {new} k e c =
        let went = went_yes merged safe part w old mid v h in
        let event = c.0.0 in
        let there = e ∙ ap (λ (z : Held Tok Cx St Er). record z { tokens = old.tokens; place = old.place }) went.left in
        let left = c.1 ∙ ap (λ (z : Held Tok Cx St Er). record z { kept = None }) there in
        rewound merged safe part w old mid new _
        (judge_clash went (at_start merged (begin w old) v went.first (primary merged went.first.events)) event new (ap option_to_list (sym (ap (λ (z : Held Tok Cx St Er). z.kept) there) ∙ c.0.1))
        (λ o j. inr ((λ z. k (subst (KeepsPast old.place) (sym (kept_is merged safe part w old mid v h)) z)), j)) (ap (λ (z : Held Tok Cx St Er). z.state) left)
        (record { tokens = ap (λ (z : Held Tok Cx St Er). z.tokens) left; context = ap (λ (z : Held Tok Cx St Er). z.context) left }) (ap (λ (z : Held Tok Cx St Er). z.stopped) left) c.0.2 c.0.3)
