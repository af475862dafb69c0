-- What a part leaves whose failures are mapped.
use Rattle.std.proofs.Common.{◌≡◌, ℕ, Bool, Option, Some, None, [], ◌++◌, refl, sym, ◌∙◌, ap, subst, Result, Ok, Err, option_to_list}
use Rattle.chumsky_input.specs.declared.stop.Stop.{Stop}
use Rattle.chumsky_input.specs.declared.stop.Stop.TheVariants.{Memory}
use Rattle.chumsky_input.specs.declared.stop.Fault.{Fault}
use Rattle.chumsky_input.specs.declared.stop.Fault.TheVariants as fault
use Rattle.chumsky_input.specs.Held.{Held}
use Rattle.chumsky_input.specs.Outcome.{Event, Meaning, Yes, No}
use Rattle.chumsky_input.specs.Primary.{primary}
use Rattle.chumsky_input.specs.Run.{Ran, begin, Adds}
use Rattle.chumsky_input.specs.Aside.{ClashesWith, kept_after}
use Rattle.chumsky_input.proofs.PrimaryLemmas.{kept-same}
use Rattle.chumsky_parser.specs.Chained.{retold}
use Rattle.chumsky_parser.proofs.ChainedLemmas.{ran-weaker}
use Rattle.chumsky_judge.specs.Judged.{as_one, failing, Judged}
use Rattle.chumsky_input.specs.Extra.{Shown, shown_from}
use Rattle.chumsky_judge.specs.TriedWith.{shown_of}
use Rattle.chumsky_judge.specs.MapErr.{ErrMaps, YesAsOne, MappedAs, NoMapped, MeansMapErr, MapsKept}
use Rattle.chumsky_judge.proofs.JudgeLemmas.{Went, went_yes, went_no, judge_whole, judge_stop, judge_as_one, judge_as_one_refused, judge_adds, as_left}

module _ {Tok Cx St Er V : Type 0} (merged : Er → Er → Er) (safe : Type 0) (maps : ErrMaps Tok Cx St Er)
    (part : Meaning Tok Cx St Er V) (w : Bool) (old mid : Held Tok Cx St Er) where
  inside : (new : Held Tok Cx St Er) (r : Result (Option V) Fault)
      → Ran merged safe (Judged part (YesAsOne merged) (NoMapped merged maps)) w old new r
      → Ran merged safe (MeansMapErr merged maps part) w old new r
  inside new r h = ran-weaker merged safe _ _ w old new r (λ o k. record { run = k }) h

  no_mapped : (went : Went merged safe part w old mid No) (new : Held Tok Cx St Er) (f : Fault) (k : Option (Event Er))
      → primary merged went.first.events ≡ k
      → MapsKept merged safe (maps (shown_of (begin w old) mid.place mid.state)) k old.kept mid new f
      → Ran merged safe (Judged part (YesAsOne merged) (NoMapped merged maps)) w old new (Err f)
  no_mapped went new f None e m =
      let none : option_to_list (primary merged went.first.events) ≡ [] = ap option_to_list e in
      rw m.0 (judge_whole went (retold No (as_one merged went.first)) new tt (subst (λ z. MappedAs merged maps z (begin w old) went.first (retold No (as_one merged went.first))) (sym e) refl)
      (m.1 ∙ ap (λ (z : Held Tok Cx St Er). record z { kept = old.kept }) went.left
      ∙ ap (λ z. record old { place = went.first.end; state = went.first.state; kept = z; emitted = old.emitted ++ went.first.emitted })
      (kept-same merged old.kept ∙ ap (λ es. primary merged (option_to_list old.kept ++ es)) (sym none))))
  no_mapped went new f (Some x) e m =
      let event : Event Er = record { place = x.place; error = m.0 } in
      let place : mid.place ≡ went.first.end = ap (λ (z : Held Tok Cx St Er). z.place) went.left in
      let state : mid.state ≡ went.first.state = ap (λ (z : Held Tok Cx St Er). z.state) went.left in
      let says = subst (λ (z : St). maps (shown_of (begin w old) went.first.end z) x.error m.0 m.1) state (subst (λ (z : ℕ). maps (shown_of (begin w old) z mid.state) x.error m.0 m.1) place m.2) in
      judge_adds went (record (failing event went.first) { state = m.1 }) event
      (record mid { kept = old.kept; state = m.1 }) new f
      refl refl (ap (λ (z : Held Tok Cx St Er). record z { kept = old.kept; state = m.1 }) went.left)
      (λ o j. subst (λ z. MappedAs merged maps z (begin w old) went.first o) (sym e) (m.0, m.1, says, j)) m.3

module _ {Tok Cx St Er V : Type 0} {merged : Er → Er → Er} {safe : Type 0} {maps : ErrMaps Tok Cx St Er}
    {part : Meaning Tok Cx St Er V} {w : Bool} {old mid : Held Tok Cx St Er} where
  pub map_err_stops : {s : Stop} → Ran merged safe part w (record old { kept = None }) mid (Err (fault.Stop s)) → Ran merged safe (MeansMapErr merged maps part) w old mid (Err (fault.Stop s))
  map_err_stops h = inside merged safe maps part w old mid mid _ (judge_stop h)

  pub map_err_yes : {v : Option V} {new : Held Tok Cx St Er}
      → Ran merged safe part w (record old { kept = None }) mid (Ok v) → new ≡ kept_after merged old.kept mid
      → Ran merged safe (MeansMapErr merged maps part) w old new (Ok v)
  map_err_yes {v} {new} h k =
      let went = went_yes merged safe part w old mid v h in
      inside merged safe maps part w old mid new _ (judge_as_one {u = Yes v} went went.first.state mid new (as_left went) tt (λ o j. j) k)

  pub map_err_yes_refused : {v : Option V} {new : Held Tok Cx St Er}
      → Ran merged safe part w (record old { kept = None }) mid (Ok v)
      → ClashesWith safe old.kept mid.kept × (new ≡ record mid { kept = None })
      → Ran merged safe (MeansMapErr merged maps part) w old new (Err (fault.Stop Memory))
  map_err_yes_refused {v} {new} h k =
      let went = went_yes merged safe part w old mid v h in
      inside merged safe maps part w old mid new _ (judge_as_one_refused {u = Yes v} went went.first.state mid new (as_left went) (λ o j. j) k)

  -- what the mapper is shown is said of the beginning of the whole
  pub map_err_no : {new : Held Tok Cx St Er} {f : Fault} {x : Shown Tok Cx St}
      → Ran merged safe part w (record old { kept = None }) mid (Err fault.Fail)
      → x ≡ shown_of (begin w old) mid.place mid.state → MapsKept merged safe (maps x) mid.kept old.kept mid new f
      → Ran merged safe (MeansMapErr merged maps part) w old new (Err f)
  map_err_no {new} {f} {x} h e m =
      let went = went_no merged safe part w old mid h in
      inside merged safe maps part w old mid new _
      (no_mapped merged safe maps part w old mid went new f mid.kept
      (sym (ap (λ (z : Held Tok Cx St Er). z.kept) went.left))
      (subst (λ y. MapsKept merged safe (maps y) mid.kept old.kept mid new f) e m))

module _ {Tok Cx St Er : Type 0} where
  -- what is shown of a run doesn't hang on what is kept
  pub shown_kept : (old taken : Held Tok Cx St Er) (p : ℕ) → taken ≡ record old { kept = None } → shown_from p taken ≡ shown_from p old
  shown_kept old taken p e = ap (shown_from p) e

  pub state_kept : (old taken : Held Tok Cx St Er) → taken ≡ record old { kept = None } → taken.state ≡ old.state
  state_kept old taken e = ap (λ (z : Held Tok Cx St Er). z.state) e

module _ {Tok Cx St Er : Type 0} (merged : Er → Er → Er) (safe : Type 0) (maps : Er → Er → St → Type 0) where
  -- the error is taken out, the mapper may change the state, the older one is kept, and the mapped one added
  pub maps_some : (kept older : Option (Event Er)) (x : Event Er) (r : Er) (s : St)
      (old taken moved here new : Held Tok Cx St Er) (f : Fault)
      → Some x ≡ kept → taken ≡ record old { kept = None } → moved ≡ record taken { state = s }
      → here ≡ record moved { kept = older } → maps x.error r s
      → Adds merged safe (record { place = x.place; error = r }) here new f → MapsKept merged safe maps kept older old new f
  maps_some kept older x r s old taken moved here new f e t v h m a =
      let there : here ≡ record old { kept = older; state = s } = h ∙ ap (λ (z : Held Tok Cx St Er). record z { kept = older }) (v ∙ ap (λ (z : Held Tok Cx St Er). record z { state = s }) t) in
      subst (λ k. MapsKept merged safe maps k older old new f) e (r, s, m, subst (λ (z : Held Tok Cx St Er). Adds merged safe (record { place = x.place; error = r }) z new f) there a)
