-- What a fixed sequence of tokens leaves.
use Rattle.std.proofs.Common.{◌≡◌, ℕ, Bool, true, false, Option, Some, None, List, [], ◌∷◌, refl, sym, ◌∙◌, ap, Result, Ok, Err, inl, inr, length}
use Rattle.std.specs.Prelude.{slice_get, take}
use Rattle.std.proofs.Math.Seq.{take-length}
use Rattle.chumsky_input.specs.declared.error.Error as error_trait
use Rattle.chumsky_input.specs.declared.inspector.Inspector as inspector_trait
use Rattle.chumsky_input.specs.declared.input.Input as input_trait
use Rattle.chumsky_input.specs.declared.stop.Fault.{Fault}
use Rattle.chumsky_input.specs.declared.stop.Fault.TheVariants as fault
use Rattle.chumsky_input.specs.declared.stop.Stop.TheVariants.{Memory}
use Rattle.chumsky_input.specs.Held.{Held, Marks}
use Rattle.chumsky_input.specs.Wanted as wanted
use Rattle.chumsky_input.specs.Outcome.{Outcome}
use Rattle.chumsky_input.specs.Run.{Ran, with_value, without_value, begin, took, Fails, gone_back, marked_here}
use Rattle.chumsky_parser.proofs.ChainedLemmas.{ran-moved, ran-chained, ran-chained_err, ran-given}
use Rattle.chumsky_parser.specs.Failure.{Misses, expects}
use Rattle.chumsky_parser.proofs.IgnoringLemmas.{ran-copied, ran-uncopied, ran-lacks_copy}
use Rattle.chumsky_parser.proofs.FailureLemmas.{ran-yes, ran-halts, ran-misses}
use Rattle.chumsky_primitive.specs.Just.{past, told, is_member, MeansMemberFound, MeansMember, MeansMembers, MeansJust}

-- a token is taken where one is found, in one form for both cases
pub took-is : {Tok Cx St Er : Type 0} (after : St → Tok → St) (h : Held Tok Cx St Er) (found : Option Tok)
    → took after h found ≡ record h { place = past found h.place; state = told after found h.state }
took-is after h None = refl
took-is after h (Some t) = refl

module _ {I Tok Sp Cu Er St Mk Cx : Type 0} (source : input_trait.Ghosts I Cu Tok Sp) (equal : Tok → Tok → Bool)
    (errors : error_trait.Ghosts Er I Tok Sp) (states : inspector_trait.Ghosts St I Mk Tok Sp) (m : Tok) (w : Bool)
    (old : Held Tok Cx states.Seen errors.Seen) where
  means : (found : Option Tok) (e : Bool) → found ≡ slice_get old.tokens.list old.place → is_member equal m found ≡ e
      → (o : Outcome (Unit {0}) errors.Seen states.Seen) → MeansMemberFound source equal errors states m found e (begin w old) o → MeansMember source equal errors states m (begin w old) o
  means found e f i o h = record { by_token = inr (rw (sym f, i) h) }

  pub member_unmarked : (states.takes_no_memory → ⊥) → Ran errors.merged errors.takes_no_memory (MeansMember source equal errors states m) w old old (Err (fault.Stop Memory))
  member_unmarked may = ran-halts errors.merged errors.takes_no_memory _ w old old (record { tokens = refl; context = refl }) refl (λ o v s. record { by_token = inl (may, v, s) })

  pub member_there : (found : Option Tok) (mid : Held Tok Cx states.Seen errors.Seen) → found ≡ slice_get old.tokens.list old.place → is_member equal m found ≡ true → mid ≡ took states.after old found
      → Ran errors.merged errors.takes_no_memory (MeansMember source equal errors states m) w old mid (Ok None)
  member_there found mid f i k =
      rw (k ∙ took-is states.after old found)
      (ran-yes errors.merged errors.takes_no_memory _ w old None (past found old.place) (told states.after found old.state) (means found true f i _ refl))

  pub member_unrestored : (found : Option Tok) (mid new : Held Tok Cx states.Seen errors.Seen)
      → found ≡ slice_get old.tokens.list old.place → is_member equal m found ≡ false
      → mid ≡ took states.after old found → new ≡ mid → (states.takes_no_memory → ⊥)
      → Ran errors.merged errors.takes_no_memory (MeansMember source equal errors states m) w old new (Err (fault.Stop Memory))
  member_unrestored found mid new f i k n may =
      rw (n ∙ k ∙ took-is states.after old found)
      (ran-halts errors.merged errors.takes_no_memory _ w old (record old { place = past found old.place; state = told states.after found old.state }) (record { tokens = refl; context = refl }) refl
      (λ o v s. means found false f i o (inl (may, v, s))))

  -- the event of a member, where what was found was gone back from
  back_from : (found : Option Tok) (new : Held Tok Cx states.Seen errors.Seen) (f : Fault) → found ≡ slice_get old.tokens.list old.place → is_member equal m found ≡ false
      → Fails errors.merged errors.takes_no_memory
      (expects source errors old.tokens (wanted.Token m ∷ []) found old.place (past found old.place))
      (record old { state = states.back (told states.after found old.state) (states.mark old.state) }) new f
      → Ran errors.merged errors.takes_no_memory (MeansMember source equal errors states m) w old new (Err f)
  back_from found new f e i k =
      ran-moved (record { tokens = refl; context = refl }) refl refl refl (λ o h. means found false e i o (inr h))
      (ran-misses errors.merged errors.takes_no_memory
      (λ b o. Misses errors.takes_no_memory
      (expects source errors b.tokens (wanted.Token m ∷ []) found b.start (past found b.start)) b.start
      (states.back (told states.after found old.state) (states.mark old.state)) o)
      w (record old { state = states.back (told states.after found old.state) (states.mark old.state) }) _ new f k (λ o h. h))

  pub member_misses : (found : Option Tok) (k : Marks Tok states.Marked) (to : ℕ) (mid back new : Held Tok Cx states.Seen errors.Seen) (f : Fault)
      → found ≡ slice_get old.tokens.list old.place → is_member equal m found ≡ false
      → k ≡ marked_here states.mark old → mid ≡ took states.after old found → to ≡ mid.place
      → back ≡ gone_back states.back mid k
      → Fails errors.merged errors.takes_no_memory (expects source errors k.tokens (wanted.Token m ∷ []) found k.place to) back new f
      → Ran errors.merged errors.takes_no_memory (MeansMember source equal errors states m) w old new (Err f)
  member_misses found k to mid back new f e i q n p g h =
      let uncut : take (length old.emitted) old.emitted ≡ old.emitted = take-length old.emitted in
      let taken = n ∙ took-is states.after old found in
      let there : back ≡ record old { state = states.back (told states.after found old.state) (states.mark old.state) } =
      g ∙ ap (λ (x : Held Tok Cx states.Seen errors.Seen). gone_back states.back x k) taken
      ∙ ap (gone_back states.back (record old { place = past found old.place; state = told states.after found old.state })) q
      ∙ ap (λ es. record old { state = states.back (told states.after found old.state) (states.mark old.state); emitted = es })
      uncut in
      let far : to ≡ past found old.place = p ∙ ap (λ (x : Held Tok Cx states.Seen errors.Seen). x.place) taken in
      back_from found new f e i (rw (there, q, far) at h)

module _ {I Tok Sp Cu Er St Mk Cx : Type 0} (source : input_trait.Ghosts I Cu Tok Sp) (equal : Tok → Tok → Bool)
    (errors : error_trait.Ghosts Er I Tok Sp) (states : inspector_trait.Ghosts St I Mk Tok Sp) (ms : List Tok)
    (old : Held Tok Cx states.Seen errors.Seen) where
  -- a run of the members that are left is the end of one of all
  abbrev pub Continues : List Tok → Held Tok Cx states.Seen errors.Seen → Type 0
  Continues left mid =
      (w : Bool) (new : Held Tok Cx states.Seen errors.Seen) (r : Result (Option (Unit {0})) Fault)
      → Ran errors.merged errors.takes_no_memory (MeansMembers source equal errors states left) w mid new r
      → Ran errors.merged errors.takes_no_memory (MeansMembers source equal errors states ms) w old new r

  pub members_begin : (left : List Tok) → left ≡ ms → Continues left old
  members_begin left e w new r h = rw e at h

  pub members_step : (left rest : List Tok) (m : Tok) (mid next : Held Tok Cx states.Seen errors.Seen) → left ≡ m ∷ rest → Continues left mid
      → ((w : Bool) → Ran errors.merged errors.takes_no_memory (MeansMember source equal errors states m) w mid next (Ok None)) → Continues rest next
  members_step left rest m mid next e c k w new r h =
      c w new r (rw e (ran-chained errors.merged errors.takes_no_memory _ _ w mid None next new r (k w) h))

  pub members_fail : (left rest : List Tok) (m : Tok) (mid new : Held Tok Cx states.Seen errors.Seen) {f : Fault} {x y : Result (Unit {0}) Fault} → left ≡ m ∷ rest → Continues left mid
      → ((w : Bool) → Ran errors.merged errors.takes_no_memory (MeansMember source equal errors states m) w mid new (without_value x)) → x ≡ Err f → y ≡ Err f
      → (w : Bool) → Ran errors.merged errors.takes_no_memory (MeansMembers source equal errors states ms) w old new (without_value y)
  members_fail left rest m mid new {f} e c k x y w =
      rw y (c w new (Err f) (rw e (ran-chained_err errors.merged errors.takes_no_memory _ _ w mid new f (rw x at (k w)))))

  pub members_end : (left : List Tok) (mid : Held Tok Cx states.Seen errors.Seen) → left ≡ [] → Continues left mid
      → (w : Bool) → Ran errors.merged errors.takes_no_memory (MeansMembers source equal errors states ms) w old mid (Ok None)
  members_end left mid e c w = c w mid (Ok None) (rw e ran-given)

module _ {I Tok Sp Cu Er St Mk Cx V : Type 0} (source : input_trait.Ghosts I Cu Tok Sp) (equal : Tok → Tok → Bool)
    (errors : error_trait.Ghosts Er I Tok Sp) (states : inspector_trait.Ghosts St I Mk Tok Sp) (copies : V → Type 0)
    (safe : Type 0) (ms : List Tok) (old new : Held Tok Cx states.Seen errors.Seen) where
  -- a member that is not there
  stops : (w : Bool) (f : Fault) → Ran errors.merged errors.takes_no_memory (MeansMembers source equal errors states ms) w old new (Err f)
      → Ran errors.merged errors.takes_no_memory (MeansJust source equal errors states copies safe ms) w old new (Err f)
  stops w f r = ran-chained_err errors.merged errors.takes_no_memory _ _ w old new f r

  pub just_stops : {f : Fault} {x : Result (Unit {0}) Fault} {y : Result V Fault}
      → Ran errors.merged errors.takes_no_memory (MeansMembers source equal errors states ms) true old new (without_value x)
      → x ≡ Err f → y ≡ Err f
      → Ran errors.merged errors.takes_no_memory (MeansJust source equal errors states copies safe ms) true old new (with_value y)
  just_stops {f} r x y = rw y (stops true f (rw x at r))

  pub just_copies : (v : V) → copies v → Ran errors.merged errors.takes_no_memory (MeansMembers source equal errors states ms) true old new (Ok None)
      → Ran errors.merged errors.takes_no_memory (MeansJust source equal errors states copies safe ms) true old new (Ok (Some v))
  just_copies v i r = ran-chained errors.merged errors.takes_no_memory _ _ true old None new new (Ok (Some v)) r (ran-copied i)

  pub just_lacks : (safe → ⊥) → Ran errors.merged errors.takes_no_memory (MeansMembers source equal errors states ms) true old new (Ok None)
      → Ran errors.merged errors.takes_no_memory (MeansJust source equal errors states copies safe ms) true old new (Err (fault.Stop Memory))
  just_lacks may r =
      ran-chained errors.merged errors.takes_no_memory _ _ true old None new new (Err (fault.Stop Memory)) r (ran-lacks_copy may)

  -- all without a copy
  pub just_checks : (x : Result (Unit {0}) Fault) → Ran errors.merged errors.takes_no_memory (MeansMembers source equal errors states ms) false old new (without_value x)
      → Ran errors.merged errors.takes_no_memory (MeansJust source equal errors states copies safe ms) false old new (without_value x)
  just_checks (Ok u) r = ran-chained errors.merged errors.takes_no_memory _ _ false old None new new (Ok None) r ran-uncopied
  just_checks (Err f) r = stops false f r
