-- What tokens leave up to the delimiter that closes what is open.
use Rattle.std.proofs.Common.{◌≡◌, ℕ, ◌<◌, ◌≤◌, ◌-◌, subst, Bool, true, false, Option, Some, None, List, [], ◌∷◌, ◌++◌, refl, sym, ◌∙◌, ap, Result, Ok, Err, inl, inr, length, map, arith}
use Rattle.std.specs.Prelude.{slice_get, take, drop}
use Rattle.std.proofs.Math.ListN.{get_or}
use Rattle.std.proofs.Math.Seq.{take-length, take_all}
use Rattle.chumsky_input.specs.declared.error.Error as error_trait
use Rattle.chumsky_input.specs.declared.inspector.Inspector as inspector_trait
use Rattle.chumsky_input.specs.declared.input.Input as input_trait
use Rattle.chumsky_input.specs.declared.stop.Fault.{Fault}
use Rattle.chumsky_input.specs.declared.stop.Fault.TheVariants as fault
use Rattle.chumsky_input.specs.declared.stop.Stop.TheVariants.{Memory}
use Rattle.chumsky_input.specs.Held.{Held, Marks}
use Rattle.chumsky_input.specs.Wanted as wanted
use Rattle.chumsky_input.specs.Outcome.{Meaning, Outcome}
use Rattle.chumsky_input.specs.Run.{Ran, begin, took, Fails, gone_back, marked_here}
use Rattle.chumsky_parser.specs.Chained.{Chained}
use Rattle.chumsky_parser.specs.Failure.{Misses, expects}
use Rattle.chumsky_parser.proofs.ChainedLemmas.{ran-moved, ran-weaker, ran-given, chained, failed}
use Rattle.chumsky_parser.proofs.FailureLemmas.{ran-yes, ran-halts, ran-misses}
use Rattle.chumsky_primitive.specs.Just.{past, told}
use Rattle.chumsky_primitive.proofs.JustLemmas.{took-is}
use Rattle.chumsky_recovery.specs.declared.nested_delimiters.Role.{Role}
use Rattle.chumsky_recovery.specs.declared.nested_delimiters.Role.TheVariants as role
use Rattle.chumsky_recovery.specs.Nested.{role_among, popped, before_last, role_found, Fits, TakesFitting, AfterClose, AfterRole, TakesFrom, TakesNested}
use Rattle.chumsky_recovery.specs.NestedLaws.{nested-unrolled}

module _ {T Tok : Type 0} (has : T → Tok → Bool) (t : Tok) where
  -- the first of some pairs has the token at its start, at its end, or not at all
  pub among-opens : (rest : List (T × T)) (p : T × T) → 1 ≤ length rest → p ≡ get_or rest 0 p → has p.0 t ≡ true → role_among has rest t ≡ Some (role.Opens p.1)
  among-opens [] p l is h = absurd (omega (arith, l))
  among-opens (q ∷ later) p l is h = subst (λ z. has z.0 t ≡ true → role_among has (q ∷ later) t ≡ Some (role.Opens z.1)) (sym is) (λ k. rw k refl) h

  pub among-misfits : (rest : List (T × T)) (p : T × T) → 1 ≤ length rest → p ≡ get_or rest 0 p → has p.0 t ≡ false → has p.1 t ≡ true → role_among has rest t ≡ None
  among-misfits [] p l is h k = absurd (omega (arith, l))
  among-misfits (q ∷ later) p l is h k = subst (λ z. has z.0 t ≡ false → has z.1 t ≡ true → role_among has (q ∷ later) t ≡ None) (sym is) (λ x y. rw (x, y) refl) h k

  pub among-later : (rest : List (T × T)) (p : T × T) → 1 ≤ length rest → p ≡ get_or rest 0 p → has p.0 t ≡ false
      → has p.1 t ≡ false → role_among has (take (length rest - 1) (drop 1 rest)) t ≡ role_among has rest t
  among-later [] p l is h k = absurd (omega (arith, l))
  among-later (q ∷ later) p l is h k =
      let all : take (length (q ∷ later) - 1) later ≡ later = take_all _ later (omega arith) in
      ap (λ z. role_among has z t) all ∙ subst (λ z. has z.0 t ≡ false → has z.1 t ≡ false → role_among has later t ≡ role_among has (q ∷ later) t) (sym is) (λ x y. rw (x, y) refl) h k

  module _ (i s e : T) (others : List (T × T)) where
    pub found-closes : has i t ≡ true → role_found has ((s, e) ∷ others) i (Some t) ≡ Some role.Closes
    found-closes h = rw h refl

    pub found-opens : has i t ≡ false → has s t ≡ true → role_found has ((s, e) ∷ others) i (Some t) ≡ Some (role.Opens e)
    found-opens h k = rw (h, k) refl

    pub found-misfits : has i t ≡ false → has s t ≡ false → has e t ≡ true → role_found has ((s, e) ∷ others) i (Some t) ≡ None
    found-misfits h k l = rw (h, k, l) refl

    pub found-others : has i t ≡ false → has s t ≡ false → has e t ≡ false → role_found has ((s, e) ∷ others) i (Some t) ≡ role_among has others t
    found-others h k l = rw (h, k, l) refl

-- the last of a list with one more
pub popped-last : {X : Type 0} (xs : List X) (x : X) → popped (xs ++ x ∷ []) ≡ Some (x, xs)
popped-last [] x = refl
popped-last (y ∷ ys) x = ap (before_last y) (popped-last ys x)

module _ {I Tok Sp Cu Er St Mk Cx T : Type 0} (source : input_trait.Ghosts I Cu Tok Sp)
    (errors : error_trait.Ghosts Er I Tok Sp) (states : inspector_trait.Ghosts St I Mk Tok Sp) (has : T → Tok → Bool)
    (members : T → List Tok) (pairs : List (T × T)) (i : T) (w : Bool)
    (old : Held Tok Cx states.Seen errors.Seen) where
  abbrev Fitting : Meaning Tok Cx states.Seen errors.Seen (Role T)
  Fitting = TakesFitting source errors states has members pairs i

  means : (found : Option Tok) (r : Option (Role T)) → found ≡ slice_get old.tokens.list old.place → role_found has pairs i found ≡ r
      → (o : Outcome (Role T) errors.Seen states.Seen) → Fits source errors states has members pairs r i found (begin w old) o → Fitting (begin w old) o
  means found r f e o h = record { by_token = inr (rw (sym f, e) h) }

  pub fitting_unmarked : (states.takes_no_memory → ⊥) → Ran errors.merged errors.takes_no_memory Fitting w old old (Err (fault.Stop Memory))
  fitting_unmarked may = ran-halts errors.merged errors.takes_no_memory Fitting w old old (record { tokens = refl; context = refl }) refl (λ o v s. record { by_token = inl (may, v, s) })

  pub fitting_there : (found : Option Tok) (r : Role T) (mid : Held Tok Cx states.Seen errors.Seen)
      → found ≡ slice_get old.tokens.list old.place → role_found has pairs i found ≡ Some r
      → mid ≡ took states.after old found
      → Ran errors.merged errors.takes_no_memory Fitting w old mid (Ok (Some r))
  fitting_there found r mid f e k =
      rw (k ∙ took-is states.after old found)
      (ran-yes errors.merged errors.takes_no_memory Fitting w old (Some r) (past found old.place) (told states.after found old.state) (means found (Some r) f e _ refl))

  fits_past : (found : Option Tok) (r : Role T) → role_found has pairs i found ≡ Some r → old.place < past found old.place
  fits_past None r e = let no : ⊥ = cc in absurd no
  fits_past (Some t) r e = omega arith

  -- what fits is a token
  pub fitting_onward : (found : Option Tok) (r : Role T) (mid : Held Tok Cx states.Seen errors.Seen) → role_found has pairs i found ≡ Some r → mid ≡ took states.after old found → old.place < mid.place
  fitting_onward found r mid e k =
      let on = fits_past found r e in
      let at : mid.place ≡ past found old.place = ap (λ (z : Held Tok Cx states.Seen errors.Seen). z.place) (k ∙ took-is states.after old found) in
      omega (arith, on, at)

  pub fitting_unrestored : (found : Option Tok) (mid new : Held Tok Cx states.Seen errors.Seen)
      → found ≡ slice_get old.tokens.list old.place → role_found has pairs i found ≡ None
      → mid ≡ took states.after old found → new ≡ mid → (states.takes_no_memory → ⊥)
      → Ran errors.merged errors.takes_no_memory Fitting w old new (Err (fault.Stop Memory))
  fitting_unrestored found mid new f e k n may =
      rw (n ∙ k ∙ took-is states.after old found)
      (ran-halts errors.merged errors.takes_no_memory Fitting w old (record old { place = past found old.place; state = told states.after found old.state }) (record { tokens = refl; context = refl }) refl
      (λ o v s. means found None f e o (inl (may, v, s))))

  back_from : (found : Option Tok) (new : Held Tok Cx states.Seen errors.Seen) (f : Fault) → found ≡ slice_get old.tokens.list old.place → role_found has pairs i found ≡ None
      → Fails errors.merged errors.takes_no_memory
      (expects source errors old.tokens (map wanted.Token (members i)) found old.place (past found old.place))
      (record old { state = states.back (told states.after found old.state) (states.mark old.state) }) new f
      → Ran errors.merged errors.takes_no_memory Fitting w old new (Err f)
  back_from found new f e d k =
      ran-moved (record { tokens = refl; context = refl }) refl refl refl (λ o h. means found None e d o (inr h))
      (ran-misses errors.merged errors.takes_no_memory
      (λ b o. Misses errors.takes_no_memory
      (expects source errors b.tokens (map wanted.Token (members i)) found b.start (past found b.start)) b.start
      (states.back (told states.after found old.state) (states.mark old.state)) o)
      w (record old { state = states.back (told states.after found old.state) (states.mark old.state) }) _ new f k (λ o h. h))

  pub fitting_misses : (found : Option Tok) (k : Marks Tok states.Marked) (to : ℕ) (mid back new : Held Tok Cx states.Seen errors.Seen) (f : Fault)
      → found ≡ slice_get old.tokens.list old.place → role_found has pairs i found ≡ None
      → k ≡ marked_here states.mark old → mid ≡ took states.after old found → to ≡ mid.place
      → back ≡ gone_back states.back mid k
      → Fails errors.merged errors.takes_no_memory (expects source errors k.tokens (map wanted.Token (members i)) found k.place to) back new f
      → Ran errors.merged errors.takes_no_memory Fitting w old new (Err f)
  fitting_misses found k to mid back new f e d q n p g h =
      let uncut : take (length old.emitted) old.emitted ≡ old.emitted = take-length old.emitted in
      let taken = n ∙ took-is states.after old found in
      let there : back ≡ record old { state = states.back (told states.after found old.state) (states.mark old.state) } =
      g ∙ ap (λ (x : Held Tok Cx states.Seen errors.Seen). gone_back states.back x k) taken
      ∙ ap (gone_back states.back (record old { place = past found old.place; state = told states.after found old.state })) q
      ∙ ap (λ es. record old { state = states.back (told states.after found old.state) (states.mark old.state); emitted = es })
      uncut in
      let far : to ≡ past found old.place = p ∙ ap (λ (x : Held Tok Cx states.Seen errors.Seen). x.place) taken in
      back_from found new f e d (rw (there, q, far) at h)

module _ {I Tok Sp Cu Er St Mk Cx T : Type 0} (source : input_trait.Ghosts I Cu Tok Sp)
    (errors : error_trait.Ghosts Er I Tok Sp) (states : inspector_trait.Ghosts St I Mk Tok Sp) (has : T → Tok → Bool)
    (members : T → List Tok) (pairs : List (T × T)) (first : T) (w : Bool)
    (old : Held Tok Cx states.Seen errors.Seen) where
  -- whatever is taken from now, with these open, is the end of what is taken from the start
  pub record NestedFrom (i : T) (outer_ones : List T) (now : Held Tok Cx states.Seen errors.Seen) : Type 0 where
    pub on : (new : Held Tok Cx states.Seen errors.Seen) (r : Result (Option (Unit {0})) Fault)
        → Ran errors.merged errors.takes_no_memory (TakesFrom source errors states has members pairs i outer_ones) w now new r
        → Ran errors.merged errors.takes_no_memory (TakesNested source errors states has members pairs first) w old new r

module _ {I Tok Sp Cu Er St Mk Cx T : Type 0} {source : input_trait.Ghosts I Cu Tok Sp}
    {errors : error_trait.Ghosts Er I Tok Sp} {states : inspector_trait.Ghosts St I Mk Tok Sp} {has : T → Tok → Bool}
    {members : T → List Tok} {pairs : List (T × T)} {first : T} {w : Bool}
    {old : Held Tok Cx states.Seen errors.Seen} where
  pub nested-begun : NestedFrom source errors states has members pairs first w old first [] old
  nested-begun = record { on = λ new r h. h }

  module _ {i : T} {outer_ones : List T} {now mid : Held Tok Cx states.Seen errors.Seen}
      {x : Result (Option (Role T)) Fault}
      (so : NestedFrom source errors states has members pairs first w old i outer_ones now)
      (h : Ran errors.merged errors.takes_no_memory (TakesFitting source errors states has members pairs i) w now mid x) where
    abbrev Next : Option (Role T) → Meaning Tok Cx states.Seen errors.Seen (Unit {0})
    Next = AfterRole source errors states has members pairs (TakesFrom source errors states has members pairs) i outer_ones

    unrolls : {new : Held Tok Cx states.Seen errors.Seen} {r : Result (Option (Unit {0})) Fault}
        → Ran errors.merged errors.takes_no_memory (Chained (TakesFitting source errors states has members pairs i) Next) w now new r
        → Ran errors.merged errors.takes_no_memory (TakesNested source errors states has members pairs first) w old new r
    unrolls {new} {r} k =
        so.on new r
        (ran-weaker errors.merged errors.takes_no_memory
        (Chained (TakesFitting source errors states has members pairs i) Next)
        (TakesFrom source errors states has members pairs i outer_ones) w now new r
        (nested-unrolled source errors states has members pairs i outer_ones (begin w now)) k)

    -- a token that doesn't fit
    pub nested-failed : {f : Fault} {y : Result (Option (Unit {0})) Fault} → x ≡ Err f → y ≡ Err f
        → Ran errors.merged errors.takes_no_memory (TakesNested source errors states has members pairs first) w old mid y
    nested-failed e d = unrolls (failed h e d)

    -- one that closes all that is open
    pub nested-closed : x ≡ Ok (Some role.Closes) → outer_ones ≡ [] → Ran errors.merged errors.takes_no_memory (TakesNested source errors states has members pairs first) w old mid (Ok None)
    nested-closed e d =
        unrolls
        (chained h e
        (ran-weaker errors.merged errors.takes_no_memory
        (AfterClose source errors states has members pairs (TakesFrom source errors states has members pairs) None)
        (Next (Some role.Closes)) w mid mid (Ok None) (λ o m. rw d m) ran-given))

    -- one that closes the innermost
    pub nested-back : (outer : T) (rest : List T) → x ≡ Ok (Some role.Closes) → outer_ones ≡ rest ++ outer ∷ [] → NestedFrom source errors states has members pairs first w old outer rest mid
    nested-back outer rest e d =
        record {
          on = λ new r k. unrolls (chained h e
              (ran-weaker errors.merged errors.takes_no_memory
              (TakesFrom source errors states has members pairs outer rest) (Next (Some role.Closes)) w mid new r
              (λ o m. rw (d, popped-last rest outer) m) k));
        }

    -- one that opens another
    pub nested-opened : (d : T) (more : List T) → x ≡ Ok (Some (role.Opens d)) → more ≡ outer_ones ++ i ∷ [] → NestedFrom source errors states has members pairs first w old d more mid
    nested-opened d more e q =
        record {
          on = λ new r k. unrolls (chained h e
              (ran-weaker errors.merged errors.takes_no_memory (TakesFrom source errors states has members pairs d more) (Next (Some (role.Opens d))) w mid new r (λ o m. inr (rw (sym q) m)) k));
        }

    -- out of memory for it
    pub nested-full : (d : T) {y : Result (Option (Unit {0})) Fault} → x ≡ Ok (Some (role.Opens d))
        → y ≡ Err (fault.Stop Memory)
        → Ran errors.merged errors.takes_no_memory (TakesNested source errors states has members pairs first) w old mid y
    nested-full d e z =
        rw z
        (unrolls
        (chained h e
        (ran-halts errors.merged errors.takes_no_memory (Next (Some (role.Opens d))) w mid mid
        (record { tokens = refl; context = refl }) refl (λ o v s. inl (tt, v, s)))))

    -- one that is no delimiter
    pub nested-other : x ≡ Ok (Some role.Other) → NestedFrom source errors states has members pairs first w old i outer_ones mid
    nested-other e = record { on = λ new r k. unrolls (chained h e k) }
