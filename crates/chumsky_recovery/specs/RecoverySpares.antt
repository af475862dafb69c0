-- A parser with a strategy is refused for memory only where the error of a failure is to be emitted, and a strategy only where its
-- parsers are, or where delimiters nest.
-- Main laws: recovered-tells, skip_until-spares, skip_then_retry-spares, closes-nest. Read first: Memory.antt and MemoryLaws.antt of the parser.
use Rattle.std.proofs.Common.{◌≡◌, ℕ, zero, suc, Bool, true, false, cond, Option, Some, None, List, [], ◌≤◌, inl, inr, refl, sym, ◌∙◌, ap, subst, arith}
use Rattle.std.specs.Prelude.{nat_eq, slice_get}
use Rattle.chumsky_input.specs.declared.error.Error as error_trait
use Rattle.chumsky_input.specs.declared.inspector.Inspector as inspector_trait
use Rattle.chumsky_input.specs.declared.input.Input as input_trait
use Rattle.chumsky_input.specs.declared.stop.Stop.TheVariants.{Memory, NoProgress}
use Rattle.chumsky_input.specs.Layout.{Layout}
use Rattle.chumsky_input.specs.Outcome.{Meaning, Beginning, Outcome, Verdict, Yes, No, Halt, Clash}
use Rattle.chumsky_parser.specs.Chained.{Follows, Asked, from}
use Rattle.chumsky_parser.specs.Ignoring.{Gives, IgnoringFirst}
use Rattle.chumsky_parser.specs.Memory.{IsNotMemory, SparesMemory, NeverOutOfMemory}
use Rattle.chumsky_parser.specs.MemoryLaws.{misses-spares, given-spares, gives-spares, no-spares, stops-spares, asked-spares, chained-spares, or_else-spares}
use Rattle.chumsky_judge.specs.Judged.{ByVerdict, NoAsOne}
use Rattle.chumsky_judge.specs.JudgedSpares.{or_clash-spares}
use Rattle.chumsky_judge.specs.MapErr.{YesAsOne}
use Rattle.chumsky_recovery.specs.declared.nested_delimiters.Role.{Role}
use Rattle.chumsky_recovery.specs.declared.nested_delimiters.Role.TheVariants as role
use Rattle.chumsky_recovery.specs.Recovered.{Final, Helped, ElseHelp, MeansRecovered}
use Rattle.chumsky_recovery.specs.Recovery.{Untold, OutOnlyToTell}
use Rattle.chumsky_recovery.specs.Turns.{Turn, Again, Last, AfterTurn, TurnsUpTo, AllTurns}
use Rattle.chumsky_recovery.specs.Seeking.{GoesOnIf, SkipsOn, Seeks, FallsBack, MeansSkipUntil, Forgets, Unheard, GoesOn, IfQuiet, Retries, AfterSeek, RetryTurn, MeansSkipThenRetry}
use Rattle.chumsky_recovery.specs.NestedLaws.{fitting-ends}
use Rattle.chumsky_recovery.specs.Nested.{role_among, role_found, popped, Fits, TakesFitting, AfterClose, AfterRole, TokensUpTo, TakesNested, SomeOpens, OutOnlyToNest}

module _ {V Er St : Type 0} where
  spared : {X : Type 0} (o : Outcome V Er St) → o.verdict ≡ Halt Memory → SparesMemory o.verdict → X
  spared o e h = absurd (subst SparesMemory e h)

module _ {Tok Cx St Mk Er V : Type 0} (merged : Er → Er → Er) (final : Final Tok Er) (mark : St → Mk)
    (back : St → Mk → St) (safe : Type 0) (part help : Meaning Tok Cx St Er V) (still : safe)
    (hp : NeverOutOfMemory part) (hh : NeverOutOfMemory help) where
  helped_tells : (b : Beginning Tok Cx St) (p q f : Outcome V Er St) → part b p → p.verdict ≡ No → help (record b { state = back p.state (mark b.state) }) q → f.verdict ≡ Halt Memory
      → (v : Verdict V Er) → q.verdict ≡ v → Helped merged final back safe (mark b.state) v b p q f → Untold mark back part help b
  helped_tells b p q f m n k e (Yes v) d (inl r) = record { value = v; failure = p; meant = m; fails = n; did = q; helps = k; succeeds = d }
  helped_tells b p q f m n k e (Yes v) d (inr t) = spared f e (rw (ap (λ (x : Outcome V Er St). x.verdict) t) (hh (record b { state = back p.state (mark b.state) }) q k))
  helped_tells b p q f m n k e No d (inl r) = absurd (r.0 still)
  helped_tells b p q f m n k e No d (inr t) = spared f e (rw (ap (λ (x : Outcome V Er St). x.verdict) t) tt)
  helped_tells b p q f m n k e (Halt s) d t = spared f e (rw (ap (λ (x : Outcome V Er St). x.verdict) t) (hh (record b { state = back p.state (mark b.state) }) q k))
  helped_tells b p q f m n k e (Clash s) d t = spared f e (rw (ap (λ (x : Outcome V Er St). x.verdict) t) (hh (record b { state = back p.state (mark b.state) }) q k))

  attempted_tells : (b : Beginning Tok Cx St) (p f : Outcome V Er St) → part b p → f.verdict ≡ Halt Memory
      → (v : Verdict V Er) → p.verdict ≡ v → ElseHelp merged final back safe (mark b.state) v help b p f
      → Untold mark back part help b
  attempted_tells b p f m e (Yes v) d t = spared f e (rw (ap (λ (x : Outcome V Er St). x.verdict) t) (hp b p m))
  attempted_tells b p f m e No d (inl r) = absurd (r.0 still)
  attempted_tells b p f m e No d (inr k) = helped_tells b p k.0 f m d k.1 e k.0.verdict refl k.2
  attempted_tells b p f m e (Halt s) d t = spared f e (rw (ap (λ (x : Outcome V Er St). x.verdict) t) (hp b p m))
  attempted_tells b p f m e (Clash s) d t = spared f e (rw (ap (λ (x : Outcome V Er St). x.verdict) t) (hp b p m))

  same_refusal : (b : Beginning Tok Cx St) (f o : Outcome V Er St) → o.verdict ≡ Halt Memory → (v : Verdict V Er)
      → f.verdict ≡ v → ByVerdict v (YesAsOne merged) (NoAsOne merged) b f o → f.verdict ≡ Halt Memory
  same_refusal b f o e (Yes v) d j = spared o e (or_clash-spares _ o tt j)
  same_refusal b f o e No d j = spared o e (or_clash-spares _ o tt j)
  same_refusal b f o e (Halt s) d j = d ∙ sym (ap (λ (x : Outcome V Er St). x.verdict) j) ∙ e
  same_refusal b f o e (Clash s) d j = spared o e (rw (ap (λ (x : Outcome V Er St). x.verdict) j) tt)

  -- a refusal for memory of the whole is one for the error of a failure
  pub recovered-tells : OutOnlyToTell mark back part help (MeansRecovered merged final mark back safe part help)
  recovered-tells b o m e =
      let wants = same_refusal b m.run.first o e m.run.first.verdict refl m.run.judges in
      elim m.run.meant.cases [
        | inl r ↦ absurd (r.0 still)
        | inr t ↦ attempted_tells b t.attempt m.run.first t.meant wants t.attempt.verdict refl t.then_help
      ]

module _ {Tok Cx St Er V : Type 0} (turn : Meaning Tok Cx St Er (Turn V)) (h : NeverOutOfMemory turn) where
  after_turn-spares : (next : Meaning Tok Cx St Er V) → NeverOutOfMemory next → (t : Option (Turn V)) → NeverOutOfMemory (AfterTurn next t)
  after_turn-spares next k (Some Again) = k
  after_turn-spares next k (Some (Last v)) = given-spares v
  after_turn-spares next k None = λ b o m. absurd m

  turns-spare : (n : ℕ) → NeverOutOfMemory (TurnsUpTo turn n)
  turns-spare zero = λ b o m. absurd m
  turns-spare (suc n) = chained-spares turn _ h (after_turn-spares (TurnsUpTo turn n) (turns-spare n))

  all_turns-spare : NeverOutOfMemory (AllTurns turn)
  all_turns-spare b o m = turns-spare m.turns b o m.run

module _ {Tok Cx St Er X W : Type 0} (skip : Meaning Tok Cx St Er W) (h : NeverOutOfMemory skip) where
  goes_on_if-spares : (stuck : Bool) → NeverOutOfMemory (GoesOnIf {Tok = Tok} {Cx = Cx} {St = St} {Er = Er} {X = X} stuck)
  goes_on_if-spares true = stops-spares NoProgress tt
  goes_on_if-spares false = given-spares (Some Again)

  skips_on-spares : NeverOutOfMemory (SkipsOn {X = X} skip)
  skips_on-spares b o m = chained-spares (Asked false skip) _ (asked-spares false skip h) (λ v c p n. goes_on_if-spares (nat_eq c.start b.start) c p n) b o m.run

module _ {Tok Cx St Mk Er U W : Type 0} (mark : St → Mk) (back : St → Mk → St) (safe : Type 0) (still : safe)
    (until : Meaning Tok Cx St Er U) (skip : Meaning Tok Cx St Er W) (hu : NeverOutOfMemory until)
    (hs : NeverOutOfMemory skip) where
  seeks-spare : {X : Type 0} → NeverOutOfMemory (Seeks {X = X} mark back safe until skip)
  seeks-spare b o m =
      or_else-spares mark back safe _ (SkipsOn skip) still
      (chained-spares (Asked false until) _ (asked-spares false until hu) (λ _. given-spares (Some (Last None))))
      (skips_on-spares skip hs) b o m.run

  module _ {V : Type 0} (gives : V → Type 0) where
    falls_back-spares : NeverOutOfMemory (FallsBack {Tok = Tok} {Cx = Cx} {St = St} {Er = Er} gives)
    falls_back-spares b o m = given-spares m.value b o m.given

    pub skip_until-spares : NeverOutOfMemory (MeansSkipUntil mark back safe until skip gives)
    skip_until-spares b o m = chained-spares (AllTurns (Seeks mark back safe until skip)) _ (all_turns-spare (Seeks mark back safe until skip) seeks-spare) (λ _. falls_back-spares) b o m.run

  module _ {V : Type 0} (part : Meaning Tok Cx St Er V) (hp : NeverOutOfMemory part) where
    forgets-spare : (p o : Outcome (Turn V) Er St) → SparesMemory p.verdict → (v : Verdict (Turn V) Er) → Forgets v p o → SparesMemory o.verdict
    forgets-spare p o h (Yes v) f = rw (ap (λ (x : Outcome (Turn V) Er St). x.verdict) f) h
    forgets-spare p o h No f = rw (ap (λ (x : Outcome (Turn V) Er St). x.verdict) f) h
    forgets-spare p o h (Halt s) f = rw (ap (λ (x : Outcome (Turn V) Er St). x.verdict) f) h
    forgets-spare p o h (Clash s) f = rw (ap (λ (x : Outcome (Turn V) Er St). x.verdict) f) h

    unheard-spares : NeverOutOfMemory (Unheard (Seeks {X = V} mark back safe until skip))
    unheard-spares b o m = forgets-spare m.heard o (seeks-spare b m.heard m.meant) m.heard.verdict m.forgets

    goes_on-spares : (p : Outcome V Er St) → NeverOutOfMemory {Tok = Tok} {Cx = Cx} (GoesOn mark back safe p)
    goes_on-spares p b o (inl r) = absurd (r.0 still)
    goes_on-spares p b o (inr e) = rw (ap (λ (x : Outcome (Turn V) Er St). x.verdict) e) tt

    if_quiet-spares : (b : Beginning Tok Cx St) (p : Outcome V Er St) (o : Outcome (Turn V) Er St)
        → SparesMemory p.verdict → (v : Verdict V Er) → p.verdict ≡ v → IfQuiet mark back safe v p b o
        → SparesMemory o.verdict
    if_quiet-spares b p o h (Yes v) d (inl q) = rw (ap (λ (x : Outcome (Turn V) Er St). x.verdict) q.1) tt
    if_quiet-spares b p o h (Yes v) d (inr g) = goes_on-spares p b o g.1
    if_quiet-spares b p o h No d g = goes_on-spares p b o g
    if_quiet-spares b p o h (Halt s) d e =
        let stops : IsNotMemory s = subst SparesMemory d h in
        rw (ap (λ (x : Outcome (Turn V) Er St). x.verdict) e) stops
    if_quiet-spares b p o h (Clash s) d e = rw (ap (λ (x : Outcome (Turn V) Er St). x.verdict) e) tt

    retries-spare : NeverOutOfMemory (Retries mark back safe part)
    retries-spare b o m = elim m.cases [ inl r ↦ absurd (r.0 still) | inr k ↦ if_quiet-spares b k.0 o (hp b k.0 k.1) k.0.verdict refl k.2 ]

    after_seek-spares : (t : Option (Turn V)) → NeverOutOfMemory (AfterSeek mark back safe part t)
    after_seek-spares (Some (Last v)) = no-spares
    after_seek-spares (Some Again) = retries-spare
    after_seek-spares None = λ b o m. absurd m

    retry_turn-spares : NeverOutOfMemory (RetryTurn mark back safe until skip part)
    retry_turn-spares b o m = chained-spares (Unheard (Seeks mark back safe until skip)) (AfterSeek mark back safe part) unheard-spares after_seek-spares b o m.run

    pub skip_then_retry-spares : NeverOutOfMemory (MeansSkipThenRetry mark back safe until skip part)
    skip_then_retry-spares = all_turns-spare (RetryTurn mark back safe until skip part) retry_turn-spares

later : {T Tok : Type 0} {has : T → Tok → Bool} {pairs : List (T × T)} {ts : Layout Tok} (a b : ℕ) → a ≤ b → SomeOpens has pairs ts b → SomeOpens has pairs ts a
later a b l s = record { place = s.place; onward = omega (arith, l, s.onward); token = s.token; closing = s.closing; stands = s.stands; opens = s.opens }

opens_among : {T Tok : Type 0} (has : T → Tok → Bool) (pairs : List (T × T)) (i d : T) (t : Tok) (x : Bool)
    → cond x (Some role.Closes) (role_among has pairs t) ≡ Some (role.Opens d)
    → role_among has pairs t ≡ Some (role.Opens d)
opens_among has pairs i d t true e = absurd cc
opens_among has pairs i d t false e = e

module _ {I Tok Sp Cu Er St Mk Cx T : Type 0} (source : input_trait.Ghosts I Cu Tok Sp)
    (errors : error_trait.Ghosts Er I Tok Sp) (states : inspector_trait.Ghosts St I Mk Tok Sp) (has : T → Tok → Bool)
    (members : T → List Tok) (pairs : List (T × T)) (quiet : errors.takes_no_memory)
    (still : states.takes_no_memory) where
  fits-spare : (r : Option (Role T)) (i : T) (t : Option Tok) (b : Beginning Tok Cx states.Seen)
      (o : Outcome (Role T) errors.Seen states.Seen)
      → Fits source errors states has members pairs r i t b o → SparesMemory o.verdict
  fits-spare (Some r) i t b o h = rw (ap (λ (x : Outcome (Role T) errors.Seen states.Seen). x.verdict) h) tt
  fits-spare None i t b o (inl r) = absurd (r.0 still)
  fits-spare None i t b o (inr h) = misses-spares quiet h

  fitting-spares : (i : T) → NeverOutOfMemory (TakesFitting {Cx = Cx} source errors states has members pairs i)
  fitting-spares i b o m = elim m.by_token [ inl r ↦ absurd (r.0 still) | inr h ↦ fits-spare _ i _ b o h ]

  some_opens : (i d : T) (b : Beginning Tok Cx states.Seen) (t : Option Tok) → slice_get b.tokens.list b.start ≡ t
      → role_found has pairs i t ≡ Some (role.Opens d) → SomeOpens has pairs b.tokens b.start
  some_opens i d b None e f = absurd cc
  some_opens i d b (Some t) e f = record { place = b.start; onward = omega arith; token = t; closing = d; stands = e; opens = opens_among has pairs i d t (has i t) f }

  fits_role : (x : Option (Role T)) (r : Role T) (i : T) (t : Option Tok) (b : Beginning Tok Cx states.Seen)
      (o : Outcome (Role T) errors.Seen states.Seen)
      → Fits source errors states has members pairs x i t b o → o.verdict ≡ Yes (Some r) → x ≡ Some r
  fits_role (Some x) r i t b o h e = let is : o.verdict ≡ Yes (Some x) = ap (λ (x : Outcome (Role T) errors.Seen states.Seen). x.verdict) h in cc (is, e)
  fits_role None r i t b o (inl h) e = absurd (h.0 still)
  fits_role None r i t b o (inr (inl h)) e = absurd (h.0 quiet)
  fits_role None r i t b o (inr (inr h)) e = elim h.by [ inl x ↦ absurd cc | inr x ↦ absurd cc ]

  opened : (i d : T) (b : Beginning Tok Cx states.Seen) (p : Outcome (Role T) errors.Seen states.Seen)
      → TakesFitting source errors states has members pairs i b p → p.verdict ≡ Yes (Some (role.Opens d))
      → SomeOpens has pairs b.tokens b.start
  opened i d b p m e = elim m.by_token [ inl r ↦ absurd (r.0 still) | inr h ↦ some_opens i d b (slice_get b.tokens.list b.start) refl (fits_role _ (role.Opens d) i _ b p h e) ]

  module _ (next : T → List T → Meaning Tok Cx states.Seen errors.Seen (Unit {0})) (h : (j : T) (os : List T) → OutOnlyToNest has pairs (next j os)) where
    after_close-nests : (x : Option (T × List T)) → OutOnlyToNest has pairs (AfterClose source errors states has members pairs next x)
    after_close-nests None b o m e = spared o e (given-spares None b o m)
    after_close-nests (Some x) b o m e = h x.0 x.1 b o m e

    fitting_nests : (i : T) (outer_ones : List T) (b : Beginning Tok Cx states.Seen)
        (p : Outcome (Role T) errors.Seen states.Seen) (o : Outcome (Unit {0}) errors.Seen states.Seen)
        → TakesFitting source errors states has members pairs i b p → o.verdict ≡ Halt Memory
        → (u : Verdict (Role T) errors.Seen) → p.verdict ≡ u → Follows u (AfterRole source errors states has members pairs next i outer_ones) b p o → SomeOpens has pairs b.tokens b.start
    fitting_nests i os b p o m e (Yes (Some role.Closes)) d f =
        later b.start p.end (fitting-ends source errors states has members pairs i b p m (rw d tt))
        (after_close-nests (popped os) (from b p) f.0 f.1
        (sym (ap (λ (x : Outcome (Unit {0}) errors.Seen states.Seen). x.verdict) f.2) ∙ e))
    fitting_nests i os b p o m e (Yes (Some (role.Opens c))) d f = opened i c b p m d
    fitting_nests i os b p o m e (Yes (Some role.Other)) d f =
        later b.start p.end (fitting-ends source errors states has members pairs i b p m (rw d tt))
        (h i os (from b p) f.0 f.1 (sym (ap (λ (x : Outcome (Unit {0}) errors.Seen states.Seen). x.verdict) f.2) ∙ e))
    fitting_nests i os b p o m e (Yes None) d f = absurd f.1
    fitting_nests i os b p o m e No d f = spared o e (rw (ap (λ (x : Outcome (Unit {0}) errors.Seen states.Seen). x.verdict) f) tt)
    fitting_nests i os b p o m e (Halt s) d f =
        let stops : IsNotMemory s = subst SparesMemory d (fitting-spares i b p m) in
        spared o e (rw (ap (λ (x : Outcome (Unit {0}) errors.Seen states.Seen). x.verdict) f) stops)
    fitting_nests i os b p o m e (Clash s) d f = spared o e (rw (ap (λ (x : Outcome (Unit {0}) errors.Seen states.Seen). x.verdict) f) tt)

  tokens-nest : (n : ℕ) (i : T) (outer_ones : List T) → OutOnlyToNest has pairs (TokensUpTo {Cx = Cx} source errors states has members pairs n i outer_ones)
  tokens-nest zero i os b o m e = absurd m
  tokens-nest (suc n) i os b o m e = fitting_nests (TokensUpTo source errors states has members pairs n) (tokens-nest n) i os b m.first o m.meant e m.first.verdict refl m.follows

  closing_nests : (i : T) (b : Beginning Tok Cx states.Seen) (p o : Outcome (Unit {0}) errors.Seen states.Seen)
      → Asked false (TakesNested source errors states has members pairs i) b p → o.verdict ≡ Halt Memory
      → (u : Verdict (Unit {0}) errors.Seen) → p.verdict ≡ u → Follows u (λ _. Gives {V = Unit {0}} tt) b p o → SomeOpens has pairs b.tokens b.start
  closing_nests i b p o m e (Yes v) d f = spared o e (rw (ap (λ (x : Outcome (Unit {0}) errors.Seen states.Seen). x.verdict) f.2) (gives-spares tt (from b p) f.0 f.1))
  closing_nests i b p o m e No d f = spared o e (rw (ap (λ (x : Outcome (Unit {0}) errors.Seen states.Seen). x.verdict) f) tt)
  closing_nests i b p o m e (Halt s) d f = tokens-nest m.run.tokens i [] (record b { wanted = false }) p m.run.run (d ∙ sym (ap (λ (x : Outcome (Unit {0}) errors.Seen states.Seen). x.verdict) f) ∙ e)
  closing_nests i b p o m e (Clash s) d f = spared o e (rw (ap (λ (x : Outcome (Unit {0}) errors.Seen states.Seen). x.verdict) f) tt)

  -- a refusal for memory is one for a delimiter that a token opens
  pub closes-nest : (i : T) → OutOnlyToNest has pairs (IgnoringFirst {Cx = Cx} (TakesNested source errors states has members pairs i) (Gives {V = Unit {0}} tt))
  closes-nest i b o m e = closing_nests i b m.first o m.meant e m.first.verdict refl m.follows
