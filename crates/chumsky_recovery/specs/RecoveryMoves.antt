-- A parser with a strategy moves where it succeeds, since the parser and the strategy do.
-- Main laws: recovered-moves, skip_until-moves, skip_then_retry-moves, nested-moves. Read first: Moves.antt of what moves.
use Rattle.std.proofs.Common.{◌≡◌, ◌≢◌, ℕ, zero, suc, ◌≤◌, ◌<◌, Bool, true, false, nat_eq, Option, Some, None, List, [], refl, sym, ◌∙◌, ap, subst, arith, inl, inr}
use Rattle.std.proofs.lemmas.Bool.{eqb-false}
use Rattle.chumsky_input.specs.declared.error.Error as error_trait
use Rattle.chumsky_input.specs.declared.inspector.Inspector as inspector_trait
use Rattle.chumsky_input.specs.declared.input.Input as input_trait
use Rattle.chumsky_input.specs.Outcome.{Meaning, Beginning, Outcome, Verdict, Yes, No, Halt, Clash, EndsAfterStart}
use Rattle.chumsky_parser.specs.Chained.{Chained, Asked, Given, Follows, from}
use Rattle.chumsky_parser.specs.Choice.{ElseFrom}
use Rattle.chumsky_parser.specs.Ignoring.{Gives, IgnoringFirst}
use Rattle.chumsky_parser.specs.IgnoringLaws.{gives-ends}
use Rattle.chumsky_parser.specs.Laws.{given-ends}
use Rattle.chumsky_primitive.specs.Just.{past}
use Rattle.chumsky_parser.specs.Progress.{IsYes}
use Rattle.chumsky_judge.specs.MapErr.{YesAsOne}
use Rattle.chumsky_judge.specs.Judged.{NoAsOne}
use Rattle.chumsky_parser.specs.Progress.{Moves}
use Rattle.chumsky_parser.specs.ProgressLaws.{yes-answers, misses-no, asked-moves, chained-first}
use Rattle.chumsky_parser.specs.ProgressLaws.{or_else-moves}
use Rattle.chumsky_judge.specs.JudgedMoves.{clash-yes, judged-moves}
use Rattle.chumsky_recovery.specs.Recovered.{Final, Helped, ElseHelp, OrHelp, MarkedOrHelp, MeansRecovered}
use Rattle.chumsky_recovery.specs.Turns.{Turn, Again, Last, AfterTurn, TurnsUpTo, AllTurns}
use Rattle.chumsky_recovery.specs.TurnsLaws.{after_turn-ends, turns-end}
use Rattle.chumsky_recovery.specs.Seeking.{GoesOnIf, SkipsOn, Seeks, FallsBack, MeansSkipUntil, Forgets, Unheard, AfterSeek, RetryTurn, MeansSkipThenRetry}
use Rattle.chumsky_recovery.specs.SeekingLaws.{seeks-end, falls_back-ends, retries-end, retry_turn-ends}
use Rattle.chumsky_recovery.specs.declared.nested_delimiters.Role.{Role}
use Rattle.chumsky_recovery.specs.Nested.{role_found, Fits, TakesFitting, TokensUpTo, TakesNested}
use Rattle.chumsky_recovery.specs.NestedLaws.{after_role-ends, tokens-end}

-- what has a verdict that is no yes does not say yes
is-no : {V Er St : Type 0} {o p : Outcome V Er St} → o ≡ p → (IsYes p.verdict → ⊥) → IsYes o.verdict → ⊥
is-no {V} {Er} {St} e n y = n (subst IsYes (ap (λ (x : Outcome V Er St). x.verdict) e) y)

module _ {Tok Cx St Mk Er V : Type 0} (merged : Er → Er → Er) (final : Final Tok Er) (back : St → Mk → St)
    (safe : Type 0) (mark : Mk) (part help : Meaning Tok Cx St Er V) (hp : Moves part) (hh : Moves help) where
  helped_moves : (v : Verdict V Er) (b : Beginning Tok Cx St) (p q o : Outcome V Er St) → q.verdict ≡ v
      → help (record b { state = back p.state mark }) q → Helped merged final back safe mark v b p q o
      → IsYes o.verdict → b.start < o.end
  helped_moves (Yes v) b p q o e m (inl r) y = absurd (subst IsYes r.1 y)
  helped_moves (Yes v) b p q o e m (inr t) y =
      let on : b.start < q.end = hh (record b { state = back p.state mark }) q m (rw e tt) in
      let l : o.end ≡ q.end = ap (λ (x : Outcome V Er St). x.end) t in
      omega arith
  helped_moves No b p q o e m (inl r) y = absurd (subst IsYes r.1 y)
  helped_moves No b p q o e m (inr t) y = absurd (is-no t (λ z. z) y)
  helped_moves (Halt s) b p q o e m t y = absurd (is-no t (λ z. subst IsYes e z) y)
  helped_moves (Clash x) b p q o e m t y = absurd (is-no t (λ z. subst IsYes e z) y)

  else_help_moves : (v : Verdict V Er) (b : Beginning Tok Cx St) (p o : Outcome V Er St) → part b p → ElseHelp merged final back safe mark v help b p o → IsYes o.verdict → b.start < o.end
  else_help_moves (Yes v) b p o m e y = hp b o (subst (part b) (sym e) m) y
  else_help_moves No b p o m (inl r) y = absurd (subst IsYes r.1 y)
  else_help_moves No b p o m (inr k) y = helped_moves k.0.verdict b p k.0 o refl k.1 k.2 y
  else_help_moves (Halt s) b p o m e y = hp b o (subst (part b) (sym e) m) y
  else_help_moves (Clash x) b p o m e y = hp b o (subst (part b) (sym e) m) y

  or_help-moves : Moves (OrHelp merged final back safe mark part help)
  or_help-moves b o t y = else_help_moves t.attempt.verdict b t.attempt o t.meant t.then_help y

module _ {Tok Cx St Mk Er V : Type 0} (merged : Er → Er → Er) (final : Final Tok Er) (mark : St → Mk) (back : St → Mk → St) (safe : Type 0) (part help : Meaning Tok Cx St Er V) where
  -- a part and its help
  pub recovered-moves : Moves part → Moves help → Moves (MeansRecovered merged final mark back safe part help)
  recovered-moves hp hh b o m y =
      judged-moves (MarkedOrHelp merged final mark back safe part help) (YesAsOne merged) (NoAsOne merged)
      (λ c q n z. elim n.cases [ inl r ↦ absurd (subst IsYes r.1 z) | inr t ↦ or_help-moves merged final back safe (mark c.state) part help hp hh c q t z ])
      (λ c v p q l h z. (let e = ap (λ (x : Outcome V Er St). x.end) (clash-yes h z) in omega (arith, l, e)))
      (λ c p q h z. is-no (clash-yes h z) (λ i. i) z) b o m.run y

module _ {Tok Cx St Er V : Type 0} (turn : Meaning Tok Cx St Er (Turn V)) (ends : EndsAfterStart turn) (moves : Moves turn) where
  turns-move : (n : ℕ) → Moves (TurnsUpTo turn n)
  turns-move zero = λ b o m y. absurd m
  turns-move (suc n) = chained-first turn (AfterTurn (TurnsUpTo turn n)) moves (after_turn-ends (TurnsUpTo turn n) (turns-end turn ends n))

  -- turns that move
  all_turns-move : Moves (AllTurns turn)
  all_turns-move b o m y = turns-move m.turns b o m.run y

module _ {Tok Cx St Er W X : Type 0} (skip : Meaning Tok Cx St Er W) (ends : EndsAfterStart skip) where
  -- it goes on only past its start
  on_past : (start : ℕ) (stuck : Bool) (c : Beginning Tok Cx St) (o : Outcome (Turn X) Er St) → nat_eq c.start start ≡ stuck → start ≤ c.start → GoesOnIf stuck c o → IsYes o.verdict → start < o.end
  on_past start true c o e l g y = absurd (is-no g (λ z. z) y)
  on_past start false c o e l g y =
      let ne : c.start ≢ start = eqb-false c.start start e in
      let at : o.end ≡ c.start = ap (λ (x : Outcome (Turn X) Er St). x.end) g in
      omega (arith, l, ne, at)

  skipped : (b : Beginning Tok Cx St) (p : Outcome W Er St) (o : Outcome (Turn X) Er St) (v : Verdict W Er)
      → p.verdict ≡ v → Asked false skip b p → Follows v (λ _ c. GoesOnIf (nat_eq c.start b.start) c) b p o
      → IsYes o.verdict → b.start < o.end
  skipped b p o (Yes v) e m f y =
      let verdict : o.verdict ≡ f.0.verdict = ap (λ (x : Outcome (Turn X) Er St). x.verdict) f.2 in
      let on : b.start ≤ p.end = ends (record b { wanted = false }) p m.run (rw e tt) in
      let past_it : b.start < f.0.end = on_past b.start (nat_eq p.end b.start) (from b p) f.0 refl on f.1 (subst IsYes verdict y) in
      let last : o.end ≡ f.0.end = ap (λ (x : Outcome (Turn X) Er St). x.end) f.2 in
      omega (arith, past_it, last)
  skipped b p o No e m f y = absurd (is-no f (λ z. z) y)
  skipped b p o (Halt s) e m f y = absurd (is-no f (λ z. z) y)
  skipped b p o (Clash x) e m f y = absurd (is-no f (λ z. z) y)

  -- what is skipped takes something
  pub skips_on-moves : Moves (SkipsOn {X = X} skip)
  skips_on-moves b o m y = skipped b m.run.first o m.run.first.verdict refl m.run.meant m.run.follows y

module _ {Tok Cx St Mk Er U W : Type 0} (mark : St → Mk) (back : St → Mk → St) (safe : Type 0)
    (until : Meaning Tok Cx St Er U) (skip : Meaning Tok Cx St Er W) (eu : EndsAfterStart until)
    (es : EndsAfterStart skip) where
  seeks-move : {X : Type 0} → Moves until → Moves (Seeks {X = X} mark back safe until skip)
  seeks-move h b o m y =
      or_else-moves mark back safe (Chained (Asked false until) (λ _. Given (Some (Last None)))) (SkipsOn skip)
      (chained-first (Asked false until) _ (asked-moves false until h) (λ v. given-ends (Some (Last None))))
      (skips_on-moves skip es) b o m.run y

  -- skipping until something is found that moves
  pub skip_until-moves : {V : Type 0} (gives : V → Type 0) → Moves until → Moves (MeansSkipUntil mark back safe until skip gives)
  skip_until-moves gives h b o m y =
      chained-first (AllTurns {V = Unit {0}} (Seeks mark back safe until skip)) (λ _. FallsBack gives)
      (all_turns-move (Seeks mark back safe until skip) (seeks-end mark back safe until skip eu es) (seeks-move h))
      (λ v. falls_back-ends gives) b o m.run y

  module _ {V : Type 0} where
    found-last : (b : Beginning Tok Cx St) (p : Outcome U Er St) (o : Outcome (Turn V) Er St) (v : Verdict U Er) → Follows v (λ _. Given (Some (Last None))) b p o → o.verdict ≡ Yes (Some Again) → ⊥
    found-last b p o (Yes v) f e =
        let verdict : o.verdict ≡ f.0.verdict = ap (λ (x : Outcome (Turn V) Er St). x.verdict) f.2 in
        let given : f.0.verdict ≡ Yes (Some (Last None)) = ap (λ (x : Outcome (Turn V) Er St). x.verdict) f.1 in
        cc
    found-last b p o No f e = is-no f (λ z. z) (rw e tt)
    found-last b p o (Halt s) f e = is-no f (λ z. z) (rw e tt)
    found-last b p o (Clash x) f e = is-no f (λ z. z) (rw e tt)

    sought : (m : Mk) (v : Verdict (Turn V) Er) (b : Beginning Tok Cx St) (p o : Outcome (Turn V) Er St)
        → Chained (Asked false until) (λ _. Given (Some (Last None))) b p
        → ElseFrom back safe m v (SkipsOn skip) b p o → o.verdict ≡ Yes (Some Again) → b.start < o.end
    sought m (Yes v) b p o n t e = absurd (found-last b n.first p n.first.verdict n.follows (sym (ap (λ (x : Outcome (Turn V) Er St). x.verdict) t) ∙ e))
    sought m No b p o n (inl r) e = absurd (subst IsYes r.1 (rw e tt))
    sought m No b p o n (inr k) e =
        let verdict : o.verdict ≡ k.0.verdict = ap (λ (x : Outcome (Turn V) Er St). x.verdict) k.2 in
        let end : o.end ≡ k.0.end = ap (λ (x : Outcome (Turn V) Er St). x.end) k.2 in
        let yes : IsYes o.verdict = rw e tt in
        let after : b.start < k.0.end = skips_on-moves skip es (record b { state = back p.state m }) k.0 k.1 (subst IsYes verdict yes) in
        omega (arith, after, end)
    sought m (Halt s) b p o n t e = absurd (found-last b n.first p n.first.verdict n.follows (sym (ap (λ (x : Outcome (Turn V) Er St). x.verdict) t) ∙ e))
    sought m (Clash x) b p o n t e = absurd (found-last b n.first p n.first.verdict n.follows (sym (ap (λ (x : Outcome (Turn V) Er St). x.verdict) t) ∙ e))

    -- where another turn follows, something was skipped
    again-past : (b : Beginning Tok Cx St) (o : Outcome (Turn V) Er St) → Seeks mark back safe until skip b o → o.verdict ≡ Yes (Some Again) → b.start < o.end
    again-past b o m e = elim m.run.cases [ inl r ↦ absurd (subst IsYes r.1 (rw e tt)) | inr t ↦ sought (mark b.state) t.attempt.verdict b t.attempt o t.meant t.then_else e ]

module _ {St Er V : Type 0} where
  forgets-only : (v : Verdict V Er) (p o : Outcome V Er St) → Forgets v p o → (o.verdict ≡ p.verdict) × (o.end ≡ p.end)
  forgets-only (Yes v) p o f = (ap (λ (x : Outcome V Er St). x.verdict) f, ap (λ (x : Outcome V Er St). x.end) f)
  forgets-only No p o f = (ap (λ (x : Outcome V Er St). x.verdict) f, ap (λ (x : Outcome V Er St). x.end) f)
  forgets-only (Halt s) p o f = (ap (λ (x : Outcome V Er St). x.verdict) f, ap (λ (x : Outcome V Er St). x.end) f)
  forgets-only (Clash e) p o f = (ap (λ (x : Outcome V Er St). x.verdict) f, ap (λ (x : Outcome V Er St). x.end) f)

module _ {Tok Cx St Mk Er U W V : Type 0} (mark : St → Mk) (back : St → Mk → St) (safe : Type 0)
    (until : Meaning Tok Cx St Er U) (skip : Meaning Tok Cx St Er W) (part : Meaning Tok Cx St Er V)
    (eu : EndsAfterStart until) (es : EndsAfterStart skip) (ep : EndsAfterStart part) where
  retried : (b : Beginning Tok Cx St) (p o : Outcome (Turn V) Er St) (v : Verdict (Turn V) Er) → p.verdict ≡ v
      → Unheard (Seeks mark back safe until skip) b p → Follows v (AfterSeek mark back safe part) b p o
      → IsYes o.verdict → b.start < o.end
  retried b p o (Yes (Some (Last v))) e m f y =
      let verdict : o.verdict ≡ f.0.verdict = ap (λ (x : Outcome (Turn V) Er St). x.verdict) f.2 in
      absurd (is-no f.1 (λ z. z) (subst IsYes verdict y))
  retried b p o (Yes (Some Again)) e m f y =
      let same = forgets-only m.heard.verdict m.heard p m.forgets in
      let first : b.start < m.heard.end = again-past mark back safe until skip eu es b m.heard m.meant (sym same.0 ∙ e) in
      let verdict : o.verdict ≡ f.0.verdict = ap (λ (x : Outcome (Turn V) Er St). x.verdict) f.2 in
      let second : p.end ≤ f.0.end = retries-end mark back safe part ep (from b p) f.0 f.1 (yes-answers f.0.verdict (subst IsYes verdict y)) in
      let last : o.end ≡ f.0.end = ap (λ (x : Outcome (Turn V) Er St). x.end) f.2 in
      let at : p.end ≡ m.heard.end = same.1 in
      omega (arith, first, second, last, at)
  retried b p o (Yes None) e m f y = absurd f.1
  retried b p o No e m f y = absurd (is-no f (λ z. z) y)
  retried b p o (Halt s) e m f y = absurd (is-no f (λ z. z) y)
  retried b p o (Clash x) e m f y = absurd (is-no f (λ z. z) y)

  retry_turn-moves : Moves (RetryTurn mark back safe until skip part)
  retry_turn-moves b o m y = retried b m.run.first o m.run.first.verdict refl m.run.meant m.run.follows y

  -- trying again, each time after something was skipped
  pub skip_then_retry-moves : Moves (MeansSkipThenRetry mark back safe until skip part)
  skip_then_retry-moves = all_turns-move (RetryTurn mark back safe until skip part) (retry_turn-ends mark back safe part until skip eu es ep) retry_turn-moves

module _ {I Tok Sp Cu Er St Mk Cx T : Type 0} (source : input_trait.Ghosts I Cu Tok Sp)
    (errors : error_trait.Ghosts Er I Tok Sp) (states : inspector_trait.Ghosts St I Mk Tok Sp) (has : T → Tok → Bool)
    (members : T → List Tok) (pairs : List (T × T)) where
  fits-move : (r : Option (Role T)) (i : T) (t : Option Tok) (b : Beginning Tok Cx states.Seen)
      (o : Outcome (Role T) errors.Seen states.Seen)
      → role_found has pairs i t ≡ r → Fits source errors states has members pairs r i t b o → IsYes o.verdict
      → b.start < o.end
  fits-move (Some r) i (Some t) b o e h y = let at : o.end ≡ past (Some t) b.start = ap (λ (x : Outcome (Role T) errors.Seen states.Seen). x.end) h in omega (arith, at)
  fits-move (Some r) i None b o e h y = absurd (cc)
  fits-move None i t b o e (inl r) y = absurd (subst IsYes r.1 y)
  fits-move None i t b o e (inr h) y = absurd (misses-no h y)

  fitting-moves : (i : T) → Moves (TakesFitting {Cx = Cx} source errors states has members pairs i)
  fitting-moves i b o h y = elim h.by_token [ inl r ↦ absurd (subst IsYes r.1 y) | inr k ↦ fits-move _ i _ b o refl k y ]

  tokens-move : (n : ℕ) (i : T) (outer_ones : List T) → Moves (TokensUpTo {Cx = Cx} source errors states has members pairs n i outer_ones)
  tokens-move zero i outer_ones = λ b o m y. absurd m
  tokens-move (suc n) i outer_ones =
      chained-first (TakesFitting source errors states has members pairs i) _ (fitting-moves i)
      (after_role-ends source errors states has members pairs
      (TokensUpTo source errors states has members pairs n)
      (tokens-end source errors states has members pairs n) i outer_ones)

  -- tokens up to the one that closes what is open
  pub nested-moves : (i : T) → Moves (IgnoringFirst {W = Unit {0}} (TakesNested {Cx = Cx} source errors states has members pairs i) (Gives tt))
  nested-moves i = chained-first _ _ (asked-moves false _ (λ b o m y. tokens-move m.tokens i [] b o m.run y)) (λ _. gives-ends tt)
