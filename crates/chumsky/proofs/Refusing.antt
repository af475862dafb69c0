-- A run over a whole input is refused as its parser is, or for memory.
use Rattle.std.proofs.Common.{◌≡◌, ℕ, ◌≤◌, Bool, false, length, Option, Some, None, refl, sym, ◌∙◌, ap, subst, arith, Result, Ok, Err, ◌⊎◌, inl, inr, slice_get}
use Rattle.std.specs.Prelude.{⊤, IfErr}
use Rattle.chumsky_input.specs.Layout.{Layout}
use Rattle.chumsky_input.specs.declared.error.Error as error_trait
use Rattle.chumsky_input.specs.declared.inspector.Inspector as inspector_trait
use Rattle.chumsky_input.specs.declared.input.Input as input_trait
use Rattle.chumsky_input.specs.declared.stop.Stop.{Stop}
use Rattle.chumsky_input.specs.declared.stop.Stop.TheVariants.{Memory}
use Rattle.chumsky_input.specs.Outcome.{Event, Meaning, Beginning, Outcome, Verdict, Yes, No, Halt, Clash}
use Rattle.chumsky_parser.specs.Settled.{RefusesBy}
use Rattle.chumsky_parser.specs.Chained.{Chained, Follows, Given, Asked, from}
use Rattle.chumsky_parser.specs.Failure.{Refuses, Misses, FailsAt}
use Rattle.chumsky_parser.specs.Language.{Language}
use Rattle.chumsky_parser.specs.declared.result.ParseResult.{ParseResult}
use Rattle.chumsky_primitive.specs.End.{MeansEnd, MeansEndAt}
use Rattle.chumsky_rules.specs.Tables.{Tables}
use Rattle.chumsky_recursive.specs.Refused.{IsRefusedAsLeaves, RefusesAsLeaves}
use Rattle.chumsky.specs.Answer.{WholeRun, Parses}

module _ {V Er : Type 0} where
  -- a verdict that halts
  abbrev IsHalt : Verdict V Er → Type 0
  IsHalt (Yes v) = ⊥
  IsHalt No = ⊥
  IsHalt (Halt s) = ⊤
  IsHalt (Clash e) = ⊥

  -- its stop
  abbrev stop_of : Verdict V Er → Stop
  stop_of (Yes v) = Memory
  stop_of No = Memory
  stop_of (Halt s) = s
  stop_of (Clash e) = Memory

  -- one verdict halts by one stop
  one-stop : (v : Verdict V Er) (s z : Stop) → v ≡ Halt s → v ≡ Halt z → s ≡ z
  one-stop v s z e d = ap stop_of (sym e ∙ d)

  -- what halts is no other verdict
  halts-not : (v x : Verdict V Er) (s : Stop) → v ≡ Halt s → v ≡ x → IsHalt x
  halts-not v x s e d = subst IsHalt (sym e ∙ d) tt

module _ {V Er St : Type 0} (o : Outcome V Er St) (s : Stop) (h : o.verdict ≡ Halt s) where
  refuses-memory : (may : Type 0) (state : St) → Refuses may state o → s ≡ Memory
  refuses-memory may state r = one-stop o.verdict s Memory h r.1

  fails-not : (e : Event Er) (end : ℕ) (state : St) → FailsAt e end state o → s ≡ Memory
  fails-not e end state f = elim f.by [ inl n ↦ absurd (halts-not o.verdict No s h n.0) | inr c ↦ absurd (halts-not o.verdict (Clash e) s h c.0) ]

  misses-memory : (safe : Type 0) (e : Event Er) (end : ℕ) (state : St) → Misses safe e end state o → s ≡ Memory
  misses-memory safe e end state (inl r) = refuses-memory (safe → ⊥) state r
  misses-memory safe e end state (inr f) = fails-not e end state f

module _ {V Er St : Type 0} where
  -- a call whose answer is refused was so for memory, or as the run was
  by_verdict : (safe : Type 0) (v : Verdict V Er) (o : Outcome V Er St) (s : Stop) → RefusesBy safe v o s → (s ≡ Memory) ⊎ (v ≡ Halt s)
  by_verdict safe (Yes v) o s r = absurd r
  by_verdict safe No o s r = inl r
  by_verdict safe (Halt z) o s r = inr (ap Halt (sym r))
  by_verdict safe (Clash e) o s r = inl r.0

  verdict_of : {o q : Outcome V Er St} → o ≡ q → o.verdict ≡ q.verdict
  verdict_of e = ap (λ (x : Outcome V Er St). x.verdict) e

module _ {I Tok Sp Cu Er St Mk Cx : Type 0} (source : input_trait.Ghosts I Cu Tok Sp) (errors : error_trait.Ghosts Er I Tok Sp) (states : inspector_trait.Ghosts St I Mk Tok Sp) where
  end_at-memory : (t : Option Tok) (b : Beginning Tok Cx states.Seen) (o : Outcome (Unit {0}) errors.Seen states.Seen) (s : Stop)
      → o.verdict ≡ Halt s → MeansEndAt source errors states t b o → s ≡ Memory
  end_at-memory None b o s h m = absurd (halts-not o.verdict (Yes _) s h (verdict_of m))
  end_at-memory (Some t) b o s h (inl r) = refuses-memory o s h _ _ r
  end_at-memory (Some t) b o s h (inr m) = misses-memory o s h _ _ _ _ m

  -- the end of input is refused for memory alone
  end-memory : (b : Beginning Tok Cx states.Seen) (o : Outcome (Unit {0}) errors.Seen states.Seen) (s : Stop) → o.verdict ≡ Halt s → MeansEnd source errors states b o → s ≡ Memory
  end-memory b o s h m = elim m.by_token [ inl r ↦ refuses-memory o s h _ _ r | inr k ↦ end_at-memory (slice_get b.tokens.list b.start) b o s h k ]

  module _ {V : Type 0} where
    rest_memory : (v : Option V) (b : Beginning Tok Cx states.Seen) (q : Outcome V errors.Seen states.Seen) (s : Stop)
        → q.verdict ≡ Halt s → (p : Outcome (Unit {0}) errors.Seen states.Seen)
        → Asked false (MeansEnd source errors states) b p
        → (x : Verdict (Unit {0}) errors.Seen) → p.verdict ≡ x → Follows x (λ _. Given v) b p q → s ≡ Memory
    rest_memory v b q s h p m (Yes u) e f = absurd (halts-not q.verdict (Yes v) s h (verdict_of f.2 ∙ verdict_of f.1))
    rest_memory v b q s h p m No e f = absurd (halts-not q.verdict No s h (verdict_of f))
    rest_memory v b q s h p m (Halt z) e f = one-stop q.verdict s z h (verdict_of f) ∙ end-memory (record b { wanted = false }) p z e m.run
    rest_memory v b q s h p m (Clash c) e f = absurd (halts-not q.verdict (Clash c) s h (verdict_of f))

    -- the whole is refused for memory, or as its parser is
    whole_refused : (b : Beginning Tok Cx states.Seen) (o : Outcome V errors.Seen states.Seen) (s : Stop) → o.verdict ≡ Halt s → (p : Outcome V errors.Seen states.Seen)
        → (x : Verdict V errors.Seen) → p.verdict ≡ x → Follows x (λ v. Chained (Asked false (MeansEnd source errors states)) (λ _. Given v)) b p o → (s ≡ Memory) ⊎ (p.verdict ≡ Halt s)
    whole_refused b o s h p (Yes v) e f = inl (rest_memory v (from b p) f.0 s (sym (verdict_of f.2) ∙ h) f.1.first f.1.meant f.1.first.verdict refl f.1.follows)
    whole_refused b o s h p No e f = absurd (halts-not o.verdict No s h (verdict_of f))
    whole_refused b o s h p (Halt z) e f = inr (e ∙ (sym (verdict_of f) ∙ h))
    whole_refused b o s h p (Clash c) e f = absurd (halts-not o.verdict (Clash c) s h (verdict_of f))

module _ {I Tok Sp Cu Er St Mk Cx V W : Type 0} (source : input_trait.Ghosts I Cu Tok Sp) (errors : error_trait.Ghosts Er I Tok Sp) (states : inspector_trait.Ghosts St I Mk Tok Sp) where
  -- where `parse` or `check` of well-founded rules is refused, that is for memory, or as a leaf is
  pub parses-refused : (leaf : ℕ → Meaning Tok Cx states.Seen errors.Seen V) (g : Tables) (tokens : ℕ) (m : Meaning Tok Cx states.Seen errors.Seen V) → IsRefusedAsLeaves leaf g tokens m
      → (is_default : Cx → Type 0) (steady : Type 0) (same : V → V → Type 0) (language : Language Tok V)
      (gives : W → Option V) (wanted : Bool) (ts : Layout Tok) (old new : states.Seen)
      (result : Result (ParseResult W Er) Stop)
      → length ts.list ≤ tokens
      → Parses source errors states is_default steady same language gives (WholeRun source errors states m) wanted ts old new result → IfErr result (RefusesAsLeaves leaf g ts)
  parses-refused leaf g tokens m k is_default steady same language gives wanted ts old new (Ok parsed) few p = tt
  parses-refused leaf g tokens m k is_default steady same language gives wanted ts old new (Err s) few p =
      let b : Beginning Tok Cx states.Seen = record { wanted = wanted; tokens = ts; start = 0; context = p.context; state = old } in
      elim (by_verdict errors.takes_no_memory p.outcome.verdict p.outcome s p.answered) [
        | inl e ↦ inl e
        | inr h
            ↦ elim (whole_refused source errors states b p.outcome s h p.meant.first p.meant.first.verdict refl p.meant.follows)
            [ inl e ↦ inl e | inr w ↦ k.refused b p.meant.first few (omega arith) p.meant.meant s w ]
      ]
