-- Primitives that move where they succeed: each takes a token.
-- Main laws: any-moves, tested-moves, select-moves, just-moves. Read first: Any.antt, OneOf.antt, Select.antt, Just.antt.
use Rattle.std.proofs.Common.{◌≡◌, ℕ, ◌≤◌, ◌<◌, Bool, true, false, Option, Some, None, List, [], ◌∷◌, ap, subst, arith, inl, inr}
use Rattle.chumsky_input.specs.declared.error.Error as error_trait
use Rattle.chumsky_input.specs.declared.inspector.Inspector as inspector_trait
use Rattle.chumsky_input.specs.declared.input.Input as input_trait
use Rattle.chumsky_input.specs.Wanted.{Wanted}
use Rattle.chumsky_input.specs.Outcome.{Beginning, Outcome, IsAnswer, EndsAfterStart}
use Rattle.chumsky_parser.specs.FailureLaws.{misses-ends}
use Rattle.chumsky_parser.specs.IgnoringLaws.{copy-ends}
use Rattle.chumsky_parser.specs.Laws.{chained-ends, given-ends}
use Rattle.chumsky_primitive.specs.Any.{MeansAny, MeansAnyAt, CountsAs}
use Rattle.chumsky_primitive.specs.OneOf as one_of
use Rattle.chumsky_primitive.specs.OneOf.{MeansTested}
use Rattle.chumsky_primitive.specs.Just.{has_members, past, is_member, MeansMemberFound, MeansMember, MeansMembers, MeansJust}
use Rattle.chumsky_primitive.specs.Select.{Picks, MeansAnswer, MeansSelect, MeansSelectAt}
use Rattle.chumsky_parser.specs.Progress.{IsYes, Moves}
use Rattle.chumsky_parser.specs.ProgressLaws.{misses-no, chained-first}

module _ {I Tok Sp Cu Er St Mk Cx V : Type 0} (source : input_trait.Ghosts I Cu Tok Sp) (IsOf : Tok → V → Type 0)
    (safe : Tok → Type 0) (errors : error_trait.Ghosts Er I Tok Sp)
    (states : inspector_trait.Ghosts St I Mk Tok Sp) where
  any_moves : (t : Option Tok) (b : Beginning Tok Cx states.Seen) (o : Outcome V errors.Seen states.Seen) → MeansAnyAt source IsOf safe errors states t b o → IsYes o.verdict → b.start < o.end
  any_moves (Some t) b o (inl r) y = absurd (subst IsYes r.1 y)
  any_moves (Some t) b o (inr m) y = omega (arith, ap (λ (x : Outcome V errors.Seen states.Seen). x.end) m.outcome)
  any_moves None b o m y = absurd (misses-no m y)

  pub any-moves : Moves (MeansAny {Cx = Cx} source IsOf safe errors states)
  any-moves b o m y = any_moves _ b o m.by_token y

module _ {I Tok Sp Cu Er St Mk Cx S : Type 0} (source : input_trait.Ghosts I Cu Tok Sp) (seen : Tok → S)
    (safe : Tok → Type 0) (errors : error_trait.Ghosts Er I Tok Sp) (states : inspector_trait.Ghosts St I Mk Tok Sp)
    (what : List (Wanted Tok)) where
  tested_moves : (t : Option Tok) (e : Bool) (b : Beginning Tok Cx states.Seen) (o : Outcome Tok errors.Seen states.Seen)
      → one_of.MeansFound source seen safe errors states what t e b o → IsYes o.verdict → b.start < o.end
  tested_moves t true b o m y = any-moves source (CountsAs seen) safe errors states b o m y
  tested_moves t false b o (inl r) y = absurd (subst IsYes r.1 y)
  tested_moves t false b o (inr (inl r)) y = absurd (subst IsYes r.1 y)
  tested_moves t false b o (inr (inr m)) y = absurd (misses-no m y)

  pub tested-moves : (test : Tok → Bool) → Moves (MeansTested {Cx = Cx} source seen safe errors states test what)
  tested-moves test b o m y = tested_moves _ _ b o m.by_token y

module _ {I Tok Sp Cu Er St Mk Cx V : Type 0} (source : input_trait.Ghosts I Cu Tok Sp) (safe : Tok → Type 0)
    (errors : error_trait.Ghosts Er I Tok Sp) (states : inspector_trait.Ghosts St I Mk Tok Sp)
    (picks : Picks Tok Cx states.Seen V) where
  answer_moves : (t : Tok) (r : Option V) (s : states.Seen) (b : Beginning Tok Cx states.Seen) (o : Outcome V errors.Seen states.Seen)
      → MeansAnswer source safe errors states t r s b o → IsYes o.verdict → b.start < o.end
  answer_moves t (Some v) s b o m y = omega (arith, ap (λ (x : Outcome V errors.Seen states.Seen). x.end) m)
  answer_moves t None s b o (inl x) y = absurd (subst IsYes x.1 y)
  answer_moves t None s b o (inr m) y = absurd (misses-no m y)

  select_moves : (t : Option Tok) (b : Beginning Tok Cx states.Seen) (o : Outcome V errors.Seen states.Seen) → MeansSelectAt source safe errors states picks t b o → IsYes o.verdict → b.start < o.end
  select_moves (Some t) b o (inl r) y = absurd (subst IsYes r.1 y)
  select_moves (Some t) b o (inr m) y = answer_moves t m.answer m.state b o m.outcome y
  select_moves None b o m y = absurd (misses-no m y)

  pub select-moves : Moves (MeansSelect source safe errors states picks)
  select-moves b o m y = elim m.by_token [ inl r ↦ absurd (subst IsYes r.1 y) | inr h ↦ select_moves _ b o h y ]

past-after : {Tok : Type 0} (t : Option Tok) (p : ℕ) → p ≤ past t p
past-after None p = omega arith
past-after (Some t) p = omega arith

module _ {I Tok Sp Cu Er St Mk Cx : Type 0} (source : input_trait.Ghosts I Cu Tok Sp) (equal : Tok → Tok → Bool)
    (errors : error_trait.Ghosts Er I Tok Sp) (states : inspector_trait.Ghosts St I Mk Tok Sp) where
  taken_moves : (m t : Tok) (e : Bool) (b : Beginning Tok Cx states.Seen) (o : Outcome (Unit {0}) errors.Seen states.Seen)
      → MeansMemberFound source equal errors states m (Some t) e b o → IsYes o.verdict → b.start < o.end
  taken_moves m t true b o h y = omega (arith, ap (λ (x : Outcome (Unit {0}) errors.Seen states.Seen). x.end) h)
  taken_moves m t false b o (inl r) y = absurd (subst IsYes r.1 y)
  taken_moves m t false b o (inr h) y = absurd (misses-no h y)

  found_moves : (m : Tok) (t : Option Tok) (b : Beginning Tok Cx states.Seen) (o : Outcome (Unit {0}) errors.Seen states.Seen)
      → MeansMemberFound source equal errors states m t (is_member equal m t) b o → IsYes o.verdict → b.start < o.end
  found_moves m (Some t) b o h y = taken_moves m t (equal m t) b o h y
  found_moves m None b o (inl r) y = absurd (subst IsYes r.1 y)
  found_moves m None b o (inr h) y = absurd (misses-no h y)

  member-moves : (m : Tok) → Moves (MeansMember {Cx = Cx} source equal errors states m)
  member-moves m b o h y = elim h.by_token [ inl r ↦ absurd (subst IsYes r.1 y) | inr k ↦ found_moves m _ b o k y ]

  found_ends : (m : Tok) (t : Option Tok) (e : Bool) (b : Beginning Tok Cx states.Seen) (o : Outcome (Unit {0}) errors.Seen states.Seen)
      → MeansMemberFound source equal errors states m t e b o → IsAnswer o.verdict → b.start ≤ o.end
  found_ends m t true b o h a = omega (arith, past-after t b.start, ap (λ (x : Outcome (Unit {0}) errors.Seen states.Seen). x.end) h)
  found_ends m t false b o (inl r) a = absurd (subst IsAnswer r.1 a)
  found_ends m t false b o (inr h) a = misses-ends (λ _ _. Unit {0}) (omega arith) h a

  member-ends : (m : Tok) → EndsAfterStart (MeansMember {Cx = Cx} source equal errors states m)
  member-ends m b o h a = elim h.by_token [ inl r ↦ absurd (subst IsAnswer r.1 a) | inr k ↦ found_ends m _ _ b o k a ]

  members-ends : (ms : List Tok) → EndsAfterStart (MeansMembers {Cx = Cx} source equal errors states ms)
  members-ends [] = given-ends None
  members-ends (m ∷ ms) = chained-ends _ _ (member-ends m) (λ _. members-ends ms)

  members-moves : (ms : List Tok) → has_members ms ≡ true → Moves (MeansMembers {Cx = Cx} source equal errors states ms)
  members-moves [] e = absurd (cc)
  members-moves (m ∷ ms) e = chained-first _ _ (member-moves m) (λ _. members-ends ms)

  pub just-moves : {V : Type 0} (copies : V → Type 0) (safe : Type 0) (ms : List Tok) → has_members ms ≡ true → Moves (MeansJust {Cx = Cx} source equal errors states copies safe ms)
  just-moves copies safe ms e = chained-first _ _ (members-moves ms e) (λ _. copy-ends copies safe)
