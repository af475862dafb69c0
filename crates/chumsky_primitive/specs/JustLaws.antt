-- The laws of a fixed sequence of tokens.
use Rattle.std.proofs.Common.{ℕ, ◌≤◌, Bool, true, false, Option, Some, None, List, [], ◌∷◌, refl, ap, subst, arith, inl, inr}
use Rattle.chumsky_input.specs.declared.error.Error as error_trait
use Rattle.chumsky_input.specs.declared.inspector.Inspector as inspector_trait
use Rattle.chumsky_input.specs.declared.input.Input as input_trait
use Rattle.chumsky_input.specs.Outcome.{Beginning, Outcome, Yes, IsAnswer, Alike, Agree, EndsAfterStart, Agreeing}
use Rattle.chumsky_parser.specs.Copied.{BothCopies}
use Rattle.chumsky_parser.specs.IgnoringLaws.{copy-ends, copy-agrees}
use Rattle.chumsky_parser.specs.Laws.{chained-ends, chained-agrees, given-ends, given-agrees}
use Rattle.chumsky_parser.specs.FailureLaws.{SameUnit, misses-agree, misses-ends}
use Rattle.chumsky_primitive.specs.Just.{past, told, MeansMemberFound, MeansMember, MeansMembers, MeansJust}

pub past-after : {Tok : Type 0} (t : Option Tok) (p : ℕ) → p ≤ past t p
past-after None p = omega arith
past-after (Some t) p = omega arith

module _ {I Tok Sp Cu Er St Mk Cx : Type 0} (source : input_trait.Ghosts I Cu Tok Sp) (equal : Tok → Tok → Bool)
    (errors : error_trait.Ghosts Er I Tok Sp) (states : inspector_trait.Ghosts St I Mk Tok Sp) where
  found_ends : (m : Tok) (t : Option Tok) (e : Bool) (b : Beginning Tok Cx states.Seen) (o : Outcome (Unit {0}) errors.Seen states.Seen)
      → MeansMemberFound source equal errors states m t e b o → IsAnswer o.verdict → b.start ≤ o.end
  found_ends m t true b o h a = omega (arith, past-after t b.start, ap (λ (x : Outcome (Unit {0}) errors.Seen states.Seen). x.end) h)
  found_ends m t false b o (inl r) a = absurd (subst IsAnswer r.1 a)
  found_ends m t false b o (inr h) a = misses-ends SameUnit (omega arith) h a

  member-ends : (m : Tok) → EndsAfterStart (MeansMember {Cx = Cx} source equal errors states m)
  member-ends m b o h a = elim h.by_token [ inl r ↦ absurd (subst IsAnswer r.1 a) | inr k ↦ found_ends m _ _ b o k a ]

  members-ends : (ms : List Tok) → EndsAfterStart (MeansMembers {Cx = Cx} source equal errors states ms)
  members-ends [] = given-ends None
  members-ends (m ∷ ms) = chained-ends _ _ (member-ends m) (λ _. members-ends ms)

  found_agree : (m : Tok) (t : Option Tok) (e : Bool) (b c : Beginning Tok Cx states.Seen)
      (o q : Outcome (Unit {0}) errors.Seen states.Seen)
      → Alike b c → MeansMemberFound source equal errors states m t e b o
      → MeansMemberFound source equal errors states m t e c q → IsAnswer o.verdict → IsAnswer q.verdict
      → Agree SameUnit o q
  found_agree m t true b c o q alike h k a z =
      let x : Outcome (Unit {0}) errors.Seen states.Seen = record { verdict = Yes None; end = past t b.start; state = told states.after t b.state; events = []; emitted = [] } in
      let y : Outcome (Unit {0}) errors.Seen states.Seen = record { verdict = Yes None; end = past t c.start; state = told states.after t c.state; events = []; emitted = [] } in
      let xy : Agree SameUnit x y = record { answer = tt; end = ap (past t) alike.start; state = ap (told states.after t) alike.state; events = refl; emitted = refl } in
      rw (h, k) xy
  found_agree m t false b c o q alike (inl r) k a z = absurd (subst IsAnswer r.1 a)
  found_agree m t false b c o q alike (inr h) (inl r) a z = absurd (subst IsAnswer r.1 z)
  found_agree m t false b c o q alike (inr h) (inr k) a z =
      misses-agree SameUnit (cc (alike.tokens, alike.start)) alike.start (ap (λ s. states.back (told states.after t s) (states.mark s)) alike.state) h k a z

  member-agrees : (m : Tok) → Agreeing SameUnit (MeansMember {Cx = Cx} source equal errors states m) (MeansMember source equal errors states m)
  member-agrees m b c o q alike h k a z =
      elim h.by_token [
        | inl r ↦ absurd (subst IsAnswer r.1 a)
        | inr x ↦ elim k.by_token [
          | inl r ↦ absurd (subst IsAnswer r.1 z)
          | inr y ↦ found_agree m _ _ b c o q alike x (rw (alike.tokens, alike.start) y) a z
        ]
      ]

  members-agrees : (ms : List Tok) → Agreeing SameUnit (MeansMembers {Cx = Cx} source equal errors states ms) (MeansMembers source equal errors states ms)
  members-agrees [] = given-agrees SameUnit None None tt
  members-agrees (m ∷ ms) = chained-agrees _ _ _ _ SameUnit SameUnit (member-agrees m) (λ _ _ _. members-agrees ms)

  module _ {V : Type 0} (copies : V → Type 0) (safe : Type 0) where
    pub just-ends : (ms : List Tok) → EndsAfterStart (MeansJust {Cx = Cx} source equal errors states copies safe ms)
    just-ends ms = chained-ends _ _ (members-ends ms) (λ _. copy-ends copies safe)

    pub just-agrees : (ms : List Tok) → Agreeing (BothCopies copies) (MeansJust {Cx = Cx} source equal errors states copies safe ms) (MeansJust source equal errors states copies safe ms)
    just-agrees ms = chained-agrees _ _ _ _ SameUnit (BothCopies copies) (members-agrees ms) (λ _ _ _. copy-agrees copies safe)
