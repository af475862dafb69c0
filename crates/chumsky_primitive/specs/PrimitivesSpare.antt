-- Primitives are never refused for memory where tokens, errors and states take none.
-- Main laws: any-spares, tested-spares, just-spares. Read first: Memory.antt, MemoryLaws.antt.
use Rattle.std.proofs.Common.{Bool, true, false, Option, Some, None, List, [], ◌∷◌, inl, inr, ap}
use Rattle.std.specs.Prelude.{slice_get}
use Rattle.chumsky_input.specs.declared.error.Error as error_trait
use Rattle.chumsky_input.specs.declared.inspector.Inspector as inspector_trait
use Rattle.chumsky_input.specs.declared.input.Input as input_trait
use Rattle.chumsky_input.specs.Wanted.{Wanted}
use Rattle.chumsky_input.specs.Outcome.{Beginning, Outcome}
use Rattle.chumsky_parser.specs.Failure.{wanting}
use Rattle.chumsky_primitive.specs.Any.{MeansAnyAt, MeansAny, CountsAs}
use Rattle.chumsky_primitive.specs.Empty.{MeansEmpty}
use Rattle.chumsky_primitive.specs.Just.{MeansMemberFound, MeansMember, MeansMembers, MeansJust, is_member}
use Rattle.chumsky_primitive.specs.OneOf.{MeansTested, passes}
use Rattle.chumsky_primitive.specs.OneOf as one_of
use Rattle.chumsky_primitive.specs.Select.{Picks, MeansAnswer, MeansSelect, MeansSelectAt}
use Rattle.chumsky_parser.specs.Memory.{SparesMemory, NeverOutOfMemory}
use Rattle.chumsky_parser.specs.MemoryLaws.{misses-spares, given-spares, copy-spares, chained-spares}

module _ {Tok Cx St Er : Type 0} where
  pub empty-spares : NeverOutOfMemory (MeansEmpty {Tok = Tok} {Cx = Cx} {St = St} {Er = Er})
  empty-spares b o m = given-spares (wanting b.wanted tt) b o m

module _ {I Tok Sp Cu Er St Mk Cx : Type 0} (source : input_trait.Ghosts I Cu Tok Sp)
    (errors : error_trait.Ghosts Er I Tok Sp) (states : inspector_trait.Ghosts St I Mk Tok Sp)
    (quiet : errors.takes_no_memory) where
  module _ {V : Type 0} (IsOf : Tok → V → Type 0) (safe : Tok → Type 0) (free : (t : Tok) → safe t) where
    any_at-spares : (found : Option Tok) (b : Beginning Tok Cx states.Seen) (o : Outcome V errors.Seen states.Seen) → MeansAnyAt source IsOf safe errors states found b o → SparesMemory o.verdict
    any_at-spares (Some t) b o (inl r) = absurd (r.0.1 (free t))
    any_at-spares (Some t) b o (inr k) = rw (ap (λ (z : Outcome V errors.Seen states.Seen). z.verdict) k.outcome) tt
    any_at-spares None b o m = misses-spares quiet m

    pub any-spares : NeverOutOfMemory (MeansAny {Cx = Cx} source IsOf safe errors states)
    any-spares b o m = any_at-spares (slice_get b.tokens.list b.start) b o m.by_token

  module _ (still : states.takes_no_memory) where
    module _ {S : Type 0} (seen : Tok → S) (safe : Tok → Type 0) (free : (t : Tok) → safe t) where
      found-spares : (what : List (Wanted Tok)) (found : Option Tok) (passed : Bool)
          (b : Beginning Tok Cx states.Seen) (o : Outcome Tok errors.Seen states.Seen)
          → one_of.MeansFound source seen safe errors states what found passed b o → SparesMemory o.verdict
      found-spares what found true b o m = any-spares (CountsAs seen) safe free b o m
      found-spares what found false b o (inl r) = absurd (r.0 still)
      found-spares what found false b o (inr (inl r)) = absurd (r.0 still)
      found-spares what found false b o (inr (inr m)) = misses-spares quiet m

      pub tested-spares : (test : Tok → Bool) (what : List (Wanted Tok)) → NeverOutOfMemory (MeansTested {Cx = Cx} source seen safe errors states test what)
      tested-spares test what b o m = found-spares what (slice_get b.tokens.list b.start) (passes test (slice_get b.tokens.list b.start)) b o m.by_token

    module _ {V : Type 0} (safe : Tok → Type 0) (free : (t : Tok) → safe t) (picks : Picks Tok Cx states.Seen V) where
      answer-spares : (t : Tok) (r : Option V) (s : states.Seen) (b : Beginning Tok Cx states.Seen) (o : Outcome V errors.Seen states.Seen)
          → MeansAnswer source safe errors states t r s b o → SparesMemory o.verdict
      answer-spares t (Some v) s b o e = rw (ap (λ (z : Outcome V errors.Seen states.Seen). z.verdict) e) tt
      answer-spares t None s b o (inl r) = absurd (r.0 still)
      answer-spares t None s b o (inr m) = misses-spares quiet m

      select_at-spares : (found : Option Tok) (b : Beginning Tok Cx states.Seen) (o : Outcome V errors.Seen states.Seen)
          → MeansSelectAt source safe errors states picks found b o → SparesMemory o.verdict
      select_at-spares (Some t) b o (inl r) = absurd (r.0 (free t))
      select_at-spares (Some t) b o (inr m) = answer-spares t m.answer m.state b o m.outcome
      select_at-spares None b o m = misses-spares quiet m

      pub select-spares : NeverOutOfMemory (MeansSelect source safe errors states picks)
      select-spares b o m = elim m.by_token [ inl r ↦ absurd (r.0 still) | inr k ↦ select_at-spares (slice_get b.tokens.list b.start) b o k ]

    module _ (equal : Tok → Tok → Bool) where
      member_found-spares : (m : Tok) (found : Option Tok) (is : Bool) (b : Beginning Tok Cx states.Seen)
          (o : Outcome (Unit {0}) errors.Seen states.Seen)
          → MeansMemberFound source equal errors states m found is b o → SparesMemory o.verdict
      member_found-spares m found true b o e = rw (ap (λ (z : Outcome (Unit {0}) errors.Seen states.Seen). z.verdict) e) tt
      member_found-spares m found false b o (inl r) = absurd (r.0 still)
      member_found-spares m found false b o (inr k) = misses-spares quiet k

      member-spares : (m : Tok) → NeverOutOfMemory (MeansMember {Cx = Cx} source equal errors states m)
      member-spares m b o k =
          elim k.by_token [ inl r ↦ absurd (r.0 still) | inr f ↦ member_found-spares m (slice_get b.tokens.list b.start) (is_member equal m (slice_get b.tokens.list b.start)) b o f ]

      members-spare : (ms : List Tok) → NeverOutOfMemory (MeansMembers {Cx = Cx} source equal errors states ms)
      members-spare [] = given-spares None
      members-spare (m ∷ ms) = chained-spares (MeansMember source equal errors states m) _ (member-spares m) (λ _. members-spare ms)

      pub just-spares : {V : Type 0} (copies : V → Type 0) (safe : Type 0) → safe → (ms : List Tok) → NeverOutOfMemory (MeansJust {Cx = Cx} source equal errors states copies safe ms)
      just-spares copies safe x ms = chained-spares (MeansMembers source equal errors states ms) _ (members-spare ms) (λ _. copy-spares copies safe x)
