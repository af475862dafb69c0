-- The laws of any token.
use Rattle.std.proofs.Common.{◌≡◌, ◌≤◌, ◌+◌, Option, Some, None, [], refl, sym, ◌∙◌, ap, subst, arith, inl, inr}
use Rattle.std.specs.Borrow.{Bor}
use Rattle.chumsky_input.specs.declared.error.Error as error_trait
use Rattle.chumsky_input.specs.declared.inspector.Inspector as inspector_trait
use Rattle.chumsky_input.specs.declared.input.Input as input_trait
use Rattle.chumsky_input.specs.Outcome.{Beginning, Outcome, Yes, IsAnswer, Alike, Agree, EndsAfterStart, Agreeing}
use Rattle.chumsky_parser.specs.FailureLaws.{misses-agree, misses-ends, wanted-same}
use Rattle.chumsky_primitive.specs.Any.{MeansAny, MeansAnyAt, CountsAs, PointsTo}

-- two values of one token are the same
pub counts-same : {Tok S : Type 0} (seen : Tok → S) (t v w : Tok) → CountsAs seen t v → CountsAs seen t w → seen v ≡ seen w
counts-same seen t v w e d = e ∙ sym d

pub points-same : {Tok : Type 0} (t : Tok) (v w : Bor Tok) → PointsTo t v → PointsTo t w → v.now ≡ w.now
points-same t v w e d = e ∙ sym d

module _ {I Tok Sp Cu Er St Mk Cx V : Type 0} (source : input_trait.Ghosts I Cu Tok Sp) (IsOf : Tok → V → Type 0)
    (safe : Tok → Type 0) (errors : error_trait.Ghosts Er I Tok Sp)
    (states : inspector_trait.Ghosts St I Mk Tok Sp) where
  any_ends : (t : Option Tok) (b : Beginning Tok Cx states.Seen) (o : Outcome V errors.Seen states.Seen) → MeansAnyAt source IsOf safe errors states t b o → IsAnswer o.verdict → b.start ≤ o.end
  any_ends (Some t) b o (inl r) a = absurd (subst IsAnswer r.1 a)
  any_ends (Some t) b o (inr m) a = omega (arith, ap (λ (x : Outcome V errors.Seen states.Seen). x.end) m.outcome)
  any_ends None b o m a = misses-ends (λ x y. x ≡ y) (omega arith) m a

  pub any-ends : EndsAfterStart (MeansAny {Cx = Cx} source IsOf safe errors states)
  any-ends b o m a = any_ends _ b o m.by_token a

  module _ (same : V → V → Type 0) (alike_values : (t : Tok) (v w : V) → IsOf t v → IsOf t w → same v w) where
    any_agree : (t : Option Tok) (b c : Beginning Tok Cx states.Seen) (o q : Outcome V errors.Seen states.Seen)
        → Alike b c → MeansAnyAt source IsOf safe errors states t b o
        → MeansAnyAt source IsOf safe errors states t c q → IsAnswer o.verdict → IsAnswer q.verdict → Agree same o q
    any_agree (Some t) b c o q alike (inl r) n a z = absurd (subst IsAnswer r.1 a)
    any_agree (Some t) b c o q alike (inr m) (inl r) a z = absurd (subst IsAnswer r.1 z)
    any_agree (Some t) b c o q alike (inr m) (inr n) a z =
        let e : Outcome V errors.Seen states.Seen = record { verdict = Yes m.value; end = b.start + 1; state = states.after b.state t; events = []; emitted = [] } in
        let f : Outcome V errors.Seen states.Seen = record { verdict = Yes n.value; end = c.start + 1; state = states.after c.state t; events = []; emitted = [] } in
        let ef : Agree same e f =
        record {
          answer = wanted-same (IsOf t) same (alike_values t) b.wanted c.wanted m.value n.value m.is_value n.is_value;
          end = ap (λ p. p + 1) alike.start;
          state = ap (λ s. states.after s t) alike.state;
          events = refl;
          emitted = refl;
        }
        in
        rw (m.outcome, n.outcome) ef
    any_agree None b c o q alike m n a z = misses-agree same (cc (alike.tokens, alike.start)) alike.start alike.state m n a z

    -- where two values of one token are the same
    pub any-agrees : Agreeing same (MeansAny {Cx = Cx} source IsOf safe errors states) (MeansAny source IsOf safe errors states)
    any-agrees b c o q alike m n a z = any_agree _ b c o q alike m.by_token (rw (alike.tokens, alike.start) n.by_token) a z
