-- The laws of the end of input.
use Rattle.std.proofs.Common.{◌≤◌, Option, Some, None, ap, subst, arith, inl, inr}
use Rattle.chumsky_input.specs.declared.error.Error as error_trait
use Rattle.chumsky_input.specs.declared.inspector.Inspector as inspector_trait
use Rattle.chumsky_input.specs.declared.input.Input as input_trait
use Rattle.chumsky_input.specs.Outcome.{Beginning, Outcome, IsAnswer, Alike, Agree, EndsAfterStart, Agreeing}
use Rattle.chumsky_parser.specs.Laws.{given-agrees}
use Rattle.chumsky_parser.specs.FailureLaws.{SameUnit, misses-agree, misses-ends, wanting-same}
use Rattle.chumsky_primitive.specs.End.{MeansEnd, MeansEndAt}

module _ {I Tok Sp Cu Er St Mk Cx : Type 0} (source : input_trait.Ghosts I Cu Tok Sp) (errors : error_trait.Ghosts Er I Tok Sp) (states : inspector_trait.Ghosts St I Mk Tok Sp) where
  end_ends : (t : Option Tok) (b : Beginning Tok Cx states.Seen) (o : Outcome (Unit {0}) errors.Seen states.Seen) → MeansEndAt source errors states t b o → IsAnswer o.verdict → b.start ≤ o.end
  end_ends None b o m a = omega (arith, ap (λ (x : Outcome (Unit {0}) errors.Seen states.Seen). x.end) m)
  end_ends (Some t) b o (inl r) a = absurd (subst IsAnswer r.1 a)
  end_ends (Some t) b o (inr m) a = misses-ends SameUnit (omega arith) m a

  pub end-ends : EndsAfterStart (MeansEnd {Cx = Cx} source errors states)
  end-ends b o m a = elim m.by_token [ inl r ↦ absurd (subst IsAnswer r.1 a) | inr h ↦ end_ends _ b o h a ]

  end_agree : (t : Option Tok) (b c : Beginning Tok Cx states.Seen) (o q : Outcome (Unit {0}) errors.Seen states.Seen)
      → Alike b c → MeansEndAt source errors states t b o → MeansEndAt source errors states t c q → IsAnswer o.verdict
      → IsAnswer q.verdict → Agree SameUnit o q
  end_agree None b c o q alike m n a z = given-agrees SameUnit _ _ (wanting-same SameUnit b.wanted c.wanted tt tt) b c o q alike m n a z
  end_agree (Some t) b c o q alike (inl r) n a z = absurd (subst IsAnswer r.1 a)
  end_agree (Some t) b c o q alike (inr m) (inl r) a z = absurd (subst IsAnswer r.1 z)
  end_agree (Some t) b c o q alike (inr m) (inr n) a z =
      misses-agree SameUnit (cc (alike.tokens, alike.start)) alike.start (ap (λ s. states.back (states.after s t) (states.mark s)) alike.state) m n a z

  pub end-agrees : Agreeing SameUnit (MeansEnd {Cx = Cx} source errors states) (MeansEnd source errors states)
  end-agrees b c o q alike m n a z =
      elim m.by_token [
        | inl r ↦ absurd (subst IsAnswer r.1 a)
        | inr h ↦ elim n.by_token [
          | inl r ↦ absurd (subst IsAnswer r.1 z)
          | inr k ↦ end_agree _ b c o q alike h (rw (alike.tokens, alike.start) k) a z
        ]
      ]
