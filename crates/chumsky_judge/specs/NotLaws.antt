-- The laws of a part that must not be there.
use Rattle.std.proofs.Common.{◌≡◌, ◌≤◌, false, Option, refl, sym, ap, ◌∙◌, subst, arith, inl, inr}
use Rattle.chumsky_input.specs.declared.error.Error as error_trait
use Rattle.chumsky_input.specs.declared.inspector.Inspector as inspector_trait
use Rattle.chumsky_input.specs.declared.input.Input as input_trait
use Rattle.chumsky_input.specs.Outcome.{Meaning, Beginning, Outcome, Verdict, Yes, No, Halt, Clash, IsAnswer, SameValue, Alike, Agree, EndsAfterStart, Agreeing}
use Rattle.chumsky_parser.specs.Chained.{Asked}
use Rattle.chumsky_parser.specs.Laws.{asked-ends, asked-agrees}
use Rattle.chumsky_parser.specs.Failure.{wanting}
use Rattle.chumsky_parser.specs.FailureLaws.{SameUnit, wanting-same}
use Rattle.chumsky_judge.specs.Judged.{Judged}
use Rattle.chumsky_judge.specs.JudgedLaws.{or_lacks-whole, judged-ends, judged-agrees}
use Rattle.chumsky_judge.specs.Not.{Denies, Allows, MeansNot}

module _ {I Tok Sp Cu Er St Mk Cx V : Type 0} (source : input_trait.Ghosts I Cu Tok Sp)
    (errors : error_trait.Ghosts Er I Tok Sp) (states : inspector_trait.Ghosts St I Mk Tok Sp)
    (part : Meaning Tok Cx states.Seen errors.Seen V) where
  denies-ends : (m : states.Marked) (b : Beginning Tok Cx states.Seen) (v : Option V)
      (p : Outcome V errors.Seen states.Seen) (o : Outcome (Unit {0}) errors.Seen states.Seen)
      → b.start ≤ p.end → Denies source errors states m b v p o → IsAnswer o.verdict → b.start ≤ o.end
  denies-ends m b v p o l (inl r) a = absurd (subst IsAnswer r.1 a)
  denies-ends m b v p o l (inr h) a = let e = ap (λ (x : Outcome (Unit {0}) errors.Seen states.Seen). x.end) (or_lacks-whole h a) in omega arith

  allows-ends : (m : states.Marked) (b : Beginning Tok Cx states.Seen) (p : Outcome V errors.Seen states.Seen)
      (o : Outcome (Unit {0}) errors.Seen states.Seen)
      → b.start ≤ p.end → Allows {Cx = Cx} source errors states m b p o → IsAnswer o.verdict → b.start ≤ o.end
  allows-ends m b p o l (inl r) a = absurd (subst IsAnswer r.1 a)
  allows-ends m b p o l (inr h) a = let e = ap (λ (x : Outcome (Unit {0}) errors.Seen states.Seen). x.end) h in omega arith

  pub not-ends : EndsAfterStart part → EndsAfterStart (MeansNot source errors states part)
  not-ends h b o m a =
      elim m.cases [
        | inl r ↦ absurd (subst IsAnswer r.1 a)
        | inr k ↦ judged-ends (Asked false part) _ _ (asked-ends false part h) (denies-ends (states.mark b.state)) (allows-ends (states.mark b.state)) b o k a
      ]

  module _ (same : V → V → Type 0) where
    denies-agrees : (m : states.Marked) (b c : Beginning Tok Cx states.Seen) (v v' : Option V)
        (p p' : Outcome V errors.Seen states.Seen) (o q : Outcome (Unit {0}) errors.Seen states.Seen)
        → Alike b c → SameValue same v v' → Agree same p p' → Denies source errors states m b v p o
        → Denies source errors states m c v' p' q → IsAnswer o.verdict → IsAnswer q.verdict → Agree SameUnit o q
    denies-agrees m b c v v' p p' o q alike s g (inl r) k a z = absurd (subst IsAnswer r.1 a)
    denies-agrees m b c v v' p p' o q alike s g (inr h) (inl r) a z = absurd (subst IsAnswer r.1 z)
    denies-agrees m b c v v' p p' o q alike s g (inr h) (inr k) a z =
        rw (or_lacks-whole h a, or_lacks-whole k z)
        (record { answer = tt; end = alike.start; state = ap (λ x. states.back x m) g.state; events = cc (alike.tokens, alike.start, g.end); emitted = refl })

    allows-agrees : (m : states.Marked) (b c : Beginning Tok Cx states.Seen)
        (p p' : Outcome V errors.Seen states.Seen) (o q : Outcome (Unit {0}) errors.Seen states.Seen)
        → Alike b c → Agree same p p' → Allows source errors states m b p o → Allows source errors states m c p' q
        → IsAnswer o.verdict → IsAnswer q.verdict → Agree SameUnit o q
    allows-agrees m b c p p' o q alike g (inl r) k a z = absurd (subst IsAnswer r.1 a)
    allows-agrees m b c p p' o q alike g (inr h) (inl r) a z = absurd (subst IsAnswer r.1 z)
    allows-agrees m b c p p' o q alike g (inr h) (inr k) a z =
        rw (h, k) (record { answer = wanting-same SameUnit b.wanted c.wanted tt tt; end = alike.start; state = ap (λ x. states.back x m) g.state; events = refl; emitted = refl })

    pub not-agrees : Agreeing same part part → Agreeing SameUnit (MeansNot source errors states part) (MeansNot source errors states part)
    not-agrees h b c o q alike m n a z =
        elim m.cases [
          | inl r ↦ absurd (subst IsAnswer r.1 a)
          | inr j ↦ elim n.cases [
            | inl r ↦ absurd (subst IsAnswer r.1 z)
            | inr k ↦
                let e : states.mark c.state ≡ states.mark b.state = ap states.mark (sym alike.state) in
                let k' = subst (λ m'. Judged (Asked false part) (Denies source errors states m') (Allows source errors states m') c q) e k in
                judged-agrees (Asked false part) _ _ same SameUnit (asked-agrees false part same h) (denies-agrees (states.mark b.state)) (allows-agrees (states.mark b.state)) b c o q alike j k' a z
          ]
        ]
