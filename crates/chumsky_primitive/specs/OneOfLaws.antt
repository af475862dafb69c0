-- The laws of a token that is in a sequence, or that isn't.
use Rattle.std.proofs.Common.{◌≡◌, ◌≤◌, Bool, true, false, Option, List, ap, subst, arith, inl, inr}
use Rattle.chumsky_input.specs.declared.error.Error as error_trait
use Rattle.chumsky_input.specs.declared.inspector.Inspector as inspector_trait
use Rattle.chumsky_input.specs.declared.input.Input as input_trait
use Rattle.chumsky_input.specs.Wanted.{Wanted}
use Rattle.chumsky_input.specs.Outcome.{Beginning, Outcome, IsAnswer, Alike, Agree, EndsAfterStart, Agreeing}
use Rattle.chumsky_parser.specs.FailureLaws.{misses-agree, misses-ends}
use Rattle.chumsky_primitive.specs.Any.{CountsAs}
use Rattle.chumsky_primitive.specs.AnyLaws.{any-ends, any-agrees, counts-same}
use Rattle.chumsky_primitive.specs.Just.{told}
use Rattle.chumsky_primitive.specs.OneOf.{MeansFound, MeansTested}

module _ {I Tok Sp Cu Er St Mk Cx S : Type 0} (source : input_trait.Ghosts I Cu Tok Sp) (seen : Tok → S)
    (safe : Tok → Type 0) (errors : error_trait.Ghosts Er I Tok Sp) (states : inspector_trait.Ghosts St I Mk Tok Sp)
    (what : List (Wanted Tok)) where
  found_ends : (t : Option Tok) (e : Bool) (b : Beginning Tok Cx states.Seen) (o : Outcome Tok errors.Seen states.Seen)
      → MeansFound source seen safe errors states what t e b o → IsAnswer o.verdict → b.start ≤ o.end
  found_ends t true b o m a = any-ends source (CountsAs seen) safe errors states b o m a
  found_ends t false b o (inl r) a = absurd (subst IsAnswer r.1 a)
  found_ends t false b o (inr (inl r)) a = absurd (subst IsAnswer r.1 a)
  found_ends t false b o (inr (inr m)) a = misses-ends (λ x y. x ≡ y) (omega arith) m a

  found_agree : (t : Option Tok) (e : Bool) (b c : Beginning Tok Cx states.Seen) (o q : Outcome Tok errors.Seen states.Seen)
      → Alike b c → MeansFound source seen safe errors states what t e b o
      → MeansFound source seen safe errors states what t e c q → IsAnswer o.verdict → IsAnswer q.verdict
      → Agree (λ x y. seen x ≡ seen y) o q
  found_agree t true b c o q alike m n a z = any-agrees source (CountsAs seen) safe errors states (λ x y. seen x ≡ seen y) (counts-same seen) b c o q alike m n a z
  found_agree t false b c o q alike (inl r) n a z = absurd (subst IsAnswer r.1 a)
  found_agree t false b c o q alike (inr (inl r)) n a z = absurd (subst IsAnswer r.1 a)
  found_agree t false b c o q alike (inr (inr m)) (inl r) a z = absurd (subst IsAnswer r.1 z)
  found_agree t false b c o q alike (inr (inr m)) (inr (inl r)) a z = absurd (subst IsAnswer r.1 z)
  found_agree t false b c o q alike (inr (inr m)) (inr (inr n)) a z =
      misses-agree (λ x y. seen x ≡ seen y) (cc (alike.tokens, alike.start)) alike.start (ap (λ s. states.back (told states.after t s) (states.mark s)) alike.state) m n a z

  pub tested-ends : (test : Tok → Bool) → EndsAfterStart (MeansTested {Cx = Cx} source seen safe errors states test what)
  tested-ends test b o m a = found_ends _ _ b o m.by_token a

  pub tested-agrees : (test : Tok → Bool) → Agreeing (λ x y. seen x ≡ seen y) (MeansTested {Cx = Cx} source seen safe errors states test what) (MeansTested source seen safe errors states test what)
  tested-agrees test b c o q alike m n a z = found_agree _ _ b c o q alike m.by_token (rw (alike.tokens, alike.start) n.by_token) a z
