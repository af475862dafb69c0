-- The laws of parsers given by closures.
use Rattle.std.proofs.Common.{◌≡◌, Bool, true, false, Result, Ok, Err, option_to_list, refl, ap, subst, inl, inr}
use Rattle.chumsky_input.specs.declared.stop.Failure.{Failure}
use Rattle.chumsky_input.specs.declared.stop.Failure.TheVariants as failure
use Rattle.chumsky_input.specs.Held.{Held}
use Rattle.chumsky_input.specs.Outcome.{Beginning, Outcome, IsAnswer, SameValue, Agree, EndsAfterStart, Agreeing}
use Rattle.chumsky_parser.specs.Failure.{wanting}
use Rattle.chumsky_primitive.specs.Custom.{done, begun, OrLacksMemory, EndAlike, Reads, Call, MeansCustom, IsSteady, SameCalled}

module _ {V Er St : Type 0} where
  -- an answer is no refusal
  answer-whole : (whole o : Outcome V Er St) → OrLacksMemory whole o → IsAnswer o.verdict → o ≡ whole
  answer-whole whole o (inl e) a = e
  answer-whole whole o (inr (inl c)) a = absurd (subst IsAnswer c.verdict a)
  answer-whole whole o (inr (inr r)) a = absurd (subst IsAnswer r.1 a)

-- two values where there is a value
both-wanted : {V : Type 0} (same : V → V → Type 0) (b c : Bool) (v w : V) → same v w → SameValue same (wanting b v) (wanting c w)
both-wanted same true true v w s = s
both-wanted same true false v w s = tt
both-wanted same false c v w s = tt

module _ {Tok Cx St Er E V : Type 0} (seen : E → Er) (same : V → V → Type 0) where
  -- calls that end alike, as outcomes
  done-agree : (b c : Beginning Tok Cx St) → b.start ≡ c.start → (x y : Result V (Failure E)) (h k : Held Tok Cx St Er) → ((v w : V) → x ≡ Ok v → y ≡ Ok w → same v w)
      → EndAlike seen x y h k → IsAnswer (done seen b x h).verdict → IsAnswer (done seen c y k).verdict → Agree same (done seen b x h) (done seen c y k)
  done-agree b c s (Ok v) (Ok w) h k q e a z =
      record {
        answer = both-wanted same b.wanted c.wanted v w (q v w refl refl);
        end = ap (λ (x : Held Tok Cx St Er). x.place) e;
        state = ap (λ (x : Held Tok Cx St Er). x.state) e;
        events = ap (λ (x : Held Tok Cx St Er). option_to_list x.kept) e;
        emitted = ap (λ (x : Held Tok Cx St Er). x.emitted) e;
      }
  done-agree b c s (Ok v) (Err (failure.Error d)) h k q e a z = absurd e
  done-agree b c s (Ok v) (Err (failure.Stop t)) h k q e a z = absurd z
  done-agree b c s (Err (failure.Error d)) (Ok w) h k q e a z = absurd e
  done-agree b c s (Err (failure.Error d)) (Err (failure.Error d')) h k q e a z =
      let kept : option_to_list h.kept ≡ option_to_list k.kept = ap (λ (x : Held Tok Cx St Er). option_to_list x.kept) e.1 in
      record {
        answer = tt;
        end = ap (λ (x : Held Tok Cx St Er). x.place) e.1;
        state = ap (λ (x : Held Tok Cx St Er). x.state) e.1;
        events = cc (s, e.0, kept);
        emitted = ap (λ (x : Held Tok Cx St Er). x.emitted) e.1;
      }
  done-agree b c s (Err (failure.Error d)) (Err (failure.Stop t)) h k q e a z = absurd z
  done-agree b c s (Err (failure.Stop t)) r h k q e a z = absurd a

module _ {Tok Cx St Er E V : Type 0} (seen : E → Er) (reads : Reads Tok Cx St Er E V) where
  pub custom-ends : EndsAfterStart (MeansCustom seen reads)
  custom-ends b o m a = m.later a

  pub custom-agrees : IsSteady seen reads → Agreeing (SameCalled reads) (MeansCustom seen reads) (MeansCustom seen reads)
  custom-agrees steady b c o q alike m n a z =
      let x = m.call in
      let same : begun {Er = Er} n.call.stopped c ≡ begun n.call.stopped b = cc (alike.tokens, alike.start, alike.context, alike.state) in
      let y : Call reads b = record { stopped = n.call.stopped; returned = n.call.returned; left = n.call.left; read = subst (λ h. reads h n.call.returned n.call.left) same n.call.read } in
      let om = answer-whole _ o m.does a in
      let qn = answer-whole _ q n.does z in
      let agree = done-agree seen (SameCalled reads) b c alike.start x.returned y.returned x.left y.left
      (λ v w e d. record { beginning = b; first = x; second = y; of_first = e; of_second = d })
      (steady.alike b x y) (subst (λ (p : Outcome V Er St). IsAnswer p.verdict) om a) (subst (λ (p : Outcome V Er St). IsAnswer p.verdict) qn z) in
      rw (om, qn) agree
