-- The laws of what is shown the run.
use Rattle.std.proofs.Common.{◌≡◌, ℕ, ◌≤◌, Option, Some, None, refl, sym, ap, subst, arith, ◌∙◌}
use Rattle.chumsky_input.specs.Extra.{Shown}
use Rattle.chumsky_input.specs.Outcome.{Beginning, Outcome, Alike, Agree, SameValue, EndsAfterStart, Agreeing, IsAnswer}
use Rattle.chumsky_parser.specs.Laws.{given-ends, given-agrees}
use Rattle.chumsky_parser.specs.Showing.{GivesShown, OnlyAnswers, SameShown, GivenSince, GivenShown, shown_since}

module _ {Tok Cx St Er V W : Type 0} (gives : GivesShown Tok Cx St V W) where
  since-ends : (from : ℕ) (v : Option V) (b : Beginning Tok Cx St) (o : Outcome W Er St) → GivenSince gives from v b o → IsAnswer o.verdict → b.start ≤ o.end
  since-ends from (Some v) b o m a = omega (arith, ap (λ (x : Outcome W Er St). x.end) m.3)
  since-ends from None b o m a = given-ends None b o m a

  pub shown-ends : (from : ℕ) (v : Option V) → EndsAfterStart (GivenShown {Tok = Tok} {Cx = Cx} {St = St} {Er = Er} gives from v)
  shown-ends from v b o m a = since-ends from v b o m.by_value a

  module _ (one : OnlyAnswers gives) (same : V → V → Type 0) (other : W → W → Type 0) (made : (w w' : W) → SameShown gives same w w' → other w w') where
    since-agrees : (from : ℕ) (v v' : Option V) → SameValue same v v'
        → (b c : Beginning Tok Cx St) (o q : Outcome W Er St) → Alike b c → GivenSince gives from v b o
        → GivenSince gives from v' c q → IsAnswer o.verdict → IsAnswer q.verdict → Agree other o q
    since-agrees from (Some v) (Some v') e b c o q alike m n a z =
        let x : Shown Tok Cx St = shown_since from b in
        let y : Shown Tok Cx St = shown_since from c in
        let there : y ≡ x = cc (alike.tokens, alike.start, alike.context, alike.state) in
        let answer : gives v' x n.0 n.1 = subst (λ i. gives v' i n.0 n.1) there n.2 in
        let left : m.1 ≡ b.state = (one v x m.0 m.0 m.1 m.1 m.2 m.2).1 in
        let right : n.1 ≡ b.state = (one v' x n.0 n.0 n.1 n.1 answer answer).1 in
        let k : SameShown gives same m.0 n.0 = record { first = v; second = v'; shown = x; state = m.1; other_state = n.1; alike = e; from_first = m.2; from_second = answer } in
        rw (m.3, n.3) (record { answer = made m.0 n.0 k; end = alike.start; state = left ∙ sym right; events = refl; emitted = refl })
    since-agrees from (Some v) None e b c o q alike m n a z =
        let left : m.1 ≡ b.state = (one v (shown_since from b) m.0 m.0 m.1 m.1 m.2 m.2).1 in
        rw (m.3, n) (record { answer = tt; end = alike.start; state = left ∙ alike.state; events = refl; emitted = refl })
    since-agrees from None (Some v') e b c o q alike m n a z =
        let right : n.1 ≡ c.state = (one v' (shown_since from c) n.0 n.0 n.1 n.1 n.2 n.2).1 in
        rw (m, n.3) (record { answer = tt; end = alike.start; state = alike.state ∙ sym right; events = refl; emitted = refl })
    since-agrees from None None e b c o q alike m n a z = given-agrees other None None tt b c o q alike m n a z

    -- shown what ran since one place, two answers are as said
    pub shown-agrees : (from from' : ℕ) → from ≡ from' → (v w : Option V) → SameValue same v w
        → Agreeing other (GivenShown {Tok = Tok} {Cx = Cx} {St = St} {Er = Er} gives from v) (GivenShown gives from' w)
    shown-agrees from from' d v w e b c o q alike m n a z = since-agrees from v w e b c o q alike m.by_value (subst (λ x. GivenSince gives x w c q) (sym d) n.by_value) a z
