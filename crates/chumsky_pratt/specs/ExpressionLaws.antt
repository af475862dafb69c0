-- The laws of expressions: no answer ends before its start, and two answers agree.
use Rattle.std.proofs.Common.{◌≡◌, ℕ, zero, suc, ◌≤◌, ◌++◌, Option, Some, None, length, refl, sym, ap, subst, arith, inl, inr}
use Rattle.chumsky_input.specs.Layout.{Layout}
use Rattle.std.specs.Prelude.{⊤}
use Rattle.chumsky_input.specs.declared.stop.Stop.TheVariants.{NoProgress}
use Rattle.chumsky_input.specs.Extra.{Shown}
use Rattle.chumsky_input.specs.Outcome.{Meaning, Beginning, Outcome, Verdict, Yes, No, Halt, Clash, SameValue, SameAnswer, Alike, Agree, EndsAfterStart, Agreeing, IsAnswer}
use Rattle.chumsky_parser.specs.Chained.{Chained, Given}
use Rattle.chumsky_parser.specs.Choice.{ElseFrom, AttemptFrom, ByMark}
use Rattle.chumsky_parser.specs.ChoiceLaws.{attempt-ends, agree-weaker}
use Rattle.chumsky_parser.specs.FailureLaws.{stops-ends}
use Rattle.chumsky_parser.specs.Laws.{chained-ends, chained-agrees, given-ends, given-agrees}
use Rattle.chumsky_parser.specs.Showing.{GivesShown, OnlyAnswers, GivenShown}
use Rattle.chumsky_parser.specs.ShowingLaws.{shown-ends, shown-agrees}
use Rattle.chumsky_pratt.specs.declared.fixity.Fixity.{Fixity}
use Rattle.chumsky_pratt.specs.declared.fixity.Fixity.TheVariants.{Prefix, Postfix, Infix}
use Rattle.chumsky_pratt.specs.declared.operands.Operands.{Operands}
use Rattle.chumsky_pratt.specs.declared.operands.Operands.TheVariants.{After, Before, Around}
use Rattle.chumsky_pratt.specs.Operators.{bound_by}
use Rattle.chumsky_pratt.specs.Expression.{
  Syntax,
  Turn,
  Rests,
  Goes,
  any_power,
  all_there,
  left_at,
  Onward,
  Waiting,
  AfterTurn,
  From,
  AfterPrefix,
  AfterPostfix,
  AfterInfix,
  TryPrefix,
  TryPostfix,
  TryInfix,
  Head,
  Round,
  Rounds,
  AllRounds,
  Level,
  Below,
  Expression,
}

-- values that are the same: of atoms that are, or of operators that are with operands that are, shown one run
pub data SameExpression {Tok Cx St F V : Type 0} (same : V → V → Type 0) (found : F → F → Type 0) (gives : GivesShown Tok Cx St (F × Operands V) V) : V → V → Type 0 where
  OfAtoms : {v w : V} → same v w → SameExpression same found gives v w
  OfAfter : {f g : F} {x y v w : V} {run : Shown Tok Cx St} {s t : St} → found f g
      → SameExpression same found gives x y → gives (f, After x) run v s → gives (g, After y) run w t
      → SameExpression same found gives v w
  OfBefore : {f g : F} {x y v w : V} {run : Shown Tok Cx St} {s t : St} → found f g
      → SameExpression same found gives x y → gives (f, Before x) run v s → gives (g, Before y) run w t
      → SameExpression same found gives v w
  OfAround : {f g : F} {x y u z v w : V} {run : Shown Tok Cx St} {s t : St} → found f g
      → SameExpression same found gives x y → SameExpression same found gives u z → gives (f, Around x u) run v s
      → gives (g, Around y z) run w t → SameExpression same found gives v w

module _ {Tok Cx St Er V : Type 0} where
  onward-ends : (place : ℕ) (m : Meaning Tok Cx St Er V) → EndsAfterStart m → EndsAfterStart (Onward place m)
  onward-ends place m h b o (inl k) a = h b o k.1 a
  onward-ends place m h b o (inr k) a = stops-ends NoProgress b o k.1 a

  pub waiting-ends : (m : Meaning Tok Cx St Er V) → EndsAfterStart m → EndsAfterStart (Waiting m)
  waiting-ends m h b o (inl r) a = absurd (subst IsAnswer r.1 a)
  waiting-ends m h b o (inr k) a = h b o k a

  after_turn-ends : (x : Option V) (next : ℕ → Option V → Meaning Tok Cx St Er V)
      → ((below : ℕ) (y : Option V) → EndsAfterStart (next below y)) → (t : Option (Turn V))
      → EndsAfterStart (AfterTurn x next t)
  after_turn-ends x next h (Some Rests) = given-ends x
  after_turn-ends x next h (Some (Goes below y)) = h below y
  after_turn-ends x next h None = λ b o m a. absurd m

  by_mark-ends : {Mk : Type 0} (mark : St → Mk) (safe : Type 0) (part : Mk → Meaning Tok Cx St Er V)
      (b : Beginning Tok Cx St) (o : Outcome V Er St)
      → ((m : Mk) → EndsAfterStart (part m)) → ByMark mark safe part b o → IsAnswer o.verdict → b.start ≤ o.end
  by_mark-ends mark safe part b o h (inl r) a = absurd (subst IsAnswer r.1 a)
  by_mark-ends mark safe part b o h (inr k) a = h (mark b.state) b o k a

module _ {Tok Cx St Mk Er F V : Type 0} (s : Syntax Tok Cx St Mk Er F V) (atom_ends : EndsAfterStart s.atom) (reads_end : (i : ℕ) → EndsAfterStart (s.reads i)) where
  from-ends : {W : Type 0} (try : ℕ → Fixity → Meaning Tok Cx St Er W → Meaning Tok Cx St Er W)
      → ((i : ℕ) (f : Fixity) (next : Meaning Tok Cx St Er W) → EndsAfterStart next → EndsAfterStart (try i f next))
      → (count i : ℕ) (last : Meaning Tok Cx St Er W) → EndsAfterStart last → EndsAfterStart (From s try count i last)
  from-ends try h zero i last l = l
  from-ends try h (suc count) i last l = h i (s.stands i) (From s try count (suc i) last) (from-ends try h count (suc i) last l)

  module _ (operand : ℕ → Meaning Tok Cx St Er V) (operand_ends : (power : ℕ) → EndsAfterStart (operand power)) (start : ℕ) where
    after_prefix-ends : (i power : ℕ) → EndsAfterStart (AfterPrefix s operand start i power)
    after_prefix-ends i power =
        chained-ends (s.reads i) _ (reads_end i)
        (λ f. onward-ends start _
        (waiting-ends _
        (chained-ends (operand power) _ (operand_ends power) (λ v. shown-ends s.gives start (all_there f (After v))))))

    after_postfix-ends : (at : ℕ) (x : Option V) (below i : ℕ) → EndsAfterStart (AfterPostfix s operand start at x below i)
    after_postfix-ends at x below i =
        chained-ends (s.reads i) _ (reads_end i)
        (λ f. onward-ends at _
        (chained-ends _ _ (shown-ends s.gives start (all_there f (Before x))) (λ y. given-ends (Some (Goes below y)))))

    after_infix-ends : (at : ℕ) (x : Option V) (below i power : ℕ) → EndsAfterStart (AfterInfix s operand start at x below i power)
    after_infix-ends at x below i power =
        chained-ends (s.reads i) _ (reads_end i)
        (λ f. onward-ends start _
        (waiting-ends _
        (chained-ends (operand power) _ (operand_ends power)
        (λ v. onward-ends at _
        (chained-ends _ _ (shown-ends s.gives start (all_there f (Around x v))) (λ y. given-ends (Some (Goes below y))))))))

    try_prefix-ends : (m : Mk) (i : ℕ) (f : Fixity) (next : Meaning Tok Cx St Er V) → EndsAfterStart next → EndsAfterStart (TryPrefix s operand start m i f next)
    try_prefix-ends m i (Prefix power) next h = attempt-ends s.back s.safe m (AfterPrefix s operand start i power) next (after_prefix-ends i power) h
    try_prefix-ends m i (Postfix power) next h = h
    try_prefix-ends m i (Infix left right chains) next h = h

    module _ (least at : ℕ) (x : Option V) (below : ℕ) where
      try_postfix-ends : (m : Mk) (i : ℕ) (f : Fixity) (next : Meaning Tok Cx St Er (Turn V)) → EndsAfterStart next → EndsAfterStart (TryPostfix s operand start least at x below m i f next)
      try_postfix-ends m i (Prefix power) next h = h
      try_postfix-ends m i (Postfix power) next h =
          λ b o z a. elim z [
            | inl k ↦ attempt-ends s.back s.safe m (AfterPostfix s operand start at x below i) next (after_postfix-ends at x below i) h b o k.1 a
            | inr k ↦ h b o k.1 a
          ]
      try_postfix-ends m i (Infix left right chains) next h = h

      try_infix-ends : (m : Mk) (i : ℕ) (f : Fixity) (next : Meaning Tok Cx St Er (Turn V)) → EndsAfterStart next → EndsAfterStart (TryInfix s operand start least at x below m i f next)
      try_infix-ends m i (Prefix power) next h = h
      try_infix-ends m i (Postfix power) next h = h
      try_infix-ends m i (Infix left right chains) next h = λ b o z a. elim z [
        | inl k ↦ attempt-ends s.back s.safe m (AfterInfix s operand start at x (bound_by chains below left) i right) next (after_infix-ends at x (bound_by chains below left) i right) h b o k.2 a
        | inr k ↦ h b o k.1 a
      ]

    pub head-ends : EndsAfterStart (Head s operand start)
    head-ends b o m a = by_mark-ends s.mark s.safe _ b o (λ k. from-ends (TryPrefix s operand start k) (try_prefix-ends k) s.number 0 s.atom atom_ends) m.run a

    round-ends : (least below : ℕ) (x : Option V) → EndsAfterStart (Round s operand start least below x)
    round-ends least below x b o m a =
        by_mark-ends s.mark s.safe _ b o
        (λ k. from-ends (TryPostfix s operand start least b.start x below k) (try_postfix-ends least b.start x below k) s.number 0 (From s (TryInfix s operand start least b.start x below k) s.number 0 (Given (Some Rests)))
        (from-ends (TryInfix s operand start least b.start x below k) (try_infix-ends least b.start x below k) s.number 0 (Given (Some Rests)) (given-ends (Some Rests)))) m.run a

    pub rounds-end : (least n below : ℕ) (x : Option V) → EndsAfterStart (Rounds s operand start least n below x)
    rounds-end least zero below x b o m a = absurd m
    rounds-end least (suc n) below x b o m a =
        chained-ends (Round s operand start least below x) (AfterTurn x (Rounds s operand start least n))
        (round-ends least below x) (after_turn-ends x (Rounds s operand start least n) (rounds-end least n)) b o m
        a

  pub level-ends : (operand : ℕ → Meaning Tok Cx St Er V) → ((power : ℕ) → EndsAfterStart (operand power)) → (least : ℕ) → EndsAfterStart (Level s operand least)
  level-ends operand h least b o m a =
      chained-ends (Head s operand b.start) (AllRounds s operand b.start least any_power)
      (head-ends operand h b.start)
      (λ x c q n z. rounds-end operand h b.start least n.rounds any_power x c q n.run z) b o m.run a

  pub below-ends : (n least : ℕ) → EndsAfterStart (Below s n least)
  below-ends zero least b o m a = absurd m
  below-ends (suc n) least b o m a = elim m [ inl k ↦ level-ends (Below s n) (below-ends n) least b o k.1 a | inr k ↦ below-ends n least b o k.1 a ]

  pub expression-end : (least : ℕ) → EndsAfterStart (Expression s least)
  expression-end least b o m a = below-ends (suc (length b.tokens.list)) least b o m.run a

-- two attempts agree, whose alternatives do
module _ {Tok Cx St Mk Er V : Type 0} (back : St → Mk → St) (safe : Type 0) (mark : Mk) (same : V → V → Type 0) (first first' second second' : Meaning Tok Cx St Er V) where
  tries_agree : Agreeing same first first' → Agreeing same second second' → (b c : Beginning Tok Cx St) (o q p r : Outcome V Er St) → Alike b c → first b p → first' c r
      → (v w : Verdict V Er) → p.verdict ≡ v → r.verdict ≡ w → ElseFrom back safe mark v second b p o
      → ElseFrom back safe mark w second' c r q → IsAnswer o.verdict → IsAnswer q.verdict → Agree same o q
  tries_agree hf hs b c o q p r alike m n (Yes v) (Yes w) pv rw' e d a z = rw (e, d) (hf b c p r alike m n (rw pv tt) (rw rw' tt))
  tries_agree hf hs b c o q p r alike m n (Yes v) No pv rw' e d a z =
      let h : SameAnswer same p.verdict r.verdict = (hf b c p r alike m n (rw pv tt) (rw rw' tt)).answer in absurd (rw (pv, rw') at h)
  tries_agree hf hs b c o q p r alike m n (Yes v) (Halt s) pv rw' e d a z =
      let h : IsAnswer r.verdict = subst (λ (x : Outcome V Er St). IsAnswer x.verdict) d z in absurd (rw rw' at h)
  tries_agree hf hs b c o q p r alike m n (Yes v) (Clash s) pv rw' e d a z =
      let h : IsAnswer r.verdict = subst (λ (x : Outcome V Er St). IsAnswer x.verdict) d z in absurd (rw rw' at h)
  tries_agree hf hs b c o q p r alike m n No (Yes w) pv rw' e d a z =
      let h : SameAnswer same p.verdict r.verdict = (hf b c p r alike m n (rw pv tt) (rw rw' tt)).answer in absurd (rw (pv, rw') at h)
  tries_agree hf hs b c o q p r alike m n No No pv rw' (inl x) d a z = absurd (subst IsAnswer x.1 a)
  tries_agree hf hs b c o q p r alike m n No No pv rw' (inr k) (inl x) a z = absurd (subst IsAnswer x.1 z)
  tries_agree hf hs b c o q p r alike m n No No pv rw' (inr k) (inr l) a z =
      let h : Agree same p r = hf b c p r alike m n (rw pv tt) (rw rw' tt) in
      let gone : Alike (record b { state = back p.state mark }) (record c { state = back r.state mark }) =
      record { tokens = alike.tokens; start = alike.start; context = alike.context; state = ap (λ s. back s mark) h.state }
      in
      let t : Agree same k.0 l.0 =
      hs (record b { state = back p.state mark }) (record c { state = back r.state mark }) k.0 l.0 gone k.1 l.1
      (subst (λ (x : Outcome V Er St). IsAnswer x.verdict) k.2 a)
      (subst (λ (x : Outcome V Er St). IsAnswer x.verdict) l.2 z) in
      let joined : Agree same (record k.0 { events = p.events ++ k.0.events }) (record l.0 { events = r.events ++ l.0.events }) =
      record { answer = t.answer; end = t.end; state = t.state; events = cc (h.events, t.events); emitted = t.emitted }
      in
      rw (k.2, l.2) joined
  tries_agree hf hs b c o q p r alike m n No (Halt s) pv rw' e d a z =
      let h : IsAnswer r.verdict = subst (λ (x : Outcome V Er St). IsAnswer x.verdict) d z in absurd (rw rw' at h)
  tries_agree hf hs b c o q p r alike m n No (Clash s) pv rw' e d a z =
      let h : IsAnswer r.verdict = subst (λ (x : Outcome V Er St). IsAnswer x.verdict) d z in absurd (rw rw' at h)
  tries_agree hf hs b c o q p r alike m n (Halt s) w pv rw' e d a z =
      let h : IsAnswer p.verdict = subst (λ (x : Outcome V Er St). IsAnswer x.verdict) e a in absurd (rw pv at h)
  tries_agree hf hs b c o q p r alike m n (Clash s) w pv rw' e d a z =
      let h : IsAnswer p.verdict = subst (λ (x : Outcome V Er St). IsAnswer x.verdict) e a in absurd (rw pv at h)

  attempts-agree : Agreeing same first first' → Agreeing same second second' → Agreeing same (AttemptFrom back safe mark first second) (AttemptFrom back safe mark first' second')
  attempts-agree hf hs b c o q alike t u a z = tries_agree hf hs b c o q t.attempt u.attempt alike t.meant u.meant t.attempt.verdict u.attempt.verdict refl refl t.then_else u.then_else a z

module _ {V Er St : Type 0} where
  stops-no_answer : (o : Outcome V Er St) (v : Verdict V Er) → o.verdict ≡ v → (IsAnswer v → ⊥) → IsAnswer o.verdict → ⊥
  stops-no_answer o v e n a = n (subst IsAnswer e a)

module _ {Tok Cx St Er V : Type 0} (same : V → V → Type 0) where
  onward-agrees : (place : ℕ) (m n : Meaning Tok Cx St Er V) → Agreeing same m n → Agreeing same (Onward place m) (Onward place n)
  onward-agrees place m n h b c o q l (inl k) (inl j) a z = h b c o q l k.1 j.1 a z
  onward-agrees place m n h b c o q l (inl k) (inr j) a z = absurd (stops-no_answer q (Halt NoProgress) (ap (λ (x : Outcome V Er St). x.verdict) j.1) (λ n. n) z)
  onward-agrees place m n h b c o q l (inr k) j a z = absurd (stops-no_answer o (Halt NoProgress) (ap (λ (x : Outcome V Er St). x.verdict) k.1) (λ n. n) a)

  waiting-agrees : (m n : Meaning Tok Cx St Er V) → Agreeing same m n → Agreeing same (Waiting m) (Waiting n)
  waiting-agrees m n h b c o q l (inl r) j a z = absurd (subst IsAnswer r.1 a)
  waiting-agrees m n h b c o q l (inr k) (inl r) a z = absurd (subst IsAnswer r.1 z)
  waiting-agrees m n h b c o q l (inr k) (inr j) a z = h b c o q l k j a z

  by_mark-agrees : {Mk : Type 0} (mark : St → Mk) (safe : Type 0) (part part' : Mk → Meaning Tok Cx St Er V)
      → ((m : Mk) → Agreeing same (part m) (part' m)) → Agreeing same (ByMark mark safe part) (ByMark mark safe part')
  by_mark-agrees mark safe part part' h b c o q l (inl r) j a z = absurd (subst IsAnswer r.1 a)
  by_mark-agrees mark safe part part' h b c o q l (inr k) (inl r) a z = absurd (subst IsAnswer r.1 z)
  by_mark-agrees mark safe part part' h b c o q l (inr k) (inr j) a z = h (mark b.state) b c o q l k (subst (λ i. part' (mark i) c q) (sym l.state) j) a z

module _ {Tok Cx St F V : Type 0} (same : V → V → Type 0) (found : F → F → Type 0) (gives : GivesShown Tok Cx St (F × Operands V) V) where
  abbrev Same : V → V → Type 0
  Same = SameExpression same found gives

  -- operands that stand alike and are the same
  abbrev SameOperands : Operands V → Operands V → Type 0
  SameOperands (After x) (After y) = Same x y
  SameOperands (After x) (Before y) = ⊥
  SameOperands (After x) (Around y z) = ⊥
  SameOperands (Before x) (After y) = ⊥
  SameOperands (Before x) (Before y) = Same x y
  SameOperands (Before x) (Around y z) = ⊥
  SameOperands (Around x u) (After y) = ⊥
  SameOperands (Around x u) (Before y) = ⊥
  SameOperands (Around x u) (Around y z) = Same x y × Same u z

  abbrev SameMade : F × Operands V → F × Operands V → Type 0
  SameMade p q = found p.0 q.0 × SameOperands p.1 q.1

  after-there : (f g : Option F) (x y : Option V) → SameValue found f g → SameValue Same x y → SameValue SameMade (all_there f (After x)) (all_there g (After y))
  after-there None g x y e d = tt
  after-there (Some f) g None y e d = tt
  after-there (Some f) None (Some x) y e d = tt
  after-there (Some f) (Some g) (Some x) None e d = tt
  after-there (Some f) (Some g) (Some x) (Some y) e d = (e, d)

  before-there : (f g : Option F) (x y : Option V) → SameValue found f g → SameValue Same x y → SameValue SameMade (all_there f (Before x)) (all_there g (Before y))
  before-there None g x y e d = tt
  before-there (Some f) g None y e d = tt
  before-there (Some f) None (Some x) y e d = tt
  before-there (Some f) (Some g) (Some x) None e d = tt
  before-there (Some f) (Some g) (Some x) (Some y) e d = (e, d)

  around-there : (f g : Option F) (x y u z : Option V) → SameValue found f g → SameValue Same x y → SameValue Same u z → SameValue SameMade (all_there f (Around x u)) (all_there g (Around y z))
  around-there None g x y u z e d k = tt
  around-there (Some f) g None y u z e d k = tt
  around-there (Some f) g (Some x) y None z e d k = tt
  around-there (Some f) None (Some x) y (Some u) z e d k = tt
  around-there (Some f) (Some g) (Some x) None (Some u) z e d k = tt
  around-there (Some f) (Some g) (Some x) (Some y) (Some u) None e d k = tt
  around-there (Some f) (Some g) (Some x) (Some y) (Some u) (Some z) e d k = (e, (d, k))

  made-same : (f g : F) (x y : Operands V) (run : Shown Tok Cx St) (v w : V) (s t : St) → found f g → SameOperands x y → gives (f, x) run v s → gives (g, y) run w t → Same v w
  made-same f g (After x) (After y) run v w s t e d h k = OfAfter e d h k
  made-same f g (After x) (Before y) run v w s t e d h k = absurd d
  made-same f g (After x) (Around y z) run v w s t e d h k = absurd d
  made-same f g (Before x) (After y) run v w s t e d h k = absurd d
  made-same f g (Before x) (Before y) run v w s t e d h k = OfBefore e d h k
  made-same f g (Before x) (Around y z) run v w s t e d h k = absurd d
  made-same f g (Around x u) (After y) run v w s t e d h k = absurd d
  made-same f g (Around x u) (Before y) run v w s t e d h k = absurd d
  made-same f g (Around x u) (Around y z) run v w s t e d h k = OfAround e d.0 d.1 h k

  -- what is given of them is the same
  pub folded-agrees : OnlyAnswers gives → {Er : Type 0} (from from' : ℕ) → from ≡ from'
      → (p q : Option (F × Operands V)) → SameValue SameMade p q
      → Agreeing Same (GivenShown {Tok = Tok} {Cx = Cx} {St = St} {Er = Er} gives from p) (GivenShown gives from' q)
  folded-agrees one from from' d p q e =
      shown-agrees gives one SameMade Same
      (λ v w k. made-same k.first.0 k.second.0 k.first.1 k.second.1 k.shown v w k.state k.other_state k.alike.0
      k.alike.1 k.from_first k.from_second)
      from from' d p q e

  -- rounds that did the same
  abbrev SameTurn : Turn V → Turn V → Type 0
  SameTurn Rests Rests = ⊤
  SameTurn Rests (Goes below y) = ⊥
  SameTurn (Goes below x) Rests = ⊥
  SameTurn (Goes below x) (Goes below' y) = (below ≡ below') × SameValue Same x y

module _ {Tok Cx St Mk Er F V : Type 0} (s : Syntax Tok Cx St Mk Er F V) (same : V → V → Type 0)
    (found : F → F → Type 0) (one : OnlyAnswers s.gives) (atom_agrees : Agreeing same s.atom s.atom)
    (reads_agree : (i : ℕ) → Agreeing found (s.reads i) (s.reads i)) where
  abbrev Counted : V → V → Type 0
  Counted = SameExpression same found s.gives

  abbrev Turns : Turn V → Turn V → Type 0
  Turns = SameTurn same found s.gives

  from-agrees : {W : Type 0} (sw : W → W → Type 0) (try try' : ℕ → Fixity → Meaning Tok Cx St Er W → Meaning Tok Cx St Er W)
      → ((i : ℕ) (f : Fixity) (next next' : Meaning Tok Cx St Er W) → Agreeing sw next next' → Agreeing sw (try i f next) (try' i f next'))
      → (count i : ℕ) (last last' : Meaning Tok Cx St Er W) → Agreeing sw last last' → Agreeing sw (From s try count i last) (From s try' count i last')
  from-agrees sw try try' h zero i last last' l = l
  from-agrees sw try try' h (suc count) i last last' l = h i (s.stands i) (From s try count (suc i) last) (From s try' count (suc i) last') (from-agrees sw try try' h count (suc i) last last' l)

  module _ (operand : ℕ → Meaning Tok Cx St Er V) (operands_agree : (power : ℕ) → Agreeing Counted (operand power) (operand power)) (start : ℕ) where
    goes-agree : (below : ℕ) (p q : Option (F × Operands V)) → SameValue (SameMade same found s.gives) p q
        → Agreeing Turns
        (Chained (GivenShown {Tok = Tok} {Cx = Cx} {St = St} {Er = Er} s.gives start p) (λ y. Given (Some (Goes below y))))
        (Chained (GivenShown s.gives start q) (λ y. Given (Some (Goes below y))))
    goes-agree below p q e =
        chained-agrees _ _ _ _ Counted Turns (folded-agrees same found s.gives one start start refl p q e)
        (λ v w d. given-agrees Turns (Some (Goes below v)) (Some (Goes below w)) (refl, d))

    after_prefix-agrees : (i power : ℕ) → Agreeing Counted (AfterPrefix s operand start i power) (AfterPrefix s operand start i power)
    after_prefix-agrees i power =
        chained-agrees (s.reads i) (s.reads i) _ _ found Counted (reads_agree i)
        (λ f g e. onward-agrees Counted start _ _ (waiting-agrees Counted _ _ (chained-agrees (operand power) (operand power) _ _ Counted Counted (operands_agree power)
        (λ v w d. folded-agrees same found s.gives one start start refl (all_there f (After v)) (all_there g (After w)) (after-there same found s.gives f g v w e d)))))

    module _ (least at below : ℕ) (x x' : Option V) (e : SameValue Counted x x') where
      after_postfix-agrees : (i : ℕ) → Agreeing Turns (AfterPostfix s operand start at x below i) (AfterPostfix s operand start at x' below i)
      after_postfix-agrees i =
          chained-agrees (s.reads i) (s.reads i) _ _ found Turns (reads_agree i)
          (λ f g d. onward-agrees Turns at _ _ (goes-agree below (all_there f (Before x)) (all_there g (Before x')) (before-there same found s.gives f g x x' d e)))

      after_infix-agrees : (bound i power : ℕ) → Agreeing Turns (AfterInfix s operand start at x bound i power) (AfterInfix s operand start at x' bound i power)
      after_infix-agrees bound i power =
          chained-agrees (s.reads i) (s.reads i) _ _ found Turns (reads_agree i)
          (λ f g d. onward-agrees Turns start _ _ (waiting-agrees Turns _ _ (chained-agrees (operand power) (operand power) _ _ Counted Turns (operands_agree power)
          (λ v w k. onward-agrees Turns at _ _ (goes-agree bound (all_there f (Around x v)) (all_there g (Around x' w)) (around-there same found s.gives f g x x' v w d e k))))))

      try_postfix-agrees : (m : Mk) (i : ℕ) (f : Fixity) (next next' : Meaning Tok Cx St Er (Turn V))
          → Agreeing Turns next next'
          → Agreeing Turns (TryPostfix s operand start least at x below m i f next)
          (TryPostfix s operand start least at x' below m i f next')
      try_postfix-agrees m i (Prefix power) next next' h = h
      try_postfix-agrees m i (Postfix power) next next' h = λ b c o q l y n a z. elim y [
        | inl k ↦ elim n [
          | inl j ↦ attempts-agree s.back s.safe m Turns (AfterPostfix s operand start at x below i)
              (AfterPostfix s operand start at x' below i) next next' (after_postfix-agrees i) h b c o q l k.1 j.1 a z
          | inr j ↦ absurd (omega (arith, k.0, j.0))
        ]
        | inr k ↦ elim n [ inl j ↦ absurd (omega (arith, k.0, j.0)) | inr j ↦ h b c o q l k.1 j.1 a z ]
      ]
      try_postfix-agrees m i (Infix left right chains) next next' h = h

      try_infix-agrees : (m : Mk) (i : ℕ) (f : Fixity) (next next' : Meaning Tok Cx St Er (Turn V))
          → Agreeing Turns next next'
          → Agreeing Turns (TryInfix s operand start least at x below m i f next) (TryInfix s operand start least at x' below m i f next')
      try_infix-agrees m i (Prefix power) next next' h = h
      try_infix-agrees m i (Postfix power) next next' h = h
      try_infix-agrees m i (Infix left right chains) next next' h = λ b c o q l y n a z.
          let bound = bound_by chains below left in
          elim y [
            | inl k ↦ elim n [
              | inl j ↦ attempts-agree s.back s.safe m Turns (AfterInfix s operand start at x bound i right)
                  (AfterInfix s operand start at x' bound i right) next next' (after_infix-agrees bound i right) h b c
                  o q l k.2 j.2 a z
              | inr j ↦ absurd (elim j.0 [ inl t ↦ (let no : ⊥ = omega (arith, k.0, t) in no) | inr t ↦ (let no : ⊥ = omega (arith, k.1, t) in no) ])
            ]
            | inr k ↦ elim n [
              | inl j ↦ absurd (elim k.0 [ inl t ↦ (let no : ⊥ = omega (arith, j.0, t) in no) | inr t ↦ (let no : ⊥ = omega (arith, j.1, t) in no) ])
              | inr j ↦ h b c o q l k.1 j.1 a z
            ]
          ]

    try_prefix-agrees : (m : Mk) (i : ℕ) (f : Fixity) (next next' : Meaning Tok Cx St Er V)
        → Agreeing Counted next next'
        → Agreeing Counted (TryPrefix s operand start m i f next) (TryPrefix s operand start m i f next')
    try_prefix-agrees m i (Prefix power) next next' h =
        attempts-agree s.back s.safe m Counted (AfterPrefix s operand start i power)
        (AfterPrefix s operand start i power) next next' (after_prefix-agrees i power) h
    try_prefix-agrees m i (Postfix power) next next' h = h
    try_prefix-agrees m i (Infix left right chains) next next' h = h

    head-agrees : Agreeing Counted (Head s operand start) (Head s operand start)
    head-agrees b c o q l m n a z =
        by_mark-agrees Counted s.mark s.safe _ _
        (λ k. from-agrees Counted (TryPrefix s operand start k) (TryPrefix s operand start k)
        (try_prefix-agrees k) s.number 0 s.atom s.atom
        (λ d e p r i j g t u. agree-weaker same Counted (λ v w y. OfAtoms y) p r (atom_agrees d e p r i j g t u)))
        b c o q l m.run n.run a z

    round-agrees : (least below : ℕ) (x x' : Option V) → SameValue Counted x x' → Agreeing Turns (Round s operand start least below x) (Round s operand start least below x')
    round-agrees least below x x' e b c o q l m n a z =
        by_mark-agrees Turns s.mark s.safe _ _
        (λ k. from-agrees Turns (TryPostfix s operand start least b.start x below k) (TryPostfix s operand start least b.start x' below k) (try_postfix-agrees least b.start below x x' e k) s.number 0
        (From s (TryInfix s operand start least b.start x below k) s.number 0 (Given (Some Rests))) (From s (TryInfix s operand start least b.start x' below k) s.number 0 (Given (Some Rests)))
        (from-agrees Turns (TryInfix s operand start least b.start x below k)
        (TryInfix s operand start least b.start x' below k) (try_infix-agrees least b.start below x x' e k)
        s.number 0 (Given (Some Rests)) (Given (Some Rests)) (given-agrees Turns (Some Rests) (Some Rests) tt)))
        b c o q l m.run
        (subst
        (λ p. ByMark s.mark s.safe
        (λ k. From s (TryPostfix s operand start least p x' below k) s.number 0
        (From s (TryInfix s operand start least p x' below k) s.number 0 (Given (Some Rests))))
        c q)
        (sym l.start) n.run)
        a z

    after_turn-agrees : (x x' : Option V) (next next' : ℕ → Option V → Meaning Tok Cx St Er V)
        → SameValue Counted x x'
        → ((below : ℕ) (y y' : Option V) → SameValue Counted y y' → Agreeing Counted (next below y) (next' below y'))
        → (t t' : Option (Turn V)) → SameValue Turns t t' → Agreeing Counted (AfterTurn x next t) (AfterTurn x' next' t')
    after_turn-agrees x x' next next' e h (Some Rests) (Some Rests) d = given-agrees Counted x x' e
    after_turn-agrees x x' next next' e h (Some Rests) (Some (Goes below y)) d = absurd d
    after_turn-agrees x x' next next' e h (Some (Goes below y)) (Some Rests) d = absurd d
    after_turn-agrees x x' next next' e h (Some (Goes below y)) (Some (Goes below' y')) d = λ b c o q l m n a z. h below y y' d.1 b c o q l m (subst (λ k. next' k y' c q) (sym d.0) n) a z
    after_turn-agrees x x' next next' e h None t' d = λ b c o q l m n a z. absurd m
    after_turn-agrees x x' next next' e h (Some Rests) None d = λ b c o q l m n a z. absurd n
    after_turn-agrees x x' next next' e h (Some (Goes below y)) None d = λ b c o q l m n a z. absurd n

    rounds-agree : (least n n' below : ℕ) (x x' : Option V) → SameValue Counted x x' → Agreeing Counted (Rounds s operand start least n below x) (Rounds s operand start least n' below x')
    rounds-agree least zero n' below x x' e b c o q l m n a z = absurd m
    rounds-agree least (suc i) zero below x x' e b c o q l m n a z = absurd n
    rounds-agree least (suc i) (suc j) below x x' e b c o q l m n a z =
        chained-agrees (Round s operand start least below x) (Round s operand start least below x')
        (AfterTurn x (Rounds s operand start least i)) (AfterTurn x' (Rounds s operand start least j)) Turns
        Counted (round-agrees least below x x' e)
        (after_turn-agrees x x' (Rounds s operand start least i) (Rounds s operand start least j) e (rounds-agree least i j)) b c o q l m n a z

  level-agrees : (operand : ℕ → Meaning Tok Cx St Er V)
      → ((power : ℕ) → Agreeing Counted (operand power) (operand power)) → (least : ℕ)
      → Agreeing Counted (Level s operand least) (Level s operand least)
  level-agrees operand h least b c o q l m n a z =
      chained-agrees (Head s operand b.start) (Head s operand b.start) (AllRounds s operand b.start least any_power)
      (AllRounds s operand b.start least any_power) Counted Counted (head-agrees operand h b.start)
      (λ x x' e d f p r i j k t u. rounds-agree operand h b.start least j.rounds k.rounds any_power x x' e d f p r i j.run k.run t u) b c o q l m.run
      (subst (λ p. Chained (Head s operand p) (AllRounds s operand p least any_power) c q) (sym l.start) n.run) a z

  below-agrees : (n least : ℕ) → Agreeing Counted (Below s n least) (Below s n least)
  below-agrees zero least b c o q l m k a z = absurd m
  below-agrees (suc n) least b c o q l m k a z =
      let even : left_at c ≡ left_at b = cc (l.tokens, l.start) in
      elim m [
        | inl i ↦ elim k [ inl j ↦ level-agrees (Below s n) (below-agrees n) least b c o q l i.1 j.1 a z | inr j ↦ absurd (omega (arith, even, i.0, j.0)) ]
        | inr i ↦ elim k [ inl j ↦ absurd (omega (arith, even, i.0, j.0)) | inr j ↦ below-agrees n least b c o q l i.1 j.1 a z ]
      ]

  pub expression-agree : (least : ℕ) → Agreeing Counted (Expression s least) (Expression s least)
  expression-agree least b c o q l m n a z =
      below-agrees (suc (length b.tokens.list)) least b c o q l m.run (subst (λ (k : Layout Tok). Below s (suc (length k.list)) least c q) (sym l.tokens) n.run) a z
