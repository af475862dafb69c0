-- The laws of parsers in any order.
use Rattle.std.proofs.Common.{◌≡◌, ℕ, zero, suc, ◌≤◌, Option, Some, None, List, [], ◌∷◌, length, refl, ap, subst, arith, inl, inr}
use Rattle.std.specs.Prelude.{⊤}
use Rattle.chumsky_input.specs.Outcome.{Meaning, Beginning, Outcome, Verdict, Yes, No, Halt, Clash, SameValue, EndsAfterStart, Agreeing}
use Rattle.chumsky_parser.specs.Chained.{Chained, Given, Follows, Sequence, SamePair, both, from}
use Rattle.chumsky_parser.specs.Laws.{chained-ends, chained-agrees, given-ends, given-agrees, sequence-ends}
use Rattle.chumsky_parser.specs.FailureLaws.{SameUnit, no-ends, no-agrees}
use Rattle.chumsky_parser.specs.Choice.{SameEither}
use Rattle.chumsky_parser.specs.ChoiceLaws.{or_else-ends, or_else-agrees, agree-weaker}
use Rattle.chumsky_set.specs.AnyOrder.{Slot, still, Row, Past, Moving, Missing, Offered, no_part, part_and, TookNone, TookSome, Rounds, AnyOrder, WithinRounds}

-- both are not taken, or both are, with values that are the same where both are there
abbrev pub SameSlot : {V : Type 0} → (V → V → Type 0) → Slot V → Slot V → Type 0
SameSlot same (Some v) (Some w) = SameValue same v w
SameSlot same (Some v) None = ⊥
SameSlot same None (Some w) = ⊥
SameSlot same None None = ⊤

module _ {Tok Cx St Er V : Type 0} where
  past-ends : (place : ℕ) (v : Option V) → EndsAfterStart (Past {Tok = Tok} {Cx = Cx} {St = St} {Er = Er} place v)
  past-ends place v b o (inl m) a = given-ends (Some (Some v)) b o m.1 a
  past-ends place v b o (inr m) a = no-ends b o m.1 a

  past-agrees : (same : V → V → Type 0) (p q : ℕ) (v w : Option V) → p ≡ q → SameValue same v w
      → Agreeing (SameSlot same) (Past {Tok = Tok} {Cx = Cx} {St = St} {Er = Er} p v) (Past {Tok = Tok} {Cx = Cx} {St = St} {Er = Er} q w)
  past-agrees same p q v w e s b c o r alike (inl m) (inl n) a z = given-agrees (SameSlot same) (Some (Some v)) (Some (Some w)) s b c o r alike m.1 n.1 a z
  past-agrees same p q v w e s b c o r alike (inl m) (inr n) a z = absurd (omega (arith, m.0, n.0, e, alike.start))
  past-agrees same p q v w e s b c o r alike (inr m) (inl n) a z = absurd (omega (arith, m.0, n.0, e, alike.start))
  past-agrees same p q v w e s b c o r alike (inr m) (inr n) a z = no-agrees (SameSlot same) b c o r alike m.1 n.1 a z

  moving-ends : (part : Meaning Tok Cx St Er V) → EndsAfterStart part → EndsAfterStart (Moving part)
  moving-ends part h b o m a = chained-ends part (Past b.start) h (past-ends b.start) b o m.run a

  moving-agrees : (part : Meaning Tok Cx St Er V) (same : V → V → Type 0) → Agreeing same part part → Agreeing (SameSlot same) (Moving part) (Moving part)
  moving-agrees part same h b c o q alike m n a z =
      chained-agrees part part (Past b.start) (Past c.start) same (SameSlot same) h (λ v w s. past-agrees same b.start c.start v w alike.start s) b c o q alike m.run n.run a z

  pub missing-ends : (part : Meaning Tok Cx St Er V) (s : Slot V) → EndsAfterStart part → EndsAfterStart (Missing part s)
  missing-ends part (Some v) h = given-ends v
  missing-ends part None h = h

  pub missing-agrees : (part : Meaning Tok Cx St Er V) (same : V → V → Type 0) (s t : Slot V) → Agreeing same part part → SameSlot same s t → Agreeing same (Missing part s) (Missing part t)
  missing-agrees part same (Some v) (Some w) h e = given-agrees same v w e
  missing-agrees part same (Some v) None h e = absurd e
  missing-agrees part same None (Some w) h e = absurd e
  missing-agrees part same None None h e = h

module _ {V : Type 0} (same : V → V → Type 0) where
  pub still-same : (s t : Slot V) → SameSlot same s t → still s ≡ still t
  still-same (Some v) (Some w) e = refl
  still-same (Some v) None e = absurd e
  still-same None (Some w) e = absurd e
  still-same None None e = refl

  either-slot : (v w : Slot V) → SameEither (SameSlot same) (SameSlot same) v w → SameSlot same v w
  either-slot v w (inl s) = s
  either-slot v w (inr s) = s

module _ {Tok Cx St Mk Er V : Type 0} (mark : St → Mk) (back : St → Mk → St) (safe : Type 0) (part : Meaning Tok Cx St Er V) where
  pub offered-ends : (s : Slot V) → EndsAfterStart part → EndsAfterStart (Offered mark back safe part s)
  offered-ends (Some v) h = given-ends (Some (Some v))
  offered-ends None h = or_else-ends mark back safe (Moving part) (Given (Some None)) (moving-ends part h) (given-ends (Some None))

  pub offered-agrees : (same : V → V → Type 0) (s t : Slot V) → Agreeing same part part → SameSlot same s t → Agreeing (SameSlot same) (Offered mark back safe part s) (Offered mark back safe part t)
  offered-agrees same (Some v) (Some w) h e = given-agrees (SameSlot same) (Some (Some v)) (Some (Some w)) e
  offered-agrees same (Some v) None h e = absurd e
  offered-agrees same None (Some w) h e = absurd e
  offered-agrees same None None h e = λ b c o q alike m n a z.
      agree-weaker (SameEither (SameSlot same) (SameSlot same)) (SameSlot same) (either-slot same) o q
      (or_else-agrees mark back safe (Moving part) (Given (Some None)) (SameSlot same) (SameSlot same) (moving-agrees part same h)
      (given-agrees (SameSlot same) (Some None) (Some None) tt) b c o q alike m n a z)

module _ {Tok Cx St Er V W : Type 0} (part part' : Meaning Tok Cx St Er V) (last last' : Meaning Tok Cx St Er W) (sv : V → V → Type 0) (sw : W → W → Type 0) where
  pair-same : (v v' : Option V) (w w' : Option W) → SameValue sv v v' → SameValue sw w w' → SameValue (SamePair sv sw) (both v w) (both v' w')
  pair-same (Some v) (Some v') (Some w) (Some w') e d = (e, d)
  pair-same (Some v) (Some v') (Some w) None e d = tt
  pair-same (Some v) (Some v') None w' e d = tt
  pair-same (Some v) None (Some w) w' e d = tt
  pair-same (Some v) None None w' e d = tt
  pair-same None v' w w' e d = tt

  -- two sequences whose parts agree
  pair-agrees : Agreeing sv part part' → Agreeing sw last last' → Agreeing (SamePair sv sw) (Sequence part last) (Sequence part' last')
  pair-agrees f s =
      chained-agrees part part' _ _ sv (SamePair sv sw) f
      (λ v v' e. chained-agrees last last' _ _ sw (SamePair sv sw) s
      (λ w w' d. given-agrees (SamePair sv sw) (both v w) (both v' w') (pair-same v v' w w' e d)))

module _ {Tok Cx St Er T V : Type 0} where
  -- no answer of a pass over a row ends before its start
  pub record RowEnds (row : Row Tok Cx St Er T V) : Type 0 where
    pub pass : (t : T) → EndsAfterStart (row.pass t)
    pub last : (t : T) → EndsAfterStart (row.last t)

  -- passes over a row from what is the same agree
  pub record RowAgrees (row : Row Tok Cx St Er T V) (same_taken : T → T → Type 0) (same : V → V → Type 0) : Type 0 where
    pub pass : (t u : T) → same_taken t u → Agreeing same_taken (row.pass t) (row.pass u)
    pub last : (t u : T) → same_taken t u → Agreeing same (row.last t) (row.last u)
    pub left : (t u : T) → same_taken t u → row.left t ≡ row.left u

module _ {Tok Cx St Er : Type 0} where
  pub no_part-ends : RowEnds (no_part {Tok = Tok} {Cx = Cx} {St = St} {Er = Er})
  no_part-ends = record { pass = λ t. given-ends (Some t); last = λ t. given-ends (Some t) }

  pub no_part-agrees : RowAgrees (no_part {Tok = Tok} {Cx = Cx} {St = St} {Er = Er}) SameUnit SameUnit
  no_part-agrees = record { pass = λ t u e. given-agrees SameUnit (Some t) (Some u) tt; last = λ t u e. given-agrees SameUnit (Some t) (Some u) tt; left = λ t u e. refl }

module _ {Tok Cx St Mk Er : Type 0} (mark : St → Mk) (back : St → Mk → St) (safe : Type 0) {T V W : Type 0} (part : Meaning Tok Cx St Er V) (others : Row Tok Cx St Er T W) where
  pub part_and-ends : EndsAfterStart part → RowEnds others → RowEnds (part_and mark back safe part others)
  part_and-ends h r =
      record {
        pass = λ t. sequence-ends (Offered mark back safe part t.0) (others.pass t.1) (offered-ends mark back safe part t.0 h) (r.pass t.1);
        last = λ t. sequence-ends (Missing part t.0) (others.last t.1) (missing-ends part t.0 h) (r.last t.1);
      }

  pub part_and-agrees : (same : V → V → Type 0) (same_taken : T → T → Type 0) (same_rest : W → W → Type 0) → Agreeing same part part → RowAgrees others same_taken same_rest
      → RowAgrees (part_and mark back safe part others) (SamePair (SameSlot same) same_taken) (SamePair same same_rest)
  part_and-agrees same same_taken same_rest h r =
      record {
        pass = λ t u e. pair-agrees (Offered mark back safe part t.0) (Offered mark back safe part u.0) (others.pass t.1) (others.pass u.1) (SameSlot same) same_taken
            (offered-agrees mark back safe part same t.0 u.0 h e.0) (r.pass t.1 u.1 e.1);
        last = λ t u e. pair-agrees (Missing part t.0) (Missing part u.0) (others.last t.1) (others.last u.1) same same_rest (missing-agrees part same t.0 u.0 h e.0) (r.last t.1 u.1 e.1);
        left = λ t u e. let x = still-same same t.0 u.0 e.0 in let y = r.left t.1 u.1 e.1 in cc (x, y);
      }

module _ {Tok Cx St Er T V : Type 0} (row : Row Tok Cx St Er T V) where
  pub took_none-ends : RowEnds row → (t : T) (v : Option T) → EndsAfterStart (TookNone row t v)
  took_none-ends h t (Some u) b o m a = h.last u b o m.1 a
  took_none-ends h t None b o m a = absurd m

  pub took_some-ends : (t u : T) (next : Meaning Tok Cx St Er V) → EndsAfterStart next → (v : Option T) → EndsAfterStart (TookSome row t u next v)
  took_some-ends t u next h (Some v) b o m a = h b o m.2 a
  took_some-ends t u next h None b o m a = absurd m

  pub rounds-ends : RowEnds row → (us : List T) (t : T) → EndsAfterStart (Rounds row us t)
  rounds-ends h [] t = chained-ends (row.pass t) (TookNone row t) (h.pass t) (took_none-ends h t)
  rounds-ends h (u ∷ us) t = chained-ends (row.pass t) (TookSome row t u (Rounds row us u)) (h.pass t) (took_some-ends t u (Rounds row us u) (rounds-ends h us u))

  pub any_order-ends : (t : T) → RowEnds row → EndsAfterStart (AnyOrder row t)
  any_order-ends t h b o m a = rounds-ends h m.rounds t b o m.run a

  module _ (same_taken : T → T → Type 0) (same : V → V → Type 0) (h : RowAgrees row same_taken same) where
    none-agrees : (t u : T) (v w : Option T) → SameValue same_taken v w → Agreeing same (TookNone row t v) (TookNone row u w)
    none-agrees t u (Some v) (Some w) s b c o q alike m n a z = h.last v w s b c o q alike m.1 n.1 a z
    none-agrees t u (Some v) None s b c o q alike m n a z = absurd n
    none-agrees t u None w s b c o q alike m n a z = absurd m

    some-agrees : (t u x y : T) (next next' : Meaning Tok Cx St Er V) → (same_taken x y → Agreeing same next next')
        → (v w : Option T) → SameValue same_taken v w → Agreeing same (TookSome row t x next v) (TookSome row u y next' w)
    some-agrees t u x y next next' k (Some v) (Some w) s b c o q alike m n a z =
        k (subst (λ p. same_taken p y) m.0 (subst (λ p. same_taken v p) n.0 s)) b c o q alike m.2 n.2 a z
    some-agrees t u x y next next' k (Some v) None s b c o q alike m n a z = absurd n
    some-agrees t u x y next next' k None w s b c o q alike m n a z = absurd m

    -- of two rounds from what is the same, either both take a part or none does
    none-not-some : (t u y : T) → same_taken t u → (next : Meaning Tok Cx St Er V) → (v w : Option T) → SameValue same_taken v w
        → Agreeing same (TookNone row t v) (TookSome row u y next w)
    none-not-some t u y e next (Some v) (Some w) s b c o q alike m n a z = absurd (omega (arith, m.0, n.1, h.left t u e, h.left v w s))
    none-not-some t u y e next (Some v) None s b c o q alike m n a z = absurd n
    none-not-some t u y e next None w s b c o q alike m n a z = absurd m

    some-not-none : (t u x : T) → same_taken t u → (next : Meaning Tok Cx St Er V) → (v w : Option T) → SameValue same_taken v w
        → Agreeing same (TookSome row t x next v) (TookNone row u w)
    some-not-none t u x e next (Some v) (Some w) s b c o q alike m n a z = absurd (omega (arith, m.1, n.0, h.left t u e, h.left v w s))
    some-not-none t u x e next (Some v) None s b c o q alike m n a z = absurd n
    some-not-none t u x e next None w s b c o q alike m n a z = absurd m

    rounds-agree : (us vs : List T) (t u : T) → same_taken t u → Agreeing same (Rounds row us t) (Rounds row vs u)
    rounds-agree [] [] t u e = chained-agrees (row.pass t) (row.pass u) (TookNone row t) (TookNone row u) same_taken same (h.pass t u e) (none-agrees t u)
    rounds-agree [] (y ∷ ys) t u e =
        chained-agrees (row.pass t) (row.pass u) (TookNone row t) (TookSome row u y (Rounds row ys y)) same_taken same (h.pass t u e) (none-not-some t u y e (Rounds row ys y))
    rounds-agree (x ∷ xs) [] t u e =
        chained-agrees (row.pass t) (row.pass u) (TookSome row t x (Rounds row xs x)) (TookNone row u) same_taken same (h.pass t u e) (some-not-none t u x e (Rounds row xs x))
    rounds-agree (x ∷ xs) (y ∷ ys) t u e =
        chained-agrees (row.pass t) (row.pass u) (TookSome row t x (Rounds row xs x)) (TookSome row u y (Rounds row ys y)) same_taken same (h.pass t u e)
        (some-agrees t u x y (Rounds row xs x) (Rounds row ys y) (rounds-agree xs ys x y))

    pub any_order-agrees : (t : T) → same_taken t t → Agreeing same (AnyOrder row t) (AnyOrder row t)
    any_order-agrees t e b c o q alike x y a z = rounds-agree x.rounds y.rounds t t e b c o q alike x.run y.run a z

  -- a run has no more rounds that take a part than there are parts to take
  abbrev Fewer : ℕ → T → Meaning Tok Cx St Er V
  Fewer n t b o = (rounds : List T) × (length rounds ≤ n) × Rounds row rounds t b o

  -- what follows the first of some rounds
  abbrev AfterFirstRound : T → List T → Option T → Meaning Tok Cx St Er V
  AfterFirstRound t [] v b o = TookNone row t v b o
  AfterFirstRound t (u ∷ us) v b o = TookSome row t u (Rounds row us u) v b o

  from_first : (us : List T) (t : T) (b : Beginning Tok Cx St) (p : Outcome T Er St) (o : Outcome V Er St) → row.pass t b p → Follows p.verdict (AfterFirstRound t us) b p o → Rounds row us t b o
  from_first [] t b p o m f = record { first = p; meant = m; follows = f }
  from_first (u ∷ us) t b p o m f = record { first = p; meant = m; follows = f }

  first-fewer : (u : T) (us : List T) (n : ℕ) (t : T) → row.left t ≤ n → ((k : ℕ) → row.left u ≤ k → (b : Beginning Tok Cx St) (o : Outcome V Er St) → Rounds row us u b o → Fewer k u b o)
      → (v : Verdict T Er) (b : Beginning Tok Cx St) (p : Outcome T Er St) (o : Outcome V Er St) → Follows v (TookSome row t u (Rounds row us u)) b p o
      → (rounds : List T) × (length rounds ≤ n) × Follows v (AfterFirstRound t rounds) b p o
  first-fewer u us zero t l h (Yes (Some w)) b p o (q, m, e) = absurd (omega (arith, l, m.1))
  first-fewer u us (suc n) t l h (Yes (Some w)) b p o (q, m, e) =
      let k = ap (λ (x : T). row.left x) m.0 in
      let f = h n (omega (arith, l, m.1, k)) (from b p) q m.2 in
      (u ∷ f.0, omega (arith, f.1), (q, (m.0, m.1, f.2), e))
  first-fewer u us n t l h (Yes None) b p o (q, m, e) = absurd m
  first-fewer u us n t l h No b p o m = ([], omega arith, m)
  first-fewer u us n t l h (Halt s) b p o m = ([], omega arith, m)
  first-fewer u us n t l h (Clash x) b p o m = ([], omega arith, m)

  rounds-fewer : (us : List T) (n : ℕ) (t : T) → row.left t ≤ n → (b : Beginning Tok Cx St) (o : Outcome V Er St) → Rounds row us t b o → Fewer n t b o
  rounds-fewer [] n t l b o x = ([], omega arith, x)
  rounds-fewer (u ∷ us) n t l b o x =
      let f = first-fewer u us n t l (λ k j c q y. rounds-fewer us k u j c q y) x.first.verdict b x.first o x.follows in
      (f.0, f.1, from_first f.0 t b x.first o x.meant f.2)

  -- there are no more rounds than parts to take, and one, whatever follows
  pub any_order-within : {W : Type 0} (t : T) (next : Option V → Meaning Tok Cx St Er W) → WithinRounds row (suc (row.left t)) t next (Chained (AnyOrder row t) next)
  any_order-within t next b o m =
      let f = rounds-fewer m.meant.rounds (row.left t) t (omega arith) b m.first m.meant.run in
      (f.0, omega (arith, f.1), record { first = m.first; meant = f.2; follows = m.follows })
