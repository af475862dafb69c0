-- Values and rounds are read as by ordered choices.
-- Main laws: reads_by_choice, turns_by_choice. Read first: Choices.antt.
use Rattle.std.proofs.Common.{◌≡◌, ℕ, zero, suc, ◌<◌, ◌≤◌, ◌⊎◌, Bool, true, false, ◌&&◌, nat_le, nat_lt, Option, Some, List, [], ◌∷◌, refl, inl, inr, arith}
use Rattle.std.proofs.lemmas.Bool.{leb-true, leb-false, ltb-true, ltb-false}
use Rattle.chumsky_input.specs.Outcome.{Meaning, Beginning, Outcome, Verdict, Yes, No, Halt, Clash}
use Rattle.chumsky_parser.specs.Chained.{Given}
use Rattle.chumsky_parser.specs.Choice.{ElseFrom, AttemptFrom, FirstFrom}
use Rattle.chumsky_parser.specs.ChoiceLaws.{attempts-first_from, first_from-attempts, first_from-only}
use Rattle.chumsky_pratt.specs.declared.fixity.Fixity.{Fixity}
use Rattle.chumsky_pratt.specs.declared.fixity.Fixity.TheVariants.{Prefix, Postfix, Infix}
use Rattle.chumsky_pratt.specs.Operators.{bound_by}
use Rattle.chumsky_pratt.specs.Expression.{Syntax, Turn, Rests, From, AfterPrefix, AfterPostfix, AfterInfix, TryPrefix, TryPostfix, TryInfix, Below}
use Rattle.chumsky_pratt.specs.Choices.{put_if, FirstBy, put_before, put_prefix, head_choices, put_postfix, put_infix, round_choices, ReadsByChoice, TurnsByChoice}

module _ {Tok Cx St Mk Er W : Type 0} (back : St → Mk → St) (safe : Type 0) (m : Mk) where
  -- what is done is an ordered choice of these, of which there is one at least
  abbrev Chooses : Meaning Tok Cx St Er W → List (Meaning Tok Cx St Er W) → Type 0
  Chooses next [] = ⊥
  Chooses next (first ∷ others) = (b : Beginning Tok Cx St) (o : Outcome W Er St) → (next b o → FirstFrom back safe m first others b o) × (FirstFrom back safe m first others b o → next b o)

  else_by : (a c : Meaning Tok Cx St Er W) → ((b : Beginning Tok Cx St) (o : Outcome W Er St) → a b o → c b o)
      → (v : Verdict W Er) (b : Beginning Tok Cx St) (p o : Outcome W Er St) → ElseFrom back safe m v a b p o
      → ElseFrom back safe m v c b p o
  else_by a c h (Yes v) b p o e = e
  else_by a c h No b p o (inl r) = inl r
  else_by a c h No b p o (inr t) = inr (t.0, h (record b { state = back p.state m }) t.0 t.1, t.2)
  else_by a c h (Halt s) b p o e = e
  else_by a c h (Clash x) b p o e = e

  attempt_by : (first a c : Meaning Tok Cx St Er W)
      → ((b : Beginning Tok Cx St) (o : Outcome W Er St) → a b o → c b o)
      → (b : Beginning Tok Cx St) (o : Outcome W Er St) → AttemptFrom back safe m first a b o
      → AttemptFrom back safe m first c b o
  attempt_by first a c h b o t = record { attempt = t.attempt; meant = t.meant; then_else = else_by a c h t.attempt.verdict b t.attempt o t.then_else }

  one-chooses : (last : Meaning Tok Cx St Er W) → Chooses last (last ∷ [])
  one-chooses last b o = ((λ h. record { k = 0; stands = (h, λ e. refl) }), first_from-only back safe m last b o)

  attempt-chooses : (first next : Meaning Tok Cx St Er W) (others : List (Meaning Tok Cx St Er W)) → Chooses next others → Chooses (AttemptFrom back safe m first next) (first ∷ others)
  attempt-chooses first next [] h = absurd h
  attempt-chooses first next (c ∷ cs) h = λ b o. (
    (λ t. attempts-first_from back safe m first c cs b o (attempt_by first next (FirstFrom back safe m c cs) (λ d p. (h d p).0) b o t)),
    (λ t. attempt_by first (FirstFrom back safe m c cs) next (λ d p. (h d p).1) b o (first_from-attempts back safe m first c cs b o t)),
  )

  chosen-first : (next : Meaning Tok Cx St Er W) (others : List (Meaning Tok Cx St Er W)) → Chooses next others
      → (b : Beginning Tok Cx St) (o : Outcome W Er St)
      → (next b o → FirstBy back safe m others b o) × (FirstBy back safe m others b o → next b o)
  chosen-first next [] h = absurd h
  chosen-first next (c ∷ cs) h = h

  -- a choice that is made only if something is so
  either-chooses : (P Q : Type 0) (c : Bool) (a next : Meaning Tok Cx St Er W) (others : List (Meaning Tok Cx St Er W))
      → (c ≡ true → P) → (c ≡ false → Q) → (P → Q → ⊥) → Chooses (AttemptFrom back safe m a next) (a ∷ others)
      → Chooses next others
      → Chooses (λ b o. (P × AttemptFrom back safe m a next b o) ⊎ (Q × next b o)) (put_if c a others)
  either-chooses P Q true a next others p q n h k = λ b o. (
    (λ t. elim t [ inl x ↦ (h b o).0 x.1 | inr x ↦ absurd (n (p refl) x.0) ]),
    (λ t. inl (p refl, (h b o).1 t)),
  )
  either-chooses P Q false a next [] p q n h k = absurd k
  either-chooses P Q false a next (c ∷ cs) p q n h k = λ b o. (
    (λ t. elim t [ inl x ↦ absurd (n x.0 (q refl)) | inr x ↦ (k b o).0 x.1 ]),
    (λ t. inr (q refl, (k b o).1 t)),
  )

  same-chooses : (a c : Meaning Tok Cx St Er W) (others : List (Meaning Tok Cx St Er W))
      → ((b : Beginning Tok Cx St) (o : Outcome W Er St) → (a b o → c b o) × (c b o → a b o)) → Chooses a others
      → Chooses c others
  same-chooses a c [] e h = absurd h
  same-chooses a c (x ∷ xs) e h = λ b o. ((λ t. (h b o).0 ((e b o).1 t)), (λ t. (e b o).0 ((h b o).1 t)))

is_between : (least left below : ℕ) (a c : Bool) → nat_le least left ≡ a → nat_lt left below ≡ c → (a && c) ≡ true → (least ≤ left) × (left < below)
is_between least left below true true e f g = (leb-true least left e, ltb-true left below f)
is_between least left below true false e f g = absurd (cc)
is_between least left below false c e f g = absurd (cc)

is_outside : (least left below : ℕ) (a c : Bool) → nat_le least left ≡ a → nat_lt left below ≡ c → (a && c) ≡ false → (left < least) ⊎ (below ≤ left)
is_outside least left below true true e f g = absurd (cc)
is_outside least left below true false e f g = inr (ltb-false left below f)
is_outside least left below false c e f g = inl (leb-false least left e)

module _ {Tok Cx St Mk Er F V : Type 0} (s : Syntax Tok Cx St Mk Er F V) where
  module _ (m : Mk) {W : Type 0} (try : ℕ → Fixity → Meaning Tok Cx St Er W → Meaning Tok Cx St Er W) (put : ℕ → Fixity → List (Meaning Tok Cx St Er W) → List (Meaning Tok Cx St Er W)) where
    from-chooses
        : ((i : ℕ) (f : Fixity) (next : Meaning Tok Cx St Er W) (others : List (Meaning Tok Cx St Er W))
        → Chooses s.back s.safe m next others → Chooses s.back s.safe m (try i f next) (put i f others))
        → (count i : ℕ) (last : Meaning Tok Cx St Er W) (others : List (Meaning Tok Cx St Er W))
        → Chooses s.back s.safe m last others
        → Chooses s.back s.safe m (From s try count i last) (put_before s put count i others)
    from-chooses h zero i last others l = l
    from-chooses h (suc count) i last others l = h i (s.stands i) (From s try count (suc i) last) (put_before s put count (suc i) others) (from-chooses h count (suc i) last others l)

  module _ (operand : ℕ → Meaning Tok Cx St Er V) (start : ℕ) (m : Mk) where
    prefix-chooses : (i : ℕ) (f : Fixity) (next : Meaning Tok Cx St Er V) (others : List (Meaning Tok Cx St Er V))
        → Chooses s.back s.safe m next others
        → Chooses s.back s.safe m (TryPrefix s operand start m i f next) (put_prefix s operand start i f others)
    prefix-chooses i (Prefix power) next others h = attempt-chooses s.back s.safe m (AfterPrefix s operand start i power) next others h
    prefix-chooses i (Postfix power) next others h = h
    prefix-chooses i (Infix left right chains) next others h = h

    head-chooses : Chooses s.back s.safe m (From s (TryPrefix s operand start m) s.number 0 s.atom) (head_choices s operand start)
    head-chooses = from-chooses m (TryPrefix s operand start m) (put_prefix s operand start) prefix-chooses s.number 0 s.atom (s.atom ∷ []) (one-chooses s.back s.safe m s.atom)

    module _ (least at below : ℕ) (x : Option V) where
      postfix-chooses : (i : ℕ) (f : Fixity) (next : Meaning Tok Cx St Er (Turn V)) (others : List (Meaning Tok Cx St Er (Turn V))) → Chooses s.back s.safe m next others
          → Chooses s.back s.safe m (TryPostfix s operand start least at x below m i f next) (put_postfix s operand start least at below x i f others)
      postfix-chooses i (Prefix power) next others h = h
      postfix-chooses i (Postfix power) next others h =
          either-chooses s.back s.safe m (least ≤ power) (power < least) (nat_le least power)
          (AfterPostfix s operand start at x below i) next others (leb-true least power) (leb-false least power)
          (λ p q. omega (arith, p, q))
          (attempt-chooses s.back s.safe m (AfterPostfix s operand start at x below i) next others h) h
      postfix-chooses i (Infix left right chains) next others h = h

      infix-chooses : (i : ℕ) (f : Fixity) (next : Meaning Tok Cx St Er (Turn V)) (others : List (Meaning Tok Cx St Er (Turn V))) → Chooses s.back s.safe m next others
          → Chooses s.back s.safe m (TryInfix s operand start least at x below m i f next) (put_infix s operand start least at below x i f others)
      infix-chooses i (Prefix power) next others h = h
      infix-chooses i (Postfix power) next others h = h
      infix-chooses i (Infix left right chains) next others h =
          let a : Meaning Tok Cx St Er (Turn V) = AfterInfix s operand start at x (bound_by chains below left) i right in
          same-chooses s.back s.safe m (λ b o. (((least ≤ left) × (left < below)) × AttemptFrom s.back s.safe m a next b o) ⊎ (((left < least) ⊎ (below ≤ left)) × next b o))
          (TryInfix s operand start least at x below m i (Infix left right chains) next) (put_if (nat_le least left && nat_lt left below) a others)
          (λ b o. ((λ t. elim t [ inl k ↦ inl (k.0.0, k.0.1, k.1) | inr k ↦ inr k ]), (λ t. elim t [ inl k ↦ inl ((k.0, k.1), k.2) | inr k ↦ inr k ])))
          (either-chooses s.back s.safe m ((least ≤ left) × (left < below)) ((left < least) ⊎ (below ≤ left)) (nat_le least left && nat_lt left below) a next others
          (is_between least left below (nat_le least left) (nat_lt left below) refl refl) (is_outside least left below (nat_le least left) (nat_lt left below) refl refl)
          (λ p q. elim q [ inl k ↦ (let no : ⊥ = omega (arith, p.0, k) in no) | inr k ↦ (let no : ⊥ = omega (arith, p.1, k) in no) ])
          (attempt-chooses s.back s.safe m a next others h) h)

      round-chooses : Chooses s.back s.safe m
          (From s (TryPostfix s operand start least at x below m) s.number 0
          (From s (TryInfix s operand start least at x below m) s.number 0 (Given (Some Rests))))
          (round_choices s operand start least at below x)
      round-chooses =
          from-chooses m (TryPostfix s operand start least at x below m)
          (put_postfix s operand start least at below x) postfix-chooses s.number 0
          (From s (TryInfix s operand start least at x below m) s.number 0 (Given (Some Rests)))
          (put_before s (put_infix s operand start least at below x) s.number 0 (Given (Some Rests) ∷ []))
          (from-chooses m (TryInfix s operand start least at x below m) (put_infix s operand start least at below x)
          infix-chooses s.number 0 (Given (Some Rests)) (Given (Some Rests) ∷ [])
          (one-chooses s.back s.safe m (Given (Some Rests))))

  pub reads_by_choice : ReadsByChoice s
  reads_by_choice n start b o =
      let k = chosen-first s.back s.safe (s.mark b.state) _ _ (head-chooses (Below s n) start (s.mark b.state)) b o in (
        (λ h. elim h.run [ inl r ↦ inl r | inr t ↦ inr (k.0 t) ]),
        (λ h. record { run = elim h [ inl r ↦ inl r | inr t ↦ inr (k.1 t) ] }),
      )

  pub turns_by_choice : TurnsByChoice s
  turns_by_choice n start least below x b o =
      let k = chosen-first s.back s.safe (s.mark b.state) _ _ (round-chooses (Below s n) start (s.mark b.state) least b.start below x) b o in (
        (λ h. elim h.run [ inl r ↦ inl r | inr t ↦ inr (k.0 t) ]),
        (λ h. record { run = elim h [ inl r ↦ inl r | inr t ↦ inr (k.1 t) ] }),
      )
