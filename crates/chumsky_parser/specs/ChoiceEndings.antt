-- Where an ordered choice ends, and with which values, by where its alternatives end.
-- Main laws: or_else-here, or-by, first_stands, second_stands. Read first: Ending.antt, Choice.antt, Words.antt.
use Rattle.std.proofs.Common.{◌≡◌, ℕ, List, drop, refl, subst, ◌⊎◌, inl, inr}
use Rattle.chumsky_input.specs.declared.stop.Stop.TheVariants.{Memory}
use Rattle.chumsky_input.specs.Outcome.{Meaning, Beginning, Outcome, Verdict, Yes, No, Halt, Clash}
use Rattle.chumsky_parser.specs.Choice.{ElseFrom, OrElse}
use Rattle.chumsky_parser.specs.Ending.{Ending, At, Nowhere, Refused, Ender, or_else, IfValue, Answers, Here, Reads}
use Rattle.chumsky_parser.specs.EndingLaws.{refuses-by}
use Rattle.chumsky_parser.specs.Words.{either_ends, ElseValue}

module _ {Tok Er V : Type 0} (P Q : V → Type 0) (x y : Ending (List Tok)) (ts : List Tok) where
  -- the answer of the first, where it doesn't say no
  pub first_stands : (u : Verdict V Er) (end : ℕ) → (u ≡ No → ⊥) → Answers P x ts u end → Answers (λ v. ElseValue x (P v) (Q v)) (or_else x y) ts u end
  first_stands (Yes v) end n a =
      let i : IfValue (λ v. ElseValue x (P v) (Q v)) v = rw a.0 a.1 in
      let e : or_else x y ≡ At (drop end ts) = rw a.0 refl in
      (e, i, a.2)
  first_stands No end n a = absurd (n refl)
  first_stands (Halt s) end n a = elim a [ inl q ↦ inl q | inr q ↦ inr (rw q refl) ]
  first_stands (Clash c) end n a = a

  -- the answer of the second, where the first says no
  pub second_stands : (u : Verdict V Er) (end : ℕ) → x ≡ Nowhere → Answers Q y ts u end → Answers (λ v. ElseValue x (P v) (Q v)) (or_else x y) ts u end
  second_stands u end e a = rw e a

module _ {Tok Cx St Mk Er V : Type 0} (mark : St → Mk) (back : St → Mk → St) (safe : Type 0) where
  else_by : (first second : Meaning Tok Cx St Er V) (P Q : V → Type 0) (x y : Ending (List Tok)) (b : Beginning Tok Cx St) → Here P first x b → ((s : St) → Here Q second y (record b { state = s }))
      → (m : Mk) (o p : Outcome V Er St) (u : Verdict V Er) → p.verdict ≡ u → first b p → ElseFrom back safe m u second b p o
      → Answers (λ v. ElseValue x (P v) (Q v)) (or_else x y) b.tokens.list o.verdict o.end
  else_by first second P Q x y b h k m o p (Yes v) e f g =
      let a : Answers P {Er = Er} x b.tokens.list (Yes v) p.end = subst (λ u. Answers P {Er = Er} x b.tokens.list u p.end) e (h p f) in
      let yes : Verdict V Er = Yes v in
      let never : yes ≡ No → ⊥ = λ n. cc n in
      let z : Answers (λ v. ElseValue x (P v) (Q v)) {Er = Er} (or_else x y) b.tokens.list (Yes v) p.end = first_stands P Q x y b.tokens.list (Yes v) p.end never a in
      rw (g, e) z
  else_by first second P Q x y b h k m o p No e f (inl g) = refuses-by (λ v. ElseValue x (P v) (Q v)) (or_else x y) b.tokens.list o g
  else_by first second P Q x y b h k m o p No e f (inr g) =
      let a : x ≡ Nowhere = subst (λ u. Answers P {Er = Er} x b.tokens.list u p.end) e (h p f) in
      let z : Answers (λ v. ElseValue x (P v) (Q v)) (or_else x y) b.tokens.list g.0.verdict g.0.end = second_stands P Q x y b.tokens.list g.0.verdict g.0.end a (k (back p.state m) g.0 g.1) in
      rw g.2 z
  else_by first second P Q x y b h k m o p (Halt s) e f g =
      let a : (s ≡ Memory) ⊎ (x ≡ Refused) = subst (λ u. Answers P {Er = Er} x b.tokens.list u p.end) e (h p f) in
      let z : (s ≡ Memory) ⊎ (or_else x y ≡ Refused) = elim a [ inl q ↦ inl q | inr q ↦ inr (rw q refl) ] in
      rw (g, e) z
  else_by first second P Q x y b h k m o p (Clash s) e f g = rw (g, e) tt

  -- one alternative or the other, from here
  pub or_else-here : (first second : Meaning Tok Cx St Er V) (P Q : V → Type 0) (x y : Ending (List Tok)) (b : Beginning Tok Cx St)
      → Here P first x b → ((s : St) → Here Q second y (record b { state = s }))
      → Here (λ v. ElseValue x (P v) (Q v)) (OrElse mark back safe first second) (or_else x y) b
  or_else-here first second P Q x y b h k o m = elim m.cases [
    | inl r ↦ refuses-by (λ v. ElseValue x (P v) (Q v)) (or_else x y) b.tokens.list o r
    | inr a ↦ else_by first second P Q x y b h k (mark b.state) o a.attempt a.attempt.verdict refl a.meant a.then_else
  ]

  -- `first.or(second)`
  pub or-by : (first second : Meaning Tok Cx St Er V) (f g : Ender Tok) (va vb : List Tok → V → Type 0) → Reads first f va → Reads second g vb
      → Reads (OrElse mark back safe first second) (either_ends f g) (λ ts v. ElseValue (f ts) (va ts v) (vb ts v))
  or-by first second f g va vb h k = record {
    here = λ b w.
        let ts : List Tok = drop b.start b.tokens.list in
        or_else-here first second (va ts) (vb ts) (f ts) (g ts) b (h.here b w) (λ s. k.here (record b { state = s }) (record { start = w.start; few = w.few }));
  }
