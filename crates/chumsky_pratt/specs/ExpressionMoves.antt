-- An expression moves wherever it succeeds, since its atom does, and an operator before it ends past its start.
-- Main law: expression-move. Read first: Expression.antt, and Moves.antt of chumsky_moves.
use Rattle.std.proofs.Common.{◌≡◌, ℕ, zero, suc, ◌≤◌, ◌<◌, Option, refl, sym, ap, subst, arith, inl, inr, length}
use Rattle.chumsky_input.specs.Outcome.{Meaning, Beginning, Outcome, Verdict, Yes, No, Halt, Clash, EndsAfterStart}
use Rattle.chumsky_parser.specs.Chained.{Chained, Follows, from}
use Rattle.chumsky_parser.specs.Choice.{ElseFrom}
use Rattle.chumsky_parser.specs.Laws.{chained-ends}
use Rattle.chumsky_parser.specs.Progress.{IsYes}
use Rattle.chumsky_parser.specs.Progress.{Moves}
use Rattle.chumsky_parser.specs.ProgressLaws.{yes-answers}
use Rattle.chumsky_parser.specs.Showing.{GivenShown}
use Rattle.chumsky_parser.specs.ShowingLaws.{shown-ends}
use Rattle.chumsky_pratt.specs.declared.fixity.Fixity.{Fixity}
use Rattle.chumsky_pratt.specs.declared.fixity.Fixity.TheVariants.{Prefix, Postfix, Infix}
use Rattle.chumsky_pratt.specs.declared.operands.Operands.TheVariants.{After}
use Rattle.chumsky_pratt.specs.Expression.{Syntax, any_power, all_there, Onward, Waiting, From, TryPrefix, Head, AllRounds, Below, Expression}
use Rattle.chumsky_pratt.specs.ExpressionLaws.{waiting-ends, rounds-end, below-ends}

-- a verdict that is no yes
no_yes : {V Er St : Type 0} (o : Outcome V Er St) {v : Verdict V Er} → o.verdict ≡ v → (IsYes v → ⊥) → IsYes o.verdict → ⊥
no_yes o e n y = n (subst IsYes e y)

module _ {Tok Cx St Mk Er F V : Type 0} (s : Syntax Tok Cx St Mk Er F V) (atom_ends : EndsAfterStart s.atom) (reads_end : (i : ℕ) → EndsAfterStart (s.reads i)) (atom_moves : Moves s.atom) where
  module _ (operand : ℕ → Meaning Tok Cx St Er V) (operand_ends : (power : ℕ) → EndsAfterStart (operand power)) (start : ℕ) where
    -- what begins here succeeds past here
    abbrev Past : Meaning Tok Cx St Er V → Type 0
    Past m = (b : Beginning Tok Cx St) (o : Outcome V Er St) → b.start ≡ start → m b o → IsYes o.verdict → start < o.end

    waited-ends : (power : ℕ) (f : Option F) → EndsAfterStart (Waiting (Chained (operand power) (λ v. GivenShown {Tok = Tok} {Cx = Cx} {St = St} {Er = Er} s.gives start (all_there f (After v)))))
    waited-ends power f = waiting-ends _ (chained-ends (operand power) _ (operand_ends power) (λ v. shown-ends s.gives start (all_there f (After v))))

    operand_past : (power : ℕ) (b : Beginning Tok Cx St) (p : Outcome F Er St) (o : Outcome V Er St) (v : Verdict F Er)
        → Follows v (λ f. Onward start (Waiting (Chained (operand power) (λ v. GivenShown s.gives start (all_there f (After v)))))) b p o → IsYes o.verdict → start < o.end
    operand_past power b p o (Yes f) g y =
        let verdict : o.verdict ≡ g.0.verdict = ap (λ (x : Outcome V Er St). x.verdict) g.2 in
        let last : o.end ≡ g.0.end = ap (λ (x : Outcome V Er St). x.end) g.2 in
        elim g.1 [
          | inl k ↦
              let second : p.end ≤ g.0.end = waited-ends power f (from b p) g.0 k.1 (yes-answers g.0.verdict (subst IsYes verdict y)) in
              omega (arith, k.0, second, last)
          | inr k ↦ absurd (no_yes g.0 (ap (λ (x : Outcome V Er St). x.verdict) k.1) (λ n. n) (subst IsYes verdict y))
        ]
    operand_past power b p o No g y = absurd (no_yes o (ap (λ (x : Outcome V Er St). x.verdict) g) (λ n. n) y)
    operand_past power b p o (Halt z) g y = absurd (no_yes o (ap (λ (x : Outcome V Er St). x.verdict) g) (λ n. n) y)
    operand_past power b p o (Clash z) g y = absurd (no_yes o (ap (λ (x : Outcome V Er St). x.verdict) g) (λ n. n) y)

    else_past : (m : Mk) (next : Meaning Tok Cx St Er V) (b : Beginning Tok Cx St) (p o : Outcome V Er St) (v : Verdict V Er)
        → (IsYes p.verdict → start < p.end) → Past next → b.start ≡ start → ElseFrom s.back s.safe m v next b p o
        → IsYes o.verdict → start < o.end
    else_past m next b p o (Yes v) h n t e y = subst (λ (x : Outcome V Er St). start < x.end) (sym e) (h (subst (λ (x : Outcome V Er St). IsYes x.verdict) e y))
    else_past m next b p o No h n t (inl r) y = absurd (subst IsYes r.1 y)
    else_past m next b p o No h n t (inr k) y =
        let verdict : o.verdict ≡ k.0.verdict = ap (λ (x : Outcome V Er St). x.verdict) k.2 in
        let end : o.end ≡ k.0.end = ap (λ (x : Outcome V Er St). x.end) k.2 in
        let past : start < k.0.end = n (record b { state = s.back p.state m }) k.0 t k.1 (subst IsYes verdict y) in
        omega (arith, past, end)
    else_past m next b p o (Halt z) h n t e y = subst (λ (x : Outcome V Er St). start < x.end) (sym e) (h (subst (λ (x : Outcome V Er St). IsYes x.verdict) e y))
    else_past m next b p o (Clash z) h n t e y = subst (λ (x : Outcome V Er St). start < x.end) (sym e) (h (subst (λ (x : Outcome V Er St). IsYes x.verdict) e y))

    prefix-past : (m : Mk) (i : ℕ) (f : Fixity) (next : Meaning Tok Cx St Er V) → Past next → Past (TryPrefix s operand start m i f next)
    prefix-past m i (Prefix power) next n =
        λ b o t h y. else_past m next b h.attempt o h.attempt.verdict
        (operand_past power b h.meant.first h.attempt h.meant.first.verdict h.meant.follows) n t h.then_else y
    prefix-past m i (Postfix power) next n = n
    prefix-past m i (Infix left right chains) next n = n

    from-past : (m : Mk) (count i : ℕ) → Past (From s (TryPrefix s operand start m) count i s.atom)
    from-past m zero i = λ b o t h y. (let l : b.start < o.end = atom_moves b o h y in omega (arith, l, t))
    from-past m (suc count) i = prefix-past m i (s.stands i) (From s (TryPrefix s operand start m) count (suc i) s.atom) (from-past m count (suc i))

    head-past : Past (Head s operand start)
    head-past b o t h y = elim h.run [ inl r ↦ absurd (subst IsYes r.1 y) | inr k ↦ from-past (s.mark b.state) s.number 0 b o t k y ]

  rounds_after : (operand : ℕ → Meaning Tok Cx St Er V) → ((power : ℕ) → EndsAfterStart (operand power))
      → (least : ℕ) (b : Beginning Tok Cx St) (p o : Outcome V Er St) (v : Verdict V Er) → p.verdict ≡ v
      → Head s operand b.start b p
      → Follows v (AllRounds s operand b.start least any_power) b p o → IsYes o.verdict → b.start < o.end
  rounds_after operand ends least b p o (Yes x) e h f y =
      let verdict : o.verdict ≡ f.0.verdict = ap (λ (z : Outcome V Er St). z.verdict) f.2 in
      let first : b.start < p.end = head-past operand ends b.start b p refl h (rw e tt) in
      let second : p.end ≤ f.0.end = rounds-end s atom_ends reads_end operand ends b.start least f.1.rounds any_power x (from b p) f.0 f.1.run (yes-answers f.0.verdict (subst IsYes verdict y)) in
      let last : o.end ≡ f.0.end = ap (λ (z : Outcome V Er St). z.end) f.2 in
      omega (arith, first, second, last)
  rounds_after operand ends least b p o No e h f y = absurd (no_yes o (ap (λ (z : Outcome V Er St). z.verdict) f) (λ n. n) y)
  rounds_after operand ends least b p o (Halt z) e h f y = absurd (no_yes o (ap (λ (z : Outcome V Er St). z.verdict) f) (λ n. n) y)
  rounds_after operand ends least b p o (Clash z) e h f y = absurd (no_yes o (ap (λ (z : Outcome V Er St). z.verdict) f) (λ n. n) y)

  below-moves : (n least : ℕ) → Moves (Below s n least)
  below-moves zero least b o m y = absurd m
  below-moves (suc n) least b o m y =
      elim m [
        | inl k ↦ rounds_after (Below s n) (below-ends s atom_ends reads_end n) least b k.1.run.first o k.1.run.first.verdict refl k.1.run.meant k.1.run.follows y
        | inr k ↦ below-moves n least b o k.1 y
      ]

  pub expression-move : (least : ℕ) → Moves (Expression s least)
  expression-move least b o m y = below-moves (suc (length b.tokens.list)) least b o m.run y
