-- The laws of turns.
use Rattle.std.proofs.Common.{◌≡◌, ℕ, zero, suc, Option, Some, None, refl, sym, subst}
use Rattle.chumsky_input.specs.Outcome.{Meaning, Beginning, Outcome, Verdict, Yes, No, Halt, Clash, SameValue, EndsAfterStart, Agreeing}
use Rattle.chumsky_parser.specs.Chained.{Chained, Follows}
use Rattle.chumsky_parser.specs.Laws.{chained-ends, chained-agrees, given-ends, given-agrees}
use Rattle.chumsky_recovery.specs.Turns.{Turn, Again, Last, SameTurn, AfterTurn, TurnsUpTo, AllTurns}

module _ {Tok Cx St Er V : Type 0} where
  pub after_turn-ends : (next : Meaning Tok Cx St Er V) → EndsAfterStart next → (t : Option (Turn V)) → EndsAfterStart (AfterTurn next t)
  after_turn-ends next h (Some Again) = h
  after_turn-ends next h (Some (Last v)) = given-ends v
  after_turn-ends next h None = λ b o m a. absurd m

  after_turn-agrees : (same : V → V → Type 0) (next other : Meaning Tok Cx St Er V) → Agreeing same next other
      → (t u : Option (Turn V)) → SameValue (SameTurn same) t u → Agreeing same (AfterTurn next t) (AfterTurn other u)
  after_turn-agrees same next other h (Some Again) (Some Again) e = h
  after_turn-agrees same next other h (Some Again) (Some (Last w)) e = absurd e
  after_turn-agrees same next other h (Some (Last v)) (Some Again) e = absurd e
  after_turn-agrees same next other h (Some (Last v)) (Some (Last w)) e = given-agrees same v w e
  after_turn-agrees same next other h (Some t) None e = λ b c o q alike m n a z. absurd n
  after_turn-agrees same next other h None u e = λ b c o q alike m n a z. absurd m

module _ {Tok Cx St Er V : Type 0} (turn : Meaning Tok Cx St Er (Turn V)) where
  pub turns-end : EndsAfterStart turn → (n : ℕ) → EndsAfterStart (TurnsUpTo turn n)
  turns-end h zero = λ b o m a. absurd m
  turns-end h (suc n) = chained-ends turn (AfterTurn (TurnsUpTo turn n)) h (after_turn-ends (TurnsUpTo turn n) (turns-end h n))

  pub all_turns-end : EndsAfterStart turn → EndsAfterStart (AllTurns turn)
  all_turns-end h b o m a = turns-end h m.turns b o m.run a

  module _ (same : V → V → Type 0) (h : Agreeing (SameTurn same) turn turn) where
    turns-agree : (n k : ℕ) → Agreeing same (TurnsUpTo turn n) (TurnsUpTo turn k)
    turns-agree zero k = λ b c o q alike m r a z. absurd m
    turns-agree (suc n) zero = λ b c o q alike m r a z. absurd r
    turns-agree (suc n) (suc k) =
        chained-agrees turn turn (AfterTurn (TurnsUpTo turn n)) (AfterTurn (TurnsUpTo turn k)) (SameTurn same) same h (after_turn-agrees same (TurnsUpTo turn n) (TurnsUpTo turn k) (turns-agree n k))

    pub all_turns-agree : Agreeing same (AllTurns turn) (AllTurns turn)
    all_turns-agree b c o q alike m r a z = turns-agree m.turns r.turns b c o q alike m.run r.run a z

  unrolled : (b : Beginning Tok Cx St) (p : Outcome (Turn V) Er St) (o : Outcome V Er St) → turn b p
      → (v : Verdict (Turn V) Er) → p.verdict ≡ v → Follows v (AfterTurn (AllTurns turn)) b p o → AllTurns turn b o
  unrolled b p o m (Yes (Some Again)) e f =
      record { turns = suc f.1.turns; run = record { first = p; meant = m; follows = subst (λ v. Follows v (AfterTurn (TurnsUpTo turn f.1.turns)) b p o) (sym e) (f.0, f.1.run, f.2) } }
  unrolled b p o m (Yes (Some (Last v))) e f = record { turns = 1; run = record { first = p; meant = m; follows = subst (λ v. Follows v (AfterTurn (TurnsUpTo turn 0)) b p o) (sym e) f } }
  unrolled b p o m (Yes None) e f = absurd f.1
  unrolled b p o m No e f = record { turns = 1; run = record { first = p; meant = m; follows = subst (λ v. Follows v (AfterTurn (TurnsUpTo turn 0)) b p o) (sym e) f } }
  unrolled b p o m (Halt s) e f = record { turns = 1; run = record { first = p; meant = m; follows = subst (λ v. Follows v (AfterTurn (TurnsUpTo turn 0)) b p o) (sym e) f } }
  unrolled b p o m (Clash x) e f = record { turns = 1; run = record { first = p; meant = m; follows = subst (λ v. Follows v (AfterTurn (TurnsUpTo turn 0)) b p o) (sym e) f } }

  -- one turn, and then the others
  pub all_turns-unrolled : (b : Beginning Tok Cx St) (o : Outcome V Er St) → Chained turn (AfterTurn (AllTurns turn)) b o → AllTurns turn b o
  all_turns-unrolled b o m = unrolled b m.first o m.meant m.first.verdict refl m.follows
