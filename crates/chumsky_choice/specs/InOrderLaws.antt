-- That one alternative of a choice stands.
use Rattle.std.proofs.Common.{ℕ, zero, suc, List, [], ◌∷◌, ap, subst, inl, inr, arith}
use Rattle.chumsky_input.specs.declared.error.Error as error_trait
use Rattle.chumsky_input.specs.declared.inspector.Inspector as inspector_trait
use Rattle.chumsky_input.specs.declared.input.Input as input_trait
use Rattle.chumsky_input.specs.Outcome.{Meaning, Beginning, Outcome, IsAnswer}
use Rattle.chumsky_parser.specs.Choice.{Stands, FirstOf}
use Rattle.chumsky_parser.specs.ChoiceLaws.{AllAgree}
use Rattle.chumsky_combinator.specs.Standing.{SameByStandingIfAny}
use Rattle.chumsky_combinator.specs.StandingLaws.{first_of-both}
use Rattle.chumsky_choice.specs.Among.{FirstAmong}
use Rattle.chumsky_choice.specs.InOrder.{OneStands, StandsByOne, StandsByOneIfAny}

module _ {Tok Cx St Mk Er V : Type 0} (back : St → Mk → St) (safe : Type 0) (mark : Mk) where
  one_stands : (k : ℕ) (first : Meaning Tok Cx St Er V) (others : List (Meaning Tok Cx St Er V))
      (b : Beginning Tok Cx St) (o : Outcome V Er St)
      → IsAnswer o.verdict → Stands back safe mark k first others b o → OneStands back mark first others b o
  one_stands zero first [] b o a h = h.0
  one_stands (suc k) first [] b o a h = absurd h
  one_stands zero first (next ∷ others) b o a h = inl (h.0, λ e. absurd (omega (arith, h.1 e)))
  one_stands (suc k) first (next ∷ others) b o a h =
      elim h.3 [
        | inl r ↦ absurd (subst IsAnswer r.1 a)
        | inr t ↦ inr (h.0, t.0, h.1, h.2, one_stands k next others (record b { state = back h.0.state mark }) t.0 (subst IsAnswer (ap (λ (x : Outcome V Er St). x.verdict) t.2) a) t.1, t.2)
      ]

module _ {Tok Cx St Mk Er V : Type 0} (mark : St → Mk) (back : St → Mk → St) (safe : Type 0) where
  pub first_of-stands : (first : Meaning Tok Cx St Er V) (others : List (Meaning Tok Cx St Er V)) → StandsByOne mark back (FirstOf mark back safe first others) (first ∷ others)
  first_of-stands first [] b o h a = h.cases
  first_of-stands first (next ∷ others) b o h a = elim h.cases [ inl r ↦ absurd (subst IsAnswer r.1 a) | inr t ↦ one_stands back safe (mark b.state) t.k first (next ∷ others) b o a t.stands ]

module _ {I Tok Sp Cu Er St Mk Cx V : Type 0} (source : input_trait.Ghosts I Cu Tok Sp) (errors : error_trait.Ghosts Er I Tok Sp) (states : inspector_trait.Ghosts St I Mk Tok Sp) where
  pub first_among-stands : (alternatives : List (Meaning Tok Cx states.Seen errors.Seen V)) → StandsByOneIfAny states.mark states.back (FirstAmong source errors states alternatives) alternatives
  first_among-stands [] = λ b o h a. elim h.cases [ inl r ↦ absurd (subst IsAnswer r.1 a) | inr f ↦ elim f.by [ inl y ↦ y.0 | inr k ↦ absurd (subst IsAnswer k.0 a) ] ]
  first_among-stands (first ∷ others) = λ b o h a. first_of-stands states.mark states.back states.takes_no_memory first others b o h.cases a

  pub first_among-both : (ss : List (V → V → Type 0)) (alternatives : List (Meaning Tok Cx states.Seen errors.Seen V))
      → AllAgree ss alternatives
      → SameByStandingIfAny states.mark states.back states.takes_no_memory (FirstAmong source errors states alternatives) ss alternatives
  first_among-both ss [] h = tt
  first_among-both [] (first ∷ others) h = absurd h.each
  first_among-both (s ∷ ss) (first ∷ others) h = λ b c o q alike m n a z. first_of-both states.mark states.back states.takes_no_memory s ss first others h b c o q alike m.cases n.cases a z
