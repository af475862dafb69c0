-- By which alternative two answers of a choice of one are the same; and that one of alternatives in order stands.
use Rattle.std.proofs.Common.{List, [], ◌∷◌, refl}
use Rattle.chumsky_input.specs.declared.error.Error as error_trait
use Rattle.chumsky_input.specs.declared.inspector.Inspector as inspector_trait
use Rattle.chumsky_input.specs.Words.{Does}
use Rattle.chumsky_input.specs.Outcome.{Meaning, Agreeing}
use Rattle.chumsky_combinator.specs.Standing.{SameByStanding, each_meant}
use Rattle.chumsky_choice.specs.InOrderLaws.{first_of-stands}
use Rattle.chumsky_choice.specs.Alternatives.{TriesInOrder, StandsByOneIn}

module _ {Tok Cx St Mk Er V : Type 0} (mark : St → Mk) (back : St → Mk → St) (safe : Type 0) where
  -- one alternative by itself stands in both
  pub only-both : (s : V → V → Type 0) (only : Meaning Tok Cx St Er V) → Agreeing s only only → SameByStanding mark back safe only s [] only []
  only-both s only h b c o q alike m n a z =
      record { k = 0; stands = (m, λ e. refl); other_stands = (n, λ e. refl); same = (h b c o q alike m n a z).answer }

module _ {I Tok Sp Er St Mk Cx V : Type 0} (errors : error_trait.Ghosts Er I Tok Sp) (states : inspector_trait.Ghosts St I Mk Tok Sp) where
  -- one of alternatives that are tried in order stands
  pub in_order-stands : (whole : Does I Tok Sp Er St Mk Cx V) (alternatives : List (Does I Tok Sp Er St Mk Cx V))
      → TriesInOrder errors states whole alternatives → StandsByOneIn errors states whole alternatives
  in_order-stands whole [] h = absurd h
  in_order-stands whole (first ∷ others) h = λ b o m a. first_of-stands states.mark states.back states.takes_no_memory (first errors states) (each_meant errors states others) b o (h b o m) a
