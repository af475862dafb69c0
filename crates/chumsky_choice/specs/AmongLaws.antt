-- The laws of a choice among a list.
use Rattle.std.proofs.Common.{List, [], ◌∷◌, map, arith}
use Rattle.std.specs.List.{All}
use Rattle.chumsky_input.specs.declared.error.Error as error_trait
use Rattle.chumsky_input.specs.declared.inspector.Inspector as inspector_trait
use Rattle.chumsky_input.specs.declared.input.Input as input_trait
use Rattle.chumsky_input.specs.Outcome.{Meaning, EndsAfterStart, Agreeing}
use Rattle.chumsky_parser.specs.ChoiceLaws.{AllEnd, AllAgree, first_of-ends, first_of-agrees, each-ends, each-agrees}
use Rattle.chumsky_parser.specs.FailureLaws.{misses-agree, misses-ends}
use Rattle.chumsky_choice.specs.Among.{NoneOrFirst, FirstAmong, SameByAny}

module _ {I Tok Sp Cu Er St Mk Cx V : Type 0} (source : input_trait.Ghosts I Cu Tok Sp) (errors : error_trait.Ghosts Er I Tok Sp) (states : inspector_trait.Ghosts St I Mk Tok Sp) where
  none_or_first-ends : (ms : List (Meaning Tok Cx states.Seen errors.Seen V)) → AllEnd ms → EndsAfterStart (NoneOrFirst source errors states ms)
  none_or_first-ends [] h b o m a = misses-ends (λ v w. ⊥) (omega arith) m a
  none_or_first-ends (first ∷ others) h b o m a = first_of-ends states.mark states.back states.takes_no_memory first others h b o m a

  none_or_first-agrees : (ss : List (V → V → Type 0)) (ms : List (Meaning Tok Cx states.Seen errors.Seen V)) → AllAgree ss ms
      → Agreeing (SameByAny ss) (NoneOrFirst source errors states ms) (NoneOrFirst source errors states ms)
  none_or_first-agrees [] [] h b c o q alike m n a z = misses-agree (λ v w. ⊥) (cc (alike.tokens, alike.start)) alike.start alike.state m n a z
  none_or_first-agrees [] (first ∷ others) h b c o q alike m n a z = absurd h.each
  none_or_first-agrees (s ∷ ss) [] h b c o q alike m n a z = absurd h.each
  none_or_first-agrees (s ∷ ss) (first ∷ others) h b c o q alike m n a z = first_of-agrees states.mark states.back states.takes_no_memory s ss first others h b c o q alike m n a z

  module _ {X : Type 0} (meaning : X → Meaning Tok Cx states.Seen errors.Seen V) where
    pub first_among-ends : ((x : X) → EndsAfterStart (meaning x)) → (xs : List X) → EndsAfterStart (FirstAmong source errors states (map meaning xs))
    first_among-ends h xs b o m a = none_or_first-ends (map meaning xs) (each-ends meaning h xs) b o m.cases a

    pub first_among-agrees : (steady : X → Type 0) (same : X → V → V → Type 0) → ((x : X) → steady x → Agreeing (same x) (meaning x) (meaning x)) → (xs : List X) → All steady xs
        → Agreeing (SameByAny (map same xs)) (FirstAmong source errors states (map meaning xs)) (FirstAmong source errors states (map meaning xs))
    first_among-agrees steady same h xs s b c o q alike m n a z =
        none_or_first-agrees (map same xs) (map meaning xs) (each-agrees meaning steady same h xs s) b c o q alike m.cases n.cases a z
