-- A group is never refused for memory where none of its parts is.
-- Main laws: in_turn-spares, stops_only-spares. Read first: Memory.antt, MemoryLaws.antt of the parsers.
use Rattle.std.proofs.Common.{◌≡◌, List, [], ◌∷◌, inl, inr, refl, subst}
use Rattle.chumsky_input.specs.declared.error.Error as error_trait
use Rattle.chumsky_input.specs.declared.inspector.Inspector as inspector_trait
use Rattle.chumsky_input.specs.declared.stop.Stop.{Stop}
use Rattle.chumsky_input.specs.Outcome.{Meaning, Verdict, Yes, No, Halt, Clash}
use Rattle.chumsky_input.specs.Words.{Does}
use Rattle.chumsky_parser.specs.ByParts.{Part, NoneOut, OutOnlyBy}
use Rattle.chumsky_parser.specs.ChoiceSpares.{NoneOutOfMemory}
use Rattle.chumsky_parser.specs.Failure.{wanting}
use Rattle.chumsky_parser.specs.Memory.{IsNotMemory, SparesMemory, NeverOutOfMemory}
use Rattle.chumsky_parser.specs.MemoryLaws.{given-spares, chained-spares}
use Rattle.chumsky_group.specs.InTurn.{InTurn, item_before}
use Rattle.chumsky_group.specs.Parts.{AnyStops, StopsOnlyByAny}

module _ {Tok Cx St Er V : Type 0} where
  -- the parts of a list in turn
  pub in_turn-spares : (ms : List (Meaning Tok Cx St Er V)) → NoneOutOfMemory ms → NeverOutOfMemory (InTurn ms)
  in_turn-spares [] h = λ b o m. given-spares (wanting b.wanted (record { items = [] })) b o m
  in_turn-spares (m ∷ ms) h = chained-spares m _ h.0 (λ v. chained-spares (InTurn ms) _ (in_turn-spares ms h.1) (λ vs. given-spares (item_before v vs)))

module _ {V Er : Type 0} where
  spares_by : (u : Verdict V Er) → ((s : Stop) → u ≡ Halt s → IsNotMemory s) → SparesMemory u
  spares_by (Yes v) h = tt
  spares_by No h = tt
  spares_by (Halt s) h = h s refl
  spares_by (Clash e) h = tt

module _ {I Tok Sp Er St Mk Cx : Type 0} (errors : error_trait.Ghosts Er I Tok Sp) (states : inspector_trait.Ghosts St I Mk Tok Sp) where
  none_stops : (s : Stop) (parts : List (Part I Tok Sp Er St Mk Cx)) → NoneOut errors states parts → AnyStops errors states s parts → IsNotMemory s
  none_stops s [] h x = absurd x
  none_stops s (p ∷ ps) h (inl x) = subst SparesMemory x.stops (h.0 x.start x.outcome x.meant)
  none_stops s (p ∷ ps) h (inr x) = none_stops s ps h.1 x

module _ {I Tok Sp Er St Mk Cx V : Type 0} (errors : error_trait.Ghosts Er I Tok Sp) (states : inspector_trait.Ghosts St I Mk Tok Sp) where
  -- what stops only where one of its parts does
  pub stops_only-spares : (whole : Does I Tok Sp Er St Mk Cx V) (parts : List (Part I Tok Sp Er St Mk Cx)) → StopsOnlyByAny errors states whole parts → OutOnlyBy errors states parts whole
  stops_only-spares whole parts m h b o x = spares_by o.verdict (λ s e. none_stops errors states s parts h (m s (record { start = b; outcome = o; meant = x; stops = e })))
