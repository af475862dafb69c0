-- What a group does is stopped by its parts alone.
-- Main word: StopsOnlyByAny. Laws: PartsLaws.antt. Read first: Regrouped.antt.
use Rattle.std.specs.Prelude.{◌≡◌, List, [], ◌∷◌, ◌⊎◌}
use Rattle.chumsky_input.specs.declared.error.Error as error_trait
use Rattle.chumsky_input.specs.declared.inspector.Inspector as inspector_trait
use Rattle.chumsky_input.specs.declared.stop.Stop.{Stop}
use Rattle.chumsky_input.specs.Outcome.{Meaning, Beginning, Outcome, Halt}
use Rattle.chumsky_input.specs.Words.{Does}
use Rattle.chumsky_parser.specs.ByParts.{Part}

-- a run of the part stops, for this reason
pub record StopsBy {Tok Cx St Er V : Type 0} (s : Stop) (runs : Meaning Tok Cx St Er V) : Type 0 where
  pub start : Beginning Tok Cx St
  pub outcome : Outcome V Er St
  pub meant : runs start outcome
  pub stops : outcome.verdict ≡ Halt s

module _ {I Tok Sp Er St Mk Cx : Type 0} (errors : error_trait.Ghosts Er I Tok Sp) (states : inspector_trait.Ghosts St I Mk Tok Sp) where
  -- a run of one of these parts stops, for this reason
  abbrev pub AnyStops : Stop → List (Part I Tok Sp Er St Mk Cx) → Type 0
  AnyStops s [] = ⊥
  AnyStops s (p ∷ ps) = StopsBy s (p.does errors states) ⊎ AnyStops s ps

  -- the whole stops only where one of its parts does, and for the same reason
  abbrev pub StopsOnlyByAny : {V : Type 0} → Does I Tok Sp Er St Mk Cx V → List (Part I Tok Sp Er St Mk Cx) → Type 0
  StopsOnlyByAny whole parts = (s : Stop) → StopsBy s (whole errors states) → AnyStops s parts
