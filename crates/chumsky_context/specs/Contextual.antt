-- A part that the context turns on or off.
-- Main word: WhereOn. Laws: ContextualLaws.antt.
use Rattle.std.specs.Prelude.{Bool, true, false, None, [], ◌∷◌}
use Rattle.chumsky_input.specs.declared.error.Error as error_trait
use Rattle.chumsky_input.specs.declared.input.Input as input_trait
use Rattle.chumsky_input.specs.Wanted as wanted
use Rattle.chumsky_input.specs.Outcome.{Meaning, Beginning, Outcome}
use Rattle.chumsky_parser.specs.Failure.{Misses, expects}

module _ {I Tok Sp Cu Er St Cx V : Type 0} (source : input_trait.Ghosts I Cu Tok Sp) (errors : error_trait.Ghosts Er I Tok Sp) where
  -- where it is on, the part; where it is off, the run fails here and expects nothing else
  abbrev pub OnOrOff : Bool → Meaning Tok Cx St errors.Seen V → Meaning Tok Cx St errors.Seen V
  OnOrOff true part b o = part b o
  OnOrOff false part b o = Misses errors.takes_no_memory (expects source errors b.tokens (wanted.NothingElse ∷ []) None b.start b.start) b.start b.state o

  pub record WhereOn (on : Bool) (part : Meaning Tok Cx St errors.Seen V) (b : Beginning Tok Cx St) (o : Outcome V errors.Seen St) : Type 0 where
    pub cases : OnOrOff on part b o
