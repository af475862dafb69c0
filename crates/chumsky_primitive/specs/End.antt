-- The end of input.
use Rattle.std.specs.Prelude.{◌+◌, Option, Some, None, [], ◌∷◌, ◌⊎◌, slice_get}
use Rattle.chumsky_input.specs.declared.error.Error as error_trait
use Rattle.chumsky_input.specs.declared.inspector.Inspector as inspector_trait
use Rattle.chumsky_input.specs.declared.input.Input as input_trait
use Rattle.chumsky_input.specs.Wanted as wanted
use Rattle.chumsky_input.specs.Outcome.{Meaning, Beginning, Outcome}
use Rattle.chumsky_parser.specs.Chained.{Given}
use Rattle.chumsky_parser.specs.Failure.{Refuses, Misses, expects, wanting}

module _ {I Tok Sp Cu Er St Mk Cx : Type 0} (source : input_trait.Ghosts I Cu Tok Sp) (errors : error_trait.Ghosts Er I Tok Sp) (states : inspector_trait.Ghosts St I Mk Tok Sp) where
  -- at the end of input nothing is done; a token is taken, refused and gone back from
  abbrev pub MeansEndAt : Option Tok → Meaning Tok Cx states.Seen errors.Seen (Unit {0})
  MeansEndAt (Some t) b o =
      let gone = states.after b.state t in
      Refuses (states.takes_no_memory → ⊥) gone o
      ⊎ Misses errors.takes_no_memory
      (expects source errors b.tokens (wanted.EndOfInput ∷ []) (Some t) b.start (b.start + 1)) b.start
      (states.back gone (states.mark b.state)) o
  MeansEndAt None b o = Given (wanting b.wanted tt) b o

  pub record MeansEnd (b : Beginning Tok Cx states.Seen) (o : Outcome (Unit {0}) errors.Seen states.Seen) : Type 0 where
    pub by_token : Refuses (states.takes_no_memory → ⊥) b.state o ⊎ MeansEndAt (slice_get b.tokens.list b.start) b o
