-- What a mapper that asks for memory makes of a value.
-- Main words: GivesOk, MappedIn, map_in_language. Laws: MappedInLaws.antt. Read first: Mapped.antt and MappedLanguage.antt.
use Rattle.std.specs.Prelude.{Option, Some, None, Result, Ok, Err, ◌⊎◌}
use Rattle.std.specs.declared.alloc.AllocError.{AllocError}
use Rattle.chumsky_input.specs.Outcome.{Meaning, Beginning, Outcome}
use Rattle.chumsky_parser.specs.Chained.{Chained}
use Rattle.chumsky_parser.specs.Failure.{Refuses}
use Rattle.chumsky_parser.specs.Language.{Language}
use Rattle.chumsky_combinator.specs.Mapped.{GivenBy}
use Rattle.chumsky_combinator.specs.MappedLanguage.{map_language}

module _ {V W : Type 0} (answers : V → Result W AllocError → Type 0) where
  -- what the mapper may give for a value
  abbrev pub GivesOk : V → W → Type 0
  GivesOk v w = answers v (Ok w)

  -- that it may answer out of memory, where there is a value
  abbrev pub MayLack : Option V → Type 0
  MayLack (Some v) = (e : AllocError) × answers v (Err e)
  MayLack None = ⊥

module _ {Tok Cx St Er V W : Type 0} (answers : V → Result W AllocError → Type 0) where
  -- what the mapper gives, where there is a value, or out of memory
  pub record GivenIn (v : Option V) (b : Beginning Tok Cx St) (o : Outcome W Er St) : Type 0 where
    pub cases : Refuses (MayLack answers v) b.state o ⊎ GivenBy (GivesOk answers) v b o

  -- the part, and then what the mapper gives for its value, or out of memory
  abbrev pub MappedIn : Meaning Tok Cx St Er V → Meaning Tok Cx St Er W
  MappedIn part = Chained part GivenIn

-- the part's words, with what a mapper gives for their values, if there is memory
abbrev pub map_in_language : {Tok V W : Type 0} → (V → Result W AllocError → Type 0) → Language Tok V → Language Tok W
map_in_language answers F = record (map_language (GivesOk answers) F) { takes_no_memory = ⊥ }
