-- The body of a function that calls itself, with any parser in the place of the call.
-- Main words: Told, told, hole.
use Rattle.std.specs.Prelude.{⊤}
use Rattle.chumsky_input.specs.Words.{Does}
use Rattle.chumsky_parser.specs.declared.parser.Parser as parser_trait
use Rattle.chumsky_parser.specs.Language.{Language}
use Rattle.chumsky_descent.specs.Lawful.{AnyTwo}

-- what a body may do, and its language
pub record Told (I Tok Sp Er St Mk Cx V : Type 0) : Type 1 where
  pub meaning : Does I Tok Sp Er St Mk Cx V
  pub language : Language Tok V

module _ {I X Cu Tok Sp Er St Cx Mk V : Type 0} where
  -- those of a parser
  abbrev pub told : {B : Type 0} → parser_trait.Ghosts B I V X Cu Tok Sp Er St Cx Mk → B → Told I Tok Sp Er St Mk Cx V
  told parsers parser = record { meaning = parsers.meaning parser; language = parsers.language parser }

  -- a parser that stands for the call: it does what the call does, and has its language
  abbrev pub hole : Does I Tok Sp Er St Mk Cx V → Language Tok V → parser_trait.Ghosts (Unit {0}) I V X Cu Tok Sp Er St Cx Mk
  hole call l = record { ready = λ _. ⊥; meaning = λ _. call; steady = λ _. ⊤; same = λ _. AnyTwo; language = λ _. l }
