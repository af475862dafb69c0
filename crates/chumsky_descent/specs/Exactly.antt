-- A function that calls itself, said by its body alone.
-- Main words: exactly, grammar_of. Read first: Body.antt, Calls.antt, Lawful.antt.
use Rattle.std.specs.Prelude.{ℕ, zero, suc, ⊤}
use Rattle.chumsky_input.specs.declared.error.Error as error_trait
use Rattle.chumsky_input.specs.declared.inspector.Inspector as inspector_trait
use Rattle.chumsky_input.specs.Words.{Does}
use Rattle.chumsky_parser.specs.declared.parser.Parser as parser_trait
use Rattle.chumsky_parser.specs.Language.{Language, unsaid}
use Rattle.chumsky_combinator.specs.Part.{Onward}
use Rattle.chumsky_descent.specs.Body.{Told, hole}
use Rattle.chumsky_descent.specs.Calls.{IsTooDeep, Intended, Said, Exact}
use Rattle.chumsky_descent.specs.Lawful.{Lawful}

module _ {I X Cu Tok Sp Er St Cx Mk V : Type 0} where
  -- a body, with any parser in the place of the call
  module _ (body : parser_trait.Ghosts (Unit {0}) I V X Cu Tok Sp Er St Cx Mk → Told I Tok Sp Er St Mk Cx V) where
    -- what the body does, of what a call in it does
    abbrev pub body_of : Does I Tok Sp Er St Mk Cx V → Does I Tok Sp Er St Mk Cx V
    body_of call = (body (hole call unsaid)).meaning

    -- its language, of that of a call in it
    abbrev pub grammar_of : Language Tok V → Language Tok V
    grammar_of l = (body (hole (λ errors states b o. ⊤) l)).language

    -- what a call does under a depth: none may be made under 0, and else the body runs, in which a call is made under one less
    abbrev pub calls_of : ℕ → Does I Tok Sp Er St Mk Cx V
    calls_of zero errors states = Onward IsTooDeep
    calls_of (suc depth) errors states = Onward (body_of (calls_of depth) errors states)

    module _ (errors : error_trait.Ghosts Er I Tok Sp) (states : inspector_trait.Ghosts St I Mk Tok Sp) where
      -- where a call is lawful, so is the body with it
      abbrev pub KeepsLawful : Type 1
      KeepsLawful =
          (call : Does I Tok Sp Er St Mk Cx V) (l : Language Tok V) → Lawful (errors.takes_no_memory × states.takes_no_memory) (call errors states) l
          → Lawful (errors.takes_no_memory × states.takes_no_memory) (body_of call errors states) (grammar_of l)

      -- the function has the language that is intended
      abbrev pub exactly : Intended Tok V → KeepsLawful → Said Tok Cx states.Seen errors.Seen (errors.takes_no_memory × states.takes_no_memory) V
      exactly intended keeps =
          Exact (λ depth. calls_of depth errors states) (λ depth. body_of (calls_of depth) errors states)
          (record { none = λ b o m. m; is_none = λ b o m. m; one = λ depth b o m. m; is_one = λ depth b o m. m }) intended grammar_of (λ depth l h. keeps (calls_of depth) l h)
