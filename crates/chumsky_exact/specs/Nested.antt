-- The language of a part that runs over the whole of an input which the word of another part decides.
-- Main words: MeansCounted, nested_language. Laws: NestedLaws.antt. Read first: Contexts.antt, Quiet.antt; Within.antt of chumsky_context.
use Rattle.std.specs.Prelude.{◌≡◌, ℕ, zero, ◌<◌, ◌^◌, ◌&&◌, Option, Some, None, List, [], length, ⊤}
use Rattle.chumsky_input.specs.declared.error.Error as error_trait
use Rattle.chumsky_input.specs.declared.inspector.Inspector as inspector_trait
use Rattle.chumsky_input.specs.declared.input.Input as input_trait
use Rattle.chumsky_input.specs.Outcome.{Meaning, Verdict, Yes, No, Halt, Clash}
use Rattle.chumsky_parser.specs.Ending.{At, Nowhere, Ender, and_then, IfValue}
use Rattle.chumsky_parser.specs.Language.{Language, sooner, later}
use Rattle.chumsky_parser.specs.Words.{then_ends, taken_of}
use Rattle.chumsky_primitive.specs.EndLanguage.{end_ends}
use Rattle.chumsky_exact.specs.Quiet.{EmitsNothing}

-- the tokens of an input
abbrev pub tokens_of : {J Tok Sp Cu : Type 0} → input_trait.Ghosts J Cu Tok Sp → J → List Tok
tokens_of source j = (source.tokens j).list

module _ {J Tok : Type 0} (tokens : J → List Tok) where
  -- of an input the tokens can be counted
  abbrev pub CanBeCounted : J → Type 0
  CanBeCounted j = length (tokens j) < 2 ^ 64

  -- those of an input that is given, where one is
  abbrev pub GivesCounted : {Er : Type 0} → Verdict J Er → Type 0
  GivesCounted (Yes v) = IfValue CanBeCounted v
  GivesCounted No = ⊤
  GivesCounted (Halt s) = ⊤
  GivesCounted (Clash e) = ⊤

  -- as a part whose output is an input, of which the tokens can be counted
  abbrev pub MeansCounted : {Tok' Cx St Er : Type 0} → Meaning Tok' Cx St Er J → Meaning Tok' Cx St Er J
  MeansCounted part b o = part b o × GivesCounted o.verdict

-- what has to take no memory beside both parts: errors and states over the inner input. And the inner part emits nothing, since to put
-- its errors after those of the run may take memory
abbrev pub SparesWithin : {J Tok Sp Er St Mk Cx V : Type 0} → (errors : error_trait.Ghosts Er J Tok Sp) → (states : inspector_trait.Ghosts St J Mk Tok Sp)
    → Meaning Tok Cx states.Seen errors.Seen V → Type 0
SparesWithin errors states inner = (errors.takes_no_memory × states.takes_no_memory) × EmitsNothing inner

-- none, where no text within is refused; else a text of any length may be, since its length doesn't tell that of the text within
abbrev pub of_any_length : Option ℕ → Option ℕ
of_any_length None = None
of_any_length (Some n) = Some zero

module _ {Tok' J Tok V : Type 0} (F : Language Tok' J) (decides : List Tok' → Option J) (tokens : J → List Tok) (G : Language Tok V) where
  -- at the rest, where the inner part takes all of the given input
  abbrev pub whole_ends : Option J → Ender Tok'
  whole_ends (Some j) rest = and_then (λ _. At rest) (then_ends G.ends end_ends (tokens j))
  whole_ends None rest = Nowhere

  -- where the outer part ends, if the inner one takes all of the input that its word decides
  abbrev pub nested_ends : Ender Tok'
  nested_ends ts = and_then (λ rest. whole_ends (decides (taken_of ts rest)) rest) (F.ends ts)

  -- of an input that the outer part gives, a value of the inner one
  abbrev pub NestedValue : List Tok' → V → Type 0
  NestedValue ts v = (j : J) × F.value ts j × G.value (tokens j) v

  -- a word that decides an input whose tokens are a word of the inner part
  abbrev pub NestedWord : List Tok' → Type 0
  NestedWord w = (j : J) × F.word w × (decides w ≡ Some j) × G.word (tokens j)

  -- the values that the word within stands for
  abbrev pub NestedOf : List Tok' → V → Type 0
  NestedOf w v = (j : J) × F.stands_for w j × G.stands_for (tokens j) v

  -- the words of the outer part that hold one of the inner part, with its values. It is refused where the outer part is, and where
  -- the inner one is within what the outer one took
  abbrev pub nested_language : Type 0 → Language Tok' V
  nested_language spares = record {
    said = F.said && G.said;
    ends = nested_ends;
    value = NestedValue;
    word = NestedWord;
    stands_for = NestedOf;
    follow = F.follow;
    unambiguous = F.unambiguous × G.unambiguous × G.follow [];
    refused_from = sooner F.refused_from (later (of_any_length G.refused_from) F.moves);
    moves = F.moves;
    takes_no_memory = F.takes_no_memory × G.takes_no_memory × spares;
  }
