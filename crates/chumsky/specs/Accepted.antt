-- What one call of `parse` or `check` answers of a text, by the language of its parser.
-- Main words: AnswersText, Exactly, ExactlyUnless, NeverRefuses. Laws: AcceptedLaws.antt. Read first: Language.antt of chumsky_parser.
use Rattle.std.specs.Prelude.{◌≡◌, Option, Some, None, List, [], ◌∷◌, length, ⊤, ◌⊎◌, Result, Ok, Err, IsOk}
use Rattle.chumsky_input.specs.declared.stop.Stop.{Stop}
use Rattle.chumsky_input.specs.declared.stop.Stop.TheVariants.{Memory}
use Rattle.chumsky_parser.specs.Ending.{Ending, At, Nowhere, Refused, IfValue, EndsOrRefused}
use Rattle.chumsky_parser.specs.Language.{Language, IsBelow}
use Rattle.chumsky_parser.specs.declared.result.ParseResult.{ParseResult}

-- it fails, or tokens are left
abbrev pub FallsShort : {Tok : Type 0} → Ending (List Tok) → Type 0
FallsShort (At []) = ⊥
FallsShort (At (t ∷ ts)) = ⊤
FallsShort Nowhere = ⊤
FallsShort Refused = ⊥

module _ {Tok V W : Type 0} (gives : W → Option V) (l : Language Tok V) (ts : List Tok) where
  -- an output of a text: it is a word of the language, taken whole, and the output is one of its values. Without output it
  -- can't be taken whole
  abbrev pub IsOutputOf : Option W → Type 0
  IsOutputOf (Some w) = (l.ends ts ≡ At []) × l.word ts × IfValue (λ v. l.value ts v × l.stands_for ts v) (gives w)
  IsOutputOf None = FallsShort (l.ends ts)

  -- an answer of a text; it is refused for memory, or as the language says that it may be
  abbrev pub IsAnswerOf : {Er : Type 0} → Result (ParseResult W Er) Stop → Type 0
  IsAnswerOf (Ok parsed) = IsOutputOf parsed.output
  IsAnswerOf (Err s) = (s ≡ Memory) ⊎ (l.ends ts ≡ Refused)

  -- the answer of a call: each word of an unambiguous language is taken whole, unless it is refused; a text that is short
  -- enough is refused for memory alone; and where nothing takes memory, no text that is taken whole is refused
  pub record AnswersText (spare : Type 0) {Er : Type 0} (result : Result (ParseResult W Er) Stop) : Type 0 where
    pub output : IsAnswerOf result
    pub accepted : l.unambiguous → l.follow [] → l.word ts → EndsOrRefused (l.ends ts) []
    pub decided : IsBelow l.refused_from (length ts) → l.ends ts ≡ Refused → ⊥
    pub answered : spare → l.takes_no_memory → l.ends ts ≡ At [] → IsOk result

module _ {Tok V : Type 0} (P : List Tok → V → Type 0) (ts : List Tok) where
  -- an output of which P of the text; and where there is none, no value is
  abbrev pub IsExactly : Option V → Type 0
  IsExactly (Some v) = P ts v
  IsExactly None = (v : V) → P ts v → ⊥

  -- an exact answer: its output is a value of which P of the text, there is one just where a value is, and it is refused for
  -- memory alone
  abbrev pub Exactly : {Er : Type 0} → Result (ParseResult V Er) Stop → Type 0
  Exactly (Ok parsed) = IsExactly parsed.output
  Exactly (Err s) = s ≡ Memory

  -- the same of a parser that may be refused for something else, as a function that calls itself under a limit: only where
  -- the text is too deep
  abbrev pub ExactlyUnless : Type 0 → {Er : Type 0} → Result (ParseResult V Er) Stop → Type 0
  ExactlyUnless too_deep (Ok parsed) = IsExactly parsed.output
  ExactlyUnless too_deep (Err s) = (s ≡ Memory) ⊎ too_deep

  -- no text of which there is a value is refused
  abbrev pub NeverRefuses : {Er : Type 0} → Result (ParseResult V Er) Stop → Type 0
  NeverRefuses result = (v : V) → P ts v → IsOk result
