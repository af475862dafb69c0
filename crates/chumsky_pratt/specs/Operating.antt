-- What is said of an operator: its language is one of operands and values, and says which values a word may give for which operands.
-- Main words: operator_language, shown_language, Operates, OperatesAs, OperatorLanguages, OperateAs. Laws: OperatingLaws.antt. Read first: Language.antt of chumsky_parser.
use Rattle.std.specs.Prelude.{◌≡◌, ℕ, zero, suc, Bool, true, false, ◌&&◌}
use Rattle.chumsky_input.specs.Extra.{Shown}
use Rattle.chumsky_input.specs.Outcome.{Meaning}
use Rattle.chumsky_parser.specs.Ending.{Reads}
use Rattle.chumsky_parser.specs.Language.{Language, unsaid, TakesOnly, GivesOnly, TakesEach, EndsFurther, NeverRefusedBelow}
use Rattle.chumsky_parser.specs.LanguageLaws.{with_values}
use Rattle.chumsky_parser.specs.Showing.{GivesShown}
use Rattle.chumsky_pratt.specs.declared.operands.Operands.{Operands}

-- whatever is given for what was read and some operands is a value of this for these operands
abbrev pub GivesWithin : {Tok Cx St F V : Type 0} → GivesShown Tok Cx St (F × Operands V) V → (Operands V × V → Type 0) → F → Type 0
GivesWithin {Tok} {Cx} {St} {F} {V} gives P f = (x : Operands V) (run : Shown Tok Cx St) (v : V) (s : St) → gives (f, x) run v s → P (x, v)

-- reading an operator and what is given for it are as its language says, and it takes a token
pub record Operates {Tok Cx St Er F V : Type 0} (reading : Meaning Tok Cx St Er F) (gives : GivesShown Tok Cx St (F × Operands V) V) (l : Language Tok (Operands V × V)) : Type 0 where
  pub reads : Reads reading l.ends (λ ts. GivesWithin gives (l.value ts))
  pub only : TakesOnly l.ends l.word
  pub given : GivesOnly l.ends l.value l.stands_for
  pub each : l.unambiguous → TakesEach l.ends l.word l.follow
  pub decided : NeverRefusedBelow l.refused_from l.ends
  pub further : EndsFurther l.ends

-- what is said of an operator holds, where it is said and it takes a token
abbrev pub OperatesAs : {Tok Cx St Er F V : Type 0} → Meaning Tok Cx St Er F → GivesShown Tok Cx St (F × Operands V) V → Language Tok (Operands V × V) → Type 0
OperatesAs reading gives l = l.said ≡ true → l.moves ≡ true → Operates reading gives l

-- the language of an operator: the words of its parser, and what is given for what they stand for and some operands
abbrev pub operator_language : {Tok F V : Type 0} → Language Tok F → (F → Operands V → V → Type 0) → Language Tok (Operands V × V)
operator_language {F = F} L gives = with_values L (λ ts p. (f : F) × L.value ts f × gives f p.0 p.1) (λ w p. (f : F) × L.stands_for w f × gives f p.0 p.1)

-- what may be given for what was read and some operands, whatever is shown of the run, and whatever state is left
abbrev pub GivesInSomeRun : {Tok Cx St F V : Type 0} → GivesShown Tok Cx St (F × Operands V) V → F → Operands V → V → Type 0
GivesInSomeRun {Tok} {Cx} {St} gives f x v = (run : Shown Tok Cx St) × (s : St) × gives (f, x) run v s

-- the language of an operator whose folder is shown the run
abbrev pub shown_language : {Tok Cx St F V : Type 0} → Language Tok F → GivesShown Tok Cx St (F × Operands V) V → Language Tok (Operands V × V)
shown_language L gives = operator_language L (GivesInSomeRun gives)

-- the languages of operators in a row, by their index, and that they are said
pub record OperatorLanguages (Tok V : Type 0) : Type 1 where
  pub said : Bool
  pub operator : ℕ → Language Tok (Operands V × V)

-- what is said of operators in a row holds of each, where it is said of them
abbrev pub OperateAs : {Tok Cx St Er F V : Type 0} → (ℕ → Meaning Tok Cx St Er F) → GivesShown Tok Cx St (F × Operands V) V → OperatorLanguages Tok V → Type 0
OperateAs reads gives row = row.said ≡ true → (i : ℕ) → Operates (reads i) gives (row.operator i)

-- nothing is said of them
abbrev pub unsaid_languages : {Tok V : Type 0} → OperatorLanguages Tok V
unsaid_languages = record { said = false; operator = λ _. unsaid }

-- of one operator, which has to take a token
abbrev pub last_languages : {Tok V : Type 0} → Language Tok (Operands V × V) → OperatorLanguages Tok V
last_languages l = record { said = l.said && l.moves; operator = λ _. l }

abbrev pub language_before : {Tok V : Type 0} → Language Tok (Operands V × V) → (ℕ → Language Tok (Operands V × V)) → ℕ → Language Tok (Operands V × V)
language_before here there zero = here
language_before here there (suc i) = there i

-- of one operator before others
abbrev pub and_languages : {Tok V : Type 0} → Language Tok (Operands V × V) → OperatorLanguages Tok V → OperatorLanguages Tok V
and_languages l others = record { said = (l.said && l.moves) && others.said; operator = language_before l others.operator }
