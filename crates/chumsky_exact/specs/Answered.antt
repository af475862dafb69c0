-- Both clauses of a contract from one look at the words: which values a text has, and that none with a value is refused.
-- Main law: answers-by_words. Read first: AcceptedLaws.antt of chumsky.
use Rattle.std.proofs.Common.{◌≡◌, Some, None, List, []}
use Rattle.std.specs.Prelude.{Result}
use Rattle.chumsky_input.specs.declared.stop.Stop.{Stop}
use Rattle.chumsky_parser.specs.Language.{Language}
use Rattle.chumsky_parser.specs.declared.result.ParseResult.{ParseResult}
use Rattle.chumsky.specs.Accepted.{AnswersText, Exactly, NeverRefuses}
use Rattle.chumsky.specs.AcceptedLaws.{exactly-by_words, never_refuses-by_words}

module _ {V Tok Er : Type 0} {l : Language Tok V} {ts : List Tok} {spare : Type 0} {result : Result (ParseResult V Er) Stop} (P : List Tok → V → Type 0) (a : AnswersText Some l ts spare result) where
  -- of an unambiguous language, over errors, states and copies that take no memory
  pub answers-by_words : spare → l.takes_no_memory → l.refused_from ≡ None → l.unambiguous → l.follow [] → ((v : V) → l.word ts → l.stands_for ts v → P ts v) → ((v : V) → P ts v → l.word ts) → Exactly P ts result × NeverRefuses P ts result
  answers-by_words q t n u f sound complete = (exactly-by_words P a n u f sound complete, never_refuses-by_words P a q t n u f complete)
