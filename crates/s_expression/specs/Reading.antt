-- The languages of the parsers that read s-expressions.
-- Main words: passing, picked, gaps, words, texts, atoms, lists, quotes, expressions. Laws: PieceLaws.antt, ReaderLaws.antt. Read first: Lisp.antt, and Language.antt of the parsers.
use Rattle.std.specs.Prelude.{◌≡◌, ℕ, nat_eq, cond, true, Bool, Option, Some, None, List, [], ◌∷◌, String, string_bytes, encode_utf8_all, ⊤}
use Rattle.std.specs.Borrow.{Bor}
use Rattle.std.specs.Char.{is_whitespace}
use Rattle.std.specs.Str.{chars}
use Rattle.std.specs.declared.alloc.Global.{Global}
use Rattle.std.specs.declared.vec.Vec.{Vec}
use Rattle.chumsky_parser.specs.ChoiceLanguage.{or_language}
use Rattle.chumsky_parser.specs.Language.{Language}
use Rattle.chumsky_parser.specs.SequenceLanguage.{ignore_then_language, between_language}
use Rattle.chumsky_primitive.specs.Any.{CountsAs}
use Rattle.chumsky_primitive.specs.PrimitiveLanguage.{one_language, literal_language}
use Rattle.chumsky_combinator.specs.MappedLanguage.{map_language}
use Rattle.chumsky_items.specs.ListLanguage.{collected_language}
use Rattle.chumsky_items.specs.RepeatedLanguage.{repeated_language}
use Rattle.chumsky_judge.specs.Picked.{picked_language}
use Rattle.chumsky_text.specs.Decimals.{TextSlice}
use Rattle.chumsky_text.specs.TextLanguage.{run_language}
use Rattle.s_expression.specs.declared.expression.AfterQuote.{AfterQuote}
use Rattle.s_expression.specs.declared.expression.Expression.{Expression}
use Rattle.s_expression.specs.declared.expression.Expression as expression
use Rattle.s_expression.specs.Lisp.{in_word, is_integer, escaped, is_plain, in_line, QuotesLast}
use Rattle.s_expression.specs.Picks.{passing, of_one}

-- any character, and one of which something is picked
abbrev pub any_one : Language ℕ ℕ
any_one = one_language (λ t. true) (CountsAs (λ c. c)) ((t : ℕ) → ⊤)

abbrev pub picked : (ℕ → Option ℕ) → Language ℕ ℕ
picked pick = picked_language (of_one pick) any_one

-- this character
abbrev pub fixed : ℕ → Language ℕ ℕ
fixed c = literal_language nat_eq (c ∷ []) (λ v. v ≡ c) ⊤

-- what is left of a line
abbrev pub line : Language ℕ (Bor (List ℕ))
line = run_language (TextSlice (λ s. s.now)) in_line

-- a gap: white space, and comments, from a semicolon (59) to a line feed
abbrev pub comments : Language ℕ ℕ
comments = ignore_then_language (ignore_then_language (fixed 59) line) (fixed 10)

abbrev pub gap_pieces : Language ℕ ℕ
gap_pieces = or_language (picked (passing is_whitespace)) comments

abbrev pub gaps : Language ℕ (Unit {0})
gaps = collected_language (repeated_language gap_pieces 0 None) (λ (cs : List ℕ) (u : Unit {0}). ⊤) ⊤

-- a word: characters, one at least
abbrev pub words : Language ℕ (String Global)
words = record (collected_language (repeated_language (picked (passing in_word)) 1 None) (λ cs s. string_bytes s ≡ encode_utf8_all cs) ⊥) { moves = true }

-- what stands for a character of a text, after a backslash (92) or alone; and a text, between quotes (34)

abbrev pub characters : Language ℕ ℕ
characters = or_language (picked (passing is_plain)) (ignore_then_language (fixed 92) (picked escaped))

abbrev pub texts : Language ℕ (String Global)
texts = between_language (fixed 34) (collected_language (repeated_language characters 0 None) (λ cs s. string_bytes s ≡ encode_utf8_all cs) ⊥) (fixed 34)

-- the expression that a word is
abbrev pub atom_of : String Global → Expression
atom_of s = cond (is_integer (chars (string_bytes s))) (expression.Number s) (expression.Symbol s)

abbrev pub atoms : Language ℕ Expression
atoms = or_language (map_language (λ s e. e ≡ atom_of s) words) (map_language (λ s e. e ≡ expression.Text s) texts)

-- expressions in brackets, and an expression after a quote, where a call reads those in it
abbrev pub closing : Language ℕ ℕ
closing = ignore_then_language gaps (fixed 41)

abbrev pub lists : Language ℕ Expression → Language ℕ Expression
lists call = map_language (λ es e. e ≡ expression.List es) (between_language (fixed 40) (collected_language (repeated_language call 0 None) (λ xs (v : Vec Expression Global). v.items ≡ xs) ⊥) closing)

abbrev pub quotes : Language ℕ Expression → Language ℕ Expression
quotes call = ignore_then_language (fixed 39) (map_language (λ q e. e ≡ q.quoted) (collected_language (repeated_language call 1 (Some 1)) (λ xs (q : AfterQuote). QuotesLast xs q.quoted) ⊥))

-- any expression, after a gap
abbrev pub bare : Language ℕ Expression → Language ℕ Expression
bare call = or_language atoms (or_language (lists call) (quotes call))

abbrev pub expressions : Language ℕ Expression → Language ℕ Expression
expressions call = ignore_then_language gaps (bare call)
