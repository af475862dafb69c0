-- What the grammar `list` reads.
-- Main words: IsNumbers, AnswersList. Laws: NumbersLaws.antt.
use Rattle.std.specs.Prelude.{◌≡◌, ℕ, true, List, ◌++◌, codes, map}
use Rattle.std.specs.Option.{option_map}
use Rattle.std.specs.Borrow.{Bor}
use Rattle.std.specs.declared.alloc.Global.{Global}
use Rattle.std.specs.declared.vec.Vec.{Vec}
use Rattle.std.specs.Str.Parse.{IsNumeral}
use Rattle.chumsky.specs.Accepted.{IsExactly}
use Rattle.chumsky_exact.specs.Rendered.{OfEach, Written}
use Rattle.chk_run.specs.Checked.{HasValue}
use Rattle.chk_run.specs.declared.grammar.Answer.{Answer}
use Rattle.chk_run.specs.declared.grammar.Answer.TheVariants.{Parsed, Checked}
use Rattle.chk_run.specs.declared.grammar.Command.{Command}
use Rattle.chk_run.specs.declared.grammar.Command.TheVariants.{Parse, Check}

-- these are the numbers of the text, one or more decimal digits each: they stand in brackets, with a comma between each two, and
-- perhaps one after the last
pub record IsNumbers (cs : List ℕ) (ns : List (List ℕ)) : Type 0 where
  pub inside : List ℕ
  pub all : cs ≡ codes "[" ++ (inside ++ codes "]")
  pub written : Written (λ n. n) (codes ",") true ns inside
  pub numerals : OfEach (IsNumeral 10) ns

-- what slices say
abbrev pub numbers_of : Vec (Bor (List ℕ)) Global → List (List ℕ)
numbers_of v = map (λ s. s.now) v.items

-- the answer of a text: its numbers, if it has such
abbrev pub AnswersList : Command → List ℕ → Answer (Vec (Bor (List ℕ)) Global) → Type 0
AnswersList Parse cs (Parsed parsed) = IsExactly IsNumbers cs (option_map numbers_of parsed.output)
AnswersList Check cs (Checked parsed) = IsExactly (HasValue IsNumbers) cs parsed.output
AnswersList Parse cs (Checked parsed) = ⊥
AnswersList Check cs (Parsed parsed) = ⊥
