use Rattle.std.proofs.Common.{◌≡◌, ℕ, Option, None, List, subst, sym}
use Rattle.std.specs.Str.{chars}
use Rattle.chumsky.specs.Accepted.{IsExactly}
use Rattle.examples.specs.Date.{IsDate}
use Rattle.examples.specs.declared.date.Date.{Date}
use Rattle.date_library.proofs.read_date.Goals as goal

-- bytes of a text that has no output are no date
no_date : (text bytes : List ℕ) (output : Option Date) → IsExactly IsDate (chars text) output → output ≡ None → text ≡ bytes → (date : Date) → IsDate (chars bytes) date → ⊥
no_date text bytes output exact none same date is = subst (IsExactly IsDate (chars text)) none exact date (subst (λ z. IsDate (chars z) date) (sym same) is)

pub returns-in-None-Some-clause-none : goal.returns-in-None-Some-clause-none
returns-in-None-Some-clause-none c = λ s. no_date c.in-Ok.text.now c.args.bytes.now _ c.in-Ok-parse_date.ensures.exact c.in-None-Some.is-0 c.in-Ok.ensures.cases.0

pub returns-clause-none : goal.returns-clause-none
returns-clause-none c = λ s. no_date c.in-Ok.text.now c.args.bytes.now _ c.in-Ok-parse_date.ensures.exact c.in-None-None.is-0 c.in-Ok.ensures.cases.0
