use Rattle.std.proofs.Common.{refl, rules}
use Rattle.chumsky_exact.specs.Answered.{answers-by_words}
use Rattle.exact.specs.Date.{IsDate, date-text}
use Rattle.exact.proofs.date.parse_date.Goals as goal

pub returns : goal.returns
returns c =
    let both = answers-by_words IsDate (c.parse.ensures.3.reads refl) (search rules) (search rules) refl tt tt (λ v w s. s) (λ v i. date-text v _ i) in
    record { exact = both.0; answered = both.1 }
