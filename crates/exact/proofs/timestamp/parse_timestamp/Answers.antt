use Rattle.std.proofs.Common.{refl, sym, subst, rules}
use Rattle.std.specs.Str.{chars}
use Rattle.chumsky_exact.specs.Answered.{answers-by_words}
use Rattle.exact.specs.Timestamp.{IsTimestamp}
use Rattle.exact.specs.TimestampLaws.{mark-stops, fraction-stops, offset-stops, moment-is, moment-text}
use Rattle.exact.proofs.timestamp.parse_timestamp.Goals as goal

pub returns : goal.returns
returns c =
    let both = answers-by_words IsTimestamp (c.parse.ensures.3.reads refl) (search rules) (search rules) refl
    ((((tt, tt, λ w rest h f. mark-stops w rest h), tt, λ w rest h f. tt), tt, fraction-stops), tt, λ w rest h f. offset-stops w rest h) tt
    (λ v w s. subst (IsTimestamp (chars c.args.text.now)) (sym s.2) (moment-is s.0 _ s.1)) (λ v i. moment-text v _ i) in
    record { exact = both.0; answered = both.1 }
