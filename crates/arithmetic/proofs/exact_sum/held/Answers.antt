use Rattle.std.proofs.Common.{sym, subst, ◌∙◌}
use Rattle.std.proofs.lemmas.Int.{to_z-of_z, fits_signed_from_abs}
use Rattle.std.proofs.lemmas.Result.{OkIff-at_ok, OkIff-at_err}
use Rattle.std.proofs.lemmas.Str.Parse.{parse_signed_digits, numerals_by_value, tells_digits}
use Rattle.std.specs.Prelude.{FitsSigned}
use Rattle.std.specs.Str.Parse.{AllDigits}
use Rattle.std.specs.Int.{w64}
use Rattle.arithmetic.proofs.exact_sum.held.Goals as goal

pub returns-in-Ok : goal.returns-in-Ok
returns-in-Ok c d =
    let k = OkIff-at_ok c.parse.result _ _ c.in-Ok.number (parse_signed_digits (numerals_by_value (AllDigits 10) tells_digits) w64 c.args.digits.now c.parse.result c.parse.ensures.value.0 d) c.in-Ok.is in
    (k.0, to_z-of_z w64 c.in-Ok.number (subst (FitsSigned w64) (sym k.1) (fits_signed_from_abs w64 _ k.0.1)) ∙ k.1)

pub returns-in-Err : goal.returns-in-Err
returns-in-Err c d =
    OkIff-at_err c.parse.result _ _ _ (parse_signed_digits (numerals_by_value (AllDigits 10) tells_digits) w64 c.args.digits.now c.parse.result c.parse.ensures.value.0 d) c.in-Err.is
