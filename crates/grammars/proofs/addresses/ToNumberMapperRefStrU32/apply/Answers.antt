use Rattle.std.proofs.Common.{◌≡◌, ◌∙◌, sym, ap, Some, None, refl}
use Rattle.std.specs.Result.{result_ok}
use Rattle.chumsky_text.specs.Decimals.{unsigned_of, parsed-is}
use Rattle.grammars.proofs.addresses.ToNumberMapperRefStrU32.apply.Goals as goal

pub returns-in-Ok : goal.returns-in-Ok
returns-in-Ok c =
    let u : unsigned_of 32 c.args.digits.now ≡ Some c.in-Ok.number = sym (parsed-is 32 c.args.digits.now c.parse.result c.parse.ensures.value.0) ∙ ap result_ok c.in-Ok.is in
    rw u refl

pub returns-in-Err : goal.returns-in-Err
returns-in-Err c =
    let u : unsigned_of 32 c.args.digits.now ≡ None = sym (parsed-is 32 c.args.digits.now c.parse.result c.parse.ensures.value.0) ∙ ap result_ok c.in-Err.is in
    rw u refl
