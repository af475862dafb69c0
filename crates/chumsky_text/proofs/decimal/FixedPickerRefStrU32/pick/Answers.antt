use Rattle.std.proofs.Common.{◌≡◌, ◌∙◌, sym, ap, length, Some, None}
use Rattle.std.specs.Result.{result_ok}
use Rattle.chumsky_text.specs.Decimals.{unsigned_of, parsed-is, fixed-some, fixed-none}
use Rattle.chumsky_text.proofs.decimal.FixedPickerRefStrU32.pick.Goals as goal

pub returns-then-number-self : goal.returns-then-number-self
returns-then-number-self c =
    let u : unsigned_of 32 c.args.digits.now ≡ Some c.in-Ok.number = sym (parsed-is 32 c.args.digits.now c.parse.result c.parse.ensures.value.0) ∙ ap result_ok c.in-Ok.is in
    fixed-some c.args.self.now.digits c.args.self.now.least c.args.self.now.most c.args.digits.now c.in-Ok.number c.if-digits-self.false u c.if-self-number.true c.if-number-self.true

pub returns-in-Err : goal.returns-in-Err
returns-in-Err c =
    let u : unsigned_of 32 c.args.digits.now ≡ None = sym (parsed-is 32 c.args.digits.now c.parse.result c.parse.ensures.value.0) ∙ ap result_ok c.in-Err.is in
    fixed-none c.args.self.now.digits c.args.self.now.least c.args.self.now.most c.args.digits.now u
