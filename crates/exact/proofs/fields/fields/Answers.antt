use Rattle.std.proofs.Common.{◌≡◌, ◌∙◌}
use Rattle.chumsky_exact.specs.Builders.{then_is, then_ignore_is, pick_by_is, digits_is, just_is}
use Rattle.exact.specs.ThreeFields.{field_of}
use Rattle.exact.proofs.fields.fields.Goals as goal

pub returns : goal.returns
returns c =
    let first : c.pick_by-first.result ≡ field_of c.args.first = pick_by_is (c.pick_by-first.ensures.parser ∙ digits_is c.digits.ensures) c.pick_by-first.ensures.picker in
    let second : c.pick_by-second.result ≡ field_of c.args.second = pick_by_is (c.pick_by-second.ensures.parser ∙ digits_is c.digits-2.ensures) c.pick_by-second.ensures.picker in
    let third : c.pick_by-third.result ≡ field_of c.args.third = pick_by_is (c.pick_by-third.ensures.parser ∙ digits_is c.digits-3.ensures) c.pick_by-third.ensures.picker in
    let one : c.then_ignore.result ≡ _ = then_ignore_is (c.then_ignore.ensures.first ∙ first) (c.then_ignore.ensures.second ∙ just_is c.just.ensures) in
    let two : c.then.result ≡ _ = then_is (c.then.ensures.first ∙ one) (c.then.ensures.second ∙ second) in
    let three : c.then_ignore-2.result ≡ _ = then_ignore_is (c.then_ignore-2.ensures.first ∙ two) (c.then_ignore-2.ensures.second ∙ just_is c.just-2.ensures) in
    then_is (c.then-2.ensures.first ∙ three) (c.then-2.ensures.second ∙ third)
