use Rattle.std.proofs.Common.{◌++◌, ◌∙◌, ap}
use Rattle.std.specs.Str.{chars}
use Rattle.std.proofs.lemmas.Str.{chars-nil}
use Rattle.exact.specs.Expressions.{form_of, written}
use Rattle.exact.proofs.print_expression.print_expression.Goals as goal

pub returns : goal.returns
returns c =
    let e = written (form_of c.args.expression.now) in
    c.in_ok-push_expression.ensures ∙ ap (λ z. chars z ++ e) c.new-text.ensures.bytes ∙ ap (λ z. z ++ e) chars-nil
