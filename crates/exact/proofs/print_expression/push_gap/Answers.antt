use Rattle.std.proofs.Common.{sym, ap, ◌∙◌, arith, string_bytes, ◌++◌}
use Rattle.std.specs.Str.{chars}
use Rattle.std.proofs.lemmas.Str.{IsUtf8-string_bytes}
use Rattle.exact.proofs.PrintLemmas.{pushed-char, gap-later}
use Rattle.exact.proofs.print_expression.push_gap.Goals as goal

pub returns : goal.returns
returns c =
    let old = string_bytes c.args.text.now in
    pushed-char 32 old (string_bytes c.push.new.self) (omega arith) (IsUtf8-string_bytes c.args.text.now) c.in_ok-push.ensures.bytes ∙ ap (λ z. chars old ++ z) (sym (gap-later c.args.index c.if-index-eq0.false))
