use Rattle.std.proofs.Common.{◌≡◌, ◌++◌, string_bytes, drop, map}
use Rattle.std.specs.Str.{chars}
use Rattle.exact.specs.Expressions.{form_of, forms_of, all_written}
use Rattle.exact.proofs.PrintLemmas.{remaining}
use Rattle.exact.proofs.print_expression.+push_expression.Given as goal

abbrev pub invariant-loop-index : goal.invariant-loop-index
invariant-loop-index l = chars (string_bytes l.text) ++ remaining l.index (drop l.index l.inner-items) ≡ chars (string_bytes l.initial.text) ++ all_written (forms_of (map form_of l.inner-items))
