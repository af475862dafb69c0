use Rattle.std.proofs.Common.{◌≡◌, ◌++◌, [], ◌∷◌, string_bytes}
use Rattle.std.specs.Prelude.{flat_map}
use Rattle.std.specs.Str.{chars}
use Rattle.exact.specs.Csv.{doubled}
use Rattle.exact.proofs.print_csv.push_quoted.Given as goal

abbrev pub invariant-loop-character : goal.invariant-loop-character
invariant-loop-character l = chars (string_bytes l.text) ≡ chars (string_bytes l.initial.text) ++ flat_map (λ c. doubled (c ∷ [])) l.yielded
