use Rattle.std.proofs.Common.{◌≡◌, take, flat_map, string_bytes}
use Rattle.std.specs.Str.{chars}
use Rattle.exact.specs.Pairs.{ended}
use Rattle.exact.proofs.print_pairs.print_pairs.Given as goal

abbrev pub invariant-loop-pair : goal.invariant-loop-pair
invariant-loop-pair l = chars (string_bytes l.text) ≡ flat_map (λ p. ended (chars p.0.now, chars p.1.now)) (take l.pair-index l.pairs)
