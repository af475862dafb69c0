use Rattle.std.proofs.Common.{◌≡◌, map}
use Rattle.std.specs.List.{filter_map}
use Rattle.chumsky_input.specs.Wanted.{named_token}
use Rattle.extending.proofs.merges.MergesError.expected_found.Given as goal

abbrev pub invariant-loop-item : goal.invariant-loop-item
invariant-loop-item g l =
    l.text.items ≡ filter_map named_token (map g.X.Item.Expectation.expectation l.yielded)
