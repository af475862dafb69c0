use Rattle.std.proofs.Common.{◌≡◌}
use Rattle.std.specs.Str.Iter.{bytes_rest}
use Rattle.chumsky_parser.specs.CharBits.{more_bits, text_bits}
use Rattle.chumsky_parser.proofs.char_set.bits_of.Given as goal

abbrev pub invariant-loop-byte : goal.invariant-loop-byte
invariant-loop-byte l = more_bits l.bits (bytes_rest l.byte-iterator) ≡ text_bits l.fn.text
