use Rattle.std.proofs.Common.{subst}
use Rattle.std.specs.Str.{IsUtf8}
use Rattle.chumsky_parser.proofs.MembersLemmas.{chars_from_few}
use Rattle.chumsky_parser.proofs.container.most_chars.Goals as goal

pub returns : goal.returns
returns c = λ at. let value = c.as_bytes-bytes.ensures.value in rw value (chars_from_few _ at (subst IsUtf8 value c.as_bytes-bytes.ensures.utf8))
