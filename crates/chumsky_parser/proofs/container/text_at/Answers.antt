use Rattle.std.proofs.Common.{subst}
use Rattle.std.specs.Str.{IsUtf8}
use Rattle.chumsky_parser.proofs.MembersLemmas.{chars_from_ascii, chars_from_past}
use Rattle.chumsky_parser.proofs.container.text_at.Goals as goal

pub returns-then-at-bytes : goal.returns-then-at-bytes
returns-then-at-bytes c = chars_from_past _ _ (rw c.as_bytes-bytes.ensures.value at c.if-at-bytes.true)

pub returns-then-byte-lt128 : goal.returns-then-byte-lt128
returns-then-byte-lt128 c =
    let value = c.as_bytes-bytes.ensures.value in
    rw value
    (chars_from_ascii _ c.args.at (subst IsUtf8 value c.as_bytes-bytes.ensures.utf8) (rw value at c.if-at-bytes.false) (rw value at c.if-byte-lt128.true))
