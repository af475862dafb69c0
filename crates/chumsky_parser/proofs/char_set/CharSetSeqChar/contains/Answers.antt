use Rattle.std.proofs.Common.{◌∙◌, ap, subst, ◌==◌}
use Rattle.std.specs.Int.{bit_at}
use Rattle.std.specs.Str.{IsUtf8}
use Rattle.chumsky_parser.proofs.CharBitsLemmas.{bit_in_text}
use Rattle.chumsky_parser.proofs.char_set.CharSetSeqChar.contains.Goals as goal

pub returns-then-character-lt128 : goal.returns-then-character-lt128
returns-then-character-lt128 c =
    ap (λ n. bit_at n c.args.token.now == 1) c.args.self.now.marked
    ∙ bit_in_text c.args.token.now c.if-character-lt128.true c.args.self.now.text.now (subst IsUtf8 c.as_bytes-bytes.ensures.value c.as_bytes-bytes.ensures.utf8)
