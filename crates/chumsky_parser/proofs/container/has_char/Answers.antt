use Rattle.std.proofs.Common.{◌∙◌, ap, subst, nat_eq}
use Rattle.std.specs.List.{list_any}
use Rattle.std.specs.Str.{IsUtf8}
use Rattle.chumsky_parser.proofs.MembersLemmas.{ascii_in_text}
use Rattle.chumsky_parser.proofs.container.has_char.Goals as goal

pub returns-then-character-lt128 : goal.returns-then-character-lt128
returns-then-character-lt128 c =
    let value = c.as_bytes-bytes.ensures.value in
    c.contains.ensures.value ∙ ap (list_any (λ x. nat_eq x c.args.character)) value ∙ ascii_in_text c.args.character c.if-character-lt128.true _ (subst IsUtf8 value c.as_bytes-bytes.ensures.utf8)
