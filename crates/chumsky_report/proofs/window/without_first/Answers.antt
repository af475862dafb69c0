use Rattle.std.proofs.Common.{rules, ◌≡◌, sym, ap, ◌∙◌, ◌++◌}
use Rattle.std.specs.Char.{encode_utf8}
use Rattle.chumsky_report.proofs.CutLemmas.{spells_first}
use Rattle.chumsky_report.proofs.window.without_first.Goals as goal

pub returns-else-character-eq10 : goal.returns-else-character-eq10
returns-else-character-eq10 c =
    let whole : c.args.text.now ≡ encode_utf8 c.in-Some.character ++ c.as_str-left.result.now =
    sym c.chars-characters.ensures.rest ∙ c.in-Some.ensures.steps.0 ∙ ap (λ r. encode_utf8 c.in-Some.character ++ r) (sym c.as_str-left.ensures) in
    record { first = c.in-Some.character; no_end = search rules; spelled = spells_first c.args.text.now _ _ c.utf8.text whole; whole = whole }
