use Rattle.std.proofs.Common.{rules, ◌≡◌, sym, ap, ◌∙◌, ◌++◌}
use Rattle.std.specs.Char.{encode_utf8}
use Rattle.chumsky_report.proofs.CutLemmas.{spells_last, none_behind_end, none_behind_nothing}
use Rattle.chumsky_report.proofs.window.without_last.Goals as goal

pub returns-in_default : goal.returns-in_default
returns-in_default c = none_behind_nothing c.args.text.now (search rules)

pub returns-then-character-eq10 : goal.returns-then-character-eq10
returns-then-character-eq10 c =
    let whole : c.args.text.now ≡ c.as_str-left.result.now ++ encode_utf8 c.in-Some.character =
    sym c.chars-characters.ensures.rest ∙ c.in-Some.ensures.steps ∙ ap (λ r. r ++ encode_utf8 c.in-Some.character) (sym c.as_str-left.ensures) in
    none_behind_end c.args.text.now _ c.in-Some.character (spells_last c.args.text.now _ _ c.utf8.text c.as_str-left.utf8 whole) (search rules)

pub returns-else-character-eq10 : goal.returns-else-character-eq10
returns-else-character-eq10 c =
    let whole : c.args.text.now ≡ c.as_str-left.result.now ++ encode_utf8 c.in-Some.character =
    sym c.chars-characters.ensures.rest ∙ c.in-Some.ensures.steps ∙ ap (λ r. r ++ encode_utf8 c.in-Some.character) (sym c.as_str-left.ensures) in
    record { last = c.in-Some.character; no_end = search rules; spelled = spells_last c.args.text.now _ _ c.utf8.text c.as_str-left.utf8 whole; whole = whole }
