-- `==` of patterns is an equality; what counts of a `Rich` that was given a label.
use Rattle.std.specs.Prelude.{◌≡◌, ℕ, Bool, ◌==◌, List, [], ◌∷◌, None, map, option_map, refl}
use Rattle.std.specs.Cmp.{IsPartialEquivalence, and_per, on_per}
use Rattle.std.specs.Cmp.Rules.{comparing}
use Rattle.std.specs.Cmp.Lexicographic.{pointwise}
use Rattle.std.specs.Ordering.{on}
use Rattle.std.specs.Option.{option_eq}
use Rattle.std.proofs.Common.{rules, ap, ◌∙◌}
use Rattle.chumsky_input.specs.Wanted.{Label, wanted_tag, label_text, named_token, wanted_map, wanted_same}
use Rattle.chumsky_input.specs.declared.rich.Rich.{Rich}
use Rattle.chumsky_input.specs.declared.rich.RichPattern.{RichPattern}
use Rattle.chumsky_input.specs.Rich.{RichSeen, pattern_same, pattern_wanted, pattern_seen, rich_span, rich_found, rich_patterns, rich_message, rich_seen, rich_labelled}

wanted_same_laws : {T : Type 0} (same : T → T → Bool) → IsPartialEquivalence same → IsPartialEquivalence (wanted_same same)
wanted_same_laws {T = T} same h =
    let tags : IsPartialEquivalence (on (wanted_tag {T = T}) ◌==◌) = search (comparing, rules) in
    let texts : IsPartialEquivalence (option_eq (pointwise {A = ℕ} ◌==◌)) = search (comparing, rules) in
    let tokens : IsPartialEquivalence (option_eq same) = search (rules, h) in
    and_per tags (and_per (on_per label_text texts) (on_per named_token tokens))

pub pattern_same_laws : {T : Type 0} (same : T → T → Bool) → IsPartialEquivalence same → IsPartialEquivalence (pattern_same same)
pattern_same_laws same h = on_per pattern_wanted (wanted_same_laws same h)

patterns-seen : {T S : Type 0} (seen : T → S) (ps : List (RichPattern T)) → map (pattern_seen seen) ps ≡ map (wanted_map seen) (map pattern_wanted ps)
patterns-seen seen [] = refl
patterns-seen seen (p ∷ ps) = ap (λ t. pattern_seen seen p ∷ t) (patterns-seen seen ps)

-- an error with the span and the found token of another, and one label for patterns, counts as that one with the label
pub labelled-seen : {T S : Type 0} (seen : T → S) (e r : Rich T) (text : List ℕ) → rich_span r ≡ rich_span e
    → rich_found r ≡ rich_found e → map pattern_wanted (rich_patterns r) ≡ Label text ∷ [] → rich_message r ≡ None
    → rich_seen seen r ≡ rich_labelled text (rich_seen seen e)
labelled-seen {S = S} seen e r text spans founds patterns messages =
    ap (λ t. let s : RichSeen S = record { span = t; found = option_map seen (rich_found r); expected = map (pattern_seen seen) (rich_patterns r); message = rich_message r } in s) spans
    ∙ ap (λ t. let s : RichSeen S = record { span = rich_span e; found = option_map seen t; expected = map (pattern_seen seen) (rich_patterns r); message = rich_message r } in s) founds
    ∙ ap (λ t. let s : RichSeen S
    = record { span = rich_span e; found = option_map seen (rich_found e); expected = t; message = rich_message r }
    in s)
    (patterns-seen seen (rich_patterns r) ∙ ap (map (wanted_map seen)) patterns)
    ∙ ap (λ t. let s : RichSeen S = record { span = rich_span e; found = option_map seen (rich_found e); expected = Label text ∷ []; message = t } in s) messages
