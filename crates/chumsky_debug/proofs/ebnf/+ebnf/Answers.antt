use Rattle.std.proofs.Common.{◌≡◌, ◌≤◌, ◌∙◌, ◌++◌, ℕ, List, [], length, take, get_or, refl, sym, ap, rules, arith, codes, Some, None, slice_get}
use Rattle.std.proofs.Output.{has_written_append, has_written_of_eq}
use Rattle.std.proofs.lemmas.List.{append_assoc}
use Rattle.std.proofs.lemmas.Option.{slice_get_past}
use Rattle.std.specs.List.{flat_map}
use Rattle.chumsky_debug.specs.Ebnf.{choice_text, node_text, part_text}
use Rattle.chumsky_debug.proofs.Steps.{each_more, first_and_others, others_of, node_none, node_step}
use Rattle.chumsky_debug.proofs.ebnf.+ebnf.Goals as goal

pub write_at-returns : goal.write_at-returns
write_at-returns g t c = rw c.number.ensures at c.write_part.ensures

pub write_node-returns-then-bound-eq0 : goal.write_node-returns-then-bound-eq0
write_node-returns-then-bound-eq0 g t c =
    let info = c.args.info in
    let nothing : c.args.bound ≡ 0 = omega arith in
    let none : node_text info c.args.bound c.args.level c.args.node ≡ [] = ap (λ bound. node_text info bound c.args.level c.args.node) nothing ∙ node_none info c.args.level c.args.node in
    rw none (search rules)

pub write_node-returns-in-Some : goal.write_node-returns-in-Some
write_node-returns-in-Some g t c =
    let found : slice_get c.args.info.rules.now.nodes c.args.node ≡ Some c.in-Some.kind.now = search rules in
    rw (node_step c.args.info c.args.bound c.args.level c.args.node (Some c.in-Some.kind.now) (λ e. omega (arith, e)) found) c.write_enclosed.ensures

pub write_node-returns-in-None : goal.write_node-returns-in-None
write_node-returns-in-None g t c =
    let nodes = c.args.info.rules.now.nodes in
    let past : length nodes ≤ c.args.node = search rules in
    rw (node_step c.args.info c.args.bound c.args.level c.args.node None (λ e. omega (arith, e)) (slice_get_past nodes c.args.node past)) (search rules)

pub write_kind-returns-in_ok-write-in-Then : goal.write_kind-returns-in_ok-write-in-Then
write_kind-returns-in_ok-write-in-Then g t c = rw c.in-Then.is (λ plain ok.
    let first = c.in_ok-write_at-in-Then.ensures plain refl in
    let space = c.in_ok-write-in-Then.ensures.writes first.plain refl in
    has_written_append _ _ _ _ _ _ first (has_written_append _ _ _ _ _ _ space (c.write_at-in-Then.ensures space.plain ok)))

pub write_kind-returns-in_ok-write-in-AndIs-2 : goal.write_kind-returns-in_ok-write-in-AndIs-2
write_kind-returns-in_ok-write-in-AndIs-2 g t c = rw c.in-AndIs.is (λ plain ok.
    let ahead = c.in_ok-write-in-AndIs.ensures.writes plain refl in
    let other = c.in_ok-write_at-in-AndIs.ensures ahead.plain refl in
    let space = c.in_ok-write-in-AndIs-2.ensures.writes other.plain refl in
    has_written_append _ _ _ _ _ _ ahead (has_written_append _ _ _ _ _ _ other (has_written_append _ _ _ _ _ _ space (c.write_at-in-AndIs-2.ensures space.plain ok))))

pub write_kind-returns-in-Map : goal.write_kind-returns-in-Map
write_kind-returns-in-Map g t c = rw c.in-Map.is c.write_at-in-Map.ensures

pub write_kind-returns-in-TryMap : goal.write_kind-returns-in-TryMap
write_kind-returns-in-TryMap g t c = rw c.in-TryMap.is c.write_at-in-TryMap.ensures

pub write_choice-loop-other-preserved : goal.write_choice-loop-other-preserved
write_choice-loop-other-preserved g t c plain =
    let before = c.loop-other.invariant plain in
    let bar = c.in_ok-write.ensures.writes before.plain refl in
    let part = part_text c.args.info c.args.bound 1 in
    let first = part (get_or c.args.parts.now 0 0) in
    let after : ℕ → List ℕ = λ m. codes " | " ++ part m in
    let others = others_of c.args.parts.now in
    let i = c.loop-other.other-index in
    has_written_of_eq _ _ _ _ _
    (append_assoc first (flat_map after (take i others)) (after c.other-item.result) ∙ ap (λ text. first ++ text)
    (sym (each_more after others i c.other-item.result c.loop-other-test.true c.other-item.is)))
    (has_written_append _ _ _ _ _ _ before (has_written_append _ _ _ _ _ _ bar (c.in_ok-write_at-2.ensures bar.plain refl)))

pub write_choice-returns : goal.write_choice-returns
write_choice-returns g t c plain ok =
    let whole = first_and_others c.args.parts.now c.loop-other.other-index (omega arith) (omega arith) in
    has_written_of_eq _ _ _ _ _ (ap (choice_text (part_text c.args.info c.args.bound)) whole) (c.loop-other.invariant plain)
