use Rattle.std.proofs.Common.{arith, ⊎_elim, ◌+◌, ◌≤◌}
use Rattle.std.specs.Range.{range_inclusive_start, range_inclusive_end, range_inclusive_exhausted}
use Rattle.std.proofs.lemmas.Bool.{cases_lt}
use Rattle.chumsky_parser.proofs.RangeLemmas.{between_past, range_next, range_ends}
use Rattle.chumsky_parser.proofs.container.RangeInclusiveCharSeqChar.seq_at.Goals as goal

pub returns-in_err-checked_add : goal.returns-in_err-checked_add
returns-in_err-checked_add c =
    let e = c.start.ensures in
    let n = c.in_err-checked_add.ensures in
    rw c.from_residual.ensures
    (between_past _ _ (⊎_elim (λ l. absurd (n (omega (arith, e)))) (λ l. l) (cases_lt (range_inclusive_start c.args.self.now + c.args.at) 1114112)))

pub returns-in_err-character : goal.returns-in_err-character
returns-in_err-character c =
    let e = c.start.ensures in
    let s = c.in_ok-checked_add.ensures in
    let l = c.in_err-character.ensures in
    let far : 1114112 ≤ range_inclusive_start c.args.self.now + c.args.at = omega (arith, e, s, l) in
    rw c.from_residual-in_err-character.ensures (between_past _ _ far)

pub returns-then-contains : goal.returns-then-contains
returns-then-contains c =
    let r = c.args.self.now in
    range_next (range_inclusive_start r) (range_inclusive_end r) c.args.at c.start.result.now
    c.in_ok-checked_add.field-0 c.in_ok-character.character (range_inclusive_exhausted r) c.start.ensures
    (c.in_ok-checked_add.ensures).1 c.in_ok-character.ensures c.if-contains.ensures.value

pub returns-else-contains : goal.returns-else-contains
returns-else-contains c =
    let r = c.args.self.now in
    range_ends (range_inclusive_start r) (range_inclusive_end r) c.args.at c.start.result.now
    c.in_ok-checked_add.field-0 c.in_ok-character.character (range_inclusive_exhausted r) c.start.ensures
    (c.in_ok-checked_add.ensures).1 c.in_ok-character.ensures c.if-contains.ensures.value
