use Rattle.std.proofs.Common.{rules, ◌≡◌, ◌∙◌, Err, None, ap, map, length}
use Rattle.chumsky_input.specs.declared.stop.Fault.TheVariants as fault
use Rattle.chumsky_input.specs.declared.stop.Stop.TheVariants.{Memory}
use Rattle.chumsky_parser.proofs.ChainedLemmas.{check_err}
use Rattle.chumsky_set.specs.Passes.{slot_of}
use Rattle.chumsky_set.proofs.ListLemmas.{map_no_slots, ran_no_slots, ran_checks}
use Rattle.chumsky_set.proofs.list.SetVecParserVec.go_check.Goals as goal

pub returns-in_err-slots-clause-ran : goal.returns-in_err-slots-clause-ran
returns-in_err-slots-clause-ran g c =
    let e : c.from_residual.result ≡ Err (fault.Stop Memory) = search rules in
    let some : length c.as_slice-parts.result.now ≡ 0 → ⊥ = search rules in
    rw⁻¹ c.as_slice-parts.ensures.value (ran_no_slots some (check_err e))

pub returns-clause-ran : goal.returns-clause-ran
returns-clause-ran g c =
    rw⁻¹ c.as_slice-parts.ensures.value
    (ran_checks (λ v. v.items) c.in_any_order.result
    (ap (map (slot_of (λ _. None))) c.in_ok-slots.ensures.items ∙ map_no_slots (λ _. None) c.as_slice-parts.result.now)
    c.in_any_order.ensures.ran)
