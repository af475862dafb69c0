use Rattle.std.proofs.Common.{rules, ◌≡◌, ◌∙◌, Some, None, map, refl, arith}
use Rattle.chumsky_parser.proofs.ChainedLemmas.{ran-asked, failed, emit_err}
use Rattle.chumsky_set.specs.Passes.{slot_of}
use Rattle.chumsky_set.proofs.ListLemmas.{fresh_slots, ran_formed}
use Rattle.chumsky_set.proofs.PartLemmas.{taken_ok, taken_err}
use Rattle.chumsky_set.proofs.RoundsLemmas.{rounds_go_on, rounds_end, round_failed}
use Rattle.chumsky_set.proofs.array.SetArrayParserArrayVec.go_emit.Goals as goal

pub rounds-init : goal.rounds-init
rounds-init g c =
    let fresh = c.default-slots.ensures in
    let sized = c.slice_of-parts.ensures.sized in
    let none : map (slot_of (λ v. Some v)) c.default-slots.result ≡ map (λ _. None) c.slice_of-parts.result.now =
    fresh_slots (λ v. Some v) c.slice_of-parts.result.now c.default-slots.result
    (omega (arith, sized, fresh.long)) (λ i d l. fresh.at i d (omega (arith, l, fresh.long))) in
    record { resumes = rw none (λ new r m. m); fits = omega (arith, sized, fresh.long); sized = sized; lent = refl }

pub returns-in_err-more-clause-ran : goal.returns-in_err-more-clause-ran
returns-in_err-more-clause-ran g c =
    rw (← c.slice_of-parts.ensures.all) (failed (round_failed _ c.rounds.invariant.resumes (ran-asked c.round_each.ensures.ran) (taken_err _ c.in_err-more.was) refl) refl (emit_err (search rules)))

pub rounds-preserved : goal.rounds-preserved
rounds-preserved g c =
    record {
      resumes = rounds_go_on _ c.rounds.invariant.resumes (ran-asked c.round_each.ensures.ran) (taken_ok _ c.in_ok-more.was) (rw c.if-not-more.false at c.in_ok-more.ensures.lessens);
      fits = c.round_each.ensures.fits;
      sized = c.rounds.invariant.sized;
      lent = c.round_each.ensures.lent ∙ c.rounds.invariant.lent;
    }

pub returns-clause-ran : goal.returns-clause-ran
returns-clause-ran g c =
    rw (← c.slice_of-parts.ensures.all) (ran_formed (λ v. v.items) c.last_stored.result
    (rounds_end _ c.rounds.invariant.resumes (ran-asked c.round_each.ensures.ran) (taken_ok _ c.in_ok-more.was) (rw c.if-not-more.true at c.in_ok-more.ensures.lessens) c.last_stored.ensures.ran))
