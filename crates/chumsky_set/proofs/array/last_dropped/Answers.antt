use Rattle.std.proofs.Common.{rules, ◌∙◌, ◌≤◌, Some, [], ◌∷◌, ◌++◌, length, refl}
use Rattle.std.proofs.lemmas.List.{drop_all}
use Rattle.chumsky_parser.proofs.ChainedLemmas.{check_err}
use Rattle.chumsky_set.specs.Passes.{slot_of}
use Rattle.chumsky_set.proofs.ListLemmas.{gave_value, gave_none}
use Rattle.chumsky_set.proofs.PartLemmas.{shown_ok, shown_err}
use Rattle.chumsky_set.proofs.TurnsLemmas.{turns_begin, turns_on, turns_failed, turns_end, drop_at, drop_map, drop_past_set}
use Rattle.chumsky_set.proofs.array.last_dropped.Goals as goal

pub loop-i-init : goal.loop-i-init
loop-i-init g c = record { resumes = ([], turns_begin _ _ _ _ _ refl refl refl); fits = search rules; lent = refl }

pub returns-in_err-complete-clause-ran : goal.returns-in_err-complete-clause-ran
returns-in_err-complete-clause-ran g c =
    gave_none (turns_failed c.loop-i.invariant.resumes.1 (drop_at c.args.parts.now c.loop-i.i c.index-parts-i.result (search rules) c.index-parts-i.is)
    (drop_map (slot_of (λ v. Some v)) c.loop-i.slots c.loop-i.i c.index-slots-i.result (search rules))
    (rw c.take-slot.ensures.value at c.complete.ensures.ran) (shown_err _ c.in_err-complete.was) refl) refl (check_err (search rules))

pub loop-i-preserved : goal.loop-i-preserved
loop-i-preserved g c =
    record {
      resumes = (
        c.loop-i.invariant.resumes.0 ++ c.in_ok-complete.field-0 ∷ [],
        rw (drop_past_set (slot_of (λ v. Some v)) c.loop-i.slots c.loop-i.i c.take-slot.new.self)
            (turns_on c.loop-i.invariant.resumes.1 (drop_at c.args.parts.now c.loop-i.i c.index-parts-i.result (search rules) c.index-parts-i.is)
            (drop_map (slot_of (λ v. Some v)) c.loop-i.slots c.loop-i.i c.index-slots-i.result (search rules))
            (rw c.take-slot.ensures.value at c.complete.ensures.ran) (shown_ok _ c.in_ok-complete.was)),
      );
      fits = search rules;
      lent = c.complete.ensures.lent ∙ c.loop-i.invariant.lent;
    }

pub returns-clause-ran : goal.returns-clause-ran
returns-clause-ran g c =
    let past : length c.args.parts.now ≤ c.loop-i.i = search rules in
    gave_value (turns_end c.loop-i.invariant.resumes.1 (drop_all c.loop-i.i c.args.parts.now past)) refl
