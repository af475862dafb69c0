use Rattle.std.proofs.Common.{rules, refl, ◌∙◌, ◌≤◌, None, map, length}
use Rattle.std.proofs.lemmas.List.{drop_all}
use Rattle.chumsky_set.specs.Passes.{slot_of}
use Rattle.chumsky_set.proofs.PartLemmas.{shown_ok, shown_err}
use Rattle.chumsky_set.proofs.TurnsLemmas.{turns_begin_bare, turns_on, turns_failed, turns_end, drop_at, drop_map, ran_last}
use Rattle.chumsky_set.proofs.each.last_checks.Goals as goal

pub returns-in_err-complete-clause-ran : goal.returns-in_err-complete-clause-ran
returns-in_err-complete-clause-ran g c =
    ran_last g.E.State.Inspector.mark g.E.State.Inspector.back g.E.State.Inspector.takes_no_memory
    (λ p. g.P.Parser.meaning p g.E.Error.Error g.E.State.Inspector) c.args.parts.now
    (map (slot_of (λ _. None)) c.args.slots.now)
    (turns_failed c.loop-i.invariant.resumes (drop_at c.args.parts.now c.loop-i.i c.index-parts-i.result (search rules) c.index-parts-i.is)
    (drop_map (slot_of (λ _. None)) c.args.slots.now c.loop-i.i None (search rules))
    c.complete.ensures.ran (shown_err _ c.in_err-complete.was) (shown_err _ (search rules)))

pub loop-i-init : goal.loop-i-init
loop-i-init g c = record { resumes = turns_begin_bare _ _ _ _ refl refl; lent = refl }

pub loop-i-preserved : goal.loop-i-preserved
loop-i-preserved g c =
    record {
      resumes = turns_on c.loop-i.invariant.resumes (drop_at c.args.parts.now c.loop-i.i c.index-parts-i.result (search rules) c.index-parts-i.is)
          (drop_map (slot_of (λ _. None)) c.args.slots.now c.loop-i.i None (search rules))
          c.complete.ensures.ran (shown_ok _ c.in_ok-complete.was);
      lent = c.complete.ensures.lent ∙ c.loop-i.invariant.lent;
    }

pub returns-clause-ran : goal.returns-clause-ran
returns-clause-ran g c =
    let past : length c.args.parts.now ≤ c.loop-i.i = search rules in
    ran_last g.E.State.Inspector.mark g.E.State.Inspector.back g.E.State.Inspector.takes_no_memory
    (λ p. g.P.Parser.meaning p g.E.Error.Error g.E.State.Inspector) c.args.parts.now
    (map (slot_of (λ _. None)) c.args.slots.now)
    (turns_end c.loop-i.invariant.resumes (drop_all c.loop-i.i c.args.parts.now past))
