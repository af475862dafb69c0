use Rattle.std.proofs.Common.{rules, refl, ◌≡◌, ◌∙◌, ◌≤◌, Some, [], ◌∷◌, ◌++◌, map, length}
use Rattle.std.proofs.lemmas.List.{drop_all}
use Rattle.chumsky_set.specs.Passes.{slot_of}
use Rattle.chumsky_set.proofs.PartLemmas.{shown_ok, shown_err}
use Rattle.chumsky_set.proofs.TurnsLemmas.{turns_begin, turns_on, turns_failed, turns_end, drop_at, drop_map, drop_past_set, ran_last, ran_last_short}
use Rattle.chumsky_set.proofs.each.last_values.Goals as goal

pub returns-in_err-values-clause-ran : goal.returns-in_err-values-clause-ran
returns-in_err-values-clause-ran g c =
    let some : length c.args.parts.now ≡ 0 → ⊥ = search rules in
    ran_last_short g.E.State.Inspector.mark g.E.State.Inspector.back g.E.State.Inspector.takes_no_memory
    (λ p. g.P.Parser.meaning p g.E.Error.Error g.E.State.Inspector) c.args.parts.now
    (map (slot_of (λ v. Some v)) c.args.slots.now) some (shown_err _ (search rules))

pub returns-in_err-value-clause-ran : goal.returns-in_err-value-clause-ran
returns-in_err-value-clause-ran g c =
    ran_last g.E.State.Inspector.mark g.E.State.Inspector.back g.E.State.Inspector.takes_no_memory
    (λ p. g.P.Parser.meaning p g.E.Error.Error g.E.State.Inspector) c.args.parts.now
    (map (slot_of (λ v. Some v)) c.args.slots.now)
    (turns_failed c.loop-i.invariant.resumes (drop_at c.args.parts.now c.loop-i.i c.index-parts-i.result (search rules) c.index-parts-i.is)
    (drop_map (slot_of (λ v. Some v)) c.loop-i.slots c.loop-i.i c.index-slots-i.result (search rules))
    (rw c.take-slot.ensures.value at c.complete.ensures.ran) (shown_err _ c.in_err-value.was) (shown_err _ (search rules)))

pub returns-then-is_err-clause-ran : goal.returns-then-is_err-clause-ran
returns-then-is_err-clause-ran g c =
    let ok = c.push.ensures.succeeds (search rules) in
    let no : ⊥ = search rules in
    absurd no

pub loop-i-init : goal.loop-i-init
loop-i-init g c = record { resumes = turns_begin _ _ _ _ _ refl refl (search rules); filled = search rules; room = search rules; fits = search rules; lent = refl }

pub loop-i-preserved : goal.loop-i-preserved
loop-i-preserved g c =
    let ok = c.push.ensures.succeeds (search rules) in
    let kept : c.push.new.self.items ≡ c.loop-i.values.items ++ c.in_ok-value.value ∷ [] = search rules in
    record {
      resumes = rw (drop_past_set (slot_of (λ v. Some v)) c.loop-i.slots c.loop-i.i c.take-slot.new.self, kept)
          (turns_on c.loop-i.invariant.resumes (drop_at c.args.parts.now c.loop-i.i c.index-parts-i.result (search rules) c.index-parts-i.is)
          (drop_map (slot_of (λ v. Some v)) c.loop-i.slots c.loop-i.i c.index-slots-i.result (search rules))
          (rw c.take-slot.ensures.value at c.complete.ensures.ran) (shown_ok _ c.in_ok-value.was));
      filled = search rules;
      room = search rules;
      fits = search rules;
      lent = c.complete.ensures.lent ∙ c.loop-i.invariant.lent;
    }

pub returns-clause-ran : goal.returns-clause-ran
returns-clause-ran g c =
    let past : length c.args.parts.now ≤ c.loop-i.i = search rules in
    ran_last g.E.State.Inspector.mark g.E.State.Inspector.back g.E.State.Inspector.takes_no_memory
    (λ p. g.P.Parser.meaning p g.E.Error.Error g.E.State.Inspector) c.args.parts.now
    (map (slot_of (λ v. Some v)) c.args.slots.now)
    (turns_end c.loop-i.invariant.resumes (drop_all c.loop-i.i c.args.parts.now past))
