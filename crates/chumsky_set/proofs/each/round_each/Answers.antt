use Rattle.std.proofs.Common.{rules, refl, ◌∙◌, ◌<◌, ◌≤◌, length, arith}
use Rattle.std.proofs.lemmas.List.{drop_all}
use Rattle.chumsky_set.specs.Passes.{slot_of}
use Rattle.chumsky_set.proofs.PartLemmas.{taken_ok, taken_err}
use Rattle.chumsky_set.proofs.TurnsLemmas.{turns_begin, turns_on, turns_failed, turns_end, drop_at, drop_map, drop_past_set, take_past_set, take_end, lessens_by_one}
use Rattle.chumsky_set.proofs.each.round_each.Goals as goal

pub returns-in_err-taken-clause-ran : goal.returns-in_err-taken-clause-ran
returns-in_err-taken-clause-ran g c =
    turns_failed c.loop-i.invariant.resumes (drop_at c.args.parts.now c.loop-i.i c.index-parts-i.result (search rules) c.index-parts-i.is)
    (drop_map (slot_of g.D.Runs.shown) c.loop-i.slots c.loop-i.i c.index-slots-i.result (search rules))
    c.offer.ensures.ran (taken_err _ c.in_err-taken.was) (taken_err _ (search rules))

pub loop-i-init : goal.loop-i-init
loop-i-init g c = record { resumes = turns_begin _ _ _ _ _ refl refl refl; lessens = refl; fits = search rules; lent = refl }

pub loop-i-preserved : goal.loop-i-preserved
loop-i-preserved g c =
    let within : c.loop-i.i < length c.loop-i.slots = search rules in
    record {
      resumes = rw (drop_past_set (slot_of g.D.Runs.shown) c.loop-i.slots c.loop-i.i c.offer.new.slot, take_past_set (slot_of g.D.Runs.shown) c.loop-i.slots c.loop-i.i c.offer.new.slot within)
          (turns_on c.loop-i.invariant.resumes (drop_at c.args.parts.now c.loop-i.i c.index-parts-i.result (search rules) c.index-parts-i.is)
          (drop_map (slot_of g.D.Runs.shown) c.loop-i.slots c.loop-i.i c.index-slots-i.result within)
          c.offer.ensures.ran (taken_ok _ c.in_ok-taken.was));
      lessens =
          lessens_by_one (slot_of g.D.Runs.shown) _ c.loop-i.slots c.loop-i.i c.index-slots-i.result c.offer.new.slot
          c.loop-i.more c.in_ok-taken.taken within c.loop-i.invariant.lessens c.in_ok-taken.ensures.lessens;
      fits = search rules;
      lent = c.offer.ensures.lent ∙ c.loop-i.invariant.lent;
    }

pub returns-clause-ran : goal.returns-clause-ran
returns-clause-ran g c =
    let past : length c.args.parts.now ≤ c.loop-i.i = search rules in
    let ended = turns_end c.loop-i.invariant.resumes (drop_all c.loop-i.i c.args.parts.now past) in
    rw (take_end (slot_of g.D.Runs.shown) c.loop-i.slots c.loop-i.i (omega (arith, past, c.loop-i.invariant.fits))) at ended
