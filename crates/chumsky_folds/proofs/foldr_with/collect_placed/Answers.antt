use Rattle.std.proofs.Common.{rules, arith, refl, ap, ◌++◌, ◌∷◌, []}
use Rattle.std.proofs.lemmas.List.Elements.{All-nil, All-same}
use Rattle.chumsky_input.specs.Held.{held}
use Rattle.chumsky_parser.proofs.ChainedLemmas.{emit_ok, emit_err}
use Rattle.chumsky_parser.proofs.ItemsLemmas.{items-unmade, items-made, steps-failed, steps-ended, steps-full, steps-refused, steps-more, emit_item, emit_end, emit_fault}
use Rattle.chumsky_items.proofs.ConsumersLemmas.{ran-appended, ran-not_appended, ran-collected}
use Rattle.chumsky_folds.specs.Placed.{StartsIn, places_of}
use Rattle.chumsky_folds.proofs.PlacedLemmas.{placed-failed, placed-ended, placed-item, places-pushed, starts-pushed}
use Rattle.chumsky_folds.proofs.foldr_with.collect_placed.Goals as goal

pub returns-in_err-state-clause-ran : goal.returns-in_err-state-clause-ran
returns-in_err-state-clause-ran g c = items-unmade c.make_iter.ensures.ran (emit_err c.in_err-state.was) (emit_err (search rules))

pub loop-items-init : goal.loop-items-init
loop-items-init g c =
    let now = held g.I.Input g.E.Error.Error g.E.State.Inspector c.make_iter.new.inp in
    record {
      so = record { items = []; held = ap (places_of g.I.Input) c.new-items.ensures.items; from = items-made c.make_iter.ensures.ran (emit_ok c.in_ok-state.was) };
      within = All-same (StartsIn g.I.Input now.tokens now.place) c.new-items.result.items [] c.new-items.ensures.items (All-nil (StartsIn g.I.Input now.tokens now.place));
      may = c.in_ok-state.ensures.may;
      lent = c.make_iter.ensures.lent;
    }

pub returns-in_err-next_item-clause-ran : goal.returns-in_err-next_item-clause-ran
returns-in_err-next_item-clause-ran g c = steps-failed c.loop-items.invariant.so.from (placed-failed c.next_item.ensures.ran (emit_fault _ c.in_err-next_item.was)) refl (emit_err (search rules))

pub returns-in-None-clause-ran : goal.returns-in-None-clause-ran
returns-in-None-clause-ran g c =
    let so = c.loop-items.invariant.so in
    steps-ended so.from (placed-ended c.next_item.ensures.ran (emit_end _ c.in_ok-next_item.was c.in-None.is)) refl (ran-collected so.items c.loop-items.items so.held)

pub returns-then-count-clause-ran : goal.returns-then-count-clause-ran
returns-then-count-clause-ran g c = steps-full c.loop-items.invariant.so.from (placed-item c.next_item.ensures.ran (emit_item _ c.in_ok-next_item.was c.in-Some.is)) refl (omega arith)

pub returns-in-Err-clause-ran : goal.returns-in-Err-clause-ran
returns-in-Err-clause-ran g c =
    let so = c.loop-items.invariant.so in
    steps-refused so.from (placed-item c.next_item.ensures.ran (emit_item _ c.in_ok-next_item.was c.in-Some.is))
    refl (λ z. omega (arith, z))
    (ran-not_appended so.items (c.in-Some.item, (held g.I.Input g.E.Error.Error g.E.State.Inspector c.loop-items.inp).place) (λ no. no))

pub loop-items-preserved : goal.loop-items-preserved
loop-items-preserved g c =
    let so = c.loop-items.invariant.so in
    let mid = held g.I.Input g.E.Error.Error g.E.State.Inspector c.loop-items.inp in
    let new = held g.I.Input g.E.Error.Error g.E.State.Inspector c.next_item.new.inp in
    record {
      so = record {
        items = so.items ++ (c.in-Some.item, mid.place) ∷ [];
        held = places-pushed g.I.Input _ _ _ _ (rw c.cursor-before.ensures at c.in-Ok.ensures.items) so.held;
        from =
            steps-more so.from (placed-item c.next_item.ensures.ran (emit_item _ c.in_ok-next_item.was c.in-Some.is))
            refl (λ z. omega (arith, z)) (ran-appended so.items (c.in-Some.item, mid.place));
      };
      within =
          starts-pushed g.I.Input mid new _ _ _ (rw c.cursor-before.ensures at c.in-Ok.ensures.items) refl refl
          c.next_item.ensures.tokens c.in_ok-next_item.ensures.onward c.loop-items.invariant.within;
      may = search rules;
      lent = search rules;
    }
