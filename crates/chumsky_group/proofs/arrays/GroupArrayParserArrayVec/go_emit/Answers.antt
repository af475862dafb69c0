use Rattle.std.proofs.Common.{rules, refl, arith}
use Rattle.chumsky_parser.proofs.ChainedLemmas.{emit_err, emit_ok}
use Rattle.chumsky_group.proofs.InTurnLemmas.{emits-start, emits-next, emits-failed, emits-end}
use Rattle.chumsky_group.proofs.arrays.GroupArrayParserArrayVec.go_emit.Goals as goal

pub loop-parser-init : goal.loop-parser-init
loop-parser-init g c = record { from = rw c.new-outputs.ensures emits-start; filled = rw c.new-outputs.ensures refl; sized = c.slice_of-parsers.ensures.sized; lent = refl }

pub returns-in_err-go_emit-clause-ran : goal.returns-in_err-go_emit-clause-ran
returns-in_err-go_emit-clause-ran g c =
    rw (← c.slice_of-parsers.ensures.all)
    (emits-failed (omega arith) c.parser-item.is c.loop-parser.invariant.from c.go_emit.ensures.ran
    (emit_err c.in_err-go_emit.was) (emit_err (search rules)))

pub loop-parser-preserved : goal.loop-parser-preserved
loop-parser-preserved g c = record {
  from = rw c.push.ensures.items (emits-next (omega arith) c.parser-item.is c.loop-parser.invariant.from c.go_emit.ensures.ran (emit_ok c.in_ok-go_emit.was));
  filled = omega arith;
  sized = c.loop-parser.invariant.sized;
  lent = search rules;
}

pub returns-clause-ran : goal.returns-clause-ran
returns-clause-ran g c = rw (← c.slice_of-parsers.ensures.all) (emits-end (omega arith) c.loop-parser.invariant.from)
