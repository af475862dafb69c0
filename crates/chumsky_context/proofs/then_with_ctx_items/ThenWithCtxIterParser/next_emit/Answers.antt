use Rattle.chumsky_context.proofs.CarriedLemmas.{carried-emit}
use Rattle.chumsky_context.proofs.then_with_ctx_items.ThenWithCtxIterParser.next_emit.Goals as goal

pub returns-clause-ran : goal.returns-clause-ran
returns-clause-ran g c = carried-emit (λ t. (c.args.state.now.0, t)) _ _ c.next_emit_under.ensures.ran
