use Rattle.chumsky_context.proofs.CarriedLemmas.{carried-check}
use Rattle.chumsky_context.proofs.then_with_ctx_items.ThenWithCtxIterParser.next_check.Goals as goal

pub returns-clause-ran : goal.returns-clause-ran
returns-clause-ran g c = carried-check (λ t. (c.args.state.now.0, t)) _ _ c.next_check_under.ensures.ran
