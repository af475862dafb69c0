use Rattle.chumsky_context.specs.CoveredLanguage.{covers-spares}
use Rattle.chumsky_context.proofs.to_span.to_span_is_never_out_of_memory.Goals as goal

pub returns : goal.returns
returns g c h = covers-spares _ _ h.0
