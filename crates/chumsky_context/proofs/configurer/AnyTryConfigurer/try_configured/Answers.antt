use Rattle.std.proofs.Common.{refl}
use Rattle.chumsky_context.proofs.configurer.AnyTryConfigurer.try_configured.Goals as goal

pub returns : goal.returns
returns g c = record { shown = c.args.context; shows = refl; says = record { met = c.self.ensures } }
