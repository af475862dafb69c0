use Rattle.chumsky_pratt.specs.ChoicesLaws.{reads_by_choice}
use Rattle.chumsky_pratt.proofs.laws.a_value_is_read_by_choice.Goals as goal

pub returns : goal.returns
returns g c = reads_by_choice _
