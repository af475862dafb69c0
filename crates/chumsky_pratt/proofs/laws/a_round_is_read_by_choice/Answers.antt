use Rattle.chumsky_pratt.specs.ChoicesLaws.{turns_by_choice}
use Rattle.chumsky_pratt.proofs.laws.a_round_is_read_by_choice.Goals as goal

pub returns : goal.returns
returns g c = turns_by_choice _
