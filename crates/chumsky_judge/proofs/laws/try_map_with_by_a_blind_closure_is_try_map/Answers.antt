use Rattle.chumsky_judge.proofs.BlindLemmas.{tried-blindly}
use Rattle.chumsky_judge.proofs.laws.try_map_with_by_a_blind_closure_is_try_map.Goals as goal

pub returns : goal.returns
returns g c blind = tried-blindly g.I.Input g.E.Error.Error _ _ blind _ _
