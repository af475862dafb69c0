use Rattle.chumsky_choice.specs.InOrderLaws.{first_among-stands}
use Rattle.chumsky_choice.proofs.laws.one_alternative_of_a_list_stands.Goals as goal

pub returns-clause-slice : goal.returns-clause-slice
returns-clause-slice g c = first_among-stands _ _ _ _

pub returns-clause-vec : goal.returns-clause-vec
returns-clause-vec g c = first_among-stands _ _ _ _

pub returns-clause-array : goal.returns-clause-array
returns-clause-array g c = first_among-stands _ _ _ _
