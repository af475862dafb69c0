use Rattle.chumsky_parser.specs.ChoiceSpares.{each-spares}
use Rattle.chumsky_choice.specs.ChoicesSpare.{first_among-spares}
use Rattle.chumsky_choice.proofs.lists.choice_of_a_list_is_never_out_of_memory.Goals as goal

pub returns-clause-slice : goal.returns-clause-slice
returns-clause-slice g c q s h = first_among-spares _ _ _ q s _ (each-spares _ _ h)

pub returns-clause-vec : goal.returns-clause-vec
returns-clause-vec g c q s h = first_among-spares _ _ _ q s _ (each-spares _ _ h)

pub returns-clause-array : goal.returns-clause-array
returns-clause-array g c q s h = first_among-spares _ _ _ q s _ (each-spares _ _ h)
