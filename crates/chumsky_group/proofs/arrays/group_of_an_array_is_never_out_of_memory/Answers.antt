use Rattle.chumsky_parser.specs.ChoiceSpares.{each-spares}
use Rattle.chumsky_group.specs.GroupsSpare.{in_turn-spares}
use Rattle.chumsky_group.proofs.arrays.group_of_an_array_is_never_out_of_memory.Goals as goal

pub returns : goal.returns
returns g c h = in_turn-spares _ (each-spares _ _ h)
