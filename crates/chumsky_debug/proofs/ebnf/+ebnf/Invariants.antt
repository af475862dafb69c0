use Rattle.std.proofs.Common.{◌+◌, ◌*◌, ◌∷◌, get_or, take}
use Rattle.std.specs.Fmt.{HasWritten, IsPlainFormatter}
use Rattle.chumsky_debug.specs.Ebnf.{choice_text, part_text}
use Rattle.chumsky_debug.proofs.ebnf.+ebnf.Given as goal

-- a node's parts are one less deep
abbrev pub decreases-write_node : goal.decreases-write_node
decreases-write_node g l = 8 * l.bound

abbrev pub decreases-write_part : goal.decreases-write_part
decreases-write_part g l = 8 * l.bound + 1

abbrev pub decreases-write_at : goal.decreases-write_at
decreases-write_at g l = 8 * l.bound + 2

abbrev pub decreases-write_choice : goal.decreases-write_choice
decreases-write_choice g l = 8 * l.bound + 3

abbrev pub decreases-write_others : goal.decreases-write_others
decreases-write_others g l = 8 * l.bound + 3

abbrev pub decreases-write_items : goal.decreases-write_items
decreases-write_items g l = 8 * l.bound + 4

abbrev pub decreases-write_list : goal.decreases-write_list
decreases-write_list g l = 8 * l.bound + 5

abbrev pub decreases-write_kind : goal.decreases-write_kind
decreases-write_kind g l = 8 * l.bound + 6

abbrev pub decreases-write_enclosed : goal.decreases-write_enclosed
decreases-write_enclosed g l = 8 * l.bound + 7

abbrev pub invariant-write_choice-loop-other : goal.invariant-write_choice-loop-other
invariant-write_choice-loop-other g l =
    IsPlainFormatter l.fn.f → HasWritten g.W.Write.write_str_gives l.fn.f (choice_text (part_text l.info l.bound) (get_or l.parts 0 0 ∷ take l.other-index l.others)) l.f
