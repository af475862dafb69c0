use Rattle.std.proofs.Common.{◌≡◌, ◌++◌, flat_map}
use Rattle.chk_run.specs.Texts.{text_bytes}
use Rattle.chk_run.proofs.settings.TextsValuesSimpleSpanRichChar.list.Given as goal

abbrev pub invariant-loop-item : goal.invariant-loop-item
invariant-loop-item l = text_bytes l.text ++ flat_map text_bytes l.item-iterator.rest.items ≡ flat_map text_bytes l.fn.items.items
