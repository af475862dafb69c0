use Rattle.std.proofs.Common.{◌∙◌, ap, sym, map-id}
use Rattle.std.specs.Str.{encode_utf8_all}
use Rattle.std.proofs.lemmas.Iterator.{YieldsList-from_chars}
use Rattle.std.proofs.lemmas.Iterator.Consumers.{YieldsList-end}
use Rattle.std.proofs.lemmas.Str.{encodes-chars}
use Rattle.chk_run.proofs.TextLemmas.{flat_map-all}
use Rattle.chk_run.proofs.texts.chars_of.Goals as goal

pub returns : goal.returns
returns c =
    let end = YieldsList-end (YieldsList-from_chars c.args.text.now c.utf8.text cc) c.loop-symbol.yielded _ c.loop-symbol.yielded_by _ _ c.in-None.is c.next.ensures.steps in
    flat_map-all _ ∙ ap encode_utf8_all (c.loop-symbol.invariant ∙ sym (map-id c.loop-symbol.yielded) ∙ end.0) ∙ encodes-chars c.args.text.now c.utf8.text
