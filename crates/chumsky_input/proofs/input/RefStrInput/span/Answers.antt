use Rattle.std.proofs.Common.{◌≡◌, ◌∙◌, ap}
use Rattle.std.specs.Str.{chars}
use Rattle.chumsky_input.specs.Cursors.{char_offset, cursor_span}
use Rattle.chumsky_input.specs.Layout.{same_list}
use Rattle.chumsky_input.proofs.input.RefStrInput.span.Goals as goal

pub returns : goal.returns
returns c =
    let f = c.args.from.now in
    let t = c.args.to.now in
    let a : f.at ≡ char_offset (chars f.text.now) f.place = cursor_span _ _ _ f.utf8 f.boundary f.count in
    let b : t.at ≡ char_offset (chars f.text.now) t.place = cursor_span _ _ _ t.utf8 t.boundary t.count ∙ ap (λ s. char_offset s t.place) (same_list c.requires) in
    cc
