use Rattle.std.proofs.Common.{◌∙◌, ap, sym}
use Rattle.std.specs.Prelude.{slice_range}
use Rattle.std.specs.Str.{encode_utf8_all}
use Rattle.std.proofs.lemmas.Str.{IsUtf8-between, encodes-chars}
use Rattle.chumsky_input.specs.Layout.{same_list}
use Rattle.chumsky_input.specs.Text.{IsTextCursor}
use Rattle.chumsky_input.specs.Cursors.{cursor_in_text, cursor_there, cursors_le, chars_between}
use Rattle.chumsky_input.proofs.input.RefStrSliceInput.slice.Goals as goal

pub range-requires-clause-start_le_end : goal.range-requires-clause-start_le_end
range-requires-clause-start_le_end c =
    let f = c.args.from.now in
    let t = c.args.to.now in
    cursors_le f.text.now t.text.now f.at t.at f.place t.place (cursor_in_text _ _ f.utf8 f.boundary) f.count
    (cursor_in_text _ _ t.utf8 t.boundary) t.count (same_list c.requires.same) c.requires.order

pub range-requires-clause-start_boundary : goal.range-requires-clause-start_boundary
range-requires-clause-start_boundary c =
    let f = c.args.from.now in
    let t = c.args.to.now in
    λ z. (cursor_there f.text.now t.text.now f.at t.at f.place t.place (cursor_in_text _ _ f.utf8 f.boundary) f.count
    (cursor_in_text _ _ t.utf8 t.boundary) t.count (same_list c.requires.same) c.requires.order).boundary

pub returns : goal.returns
returns c =
    let f = c.args.from.now in
    let t = c.args.to.now in
    let k : IsTextCursor f.text.now f.at = cursor_in_text _ _ f.utf8 f.boundary in
    let l : IsTextCursor t.text.now t.at = cursor_in_text _ _ t.utf8 t.boundary in
    let from_there = cursor_there f.text.now t.text.now f.at t.at f.place t.place k f.count l t.count (same_list c.requires.same) c.requires.order in
    let le = cursors_le f.text.now t.text.now f.at t.at f.place t.place k f.count l t.count (same_list c.requires.same) c.requires.order in
    c.range.ensures.value
    ∙ sym (encodes-chars (slice_range t.text.now f.at t.at) (IsUtf8-between t.text.now f.at t.at l.text le from_there.boundary l.boundary))
    ∙ ap encode_utf8_all (chars_between f.text.now t.text.now f.at t.at f.place t.place k f.count l t.count (same_list c.requires.same) c.requires.order)
