use Rattle.std.proofs.Common.{◌≡◌, ◌+◌, ◌++◌, ◌∙◌, ◌≤◌, ap, sym, drop, arith, length, slice_get}
use Rattle.std.specs.Char.{encode_utf8}
use Rattle.std.specs.Str.{chars}
use Rattle.std.proofs.lemmas.Str.{IsUtf8-had}
use Rattle.chumsky_input.specs.Text.{text_place, IsTextCursor}
use Rattle.chumsky_input.specs.TextLaws.{text_steps, text_token, text_moves, text_place_within, text_past_end}
use Rattle.chumsky_input.proofs.input.decode.Goals as goal
use Rattle.chumsky_input.proofs.input.decode.Goals.{After-len_utf8}

-- the cursor stands in its text
stands : (c : After-len_utf8) → IsTextCursor c.args.cursor.now.text.now c.args.cursor.now.at
stands c = record { text = IsUtf8-had _ c.args.cursor.now.utf8; boundary = c.args.cursor.now.boundary }

left : (c : After-len_utf8) → drop c.args.cursor.now.at c.args.cursor.now.text.now ≡ encode_utf8 c.in-Some.c ++ c.next.new.self.rest.now
left c = sym c.range_from-rest.ensures.value ∙ sym c.chars-left.ensures.rest ∙ (c.in-Some.ensures.steps).0

place_within : (c : After-len_utf8) → c.args.cursor.now.place ≤ c.args.cursor.now.at
place_within c = let p = text_place_within _ _ (stands c) in let q : c.args.cursor.now.place ≡ text_place c.args.cursor.now.text.now c.args.cursor.now.at = c.args.cursor.now.count in omega arith

pub overflow_add-cursor : goal.overflow_add-cursor
overflow_add-cursor c = let k = place_within c in let n = (text_steps _ _ _ _ (stands c) (left c)).boundary.0 in let l = c.range_from-rest.ensures.len in omega arith

stepped : (c : After-len_utf8) → IsTextCursor c.args.cursor.now.text.now (c.args.cursor.now.at + c.len_utf8.result)
stepped c = rw c.len_utf8.ensures.value (text_steps _ _ _ _ (stands c) (left c))

moved : (c : After-len_utf8) → c.args.cursor.now.place + 1 ≡ text_place c.args.cursor.now.text.now (c.args.cursor.now.at + c.len_utf8.result)
moved c = ap (λ n. n + 1) c.args.cursor.now.count ∙ rw c.len_utf8.ensures.value (sym (text_moves _ _ _ _ (stands c) (left c)))

pub invariant_of-cursor : goal.invariant_of-cursor
invariant_of-cursor c = let d = (goal.at.invariant_of-cursor c).After-len_utf8 in record { utf8 = c.args.cursor.now.utf8; boundary = (stepped d).boundary; count = moved d }

pub returns-in-None-clause-token : goal.returns-in-None-clause-token
returns-in-None-clause-token c =
    let st : IsTextCursor c.args.cursor.now.text.now c.args.cursor.now.at = record { text = IsUtf8-had _ c.args.cursor.now.utf8; boundary = c.args.cursor.now.boundary } in
    let e = text_past_end _ _ st (ap length (sym c.range_from-rest.ensures.value ∙ sym c.chars-left.ensures.rest) ∙ (c.in-None.ensures.steps).0.0) in
    sym e ∙ ap (slice_get (chars c.args.cursor.now.text.now)) (sym c.args.cursor.now.count)

pub returns-in-Some-clause-token : goal.returns-in-Some-clause-token
returns-in-Some-clause-token c =
    let d = (goal.at.returns-in-Some-clause-token c).After-len_utf8 in
    sym (text_token _ _ _ _ (stands d) (left d)) ∙ ap (slice_get (chars c.args.cursor.now.text.now)) (sym c.args.cursor.now.count)
