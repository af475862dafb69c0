use Rattle.std.proofs.Common.{◌<◌, length, slice_index_or, arith, ap}
use Rattle.std.proofs.lemmas.Str.{IsUtf8-had}
use Rattle.chumsky_input.specs.Text.{IsTextCursor}
use Rattle.chumsky_input.proofs.Ascii.{ascii_steps, ascii_moves, ascii_token, place_within}
use Rattle.chumsky_input.proofs.input.RefStrInput.next_maybe.Goals as goal
use Rattle.chumsky_input.proofs.input.RefStrInput.next_maybe.Goals.{Then-byte-lt128}

-- the cursor stands in its text, before a byte below 128
stands : (c : Then-byte-lt128) → IsTextCursor c.args.cursor.now.text.now c.args.cursor.now.at
stands c = record { text = IsUtf8-had _ c.args.cursor.now.utf8; boundary = c.args.cursor.now.boundary }

in_text : (c : Then-byte-lt128) → c.args.cursor.now.at < length c.args.cursor.now.text.now
in_text c = rw c.as_bytes-bytes.ensures.value at c.if-at-bytes.false

small : (c : Then-byte-lt128) → slice_index_or c.args.cursor.now.text.now c.args.cursor.now.at 0 < 128
small c = rw c.as_bytes-bytes.ensures.value at c.if-byte-lt128.true

pub overflow_add-cursor-then-byte-lt128 : goal.overflow_add-cursor-then-byte-lt128
overflow_add-cursor-then-byte-lt128 c =
    let k = place_within _ _ _ (stands c) c.args.cursor.now.count (in_text c) (small c) in
    let l = in_text c in
    let e = ap length c.as_bytes-bytes.ensures.value in
    let f = c.as_bytes-bytes.type_inv.0 in
    omega arith

pub invariant_of-cursor : goal.invariant_of-cursor
invariant_of-cursor c =
    let d = (goal.at.invariant_of-cursor c).Then-byte-lt128 in
    record {
      utf8 = c.args.cursor.now.utf8;
      boundary = (ascii_steps _ _ _ (stands d) c.args.cursor.now.count (in_text d) (small d)).boundary;
      count = ascii_moves _ _ _ (stands d) c.args.cursor.now.count (in_text d) (small d);
    }

pub returns-then-byte-lt128-clause-token : goal.returns-then-byte-lt128-clause-token
returns-then-byte-lt128-clause-token c =
    let d = (goal.at.returns-then-byte-lt128-clause-token c).Then-byte-lt128 in
    rw c.as_bytes-bytes.ensures.value (ascii_token _ _ _ (stands d) c.args.cursor.now.count (in_text d) (small d))
