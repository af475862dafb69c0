use Rattle.std.proofs.Common.{rules, ◌≡◌, ◌∙◌, sym, subst, length, ap, List, ℕ}
use Rattle.std.specs.Str.{IsUtf8, IsCharBoundary}
use Rattle.chumsky_parser.proofs.MembersLemmas.{chars_from_step, chars_from_none, chars_from_end}
use Rattle.chumsky_parser.proofs.container.decoded_at.Goals as goal

text : {s b : List ℕ} → b ≡ s → IsUtf8 b → IsUtf8 s
text e u = subst IsUtf8 e u

pub returns-then-not-is_char_boundary : goal.returns-then-not-is_char_boundary
returns-then-not-is_char_boundary c =
    chars_from_none _ _ (text c.as_bytes-bytes.ensures.value c.as_bytes-bytes.ensures.utf8)
    (λ h. let t = c.is_char_boundary.ensures.test.1 h in let f = c.if-not-is_char_boundary.true in cc)

pub returns-in-None : goal.returns-in-None
returns-in-None c =
    let f = c.if-not-is_char_boundary.false in
    let h : IsCharBoundary c.args.text.now c.args.at = c.is_char_boundary.ensures.test.0 f in
    chars_from_end _ _ h (ap length (sym c.range_from-rest.ensures.value ∙ sym c.chars-left.ensures.rest) ∙ (c.in-None.ensures.steps).0.0)

pub returns-in-Some : goal.returns-in-Some
returns-in-Some c =
    let h : IsCharBoundary c.args.text.now c.args.at = c.is_char_boundary.ensures.test.0 (search rules) in
    rw c.len_utf8.ensures.value (chars_from_step _ _ _ _ (text c.as_bytes-bytes.ensures.value c.as_bytes-bytes.ensures.utf8) h
    (sym c.range_from-rest.ensures.value ∙ sym c.chars-left.ensures.rest ∙ (c.in-Some.ensures.steps).0))
