-- A byte below 128 is a character by itself.
use Rattle.std.proofs.Common.{◌≡◌, ℕ, ◌+◌, ◌<◌, ◌≤◌, List, ◌++◌, length, drop, slice_get, slice_index_or, Some, sym, ◌∙◌, ap, arith, subst}
use Rattle.std.proofs.lemmas.List.{drop_more}
use Rattle.std.proofs.lemmas.Str.{encode_ascii, len_utf8_ascii}
use Rattle.std.specs.Str.{chars}
use Rattle.std.specs.Char.{encode_utf8, len_utf8}
use Rattle.chumsky_input.specs.Text.{text_place, IsTextCursor}
use Rattle.chumsky_input.specs.TextLaws.{text_steps, text_token, text_moves, text_place_within}

module _ (bs : List ℕ) (at place : ℕ) (h : IsTextCursor bs at) (count : place ≡ text_place bs at) (in_text : at < length bs) (small : slice_index_or bs at 0 < 128) where
  here : drop at bs ≡ encode_utf8 (slice_index_or bs at 0) ++ drop (at + 1) bs
  here = drop_more bs at 0 in_text ∙ ap (λ t. t ++ drop (at + 1) bs) (sym (encode_ascii (slice_index_or bs at 0) small))

  one : at + len_utf8 (slice_index_or bs at 0) ≡ at + 1
  one = ap (λ n. at + n) (len_utf8_ascii (slice_index_or bs at 0) small)

  pub ascii_steps : IsTextCursor bs (at + 1)
  ascii_steps = subst (λ n. IsTextCursor bs n) one (text_steps bs at _ _ h here)

  pub ascii_moves : place + 1 ≡ text_place bs (at + 1)
  ascii_moves = ap (λ n. n + 1) count ∙ sym (text_moves bs at _ _ h here) ∙ ap (text_place bs) one

  pub ascii_token : Some (slice_index_or bs at 0) ≡ slice_get (chars bs) place
  ascii_token = sym (ap (slice_get (chars bs)) count ∙ text_token bs at _ _ h here)

  pub place_within : place ≤ at
  place_within = let p = text_place_within bs at h in omega arith
