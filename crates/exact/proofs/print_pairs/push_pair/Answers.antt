use Rattle.std.proofs.Common.{◌≡◌, ℕ, List, [], ◌∷◌, ◌++◌, append_assoc, ◌∙◌, arith, string_bytes}
use Rattle.std.specs.Str.{chars}
use Rattle.std.proofs.lemmas.Str.{IsUtf8-string_bytes}
use Rattle.exact.specs.Pairs.{ended}
use Rattle.exact.proofs.PrintLemmas.{pushed-text, pushed-char}
use Rattle.exact.proofs.print_pairs.push_pair.Goals as goal

pair_printed : (old name number t u v new : List ℕ) → t ≡ old ++ name → u ≡ t ++ (61 ∷ []) → v ≡ u ++ number → new ≡ v ++ (10 ∷ []) → new ≡ old ++ ended (name, number)
pair_printed old name number t u v new p q r s =
    let all : new ≡ (((old ++ name) ++ (61 ∷ [])) ++ number) ++ (10 ∷ []) = cc (p, q, r, s) in
    let parts = append_assoc ((old ++ name) ++ (61 ∷ [])) number (10 ∷ []) ∙ append_assoc (old ++ name) (61 ∷ []) (number ++ (10 ∷ [])) ∙ append_assoc old name (61 ∷ (number ++ (10 ∷ []))) in
    all ∙ parts

pub returns : goal.returns
returns c =
    let t = string_bytes c.push_str.new.self in
    let u = string_bytes c.push.new.self in
    let v = string_bytes c.push_str-2.new.self in
    let new = string_bytes c.push-2.new.self in
    let named = pushed-text (string_bytes c.args.text.now) t c.args.name.now (IsUtf8-string_bytes c.args.text.now) c.in_ok-push_str.ensures.bytes in
    let signed = pushed-char 61 t u (omega arith) (IsUtf8-string_bytes c.push_str.new.self) c.in_ok-push.ensures.bytes in
    let counted = pushed-text u v c.args.number.now (IsUtf8-string_bytes c.push.new.self) c.in_ok-push_str-2.ensures.bytes in
    let closed = pushed-char 10 v new (omega arith) (IsUtf8-string_bytes c.push_str-2.new.self) c.in_ok-push-2.ensures.bytes in
    pair_printed (chars (string_bytes c.args.text.now)) (chars c.args.name.now) (chars c.args.number.now) (chars t) (chars u) (chars v) (chars new) named signed counted closed
