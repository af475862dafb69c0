use Rattle.std.proofs.Common.{◌≡◌, refl, ◌∙◌, ap, rules}
use Rattle.std.specs.Prelude.{codes}
use Rattle.std.specs.Str.{chars}
use Rattle.arithmetic.specs.TakenLaws.{leaves-sum}
use Rattle.arithmetic.proofs.exact_sum.parse_exact_sum.Goals as goal

pub parse_over-requires : goal.parse_over-requires
unfolding chars
parse_over-requires c k =
    let ten : c.map_by.result.parser.kind.radix ≡ 10 = rw c.map_by.ensures.parser c.digits.ensures in
    let sign : chars c.map_by-2.result.parser.seq.now ≡ codes "+-*/%" = ap (λ q. chars q.seq.now) c.map_by-2.ensures.parser ∙ ap (λ q. chars q.now) c.one_of.ensures in
    let opening : chars c.map_by-3.result.parser.seq.now ≡ codes "(" = ap (λ q. chars q.seq.now) c.map_by-3.ensures.parser ∙ ap (λ q. chars q.now) c.one_of-2.ensures in
    let closing : chars c.map_by-4.result.parser.seq.now ≡ codes ")" = ap (λ q. chars q.seq.now) c.map_by-4.ensures.parser ∙ ap (λ q. chars q.now) c.one_of-3.ensures in
    let minus : chars c.map_by-5.result.parser.seq.now ≡ codes "-" = ap (λ q. chars q.seq.now) c.map_by-5.ensures.parser ∙ ap (λ q. chars q.now) c.one_of-4.ensures in
    ((refl, tt), (refl, (search (rules, ten), leaves-sum _ _ _ _ _ ten sign opening closing minus)))
