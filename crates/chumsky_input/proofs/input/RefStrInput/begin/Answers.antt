use Rattle.std.proofs.Common.{length, ◌<◌, ◌^◌, ap, arith, rules, sym}
use Rattle.std.specs.Str.{chars}
use Rattle.std.proofs.lemmas.Str.{IsCharBoundary-start, encodes-chars, length-le-encodes}
use Rattle.chumsky_input.specs.TextLaws.{text_place_start}
use Rattle.chumsky_input.proofs.input.RefStrInput.begin.Goals as goal

-- src/lib.rt:74:5
pub invariant_of-result : goal.invariant_of-result
invariant_of-result c = record {
  utf8 = ∣ c.utf8.self ∣₁;
  boundary = IsCharBoundary-start c.args.self.now c.utf8.self;
  count = sym (text_place_start c.args.self.now);
}

pub returns-clause-count : goal.returns-clause-count
returns-clause-count c =
    let few = length-le-encodes (chars c.args.self.now) in
    let all = ap length (encodes-chars c.args.self.now c.utf8.self) in
    let short : length c.args.self.now < 2 ^ 64 = search rules in
    omega (arith, few, all, short)
