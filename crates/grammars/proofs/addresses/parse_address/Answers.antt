use Rattle.std.proofs.Common.{◌≡◌, refl, rules}
use Rattle.grammars.specs.AddressesLaws.{leaves-address}
use Rattle.grammars.proofs.addresses.parse_address.Goals as goal

pub parse_over-requires : goal.parse_over-requires
parse_over-requires c k =
    let ten : c.map_by.result.parser.kind.radix ≡ 10 = rw c.map_by.ensures.parser c.int.ensures in
    let dot : c.to.result.parser.seq ≡ 46 = rw c.to.ensures.parser c.just.ensures in
    ((refl, tt), (refl, (search (rules, ten), rw (ten, c.to.ensures.value) (leaves-address c.to.result.parser.seq dot))))
