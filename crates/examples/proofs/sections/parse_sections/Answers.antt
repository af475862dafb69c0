use Rattle.std.proofs.Common.{refl}
use Rattle.std.specs.Str.{chars}
use Rattle.examples.specs.IniLaws.{reads-ini}
use Rattle.examples.proofs.sections.parse_sections.Goals as goal

pub returns : goal.returns
returns c =
    let s = c.repeated.ensures in
    let a0 = rw (c.ignore_then.ensures.second, c.collect-sections.ensures.parser) at (c.parse.ensures.3.reads refl) in
    let a = rw (s.at_least, s.at_most) at a0 in
    reads-ini (chars c.args.text.now) a
