use Rattle.std.proofs.Common.{◌∙◌}
use Rattle.chumsky_input.proofs.KeyLemmas.{new-among, keyed-put}
use Rattle.chumsky_input.proofs.many.push_by_key.Goals as goal

pub returns-in_ok-append-in-New-clause-items : goal.returns-in_ok-append-in-New-clause-items
returns-in_ok-append-in-New-clause-items g c =
    c.in_ok-append-in-New.ensures.items
    ∙ new-among g.T.PartialEq.eq g.T.SameClone.bucket_of c.args.places.now c.in-New.key c.args.pattern
    c.args.patterns.now.items c.in-New.ensures.0 c.in-New.ensures.1 c.requires.keys

pub returns-in_ok-append-in-New-clause-keys : goal.returns-in_ok-append-in-New-clause-keys
returns-in_ok-append-in-New-clause-keys g c =
    rw c.in_ok-append-in-New.ensures.items
    (keyed-put g.T.PartialEq.eq g.T.SameClone.bucket_of c.args.places.now c.put.new.places c.in-New.key
    c.len.result c.args.pattern c.args.patterns.now.items c.in-New.ensures.0 c.in_ok-put-in-New.ensures
    c.requires.keys)
