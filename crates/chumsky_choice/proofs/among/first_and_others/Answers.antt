use Rattle.chumsky_choice.proofs.AmongLemmas.{first-all, rest-all}
use Rattle.chumsky_choice.proofs.among.first_and_others.Goals as goal

pub returns-clause-first : goal.returns-clause-first
returns-clause-first g c = first-all g.P.Parser.ready c.args.parsers.now c.split_first.result c.split_first.ensures.cases c.requires

pub returns-clause-others : goal.returns-clause-others
returns-clause-others g c = rest-all g.P.Parser.ready c.args.parsers.now c.split_first.result c.split_first.ensures.cases c.requires
