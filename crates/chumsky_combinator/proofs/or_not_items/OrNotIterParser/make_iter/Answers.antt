use Rattle.chumsky_parser.proofs.ChainedLemmas.{ran-given}
use Rattle.chumsky_combinator.proofs.or_not_items.OrNotIterParser.make_iter.Goals as goal

pub returns-clause-ran : goal.returns-clause-ran
returns-clause-ran g c = ran-given
