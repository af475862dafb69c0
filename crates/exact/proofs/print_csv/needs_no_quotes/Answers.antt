use Rattle.std.proofs.Common.{rules}
use Rattle.std.proofs.lemmas.Iterator.{YieldsList-from_chars}
use Rattle.std.proofs.lemmas.Iterator.Search.{all_from_yields_List}
use borrow.Author.Tests.{tests}
use Rattle.exact.specs.Csv.{is_text_data}
use Rattle.exact.proofs.print_csv.needs_no_quotes.Goals as goal

pub returns : goal.returns
returns c = all_from_yields_List is_text_data _ _ c.all.result c.all.ensures.ran (YieldsList-from_chars c.args.field.now c.utf8.field c.chars.ensures.rest) (λ x b q k. search (rules, tests))
