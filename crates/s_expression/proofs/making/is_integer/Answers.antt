use Rattle.std.proofs.Common.{◌∙◌, arith}
use Rattle.std.proofs.lemmas.Str.Pattern.{strip_prefix_char}
use Rattle.s_expression.proofs.MakingLemmas.{integer-some, integer-none}
use Rattle.s_expression.proofs.making.is_integer.Goals as goal

pub returns-in-Some : goal.returns-in-Some
returns-in-Some c =
    let h = strip_prefix_char 45 c.args.text.now c.strip_prefix.result c.strip_prefix.ensures.cases (omega arith) in
    c.are_digits.ensures ∙ integer-some c.args.text.now c.strip_prefix.result h c.utf8.text c.in-Some.digits c.in-Some.is

pub returns-in-None : goal.returns-in-None
returns-in-None c =
    let h = strip_prefix_char 45 c.args.text.now c.strip_prefix.result c.strip_prefix.ensures.cases (omega arith) in
    c.are_digits-in-None.ensures ∙ integer-none c.args.text.now c.strip_prefix.result h c.utf8.text c.in-None.is
