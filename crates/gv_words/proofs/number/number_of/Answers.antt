use Rattle.std.proofs.Common.{sym, ◌∙◌, arith}
use Rattle.gv_words.proofs.Numbers.{parsed_is}
use Rattle.gv_words.proofs.number.number_of.Goals as goal

pub returns : goal.returns
returns c = c.ok.ensures.value ∙ parsed_is c.args.text.now c.parse.result c.parse.ensures.value.0 (sym c.are_digits.ensures ∙ c.if-not-are_digits.false) (omega arith)
