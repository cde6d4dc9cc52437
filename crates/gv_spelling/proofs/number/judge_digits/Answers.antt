use Rattle.std.proofs.Common.{◌∙◌, sym}
use Rattle.gv_spelling.proofs.Digits.{sized_digits}
use Rattle.gv_spelling.proofs.number.judge_digits.Goals as goal

pub returns-in-Some : goal.returns-in-Some
returns-in-Some c =
    c.sized.ensures ∙ sized_digits c.args.signed c.args.suffix c.args.radix c.args.digits.now c.in-Some.value (sym c.are_digits.ensures ∙ c.if-not-are_digits.false) (sym c.value.ensures ∙ c.in-Some.is)
