use Rattle.std.proofs.Common.{ap, length, arith}
use Rattle.gv_chars.proofs.Texts.{length_chars}
use Rattle.gv_chars.proofs.split.piece_size.Goals as goal

pub returns-then-is_among-clause-within : goal.returns-then-is_among-clause-within
returns-then-is_among-clause-within c = omega (arith, length_chars c.args.text.now c.utf8.text)

pub overflow_add-size : goal.overflow_add-size
overflow_add-size c = omega (arith, length_chars c.args.text.now c.utf8.text, ap length c.in-Some.ensures.step)

pub returns-clause-within : goal.returns-clause-within
returns-clause-within c = omega (arith, length_chars c.args.text.now c.utf8.text)
