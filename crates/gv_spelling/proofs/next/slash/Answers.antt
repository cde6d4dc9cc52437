use Rattle.std.proofs.Common.{◌∙◌, sym, arith}
use Rattle.gv_spelling.proofs.Longest.{line_comment_longest}
use Rattle.gv_spelling.proofs.next.slash.Goals as goal

pub returns-then-at-eq47 : goal.returns-then-at-eq47
returns-then-at-eq47 c = rw c.past.ensures.value (line_comment_longest c.args.operand c.args.text.now (omega arith) (sym c.at.ensures ∙ c.if-at-eq47.true))
