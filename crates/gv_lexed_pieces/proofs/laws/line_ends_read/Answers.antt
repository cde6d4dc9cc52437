use Rattle.gv_lexed_pieces.proofs.Rows.{line_end_read}
use Rattle.gv_lexed_pieces.proofs.laws.line_ends_read.Goals as goal

pub returns : goal.returns
returns c = λ operand rest. line_end_read operand rest
