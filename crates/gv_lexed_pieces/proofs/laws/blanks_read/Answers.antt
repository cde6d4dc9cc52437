use Rattle.gv_lexed_pieces.proofs.Runs.{blanks_are_read}
use Rattle.gv_lexed_pieces.proofs.laws.blanks_read.Goals as goal

pub returns : goal.returns
returns c = λ operand more rest all none. blanks_are_read operand more rest all none
