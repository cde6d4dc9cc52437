use Rattle.gv_lexed_pieces.proofs.Rows.{symbol_read}
use Rattle.gv_lexed_pieces.proofs.laws.symbols_read.Goals as goal

pub returns : goal.returns
returns c = λ operand s rest e. symbol_read operand s rest e
