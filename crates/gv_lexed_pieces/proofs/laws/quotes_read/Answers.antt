use Rattle.gv_lexed_pieces.proofs.Rows.{quote_read}
use Rattle.gv_lexed_pieces.proofs.laws.quotes_read.Goals as goal

pub returns : goal.returns
returns c = λ operand q rest e. quote_read operand q rest e
