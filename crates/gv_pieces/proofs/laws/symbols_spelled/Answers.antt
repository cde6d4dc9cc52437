use Rattle.gv_pieces.proofs.Table.{symbol_row, keyword_row}
use Rattle.gv_pieces.proofs.laws.symbols_spelled.Goals as goal

pub returns-clause-symbols : goal.returns-clause-symbols
returns-clause-symbols c = λ s. symbol_row s

pub returns-clause-keywords : goal.returns-clause-keywords
returns-clause-keywords c = λ k. keyword_row k
