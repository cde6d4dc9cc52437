use Rattle.gv_lexed_pieces.proofs.Runs.{word_is_read}
use Rattle.gv_lexed_pieces.proofs.laws.words_read.Goals as goal

pub returns : goal.returns
returns c = λ operand text rest w e. word_is_read operand text rest w e
