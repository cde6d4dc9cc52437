use Rattle.gv_lexed_pieces.proofs.Numbers.{number_is_read, signed_is_read}
use Rattle.gv_lexed_pieces.proofs.laws.numbers_read.Goals as goal

pub returns-clause-plain : goal.returns-clause-plain
returns-clause-plain c = λ operand text rest w e. number_is_read operand text rest w e

pub returns-clause-signed : goal.returns-clause-signed
returns-clause-signed c = λ text rest w e. signed_is_read text rest w e
